-- The forms of a line of blockrun's input (document 01, "Pairs at the edges"). Fields are parted by one tab each, which is 9.
-- Assumes nothing.
use Rattle.std.specs.Prelude.{ℕ, ◌-◌, ◌%◌, Bool, true, false, cond, not, List, [], ◌∷◌, Option, None, Some, option_and_then, eqb, ltb, length, drop}
use Rattle.words.specs.declared.control.Quality.{Quality}
use Rattle.words.specs.declared.control.Quality.TheVariants.{BestEffort, Verified}
use Rattle.blockrun_text.specs.Hex.{all_digits}
use Rattle.blockrun_text.specs.Numbers.{number_at, number_after}
use Rattle.blockrun_text.specs.declared.number.Number.{Number}
use Rattle.blockrun_text.specs.declared.parse.Line.{Line}
use Rattle.blockrun_text.specs.declared.parse.Line.TheVariants.{Link, Reset, Frame, Take, Send, Bus}
use Rattle.blockrun_text.specs.declared.parse.Way.TheVariants.{Done, ReplyLost, NotArrived}
use Rattle.words.specs.declared.link.Settings.{Settings}

unfoldable pub starts_with : List ℕ → List ℕ → Bool
starts_with [] line = true
starts_with (x ∷ text) [] = false
starts_with (x ∷ text) (y ∷ line) = cond (eqb y x) (starts_with text line) false

unfoldable pub is_text : List ℕ → List ℕ → Bool
is_text text line = cond (eqb (length line) (length text)) (starts_with text line) false

-- "reset"
abbrev pub reset_text : List ℕ
reset_text = 114 ∷ 101 ∷ 115 ∷ 101 ∷ 116 ∷ []

-- "frame"
abbrev pub frame_text : List ℕ
frame_text = 102 ∷ 114 ∷ 97 ∷ 109 ∷ 101 ∷ []

-- "frame" and its newline
abbrev pub frame_line : List ℕ
frame_line = 102 ∷ 114 ∷ 97 ∷ 109 ∷ 101 ∷ 10 ∷ []

-- "take"
abbrev pub take_text : List ℕ
take_text = 116 ∷ 97 ∷ 107 ∷ 101 ∷ []

-- "bus<tab>d"
abbrev pub done_text : List ℕ
done_text = 98 ∷ 117 ∷ 115 ∷ 9 ∷ 100 ∷ []

-- "bus<tab>r"
abbrev pub lost_text : List ℕ
lost_text = 98 ∷ 117 ∷ 115 ∷ 9 ∷ 114 ∷ []

-- "bus<tab>n"
abbrev pub absent_text : List ℕ
absent_text = 98 ∷ 117 ∷ 115 ∷ 9 ∷ 110 ∷ []

-- "send<tab>v<tab>"
abbrev pub verified_text : List ℕ
verified_text = 115 ∷ 101 ∷ 110 ∷ 100 ∷ 9 ∷ 118 ∷ 9 ∷ []

-- "send<tab>b<tab>"
abbrev pub best_text : List ℕ
best_text = 115 ∷ 101 ∷ 110 ∷ 100 ∷ 9 ∷ 98 ∷ 9 ∷ []

-- "link<tab>"
abbrev pub link_text : List ℕ
link_text = 108 ∷ 105 ∷ 110 ∷ 107 ∷ 9 ∷ []

-- what became of a message: done, reply lost, not arrived
unfoldable pub bus_of : List ℕ → Option Line
bus_of line =
    cond (is_text done_text line) (Some (Bus Done))
    (cond (is_text lost_text line) (Some (Bus ReplyLost))
    (cond (is_text absent_text line) (Some (Bus NotArrived))
    None))

-- behind the form's seven bytes an even number of digits, and no other byte
unfoldable pub send_of : Quality → List ℕ → Option Line
send_of quality line =
    cond (ltb (length line) 7) None
    (cond (not (eqb ((length line - 7) % 2) 0)) None
    (cond (not (all_digits (drop 7 line))) None
    (Some (Send quality 7 (length line - 7)))))

abbrev pub settings : ℕ → ℕ → ℕ → ℕ → ℕ → Settings
settings address mode subaddress largest window =
    record { address = address; mode = mode; subaddress = subaddress; largest = largest; window = window }

-- five numbers, the last of which ends the line of `len` bytes
unfoldable pub five_of : ℕ → Number → Number → Number → Number → Number → Option Line
five_of len address mode subaddress largest window =
    cond (not (eqb window.end len)) None
    (Some (Link (settings address.value mode.value subaddress.value largest.value window.value)))

-- the first of them is behind the form's five bytes
unfoldable pub link_of : List ℕ → Option Line
link_of line =
    option_and_then (λ address.
    option_and_then (λ mode.
    option_and_then (λ subaddress.
    option_and_then (λ largest.
    option_and_then (λ window. five_of (length line) address mode subaddress largest window)
    (number_after line largest))
    (number_after line subaddress))
    (number_after line mode))
    (number_after line address))
    (number_at line 5)

-- a text that is no whole line has fields behind it
unfoldable pub fields_of : List ℕ → Option Line
fields_of line =
    cond (starts_with verified_text line) (send_of Verified line)
    (cond (starts_with best_text line) (send_of BestEffort line)
    (cond (starts_with link_text line) (link_of line)
    (bus_of line)))

-- a line may be of no form
unfoldable pub line_of : List ℕ → Option Line
line_of line =
    cond (is_text reset_text line) (Some Reset)
    (cond (is_text frame_text line) (Some Frame)
    (cond (is_text take_text line) (Some Take)
    (fields_of line)))
