-- Lines and what they are read as, a `<tab>` being byte 9: each form, and lines that only look like one. Then parts of answers.
-- Assumes nothing.
use mathlib.Core.Path.{◌≡◌, refl}
use mathlib.Core.List.{[], ◌∷◌}
use Rattle.std.specs.Prelude.{None, Some}
use Rattle.words.specs.declared.control.Quality.TheVariants.{BestEffort, Verified}
use Rattle.blockrun_text.specs.Forms.{line_of, fields_of, bus_of, send_of, link_of, five_of, settings, is_text, starts_with}
use Rattle.blockrun_text.specs.Hex.{is_digit, all_digits, digit_of}
use Rattle.blockrun_text.specs.Numbers.{number_on, number_at, number_after}
use Rattle.blockrun_text.specs.Printing.{decimal_of, spelled_on, words_of, hex_of}
use Rattle.blockrun_text.specs.declared.parse.Line.TheVariants.{Link, Reset, Frame, Take, Send, Bus}
use Rattle.blockrun_text.specs.declared.parse.Way.TheVariants.{Done, ReplyLost, NotArrived}

-- link<tab>5<tab>0<tab>11<tab>1024<tab>2
pub link : line_of (108 ∷ 105 ∷ 110 ∷ 107 ∷ 9 ∷ 53 ∷ 9 ∷ 48 ∷ 9 ∷ 49 ∷ 49 ∷ 9 ∷ 49 ∷ 48 ∷ 50 ∷ 52 ∷ 9 ∷ 50 ∷ []) ≡ Some (Link (settings 5 0 11 1024 2))
unfolding line_of fields_of is_text starts_with link_of five_of number_at number_after number_on
link = refl

-- link<tab>05<tab>0<tab>011<tab>1024<tab>2
pub zeros : line_of (108 ∷ 105 ∷ 110 ∷ 107 ∷ 9 ∷ 48 ∷ 53 ∷ 9 ∷ 48 ∷ 9 ∷ 48 ∷ 49 ∷ 49 ∷ 9 ∷ 49 ∷ 48 ∷ 50 ∷ 52 ∷ 9 ∷ 50 ∷ []) ≡ Some (Link (settings 5 0 11 1024 2))
unfolding line_of fields_of is_text starts_with link_of five_of number_at number_after number_on
zeros = refl

-- link<tab>5<tab>0<tab>11<tab>4294968320<tab>2
pub large : line_of (108 ∷ 105 ∷ 110 ∷ 107 ∷ 9 ∷ 53 ∷ 9 ∷ 48 ∷ 9 ∷ 49 ∷ 49 ∷ 9 ∷ 52 ∷ 50 ∷ 57 ∷ 52 ∷ 57 ∷ 54 ∷ 56 ∷ 51 ∷ 50 ∷ 48 ∷ 9 ∷ 50 ∷ []) ≡ Some (Link (settings 5 0 11 100000 2))
unfolding line_of fields_of is_text starts_with link_of five_of number_at number_after number_on
large = refl

-- reset
pub reset : line_of (114 ∷ 101 ∷ 115 ∷ 101 ∷ 116 ∷ []) ≡ Some Reset
unfolding line_of fields_of is_text starts_with
reset = refl

-- frame
pub frame : line_of (102 ∷ 114 ∷ 97 ∷ 109 ∷ 101 ∷ []) ≡ Some Frame
unfolding line_of fields_of is_text starts_with
frame = refl

-- take
pub taken : line_of (116 ∷ 97 ∷ 107 ∷ 101 ∷ []) ≡ Some Take
unfolding line_of fields_of is_text starts_with
taken = refl

-- send<tab>v<tab>414243
pub verified : line_of (115 ∷ 101 ∷ 110 ∷ 100 ∷ 9 ∷ 118 ∷ 9 ∷ 52 ∷ 49 ∷ 52 ∷ 50 ∷ 52 ∷ 51 ∷ []) ≡ Some (Send Verified 7 6)
unfolding line_of fields_of is_text starts_with send_of all_digits is_digit
verified = refl

-- send<tab>b<tab>
pub best : line_of (115 ∷ 101 ∷ 110 ∷ 100 ∷ 9 ∷ 98 ∷ 9 ∷ []) ≡ Some (Send BestEffort 7 0)
unfolding line_of fields_of is_text starts_with send_of all_digits is_digit
best = refl

-- bus<tab>d
pub done : line_of (98 ∷ 117 ∷ 115 ∷ 9 ∷ 100 ∷ []) ≡ Some (Bus Done)
unfolding line_of fields_of is_text starts_with bus_of
done = refl

-- bus<tab>r
pub lost : line_of (98 ∷ 117 ∷ 115 ∷ 9 ∷ 114 ∷ []) ≡ Some (Bus ReplyLost)
unfolding line_of fields_of is_text starts_with bus_of
lost = refl

-- bus<tab>n
pub absent : line_of (98 ∷ 117 ∷ 115 ∷ 9 ∷ 110 ∷ []) ≡ Some (Bus NotArrived)
unfolding line_of fields_of is_text starts_with bus_of
absent = refl

-- an empty line
pub empty : line_of ([]) ≡ None
unfolding line_of fields_of is_text starts_with bus_of
empty = refl

-- send<tab>v<tab>4a
pub lower : line_of (115 ∷ 101 ∷ 110 ∷ 100 ∷ 9 ∷ 118 ∷ 9 ∷ 52 ∷ 97 ∷ []) ≡ None
unfolding line_of fields_of is_text starts_with send_of all_digits is_digit
lower = refl

-- send<tab>v<tab>414
pub odd : line_of (115 ∷ 101 ∷ 110 ∷ 100 ∷ 9 ∷ 118 ∷ 9 ∷ 52 ∷ 49 ∷ 52 ∷ []) ≡ None
unfolding line_of fields_of is_text starts_with send_of all_digits is_digit
odd = refl

-- send<tab>v
pub no_hex : line_of (115 ∷ 101 ∷ 110 ∷ 100 ∷ 9 ∷ 118 ∷ []) ≡ None
unfolding line_of fields_of is_text starts_with bus_of
no_hex = refl

-- reset<tab>
pub extra : line_of (114 ∷ 101 ∷ 115 ∷ 101 ∷ 116 ∷ 9 ∷ []) ≡ None
unfolding line_of fields_of is_text starts_with bus_of
extra = refl

-- link<tab>5<tab>0<tab>11<tab>1024<tab>2<tab>
pub sixth : line_of (108 ∷ 105 ∷ 110 ∷ 107 ∷ 9 ∷ 53 ∷ 9 ∷ 48 ∷ 9 ∷ 49 ∷ 49 ∷ 9 ∷ 49 ∷ 48 ∷ 50 ∷ 52 ∷ 9 ∷ 50 ∷ 9 ∷ []) ≡ None
unfolding line_of fields_of is_text starts_with link_of five_of number_at number_after number_on
sixth = refl

-- link<tab>5<tab>0<tab>11<tab>1024
pub fourth : line_of (108 ∷ 105 ∷ 110 ∷ 107 ∷ 9 ∷ 53 ∷ 9 ∷ 48 ∷ 9 ∷ 49 ∷ 49 ∷ 9 ∷ 49 ∷ 48 ∷ 50 ∷ 52 ∷ []) ≡ None
unfolding line_of fields_of is_text starts_with link_of five_of number_at number_after number_on
fourth = refl

-- link<tab>5<tab><tab>11<tab>1024<tab>2
pub no_number : line_of (108 ∷ 105 ∷ 110 ∷ 107 ∷ 9 ∷ 53 ∷ 9 ∷ 9 ∷ 49 ∷ 49 ∷ 9 ∷ 49 ∷ 48 ∷ 50 ∷ 52 ∷ 9 ∷ 50 ∷ []) ≡ None
unfolding line_of fields_of is_text starts_with link_of five_of number_at number_after number_on
no_number = refl

-- link<tab>+5<tab>0<tab>11<tab>1024<tab>2
pub sign : line_of (108 ∷ 105 ∷ 110 ∷ 107 ∷ 9 ∷ 43 ∷ 53 ∷ 9 ∷ 48 ∷ 9 ∷ 49 ∷ 49 ∷ 9 ∷ 49 ∷ 48 ∷ 50 ∷ 52 ∷ 9 ∷ 50 ∷ []) ≡ None
unfolding line_of fields_of is_text starts_with link_of five_of number_at number_after number_on
sign = refl

-- bus d
pub blank : line_of (98 ∷ 117 ∷ 115 ∷ 32 ∷ 100 ∷ []) ≡ None
unfolding line_of fields_of is_text starts_with bus_of
blank = refl

-- frame<return>
pub return : line_of (102 ∷ 114 ∷ 97 ∷ 109 ∷ 101 ∷ 13 ∷ []) ≡ None
unfolding line_of fields_of is_text starts_with bus_of
return = refl

-- take<newline>
pub newline : line_of (116 ∷ 97 ∷ 107 ∷ 101 ∷ 10 ∷ []) ≡ None
unfolding line_of fields_of is_text starts_with bus_of
newline = refl

-- 0
pub nought : decimal_of 0 ≡ 48 ∷ []
unfolding decimal_of spelled_on
nought = refl

-- 1024
pub count : decimal_of 1024 ≡ 49 ∷ 48 ∷ 50 ∷ 52 ∷ []
unfolding decimal_of spelled_on
count = refl

-- 18446744073709551615
pub longest : decimal_of 18446744073709551615 ≡ 49 ∷ 56 ∷ 52 ∷ 52 ∷ 54 ∷ 55 ∷ 52 ∷ 52 ∷ 48 ∷ 55 ∷ 51 ∷ 55 ∷ 48 ∷ 57 ∷ 53 ∷ 53 ∷ 49 ∷ 54 ∷ 49 ∷ 53 ∷ []
unfolding decimal_of spelled_on
longest = refl

-- <tab>4142<tab>4300
pub words : words_of (0x4142 ∷ 0x4300 ∷ []) ≡ 9 ∷ 52 ∷ 49 ∷ 52 ∷ 50 ∷ 9 ∷ 52 ∷ 51 ∷ 48 ∷ 48 ∷ []
unfolding words_of digit_of
words = refl

-- 0ABF
pub bytes : hex_of (0x0A ∷ 0xBF ∷ []) ≡ 48 ∷ 65 ∷ 66 ∷ 70 ∷ []
unfolding hex_of digit_of
bytes = refl
