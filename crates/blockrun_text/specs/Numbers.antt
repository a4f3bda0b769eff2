-- Decimal numbers in a line. One of any length is read; one that is too large reads as `over`, which is in no range.
-- Assumes nothing.
use Rattle.std.specs.Prelude.{ℕ, min, ◌+◌, ◌-◌, ◌*◌, cond, List, [], ◌∷◌, Option, None, Some, option_map, unwrap_or, eqb, ltb, leb, length, drop}
use Rattle.blockrun_text.specs.declared.number.Number.{Number}

abbrev pub over : ℕ
over = 100000

abbrev pub number : ℕ → ℕ → Number
number end value = record { value = value; end = end }

-- digits, 48 to 57, up to a tab or the end, behind those that were read as `value`; `at` is the place of the first of them
unfoldable pub number_on : Option ℕ → ℕ → List ℕ → Option Number
number_on value at [] = option_map (number at) value
number_on value at (x ∷ bytes) =
    cond (eqb x 9) (option_map (number at) value)
    (cond (ltb x 48) None
    (cond (ltb 57 x) None
    (number_on (Some (min (unwrap_or value 0 * 10 + (x - 48)) over)) (at + 1) bytes)))

-- the number from the place `from` on: of one digit or more
unfoldable pub number_at : List ℕ → ℕ → Option Number
number_at line from = number_on None from (drop from line)

-- the number behind the tab at which the last one ended; none where the last one ended the line
unfoldable pub number_after : List ℕ → Number → Option Number
number_after line last = cond (leb (length line) last.end) None (number_at line (last.end + 1))
