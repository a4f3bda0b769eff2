-- Hexadecimal digits in capitals: 0 to 9 are 48 to 57, A to F are 65 to 70.
-- Assumes nothing.
use Rattle.std.specs.Prelude.{ℕ, min, ◌+◌, ◌-◌, ◌*◌, ◌/◌, ◌%◌, Bool, true, false, cond, List, [], ◌∷◌, Option, None, Some, ltb, length, take, drop}

unfoldable pub is_digit : ℕ → Bool
is_digit x = cond (ltb x 48) false (cond (ltb x 58) true (cond (ltb x 65) false (ltb x 71)))

unfoldable pub all_digits : List ℕ → Bool
all_digits [] = true
all_digits (x ∷ bytes) = cond (is_digit x) (all_digits bytes) false

-- a digit's value, 0 for another byte
unfoldable pub digit_value_of : ℕ → ℕ
digit_value_of x = cond (ltb x 48) 0 (cond (ltb x 58) (x - 48) (cond (ltb x 65) 0 (cond (ltb x 71) (x - 55) 0)))

-- the value of a digit, none of another byte
unfoldable pub digit_read : ℕ → Option ℕ
digit_read x = cond (is_digit x) (Some (digit_value_of x)) None

-- the bytes of two digits each; a digit without its second is none
unfoldable pub bytes_of : List ℕ → List ℕ
bytes_of [] = []
bytes_of (a ∷ []) = []
bytes_of (a ∷ b ∷ digits) = (digit_value_of a * 16 + digit_value_of b) ∷ bytes_of digits

-- the bytes of the field of `digits` bytes from the place `at` on
unfoldable pub block_of : List ℕ → ℕ → ℕ → List ℕ
block_of line at digits = bytes_of (take digits (drop at line))

-- how many of them there is room for
unfoldable pub block_size_of : List ℕ → ℕ → ℕ → ℕ → ℕ
block_size_of line at digits room = min room (min digits (length line - at) / 2)

-- the last digit of a number
unfoldable pub digit_of : ℕ → ℕ
digit_of n = cond (ltb (n % 16) 10) (48 + n % 16) (55 + n % 16)
