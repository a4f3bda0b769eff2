-- The parts of an answer.
-- Assumes nothing.
use Rattle.std.specs.Prelude.{ℕ, zero, suc, min, ◌+◌, ◌-◌, ◌*◌, ◌/◌, ◌%◌, cond, List, [], ◌∷◌, ◌++◌, ltb}
use Rattle.blockrun_text.specs.Hex.{digit_of}

-- the place behind n bytes put at `at`, in a buffer of `room` bytes
abbrev pub behind : ℕ → ℕ → ℕ → ℕ
behind room at n = min room (at + n)

-- the digits of n, at most k of them, before a tail
unfoldable pub spelled_on : ℕ → ℕ → List ℕ → List ℕ
spelled_on zero n tail = tail
spelled_on (suc k) n tail = cond (ltb n 10) ((48 + n % 10) ∷ tail) (spelled_on k (n / 10) ((48 + n % 10) ∷ tail))

-- a number in decimal: twenty digits are enough for 64 bits
unfoldable pub decimal_of : ℕ → List ℕ
decimal_of n = spelled_on 20 n []

-- the number that decimal digits are, behind a number that was read before them
unfoldable pub value_on : ℕ → List ℕ → ℕ
value_on n [] = n
value_on n (x ∷ digits) = value_on (n * 10 + (x - 48)) digits

abbrev pub value_of : List ℕ → ℕ
value_of digits = value_on 0 digits

-- two digits a byte
unfoldable pub hex_of : List ℕ → List ℕ
hex_of [] = []
hex_of (x ∷ bytes) = digit_of (x / 16) ∷ digit_of x ∷ hex_of bytes

-- a word's four digits
abbrev pub word_of : ℕ → List ℕ
word_of w = digit_of (w / 4096) ∷ digit_of (w / 256) ∷ digit_of (w / 16) ∷ digit_of w ∷ []

-- a tab, which is 9, and four digits for each word
unfoldable pub words_of : List ℕ → List ℕ
words_of [] = []
words_of (w ∷ words) = 9 ∷ word_of w ++ words_of words
