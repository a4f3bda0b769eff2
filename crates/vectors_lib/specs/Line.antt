-- What two words look like in a line.
-- Assumes nothing.
use Rattle.std.specs.Prelude.{ℕ, ◌-◌, ◌^◌, false, true, List, [], ◌∷◌, ◌++◌}
use Rattle.std.specs.Fmt.{digits, padded_integral, format_spec}
use Rattle.words.specs.declared.control.Words.{Words}

-- four hexadecimal digits in capitals, zeros in front
abbrev pub word_text : ℕ → List ℕ
word_text word = padded_integral (format_spec 32 0 4 4 (2 ^ 64 - 1)) false [] (digits 16 true word)

-- with a tab between
abbrev pub pair_text : Words → List ℕ
pair_text words = word_text words.first ++ (9 ∷ word_text words.second)
