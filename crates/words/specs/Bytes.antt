-- Words and bytes (document 01, "Words on the bus"): each byte pair is a word, first byte high.
-- Assumes nothing.
use Rattle.std.specs.Prelude.{ℕ, ◌+◌, ◌*◌, ◌/◌, ◌%◌, ◌<◌, List, [], ◌∷◌, slice_index}

unfoldable pub bytes_of : List ℕ → List ℕ
bytes_of [] = []
bytes_of (w ∷ ws) = (w / 256) ∷ (w % 256) ∷ bytes_of ws

-- the octet that fills up an odd end
abbrev pub filler : ℕ
filler = 0

unfoldable pub words_of : List ℕ → List ℕ
words_of [] = []
words_of (a ∷ []) = (a * 256 + filler) ∷ []
words_of (a ∷ b ∷ r) = (a * 256 + b) ∷ words_of r

-- bytes, and not larger numbers
abbrev pub Octets : List ℕ → Type 0
Octets bytes = (i : ℕ) → slice_index bytes i < 256
