-- Blocks carried whole (document 01, "The two machines" and "Words on the bus").
-- Assumes nothing.
use Rattle.std.specs.Prelude.{ℕ, min, List, take, replicate}
use Rattle.std.proofs.lemmas.List.Edits.{sets}
use Rattle.words.specs.Bytes.{words_of}
use Rattle.stores.specs.Writing.{written_of}

-- a store with a sender's block at its start, an odd end filled up
unfoldable pub stored_of : List ℕ → List ℕ → List ℕ
stored_of store block = written_of store (words_of block)

-- the largest block
abbrev pub largest : ℕ
largest = 4096

-- dst with the first n bytes of src at its start
unfoldable pub copied_of : List ℕ → List ℕ → ℕ → List ℕ
copied_of src dst n = sets dst 0 (take (min n largest) src)

unfoldable pub zeros_of : ℕ → List ℕ
zeros_of n = replicate n 0
