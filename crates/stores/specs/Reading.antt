-- Words read out of lent bytes (document 01, "Words on the bus"). A store past a list's end does nothing.
-- Assumes nothing.
use Rattle.std.specs.Prelude.{ℕ, min, ◌+◌, ◌/◌, List, length, take}
use Rattle.std.proofs.lemmas.List.Edits.{sets}
use Rattle.words.specs.Bytes.{words_of}
use Rattle.words.specs.Cutting.{part_of}

-- the words of a part of `len` bytes for which there is room
unfoldable pub words_read_of : ℕ → ℕ → ℕ
words_read_of room len = min room ((len + 1) / 2)

-- a list of words with those of a part at its start
unfoldable pub read_of : List ℕ → List ℕ → List ℕ
read_of out part = sets out 0 (words_of part)

-- the same for message k, from 0, of the block of `size` bytes that stands at the start of `block`
unfoldable pub message_words_read_of : ℕ → List ℕ → ℕ → ℕ → ℕ
message_words_read_of room block size k = words_read_of room (length (part_of (take size block) k))

unfoldable pub message_read_of : List ℕ → List ℕ → ℕ → ℕ → List ℕ
message_read_of out block size k = read_of out (part_of (take size block) k)
