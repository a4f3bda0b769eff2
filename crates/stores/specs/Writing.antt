-- Words written into lent bytes (document 01, "Words on the bus"). A store past a list's end does nothing.
-- Assumes nothing.
use Rattle.std.specs.Prelude.{ℕ, min, ◌-◌, ◌/◌, List, length, take}
use Rattle.std.proofs.lemmas.List.Edits.{sets}
use Rattle.words.specs.Bytes.{bytes_of}

-- the words that a part of `len` bytes has room for, of n
unfoldable pub words_written_of : ℕ → ℕ → ℕ
words_written_of len n = min (len / 2) n

-- a part with as many words as fit at its start
unfoldable pub written_of : List ℕ → List ℕ → List ℕ
written_of part words = sets part 0 (bytes_of (take (length part / 2) words))

-- the bytes that a message may take of a store of `len` bytes, from byte `at` on
unfoldable pub room_of : ℕ → ℕ → ℕ
room_of len at = min 64 (len - at)

unfoldable pub message_words_written_of : ℕ → ℕ → ℕ → ℕ
message_words_written_of len at n = min (room_of len at / 2) n

-- a store with a message's words from byte `at` on
unfoldable pub message_written_of : List ℕ → ℕ → List ℕ → List ℕ
message_written_of store at words = sets store at (bytes_of (take (room_of (length store) at / 2) words))
