-- What cutting promises of every block, on every link, in both modes (document 01, "Words on the bus").
-- Assumes nothing.
use Rattle.std.specs.Prelude.{◌≡◌, ℕ, ◌+◌, ◌/◌, ◌%◌, ◌<◌, ◌≤◌, List, [], ◌∷◌, ◌++◌, length, replicate, slice_index_or}
use Rattle.words.specs.Bytes.{bytes_of, filler, Octets}
use Rattle.words.specs.Cutting.{Message, cut_of, message_words_of}
use Rattle.words.specs.declared.link.Link.{Link}

-- the words of messages, laid end to end
abbrev pub end_to_end : List Message → List ℕ
end_to_end [] = []
end_to_end (m ∷ ms) = m.words ++ end_to_end ms

abbrev pub no_message : Message
no_message = record { subaddress = 0; words = [] }

pub record Cut (link : Link) (block : List ℕ) : Type 0 where
  -- size over 64, rounded up
  pub number : length (cut_of link block) ≡ (length block + 63) / 64
  -- the block, and at most one filler
  pub whole : Octets block → bytes_of (end_to_end (cut_of link block)) ≡ block ++ replicate (length block % 2) filler
  -- message k has the words that the size gives it: 32, the last one 1 to 32
  pub words : (k : ℕ) → k < length (cut_of link block) → length (slice_index_or (cut_of link block) k no_message).words ≡ message_words_of (length block) k
  pub full : (k : ℕ) → k + 1 < length (cut_of link block) → message_words_of (length block) k ≡ 32
  pub last : (k : ℕ) → k + 1 ≡ length (cut_of link block) → (1 ≤ message_words_of (length block) k) × (message_words_of (length block) k ≤ 32)
  -- 11, 12, 13 and on, where mode 0 takes the block; the one of mode 1
  pub sixteen : link.mode ≡ 0 → length block ≤ 1024
      → (k : ℕ) → k < length (cut_of link block) → (slice_index_or (cut_of link block) k no_message).subaddress ≡ 11 + k
  pub one : link.mode ≡ 1 → (k : ℕ) → k < length (cut_of link block) → (slice_index_or (cut_of link block) k no_message).subaddress ≡ link.subaddress
