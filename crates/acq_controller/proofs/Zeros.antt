-- Zeros in the stead of a part: no part has more words than a message.
-- Assumes nothing.
use Rattle.std.proofs.Common.{◌≡◌, ℕ, ◌≤◌, List, take, replicate, ap, arith}
use Rattle.std.proofs.lemmas.List.{take-replicate}
use Rattle.words.specs.Cutting.{message_words_of}
use Rattle.stores.specs.Writing.{message_written_of}

pub few : (size part : ℕ) → message_words_of size part ≤ 32
unfolding message_words_of
few size part = omega arith

-- as many zeros as the part has words
pub zeros_put : (store after : List ℕ) (at size part n : ℕ) → n ≡ message_words_of size part
    → after ≡ message_written_of store at (take n (replicate 32 0)) → after ≡ message_written_of store at (replicate (message_words_of size part) 0)
zeros_put store after at size part n e h =
    rw h (ap (λ (ws : List ℕ). message_written_of store at ws) (rw e (take-replicate (message_words_of size part) 32 0 (few size part))))
