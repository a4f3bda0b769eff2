-- The reading of a status word (document 01, "Words on the bus"; 001 clause 6.2.1.2.5). Bit 0 is the most significant.
-- Assumes nothing.
use Rattle.std.specs.Prelude.{ℕ, ◌/◌, ◌%◌, Bool, true, false, cond, not, Option, Some, None, ◌==◌}
use Rattle.words.specs.declared.status.Outcome.{Outcome}
use Rattle.words.specs.declared.status.Outcome.TheVariants.{Done, NoReply}

abbrev pub is_done : Outcome → Bool
is_done Done = true
is_done NoReply = false

-- no reply where the test holds, else what follows
abbrev pub lost : Bool → Outcome → Outcome
lost test outcome = cond test NoReply outcome

-- a message is done when a status word came, with the right address (its top five bits), Message Error (0400) 0 and
-- Busy (0008) 0, and a read brought the asked number of words
unfoldable pub status_outcome : ℕ → ℕ → ℕ → ℕ → Outcome
status_outcome status address words_asked words_came =
    lost (not (status / 2048 == address))
    (lost (status / 1024 % 2 == 1)
    (lost (status / 8 % 2 == 1)
    (lost (not (words_came == words_asked))
    Done)))

unfoldable pub outcome_of : Option ℕ → ℕ → ℕ → ℕ → Outcome
outcome_of None address words_asked words_came = NoReply
outcome_of (Some status) address words_asked words_came = status_outcome status address words_asked words_came

-- 0 where the message is done
abbrev pub outcome_number : Outcome → ℕ
outcome_number Done = 0
outcome_number NoReply = 1
