-- The parts of a block, and the second read (document 01, "Acquisition").
-- Assumes nothing.
use Rattle.std.specs.Prelude.{ℕ, ◌+◌, ◌*◌, min, Bool, true, false, cond, ◌&&◌, Option, Some, None, Result, Ok, Err, List, length, replicate, ◌==◌, nat_lt, slice_index}
use Rattle.words.specs.Count.{acquisition_count}
use Rattle.words.specs.Cutting.{messages_of, message_words_of}
use Rattle.words.specs.Reading.{read_request_of}
use Rattle.words.specs.declared.refusal.Refusal.{Refusal}
use Rattle.words.specs.declared.control.Control.{Control}
use Rattle.words.specs.declared.control.Quality.{Quality}
use Rattle.words.specs.declared.control.Quality.TheVariants.{BestEffort, Verified}
use Rattle.words.specs.declared.control.Words.{Words}
use Rattle.words.specs.declared.count.AcquisitionCount.{AcquisitionCount}
use Rattle.words.specs.declared.link.Link.{Link}
use Rattle.words.specs.declared.status.Outcome.{Outcome}
use Rattle.stores.specs.Writing.{message_written_of}
use Rattle.stores.specs.Copying.{copied_of}
use Rattle.acq_controller.specs.State.{in_phase, held_of, failed_of, reset_seen}
use Rattle.acq_controller.specs.Request.{lost_of}
use Rattle.acq_controller.specs.declared.state.Block.{Block}
use Rattle.acq_controller.specs.declared.state.Attempt.{Attempt}
use Rattle.acq_controller.specs.declared.state.Phase.TheVariants.{Fetching, Checking}
use Rattle.acq_controller.specs.declared.state.Controller.{Controller}
use Rattle.acq_controller.specs.declared.data.Ending.{Ending}
use Rattle.acq_controller.specs.declared.data.Ending.TheVariants.{Goes, Held, Failed, Reset}

-- a message count is a 16-bit number, and stops at its last
abbrev pub counted : ℕ → ℕ
counted n = min n 65535

-- ---- data

abbrev pub part_lost : Attempt → Outcome → ℕ → Bool
part_lost attempt outcome came = lost_of outcome came (message_words_of attempt.block.size attempt.part)

abbrev pub at_part : ℕ → Attempt → Attempt
at_part part attempt = record { request = attempt.request; quality = attempt.quality; block = attempt.block; part = part }

-- after the last part Best Effort holds the block; Verified Length reads 28T again
abbrev pub last_of : Quality → Attempt → Ending
last_of BestEffort attempt = Held
last_of Verified attempt = Goes (Checking attempt)

unfoldable pub next_of : Attempt → Ending
next_of attempt =
    cond (nat_lt (attempt.part + 1) (messages_of attempt.block.size))
    (Goes (Fetching (at_part (attempt.part + 1) attempt)))
    (last_of attempt.quality attempt)

-- a part with no reply: Best Effort goes on, Verified Length fails
abbrev pub without : Quality → Attempt → Ending
without BestEffort attempt = next_of attempt
without Verified attempt = Failed

unfoldable pub fetched_of : Attempt → Outcome → ℕ → Ending
fetched_of attempt outcome came = cond (part_lost attempt outcome came) (without attempt.quality attempt) (next_of attempt)

-- the message store: the words in their place; Best Effort puts zeros for a part with no reply
abbrev pub zeros_written : Attempt → List ℕ → List ℕ
zeros_written attempt store =
    message_written_of store (64 * attempt.part) (replicate (message_words_of attempt.block.size attempt.part) 0)

abbrev pub zeros_in : Quality → Attempt → List ℕ → List ℕ
zeros_in BestEffort attempt store = zeros_written attempt store
zeros_in Verified attempt store = store

unfoldable pub store_fetched : Attempt → Outcome → List ℕ → List ℕ → List ℕ
store_fetched attempt outcome words store =
    cond (part_lost attempt outcome (length words))
    (zeros_in attempt.quality attempt store)
    (message_written_of store (64 * attempt.part) words)

-- ---- the second read, only to compare: no number is given

abbrev pub is_reset : Result (Option (Control Quality AcquisitionCount)) Refusal → Bool
is_reset (Err r) = false
is_reset (Ok None) = false
is_reset (Ok (Some Control.Reset)) = true
is_reset (Ok (Some (Control.Block size quality count))) = false

abbrev pub same_words : Words → List ℕ → Bool
same_words request words = slice_index words 0 == request.first && slice_index words 1 == request.second

unfoldable pub checked_of : Link → Attempt → Outcome → List ℕ → Ending
checked_of link attempt outcome words =
    cond (lost_of outcome (length words) 2) Failed
    (cond (is_reset (read_request_of acquisition_count words link)) Reset
    (cond (same_words attempt.request words) Held Failed))

-- ---- what follows

-- a block that is held goes into the hand, apart from the message store
abbrev pub hand_ended : Ending → ℕ → List ℕ → List ℕ → List ℕ
hand_ended (Goes phase) size store hand = hand
hand_ended Held size store hand = copied_of store hand size
hand_ended Failed size store hand = hand
hand_ended Reset size store hand = hand

abbrev pub ended_of : Block → Ending → ℕ → Controller → Controller
ended_of block (Goes phase) gone c = in_phase phase c
ended_of block Held gone c = held_of block gone c
ended_of block Failed gone c = failed_of block gone c
ended_of block Reset gone c = reset_seen c

-- with the first read, part k is message k + 2
unfoldable pub fetching_of : Controller → Attempt → Outcome → ℕ → Controller
fetching_of c attempt outcome came =
    ended_of attempt.block (fetched_of attempt outcome came) (counted (attempt.part + 2)) c

-- the second read is message k + 2 of a block of k parts
unfoldable pub checking_of : Controller → Attempt → Outcome → List ℕ → Controller
checking_of c attempt outcome words =
    ended_of attempt.block (checked_of c.link attempt outcome words) (counted (messages_of attempt.block.size + 2)) c
