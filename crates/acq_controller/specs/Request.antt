-- The first read of 28T (document 01, "Acquisition", "Numbers a caller may get back").
-- Assumes nothing.
use Rattle.std.specs.Prelude.{ℕ, Bool, true, false, cond, not, ◌||◌, Option, Some, None, Result, Ok, Err, List, length, ◌==◌, slice_index}
use Rattle.words.specs.Count.{acquisition_count, same_acquisition}
use Rattle.words.specs.Control.{acquisition_confirmation_words}
use Rattle.words.specs.Reading.{read_request_of}
use Rattle.words.specs.Refusal.{Stepped, accept, refuse}
use Rattle.words.specs.Status.{is_done}
use Rattle.words.specs.declared.refusal.Refusal.{Refusal}
use Rattle.words.specs.declared.refusal.Refusal.TheVariants.{NotTwoWords, NoReset, LastHandled, HandFull}
use Rattle.words.specs.declared.control.Control.{Control}
use Rattle.words.specs.declared.control.Quality.{Quality}
use Rattle.words.specs.declared.control.Words.{Words}
use Rattle.words.specs.declared.count.AcquisitionCount.{AcquisitionCount}
use Rattle.words.specs.declared.status.Outcome.{Outcome}
use Rattle.words.specs.declared.status.Outcome.TheVariants.{Done, NoReply}
use Rattle.acq_controller.specs.State.{in_phase, confirming_of, reset_seen}
use Rattle.acq_controller.specs.declared.state.Block.{Block}
use Rattle.acq_controller.specs.declared.state.Handled.{Handled}
use Rattle.acq_controller.specs.declared.state.Handled.TheVariants.{Nothing, Held, Taken, Failed}
use Rattle.acq_controller.specs.declared.state.Attempt.{Attempt}
use Rattle.acq_controller.specs.declared.state.Phase.{Phase}
use Rattle.acq_controller.specs.declared.state.Phase.TheVariants.{Idle, Polling, PollingDue, Fetching, Checking, Confirming, ConfirmingReset, Commanding}
use Rattle.acq_controller.specs.declared.state.Controller.{Controller}

abbrev pub Step : Type 0
Step = Stepped Controller (Unit {0})

-- too few words, or too many, are no reply
abbrev pub lost_of : Outcome → ℕ → ℕ → Bool
lost_of outcome came asked = not (is_done outcome) || not (came == asked)

-- with no Reset seen the command follows
unfoldable pub passed_of : Controller → Controller
passed_of c = cond c.seen (in_phase Idle c) (in_phase Commanding c)

-- the confirmation of the last handled block once more, as first sent
abbrev pub again_of : Block → Bool → Controller → Controller
again_of block error c = in_phase (Confirming (acquisition_confirmation_words c.link block.size error block.count)) c

-- a new count: it reads the data
abbrev pub begun_of : Attempt → Controller → Controller
begun_of attempt c = in_phase (Fetching attempt) c

-- 13, and for a block that is out of the hand its confirmation again; 14
abbrev pub new_of : Handled → Attempt → Controller → Step
new_of Nothing attempt c = accept (begun_of attempt c)
new_of (Held block) attempt c =
    cond (same_acquisition attempt.block.count block.count) (refuse LastHandled (passed_of c)) (refuse HandFull (passed_of c))
new_of (Taken block) attempt c =
    cond (same_acquisition attempt.block.count block.count)
    (refuse LastHandled (again_of block false c))
    (accept (begun_of attempt c))
new_of (Failed block) attempt c =
    cond (same_acquisition attempt.block.count block.count)
    (refuse LastHandled (again_of block true c))
    (accept (begun_of attempt c))

-- 12: no Reset seen yet
unfoldable pub requested_of : Attempt → Controller → Step
requested_of attempt c = cond (not c.seen) (refuse NoReset (passed_of c)) (new_of c.handled attempt c)

-- 6 to 12 as they are read; two zero words are no request yet
abbrev pub read_in : Result (Option (Control Quality AcquisitionCount)) Refusal → Words → Controller → Step
read_in (Err r) request c = refuse r (passed_of c)
read_in (Ok None) request c = accept (passed_of c)
read_in (Ok (Some Control.Reset)) request c = accept (reset_seen c)
read_in (Ok (Some (Control.Block size quality count))) request c =
    requested_of (record { request = request; quality = quality; block = record { size = size; count = count }; part = 0 }) c

unfoldable pub read_of : Controller → List ℕ → Words → Step
read_of c words request = read_in (read_request_of acquisition_count words c.link) request c

-- no reply: nothing follows; a done read of another number of words is 6 besides
abbrev pub unread_of : Outcome → Controller → Step
unread_of Done c = refuse NotTwoWords (in_phase Idle c)
unread_of NoReply c = accept (in_phase Idle c)

unfoldable pub polled_of : Controller → Outcome → List ℕ → Step
polled_of c outcome words =
    cond (lost_of outcome (length words) 2)
    (unread_of outcome c)
    (read_of c words (record { first = slice_index words 0; second = slice_index words 1 }))

-- ---- with a confirmation due: it goes in lieu of what the read would bring, a Reset excepted

abbrev pub confirmed_in : Handled → Controller → Controller
confirmed_in Nothing c = in_phase Idle c
confirmed_in (Held block) c = in_phase Idle c
confirmed_in (Taken block) c = confirming_of block false c
confirmed_in (Failed block) c = confirming_of block true c

abbrev pub due_confirmed : Controller → Controller
due_confirmed c = confirmed_in c.handled c

abbrev pub in_lieu : Phase → Step → Controller → Step
in_lieu Idle s c = record { state = due_confirmed c; answer = s.answer }
in_lieu Polling s c = record { state = due_confirmed c; answer = s.answer }
in_lieu PollingDue s c = record { state = due_confirmed c; answer = s.answer }
in_lieu (Fetching attempt) s c = record { state = due_confirmed c; answer = s.answer }
in_lieu (Checking attempt) s c = record { state = due_confirmed c; answer = s.answer }
in_lieu (Confirming words) s c = record { state = due_confirmed c; answer = s.answer }
in_lieu ConfirmingReset s c = s
in_lieu Commanding s c = record { state = due_confirmed c; answer = s.answer }

unfoldable pub due_of : Controller → Outcome → List ℕ → Step
due_of c outcome words = let s = polled_of c outcome words in in_lieu s.state.phase s c
