-- The controller is told the outcome of the message that it asked for (document 01, "Distribution").
-- Assumes nothing.
use Rattle.std.specs.Prelude.{ℕ, Bool, true, false, cond, not, ◌||◌, Option, Some, None, Result, Ok, Err, List, eqb, ltb, leb, length}
use Rattle.words.specs.Count.{distribution_count, same_distribution}
use Rattle.words.specs.Tick.{age_of}
use Rattle.words.specs.Link.{configured_of}
use Rattle.words.specs.Cutting.{messages_of}
use Rattle.words.specs.Reading.{read_confirmation_of}
use Rattle.words.specs.Refusal.{Stepped, accept, refuse}
use Rattle.words.specs.declared.refusal.Refusal.{Refusal}
use Rattle.words.specs.declared.refusal.Refusal.TheVariants.{NotReady, NothingAsked}
use Rattle.words.specs.declared.count.DistributionCount.{DistributionCount}
use Rattle.words.specs.declared.control.Quality.{Quality}
use Rattle.words.specs.declared.control.Quality.TheVariants.{BestEffort, Verified}
use Rattle.words.specs.declared.control.Control.{Control}
use Rattle.words.specs.declared.control.Control.TheVariants.{Reset, Block}
use Rattle.words.specs.declared.status.Outcome.{Outcome}
use Rattle.words.specs.Status.{is_done}
use Rattle.dist_controller.specs.State.{in_phase, with_clock, with_standing, with_finding, one_more, ended_of}
use Rattle.dist_controller.specs.declared.state.Phase.{Phase}
use Rattle.dist_controller.specs.declared.state.Phase.TheVariants.{Idle, Sending, Waiting, Reading, Resetting, ResetWaiting, ResetReading, CutSending, CutReading, CutResetting}
use Rattle.dist_controller.specs.declared.state.Fate.TheVariants as Fate
use Rattle.dist_controller.specs.declared.state.Finding.{Finding}
use Rattle.dist_controller.specs.declared.state.Controller.{Controller}

-- ---- a data message or the descriptor

-- with Verified Length, a data message with no reply ends the transfer; with Best Effort it goes on
unfoldable pub stops_of : Quality → Outcome → Bool
stops_of BestEffort outcome = false
stops_of Verified outcome = not (is_done outcome)

-- age counts from the tick at which the descriptor's outcome was told, replied or not
abbrev pub told_now : Phase → Controller → Controller
told_now phase c = with_clock (record { tick = c.clock.tick; since = c.clock.tick }) phase c

-- the data messages go out in order, then the descriptor, which is withheld where the transfer is abandoned
unfoldable pub sent_of : Controller → Outcome → Controller
sent_of c outcome =
    cond (ltb (messages_of c.transfer.size) c.transfer.gone) (told_now Waiting c)
    (cond (stops_of c.transfer.quality outcome) (ended_of (Some Fate.Abandoned) Idle c)
    (one_more Sending c))

-- ---- a read of 27T

abbrev pub age_now : Controller → ℕ
age_now c = age_of c.clock.tick c.clock.since

-- at age W or more
unfoldable pub overdue_of : Controller → Bool
overdue_of c = leb c.link.window (age_now c)

-- no reply, or another number of words than asked
unfoldable pub lost_of : Outcome → List ℕ → Bool
lost_of outcome words = not (is_done outcome) || not (eqb (length words) 2)

-- the count that a transfer waits for, without error: confirmed; with error: refused; a wrong one is otherwise
abbrev pub shown_to : Option DistributionCount → Bool → DistributionCount → Finding
shown_to None error shown = Finding.Other
shown_to (Some count) error shown =
    cond (not (same_distribution shown count)) Finding.Other (cond error Finding.Refused Finding.Confirmed)

unfoldable pub confirmation_found : Result (Control Bool DistributionCount) Refusal → Option DistributionCount → Finding
confirmation_found (Ok Reset) waited = Finding.Reset
confirmation_found (Err r) waited = Finding.Other
confirmation_found (Ok (Block size error shown)) waited = shown_to waited error shown

-- what the read of a waiting transfer, or of none, found
unfoldable pub finding_of : Controller → Option DistributionCount → Outcome → List ℕ → Finding
finding_of c waited outcome words =
    cond (lost_of outcome words) Finding.Lost
    (confirmation_found (read_confirmation_of distribution_count words c.link) waited)

abbrev pub confirmed_of : Controller → Controller
confirmed_of c =
    ended_of (Some Fate.Confirmed) Idle (with_standing (record { accepted = c.standing.accepted; count = c.standing.count; spent = 0 }) Idle c)

-- otherwise, at age W or more: unconfirmed; below W, read again next frame
unfoldable pub unanswered_of : Controller → Controller
unanswered_of c = cond (overdue_of c) (ended_of (Some Fate.Unconfirmed) Idle c) (in_phase Waiting c)

unfoldable pub read_of : Controller → Finding → Controller
read_of c Finding.Reset = unanswered_of c
read_of c Finding.Confirmed = confirmed_of c
read_of c Finding.Refused = ended_of (Some Fate.Refused) Idle c
read_of c Finding.Other = unanswered_of c
read_of c Finding.Lost = unanswered_of c

unfoldable pub told_reading : Controller → Outcome → List ℕ → Controller
told_reading c outcome words = read_of (with_finding (Some (finding_of c (Some c.standing.count) outcome words)) c) (finding_of c (Some c.standing.count) outcome words)

-- ---- the Reset

-- not done: not accepted, at once
unfoldable pub reset_sent_of : Controller → Outcome → Controller
reset_sent_of c outcome = cond (is_done outcome) (told_now ResetWaiting c) (in_phase Idle c)

-- counts start from 0 at acceptance
abbrev pub accepted_of : Controller → Controller
accepted_of c = with_standing (record { accepted = true; count = distribution_count 0; spent = 0 }) Idle c

-- without it at age W or more: not accepted
unfoldable pub not_shown : Controller → Controller
not_shown c = cond (overdue_of c) (in_phase Idle c) (in_phase ResetWaiting c)

unfoldable pub reset_read_of : Controller → Finding → Controller
reset_read_of c Finding.Reset = accepted_of c
reset_read_of c Finding.Confirmed = not_shown c
reset_read_of c Finding.Refused = not_shown c
reset_read_of c Finding.Other = not_shown c
reset_read_of c Finding.Lost = not_shown c

unfoldable pub told_reset_reading : Controller → Outcome → List ℕ → Controller
told_reset_reading c outcome words = reset_read_of (with_finding (Some (finding_of c None outcome words)) c) (finding_of c None outcome words)

-- a message that was out when a Reset was asked for is told first, without effect; then the Reset descriptor is asked for
unfoldable pub told_cut_reading : Controller → Outcome → List ℕ → Controller
told_cut_reading c outcome words = in_phase Resetting (with_finding (Some (finding_of c None outcome words)) c)

-- ---- 18: an outcome told when no message is asked for

abbrev pub told_in : Phase → Controller → Outcome → List ℕ → Stepped Controller (Unit {0})
told_in Idle c outcome words = refuse NothingAsked c
told_in Sending c outcome words = accept (sent_of c outcome)
told_in Waiting c outcome words = refuse NothingAsked c
told_in Reading c outcome words = accept (told_reading c outcome words)
told_in Resetting c outcome words = accept (reset_sent_of c outcome)
told_in ResetWaiting c outcome words = refuse NothingAsked c
told_in ResetReading c outcome words = accept (told_reset_reading c outcome words)
told_in CutSending c outcome words = accept (in_phase Resetting c)
told_in CutReading c outcome words = accept (told_cut_reading c outcome words)
told_in CutResetting c outcome words = accept (in_phase Resetting c)

-- 1: link not configured
unfoldable pub told_of : Controller → Outcome → List ℕ → Stepped Controller (Unit {0})
told_of c outcome words = cond (not (configured_of c.link)) (refuse NotReady c) (told_in c.phase c outcome words)
