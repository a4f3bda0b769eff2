-- A frame begins, a Reset is asked for, the controller restarts (document 01, "Distribution").
-- Assumes nothing.
use Rattle.std.specs.Prelude.{Bool, false, cond, not, Some, leb}
use Rattle.words.specs.Tick.{next_tick}
use Rattle.words.specs.Link.{configured_of}
use Rattle.words.specs.Refusal.{Stepped, accept, refuse}
use Rattle.words.specs.declared.refusal.Refusal.TheVariants.{NotReady}
use Rattle.dist_controller.specs.State.{is_open, fresh_of, in_phase, with_clock, with_standing, one_more, ended_of}
use Rattle.dist_controller.specs.Told.{age_now}
use Rattle.dist_controller.specs.declared.state.Phase.{Phase}
use Rattle.dist_controller.specs.declared.state.Phase.TheVariants.{Idle, Sending, Waiting, Reading, Resetting, ResetWaiting, ResetReading, CutSending, CutReading, CutResetting}
use Rattle.dist_controller.specs.declared.state.Fate.TheVariants as Fate
use Rattle.dist_controller.specs.declared.state.Controller.{Controller}

-- ---- a frame

abbrev pub ticked_of : Controller → Controller
ticked_of c = with_clock (record { tick = next_tick c.clock.tick; since = c.clock.since }) c.phase c

-- 27T is read from age 2
unfoldable pub due_of : Controller → Bool
due_of c = leb 2 (age_now c)

-- a tick with a message still asked for asks for nothing more
abbrev pub ask_in : Phase → Controller → Controller
ask_in Idle c = c
ask_in Sending c = c
ask_in Waiting c = one_more Reading c
ask_in Reading c = c
ask_in Resetting c = c
ask_in ResetWaiting c = in_phase ResetReading c
ask_in ResetReading c = c
ask_in CutSending c = c
ask_in CutReading c = c
ask_in CutResetting c = c

unfoldable pub ask_again : Controller → Controller
ask_again c = cond (not (due_of c)) c (ask_in c.phase c)

unfoldable pub frame_of : Controller → Stepped Controller (Unit {0})
frame_of c = cond (not (configured_of c.link)) (refuse NotReady c) (accept (ask_again (ticked_of c)))

-- ---- a Reset

-- with nothing asked the Reset descriptor is asked for at once; a message already asked for is told first
abbrev pub cut_of : Phase → Phase
cut_of Idle = Resetting
cut_of Sending = CutSending
cut_of Waiting = Resetting
cut_of Reading = CutReading
cut_of Resetting = CutResetting
cut_of ResetWaiting = Resetting
cut_of ResetReading = CutReading
cut_of CutSending = CutSending
cut_of CutReading = CutReading
cut_of CutResetting = CutResetting

-- it voids an earlier acceptance
abbrev pub voided_of : Phase → Controller → Controller
voided_of phase c = with_standing (record { accepted = false; count = c.standing.count; spent = c.standing.spent }) phase c

-- it cuts an open transfer, at once, as abandoned
unfoldable pub cut_transfer : Phase → Controller → Controller
cut_transfer phase c = cond (is_open c.phase) (ended_of (Some Fate.Abandoned) phase c) (in_phase phase c)

unfoldable pub reset_of : Controller → Stepped Controller (Unit {0})
reset_of c =
    cond (not (configured_of c.link)) (refuse NotReady c)
    (accept (voided_of (cut_of c.phase) (cut_transfer (cut_of c.phase) c)))

-- ---- a restart keeps configuration and tick; all else is fresh

unfoldable pub restart_of : Controller → Stepped Controller (Unit {0})
restart_of c = cond (not (configured_of c.link)) (refuse NotReady c) (accept (fresh_of c.link c.clock.tick))
