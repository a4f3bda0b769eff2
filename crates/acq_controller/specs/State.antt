-- What the controller keeps of one link (document 01, "Acquisition"), and the changes that its events are made of.
-- Assumes nothing.
use Rattle.std.specs.Prelude.{ℕ, Bool, true, false, cond, Option, Some, None, ◌==◌}
use Rattle.words.specs.Control.{acquisition_confirmation_words}
use Rattle.words.specs.declared.link.Link.{Link}
use Rattle.acq_controller.specs.declared.state.Block.{Block}
use Rattle.acq_controller.specs.declared.state.Handled.{Handled}
use Rattle.acq_controller.specs.declared.state.Handled.TheVariants.{Nothing, Held, Taken, Failed}
use Rattle.acq_controller.specs.declared.state.Phase.{Phase}
use Rattle.acq_controller.specs.declared.state.Phase.TheVariants.{Idle, Confirming, ConfirmingReset}
use Rattle.acq_controller.specs.declared.state.Fate.{Fate}
use Rattle.acq_controller.specs.declared.state.Transfer.{Transfer}
use Rattle.acq_controller.specs.declared.state.Controller.{Controller}

abbrev pub fresh_transfer : Transfer
fresh_transfer = record { size = 0; gone = 0; closed = false; fate = None }

-- what a restart leaves: configuration and tick. Without a Reset seen no block is read
abbrev pub fresh_of : Link → ℕ → Controller
fresh_of link tick =
    record { link = link; tick = tick; seen = false; handled = Nothing; phase = Idle; transfer = fresh_transfer }

abbrev pub in_phase : Phase → Controller → Controller
in_phase phase c =
    record { link = c.link; tick = c.tick; seen = c.seen; handled = c.handled; phase = phase; transfer = c.transfer }

abbrev pub with_transfer : Transfer → Handled → Phase → Controller → Controller
with_transfer transfer handled phase c =
    record { link = c.link; tick = c.tick; seen = c.seen; handled = handled; phase = phase; transfer = transfer }

-- the first confirmation of a transfer is its last message
abbrev pub closed_of : Transfer → Transfer
closed_of transfer = record { size = transfer.size; gone = transfer.gone; closed = true; fate = transfer.fate }

abbrev pub confirming_of : Block → Bool → Controller → Controller
confirming_of block error c =
    with_transfer (closed_of c.transfer) c.handled (Confirming (acquisition_confirmation_words c.link block.size error block.count)) c

-- ---- Reset, in either read

abbrev pub dropped_of : Handled → Option Fate → Option Fate
dropped_of Nothing fate = fate
dropped_of (Held block) fate = Some Fate.Reset
dropped_of (Taken block) fate = fate
dropped_of (Failed block) fate = fate

-- nothing is kept of an earlier block, and the answer is asked for each time a Reset is seen
abbrev pub reset_seen : Controller → Controller
reset_seen c =
    record {
      link = c.link;
      tick = c.tick;
      seen = true;
      handled = Nothing;
      phase = ConfirmingReset;
      transfer =
          record { size = c.transfer.size; gone = c.transfer.gone; closed = c.transfer.closed; fate = dropped_of c.handled c.transfer.fate };
    }

-- ---- the end of an attempt, after so many messages

abbrev pub ended_of : Fate → Block → ℕ → Transfer
ended_of fate block gone = record { size = block.size; gone = gone; closed = false; fate = Some fate }

-- holding sets last handled
abbrev pub held_of : Block → ℕ → Controller → Controller
held_of block gone c = with_transfer (ended_of Fate.Held block gone) (Held block) Idle c

-- in mode 0 the next frame tries once more; in mode 1 the count is spent, and its confirmation has Error
abbrev pub failed_of : Block → ℕ → Controller → Controller
failed_of block gone c =
    cond (c.link.mode == 0)
    (in_phase Idle c)
    (confirming_of block true (with_transfer (ended_of Fate.Failed block gone) (Failed block) c.phase c))
