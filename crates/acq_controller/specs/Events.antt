-- The controller's other events: a frame begins, the application takes the block in hand, the controller restarts
-- (document 01, "The two machines", "Acquisition"). Assumes nothing.
use Rattle.std.specs.Prelude.{ℕ, ◌+◌, false, cond, not, Some, Ok, List, length, nat_lt}
use Rattle.words.specs.Link.{configured_of, short_of, block_store_of}
use Rattle.words.specs.Tick.{next_tick}
use Rattle.words.specs.Refusal.{Stepped, accept, refuse}
use Rattle.words.specs.declared.refusal.Refusal.TheVariants.{NotReady, NothingToTake, ShortBuffer}
use Rattle.stores.specs.Copying.{copied_of}
use Rattle.acq_controller.specs.State.{fresh_of, in_phase, with_transfer, confirming_of}
use Rattle.acq_controller.specs.Request.{Step}
use Rattle.acq_controller.specs.Data.{counted}
use Rattle.acq_controller.specs.declared.state.Block.{Block}
use Rattle.acq_controller.specs.declared.state.Handled.{Handled}
use Rattle.acq_controller.specs.declared.state.Handled.TheVariants.{Nothing, Held, Taken, Failed}
use Rattle.acq_controller.specs.declared.state.Phase.{Phase}
use Rattle.acq_controller.specs.declared.state.Phase.TheVariants.{Idle, Polling, PollingDue, Fetching, Checking, Confirming, ConfirmingReset, Commanding}
use Rattle.acq_controller.specs.declared.state.Fate.{Fate}
use Rattle.acq_controller.specs.declared.state.Transfer.{Transfer}
use Rattle.acq_controller.specs.declared.state.Controller.{Controller}

-- ---- a frame begins: one read of 28T, block in hand or not

-- a read of 28T with a block in hand counts for that block
abbrev pub counted_in : Handled → ℕ → ℕ
counted_in Nothing gone = gone
counted_in (Held block) gone = counted (gone + 1)
counted_in (Taken block) gone = gone
counted_in (Failed block) gone = gone

abbrev pub polled_transfer : Handled → Transfer → Transfer
polled_transfer handled transfer =
    record { size = transfer.size; gone = counted_in handled transfer.gone; closed = transfer.closed; fate = transfer.fate }

abbrev pub poll_in : Phase → Controller → Controller
poll_in Idle c = with_transfer (polled_transfer c.handled c.transfer) c.handled Polling c
poll_in Polling c = c
poll_in PollingDue c = c
poll_in (Fetching attempt) c = c
poll_in (Checking attempt) c = c
poll_in (Confirming words) c = c
poll_in ConfirmingReset c = c
poll_in Commanding c = c

abbrev pub poll_of : Controller → Controller
poll_of c = poll_in c.phase c

abbrev pub ticked_of : Controller → Controller
ticked_of c =
    record { link = c.link; tick = next_tick c.tick; seen = c.seen; handled = c.handled; phase = c.phase; transfer = c.transfer }

-- 1: link not configured. With a message out only the clock moves
unfoldable pub frame_of : Controller → Step
frame_of c = cond (not (configured_of c.link)) (refuse NotReady c) (accept (poll_of (ticked_of c)))

-- ---- a restart

unfoldable pub restart_of : Controller → Step
restart_of c = cond (not (configured_of c.link)) (refuse NotReady c) (accept (fresh_of c.link c.tick))

-- ---- the block in hand is taken

abbrev pub delivered_of : Transfer → Transfer
delivered_of transfer = record { size = transfer.size; gone = transfer.gone; closed = transfer.closed; fate = Some Fate.Taken }

-- with nothing out the confirmation is asked for now, behind a first read it waits for that
abbrev pub taken_in : Phase → Block → Controller → Controller
taken_in Idle block c = confirming_of block false c
taken_in Polling block c = in_phase PollingDue c
taken_in PollingDue block c = c
taken_in (Fetching attempt) block c = c
taken_in (Checking attempt) block c = c
taken_in (Confirming words) block c = c
taken_in ConfirmingReset block c = c
taken_in Commanding block c = c

abbrev pub taken_of : Block → Controller → Controller
taken_of block c = taken_in c.phase block (with_transfer (delivered_of c.transfer) (Taken block) c.phase c)

-- 16: nothing to take; 17: take buffer shorter than the block
abbrev pub taking : Block → Controller → ℕ → Stepped Controller ℕ
taking block c buffer = cond (nat_lt buffer block.size) (refuse ShortBuffer c) (record { state = taken_of block c; answer = Ok block.size })

abbrev pub take_in : Handled → Controller → ℕ → Stepped Controller ℕ
take_in Nothing c buffer = refuse NothingToTake c
take_in (Held block) c buffer = taking block c buffer
take_in (Taken block) c buffer = refuse NothingToTake c
take_in (Failed block) c buffer = refuse NothingToTake c

-- 1: link not configured, or the hand lent too short
unfoldable pub take_of : Controller → ℕ → ℕ → Stepped Controller ℕ
take_of c hand buffer =
    cond (short_of c.link (block_store_of c.link) hand) (refuse NotReady c) (take_in c.handled c buffer)

-- the take buffer: the block at its start; its bytes past the block stay
abbrev pub buffer_in : Handled → List ℕ → List ℕ → List ℕ
buffer_in Nothing hand buffer = buffer
buffer_in (Held block) hand buffer = cond (nat_lt (length buffer) block.size) buffer (copied_of hand buffer block.size)
buffer_in (Taken block) hand buffer = buffer
buffer_in (Failed block) hand buffer = buffer

unfoldable pub buffer_after : Controller → List ℕ → List ℕ → List ℕ
buffer_after c hand buffer =
    cond (short_of c.link (block_store_of c.link) (length hand)) buffer (buffer_in c.handled hand buffer)
