-- The controller is told the outcome of the message that it asked for (document 01, "Acquisition").
-- Assumes nothing.
use Rattle.std.specs.Prelude.{ℕ, Bool, cond, ◌||◌, List, length, nat_lt}
use Rattle.words.specs.Link as Link
use Rattle.words.specs.Link.{message_store_of, block_store_of}
use Rattle.words.specs.Refusal.{accept, refuse}
use Rattle.words.specs.declared.refusal.Refusal.TheVariants.{NotReady, NothingAsked}
use Rattle.words.specs.declared.link.Link.{Link}
use Rattle.words.specs.declared.status.Outcome.{Outcome}
use Rattle.acq_controller.specs.State.{in_phase}
use Rattle.acq_controller.specs.Request.{Step, polled_of, due_of}
use Rattle.acq_controller.specs.Data.{fetched_of, checked_of, store_fetched, hand_ended, fetching_of, checking_of}
use Rattle.acq_controller.specs.declared.state.Phase.{Phase}
use Rattle.acq_controller.specs.declared.state.Phase.TheVariants.{Idle, Polling, PollingDue, Fetching, Checking, Confirming, ConfirmingReset, Commanding}
use Rattle.acq_controller.specs.declared.state.Controller.{Controller}

-- 1: link not configured, or a store lent too short
unfoldable pub short_of : Link → ℕ → ℕ → Bool
short_of link store hand = Link.short_of link (message_store_of link) store || nat_lt hand (block_store_of link)

-- 18: an outcome told when no message is asked for
abbrev pub told_in : Phase → Controller → Outcome → List ℕ → Step
told_in Idle c outcome words = refuse NothingAsked c
told_in Polling c outcome words = polled_of c outcome words
told_in PollingDue c outcome words = due_of c outcome words
told_in (Fetching attempt) c outcome words = accept (fetching_of c attempt outcome (length words))
told_in (Checking attempt) c outcome words = accept (checking_of c attempt outcome words)
told_in (Confirming sent) c outcome words = accept (in_phase Idle c)
told_in ConfirmingReset c outcome words = accept (in_phase Idle c)
told_in Commanding c outcome words = accept (in_phase Idle c)

unfoldable pub told_of : Controller → Outcome → List ℕ → ℕ → ℕ → Step
told_of c outcome words store hand = cond (short_of c.link store hand) (refuse NotReady c) (told_in c.phase c outcome words)

-- the message store: the words of a part in their place
abbrev pub store_in : Phase → Outcome → List ℕ → List ℕ → List ℕ
store_in Idle outcome words store = store
store_in Polling outcome words store = store
store_in PollingDue outcome words store = store
store_in (Fetching attempt) outcome words store = store_fetched attempt outcome words store
store_in (Checking attempt) outcome words store = store
store_in (Confirming sent) outcome words store = store
store_in ConfirmingReset outcome words store = store
store_in Commanding outcome words store = store

unfoldable pub store_told : Controller → Outcome → List ℕ → List ℕ → ℕ → List ℕ
store_told c outcome words store hand =
    cond (short_of c.link (length store) hand) store (store_in c.phase outcome words store)

-- the hand: a block that is held
abbrev pub hand_in : Phase → Link → Outcome → List ℕ → List ℕ → List ℕ → List ℕ
hand_in Idle link outcome words store hand = hand
hand_in Polling link outcome words store hand = hand
hand_in PollingDue link outcome words store hand = hand
hand_in (Fetching attempt) link outcome words store hand =
    hand_ended (fetched_of attempt outcome (length words)) attempt.block.size (store_fetched attempt outcome words store) hand
hand_in (Checking attempt) link outcome words store hand =
    hand_ended (checked_of link attempt outcome words) attempt.block.size store hand
hand_in (Confirming sent) link outcome words store hand = hand
hand_in ConfirmingReset link outcome words store hand = hand
hand_in Commanding link outcome words store hand = hand

unfoldable pub hand_told : Controller → Outcome → List ℕ → List ℕ → List ℕ → List ℕ
hand_told c outcome words store hand =
    cond (short_of c.link (length store) (length hand)) hand (hand_in c.phase c.link outcome words store hand)
