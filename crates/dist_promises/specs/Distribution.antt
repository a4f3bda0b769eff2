-- Distribution as a machine of demand 3 (crate promises): each event is the pair's own step, on both ends and their lent stores.
-- Assumes nothing.
use Rattle.std.specs.Prelude.{ℕ, Bool, true, false, cond, not, ◌&&◌, Option, Some, None, Result, Ok, Err, List, eqb, length, take}
use Rattle.words.specs.Control.{quality_of}
use Rattle.words.specs.Refusal as Words
use Rattle.words.specs.declared.refusal.Refusal.{Refusal}
use Rattle.words.specs.Refusal.{Stepped}
use Rattle.words.specs.declared.link.Settings.{Settings}
use Rattle.stores.specs.Marks.{marked_of}
use Rattle.dist_controller.specs.Asked.{asked_of}
use Rattle.dist_controller.specs.Report.{report_of}
use Rattle.words.specs.declared.message.Message.{Message}
use Rattle.words.specs.declared.message.Message.TheVariants.{Receive, Transmit}
use Rattle.dist_controller.specs.declared.state.Fate.{Fate}
use Rattle.dist_controller.specs.declared.report.Acceptance.{Acceptance}
use Rattle.dist_controller.specs.declared.report.Report.{Report}
use Rattle.dist_terminal.specs.declared.state.Terminal.{Terminal}
use Rattle.dist_pair.specs.State.{unconfigured}
use Rattle.dist_pair.specs.Events as Events
use Rattle.dist_pair.specs.Bus as Bus
use Rattle.dist_pair.specs.declared.state.Pair.{Pair}
use Rattle.promises.specs.Run.{Event, submit, reset, frame, arrive, told_done, told_no_reply, restart_sender, restart_receiver, deliver}
use Rattle.promises.specs.Run.{Answer, denied, ok, accepted, confirmed, failed, gave, refused, unconfirmed, abandoned, Asks, nothing, sends, reads, Machine}

-- both ends, the block store, the message store and the hand
pub record Ends : Type 0 where
  pub pair : Pair
  pub store : List ℕ
  pub places : List ℕ
  pub hand : List ℕ

-- the pair and its answer
abbrev pub stepped_of : Event → Ends → Stepped Pair (Unit {0})
stepped_of (submit b) x = Events.submit_of x.pair (quality_of b.verified) b.block (length x.store)
stepped_of reset x = Events.reset_of x.pair
stepped_of frame x = Events.frame_of x.pair
stepped_of arrive x = Bus.arrive_of x.pair x.store (length x.places) (length x.hand)
stepped_of told_done x = Bus.told_done x.pair
stepped_of told_no_reply x = Bus.told_no_reply x.pair
stepped_of restart_sender x = Events.controller_restarted x.pair
stepped_of restart_receiver x = Events.terminal_restarted x.pair (length x.places)
stepped_of (deliver buffer) x =
    Words.accept (Events.take_of x.pair (length x.hand) (length buffer)).state

abbrev pub store_of : Event → Ends → List ℕ
store_of (submit b) x = Events.block_after x.pair b.block x.store
store_of reset x = x.store
store_of frame x = x.store
store_of arrive x = x.store
store_of told_done x = x.store
store_of told_no_reply x = x.store
store_of restart_sender x = x.store
store_of restart_receiver x = x.store
store_of (deliver buffer) x = x.store

abbrev pub places_of : Event → Ends → List ℕ
places_of (submit b) x = x.places
places_of reset x = x.places
places_of frame x = x.places
places_of arrive x = Bus.places_after x.pair x.store x.places (length x.hand)
places_of told_done x = x.places
places_of told_no_reply x = x.places
places_of restart_sender x = x.places
places_of restart_receiver x = Events.places_restarted x.pair x.places
places_of (deliver buffer) x = x.places

abbrev pub hand_of : Event → Ends → List ℕ
hand_of (submit b) x = x.hand
hand_of reset x = x.hand
hand_of frame x = x.hand
hand_of arrive x = Bus.hand_after x.pair x.store x.places x.hand
hand_of told_done x = x.hand
hand_of told_no_reply x = x.hand
hand_of restart_sender x = x.hand
hand_of restart_receiver x = x.hand
hand_of (deliver buffer) x = x.hand

abbrev pub step_of : Event → Ends → Ends
step_of e x = record { pair = (stepped_of e x).state; store = store_of e x; places = places_of e x; hand = hand_of e x }

-- ---- what is seen: the answer, and how the controller's report changed

abbrev pub fate_of : Result Report Refusal → Option Fate
fate_of (Err n) = None
fate_of (Ok r) = r.fate

abbrev pub is_open : Option Fate → Bool
is_open None = false
is_open (Some Fate.Open) = true
is_open (Some Fate.Confirmed) = false
is_open (Some Fate.Refused) = false
is_open (Some Fate.Unconfirmed) = false
is_open (Some Fate.Abandoned) = false

abbrev pub is_accepted : Acceptance → Bool
is_accepted Acceptance.NotAccepted = false
is_accepted Acceptance.Pending = false
is_accepted Acceptance.Accepted = true

abbrev pub accepted_of : Result Report Refusal → Bool
accepted_of (Err n) = false
accepted_of (Ok r) = is_accepted r.acceptance

abbrev pub messages_of : Result Report Refusal → ℕ
messages_of (Err n) = 0
messages_of (Ok r) = r.messages

-- the fate of a transfer that was open, and else what there is to tell
abbrev pub end_of : Option Fate → Answer → Answer
end_of None rest = rest
end_of (Some Fate.Open) rest = rest
end_of (Some Fate.Confirmed) rest = confirmed
end_of (Some Fate.Refused) rest = failed refused
end_of (Some Fate.Unconfirmed) rest = failed unconfirmed
end_of (Some Fate.Abandoned) rest = failed abandoned

abbrev pub news_of : Result Report Refusal → Result Report Refusal → Answer
news_of before later =
    let rest : Answer = cond (accepted_of later && not (accepted_of before)) accepted ok in
    cond (is_open (fate_of before)) (end_of (fate_of later) rest) rest

abbrev pub answer_of : Words.Answer → Result Report Refusal → Result Report Refusal → Answer
answer_of (Err n) before later = denied
answer_of (Ok u) before later = news_of before later

abbrev pub gave_of : Result ℕ Refusal → List ℕ → Answer
gave_of (Err n) buffer = denied
gave_of (Ok size) buffer = gave (take size buffer)

abbrev pub called_of : Event → Ends → Answer
called_of e x = answer_of (stepped_of e x).answer (report_of x.pair.controller) (report_of (stepped_of e x).state.controller)

-- an arrival is no call: what the terminal answers is its own affair
abbrev pub says_of : Event → Ends → Answer
says_of (submit b) x = called_of (submit b) x
says_of reset x = called_of reset x
says_of frame x = called_of frame x
says_of arrive x = ok
says_of told_done x = called_of told_done x
says_of told_no_reply x = called_of told_no_reply x
says_of restart_sender x = called_of restart_sender x
says_of restart_receiver x = called_of restart_receiver x
says_of (deliver buffer) x =
    gave_of (Events.take_of x.pair (length x.hand) (length buffer)).answer (Events.buffer_after x.pair x.hand buffer)

abbrev pub asking_of : Option Message → Bool → Asks
asking_of None arrived = nothing
asking_of (Some (Receive subaddress words)) arrived = sends arrived
asking_of (Some (Transmit subaddress words)) arrived = reads arrived

-- marked subaddresses in mode 0, words received in mode 1
abbrev pub parts_of : Terminal → ℕ
parts_of t = cond (eqb t.link.mode 0) (marked_of t.marks.places) t.received

-- both ends of a link configured with these numbers and lent these stores
abbrev pub configured : Settings → List ℕ → List ℕ → List ℕ → Ends
configured settings store places hand =
    record {
      pair = (Events.configure_of unconfigured settings (length store) (length places) (length hand)).state;
      store = store;
      places = Events.places_configured unconfigured settings (length store) places (length hand);
      hand = hand;
    }

abbrev pub distribution : ℕ → ℕ → ℕ → ℕ → ℕ → List ℕ → List ℕ → List ℕ → Machine
distribution address mode subaddress largest window store places hand =
    record {
      State = Ends;
      fresh =
          configured
          (record { address = address; mode = mode; subaddress = subaddress; largest = largest; window = window })
          store
          places
          hand;
      step = step_of;
      says = says_of;
      asks = λ x. asking_of (asked_of x.pair.controller) (Bus.has_arrived x.pair.flight);
      parts = λ x. parts_of x.pair.terminal;
      count = λ x. messages_of (report_of x.pair.controller);
    }

-- the same machine, said to have no message parts: what it promises, it promises whatever parts there are
abbrev pub partless : Machine → Machine
partless M =
    record { State = M.State; fresh = M.fresh; step = M.step; says = M.says; asks = M.asks; parts = λ x. 0; count = M.count }
