-- The pair's own state that a state of the model stands for: what the model leaves out is hidden.
-- Assumes nothing.
use Prim.Native.Nat.{ℕ, suc, ◌≤◌, ◌<◌}
use mathlib.Core.Path.{◌≡◌}
use mathlib.Core.Bool.{Bool, true, false}
use mathlib.Core.List.{List}
use lib.ListN.{length, take}
use Rattle.std.proofs.Common.{Option, None, Some}
use Rattle.words.specs.Count.{distribution_count}
use Rattle.words.specs.Link.{configured_of, message_store_of}
use Rattle.words.specs.Control.{quality_of, reset_words, distribution_confirmation_words}
use Rattle.words.specs.declared.link.Link.{Link}
use Rattle.words.specs.declared.control.Quality.{Quality}
use Rattle.words.specs.declared.control.Words.{Words}
use Rattle.dist_controller.specs.declared.state.Phase as Real
use Rattle.dist_controller.specs.declared.state.Phase.TheVariants.{Idle, Sending, Waiting, Reading, Resetting, ResetWaiting, ResetReading, CutSending, CutReading, CutResetting}
use Rattle.dist_controller.specs.declared.state.Fate.{Fate}
use Rattle.dist_controller.specs.declared.state.Finding.{Finding}
use Rattle.dist_controller.specs.declared.state.Controller.{Controller}
use Rattle.dist_terminal.specs.State.{nothing_yet}
use Rattle.dist_terminal.specs.Calls.{emptied}
use Rattle.dist_terminal.specs.declared.state.Held.{Held}
use Rattle.dist_terminal.specs.declared.state.Terminal.{Terminal}
use Rattle.dist_pair.specs.declared.state.Flight as RealFlight
use Rattle.dist_pair.specs.declared.state.Flight.TheVariants.{NotArrived, Arrived, Caught}
use Rattle.promises.specs.Run.{Load, Event}
use Rattle.promises.specs.Promise.{messages}
use Rattle.dist_promises.specs.Distribution.{Ends}
use Rattle.dist_promises.proofs.Parts.{Lawful, chunk}
use Rattle.dist_promises.proofs.Modes.{Received, parts}
use Rattle.dist_promises.proofs.Model.{Msg, m_data, m_desc, m_reset, m_read, Word, w_none, w_reset, w_count, w_error, Hand, empty, held, Flight, away, came, caught}
use Rattle.dist_promises.proofs.Model.{Phase, idle, send_data, send_desc, await, reading, reset_first, send_reset, await_reset, reading_reset}
use Rattle.dist_promises.proofs.Model.{Tx, Rx, Meter, State, step}

-- the block store and the lent hand; of a transfer that no longer sends its size, quality and fate; what the last read found; the sizes
-- in 27T and in what was caught of it
pub record Hidden : Type 0 where
  pub store : List ℕ
  pub hand : List ℕ
  pub size : ℕ
  pub quality : Quality
  pub fate : Option Fate
  pub found : Option Finding
  pub shown : ℕ
  pub caught : ℕ

abbrev pub phase_of : Phase → Real.Phase
phase_of idle = Idle
phase_of (send_data b j) = Sending
phase_of (send_desc v k) = Sending
phase_of await = Waiting
phase_of reading = Reading
phase_of (reset_first (m_data j d)) = CutSending
phase_of (reset_first (m_desc v c k)) = CutSending
phase_of (reset_first m_reset) = CutResetting
phase_of (reset_first m_read) = CutReading
phase_of send_reset = Resetting
phase_of await_reset = ResetWaiting
phase_of reading_reset = ResetReading

abbrev pub size_in : Phase → ℕ → ℕ
size_in idle n = n
size_in (send_data b j) n = length b.block
size_in (send_desc v k) n = k
size_in await n = n
size_in reading n = n
size_in (reset_first (m_data j d)) n = n
size_in (reset_first (m_desc v c k)) n = k
size_in (reset_first m_reset) n = n
size_in (reset_first m_read) n = n
size_in send_reset n = n
size_in await_reset n = n
size_in reading_reset n = n

abbrev pub quality_in : Phase → Quality → Quality
quality_in idle q = q
quality_in (send_data b j) q = quality_of b.verified
quality_in (send_desc v k) q = quality_of v
quality_in await q = q
quality_in reading q = q
quality_in (reset_first (m_data j d)) q = q
quality_in (reset_first (m_desc v c k)) q = quality_of v
quality_in (reset_first m_reset) q = q
quality_in (reset_first m_read) q = q
quality_in send_reset q = q
quality_in await_reset q = q
quality_in reading_reset q = q

-- messages gone: while one of them is out, its number tells
abbrev pub gone_in : Phase → ℕ → ℕ
gone_in idle n = n
gone_in (send_data b j) n = suc j
gone_in (send_desc v k) n = suc (messages k)
gone_in await n = n
gone_in reading n = n
gone_in (reset_first (m_data j d)) n = suc j
gone_in (reset_first (m_desc v c k)) n = suc (messages k)
gone_in (reset_first m_reset) n = n
gone_in (reset_first m_read) n = n
gone_in send_reset n = n
gone_in await_reset n = n
gone_in reading_reset n = n

abbrev pub fate_in : Phase → Option Fate → Option Fate
fate_in idle f = f
fate_in (send_data b j) f = (Some Fate.Open)
fate_in (send_desc v k) f = (Some Fate.Open)
fate_in await f = (Some Fate.Open)
fate_in reading f = (Some Fate.Open)
fate_in (reset_first m) f = f
fate_in send_reset f = f
fate_in await_reset f = f
fate_in reading_reset f = f

abbrev pub hand_of : Hand → Option Held
hand_of empty = None
hand_of (held c b) = Some (record { size = length b; count = distribution_count c })

abbrev pub shown_of : Link → ℕ → Word → Words
shown_of link size w_none = nothing_yet
shown_of link size w_reset = reset_words
shown_of link size (w_count c) = distribution_confirmation_words link size false (distribution_count c)
shown_of link size (w_error c) = distribution_confirmation_words link size true (distribution_count c)

abbrev pub flight_of : Link → ℕ → Flight → RealFlight.Flight
flight_of link size away = NotArrived
flight_of link size came = Arrived
flight_of link size (caught w) = Caught (shown_of link size w)

abbrev pub controller_of : Link → Hidden → Tx → Meter → Controller
controller_of link h t m =
    record {
      link = link;
      clock = record { tick = m.now; since = m.since };
      standing = record { accepted = t.accepted; count = distribution_count t.count; spent = t.spent };
      phase = phase_of t.phase;
      transfer = record {
        size = size_in t.phase h.size;
        quality = quality_in t.phase h.quality;
        gone = gone_in t.phase m.cost;
        fate = fate_in t.phase h.fate;
      };
      found = h.found;
    }

abbrev pub terminal_of : Link → Hidden → Rx Received → Terminal
terminal_of link h r =
    record {
      link = link;
      seen = r.seen;
      handled = distribution_count r.handled;
      hand = hand_of r.hand;
      shown = shown_of link h.shown r.word;
      marks = r.parts.marks;
      received = r.parts.received;
    }

abbrev pub real : Link → Hidden → State Received → Ends
real link h s =
    record {
      pair = record {
        controller = controller_of link h s.tx s.meter;
        terminal = terminal_of link h s.rx;
        flight = flight_of link h.caught s.flight;
      };
      store = h.store;
      places = s.rx.parts.places;
      hand = h.hand;
    }

-- ---- what is true of what is hidden

abbrev pub NotOpen : Option Fate → Type 0
NotOpen None = Unit {0}
NotOpen (Some Fate.Open) = ⊥
NotOpen (Some Fate.Confirmed) = Unit {0}
NotOpen (Some Fate.Refused) = Unit {0}
NotOpen (Some Fate.Unconfirmed) = Unit {0}
NotOpen (Some Fate.Abandoned) = Unit {0}

-- a size and a count that the link allows
pub record Within (link : Link) (n c : ℕ) : Type 0 where
  pub some : 1 ≤ n
  pub most : n ≤ link.largest
  pub low : 1 ≤ c
  pub high : c ≤ 255

pub record HeldIs (link : Link) (c : ℕ) (b hand : List ℕ) : Type 0 where
  pub range : Within link (length b) c
  pub bytes : take (length b) hand ≡ b

abbrev pub HandIs : Link → Hand → List ℕ → Type 0
HandIs link empty hand = Unit {0}
HandIs link (held c b) hand = HeldIs link c b hand

abbrev pub WordIs : Link → ℕ → Word → Type 0
WordIs link size w_none = Unit {0}
WordIs link size w_reset = Unit {0}
WordIs link size (w_count c) = Within link size c
WordIs link size (w_error c) = Within link size c

abbrev pub FlightIs : Link → ℕ → Flight → Type 0
FlightIs link size away = Unit {0}
FlightIs link size came = Unit {0}
FlightIs link size (caught w) = WordIs link size w

-- message j of the block in the store is asked for
pub record DataIs (link : Link) (size j cost : ℕ) (d store : List ℕ) : Type 0 where
  pub some : 1 ≤ size
  pub most : size ≤ link.largest
  pub within : j < messages size
  pub gone : cost ≡ suc j
  pub bytes : d ≡ chunk (take size store) j

pub record SendingIs (link : Link) (b : Load) (j c cost : ℕ) (store : List ℕ) : Type 0 where
  pub range : Within link (length b.block) c
  pub within : j < messages (length b.block)
  pub gone : cost ≡ suc j
  pub bytes : take (length b.block) store ≡ b.block

pub record DescIs (link : Link) (k c cost : ℕ) : Type 0 where
  pub range : Within link k c
  pub gone : cost ≡ suc (messages k)

abbrev pub CutIs : Link → Hidden → Msg → ℕ → ℕ → Type 0
CutIs link h (m_data j d) c cost = DataIs link h.size j cost d h.store
CutIs link h (m_desc v n k) c cost = (n ≡ c) × DescIs link k c cost
CutIs link h m_reset c cost = Unit {0}
CutIs link h m_read c cost = Unit {0}

abbrev pub PhaseIs : Link → Hidden → Phase → Bool → ℕ → ℕ → Type 0
PhaseIs link h idle a c cost = NotOpen h.fate
PhaseIs link h (send_data b j) a c cost = SendingIs link b j c cost h.store
PhaseIs link h (send_desc v k) a c cost = DescIs link k c cost
PhaseIs link h await a c cost = Unit {0}
PhaseIs link h reading a c cost = Unit {0}
PhaseIs link h (reset_first m) a c cost = (a ≡ false) × (NotOpen h.fate × CutIs link h m c cost)
PhaseIs link h send_reset a c cost = (a ≡ false) × NotOpen h.fate
PhaseIs link h await_reset a c cost = (a ≡ false) × NotOpen h.fate
PhaseIs link h reading_reset a c cost = (a ≡ false) × NotOpen h.fate

-- with another lent hand, other sizes in 27T and in what was caught
abbrev pub with_hand : List ℕ → ℕ → ℕ → Hidden → Hidden
with_hand hand shown kept h =
    record {
      store = h.store;
      hand = hand;
      size = h.size;
      quality = h.quality;
      fate = h.fate;
      found = h.found;
      shown = shown;
      caught = kept;
    }

-- which the phase does not ask for
pub phase_kept : (p : Phase) (link : Link) (h : Hidden) (hand : List ℕ) (shown kept : ℕ) (a : Bool) (c cost : ℕ)
    → PhaseIs link h p a c cost → PhaseIs link (with_hand hand shown kept h) p a c cost
phase_kept idle link h hand shown kept a n cost i = i
phase_kept (send_data b j) link h hand shown kept a n cost i = i
phase_kept (send_desc v k) link h hand shown kept a n cost i = i
phase_kept await link h hand shown kept a n cost i = i
phase_kept reading link h hand shown kept a n cost i = i
phase_kept (reset_first (m_data j d)) link h hand shown kept a n cost i = i
phase_kept (reset_first (m_desc v c k)) link h hand shown kept a n cost i = i
phase_kept (reset_first m_reset) link h hand shown kept a n cost i = i
phase_kept (reset_first m_read) link h hand shown kept a n cost i = i
phase_kept send_reset link h hand shown kept a n cost i = i
phase_kept await_reset link h hand shown kept a n cost i = i
phase_kept reading_reset link h hand shown kept a n cost i = i

-- a configured link with the message store that was lent for it, and what its parts obey
pub record Ground (link : Link) (lent : List ℕ) : Type 1 where
  pub configured : configured_of link ≡ true
  pub laws : Lawful link.largest (parts link lent)
  pub room : (s : Received) → laws.Whole s → message_store_of link ≤ length s.places
  pub again : (s : Received) → laws.Whole s → emptied link s.places ≡ emptied link lent

module _ (link : Link) (lent : List ℕ) (G : Ground link lent) where
  pub record Facts (h : Hidden) (s : State Received) : Type 0 where
    pub store : link.largest ≤ length h.store
    pub hand : link.largest ≤ length h.hand
    pub whole : G.laws.Whole s.rx.parts
    pub holds : HandIs link s.rx.hand h.hand
    pub shows : WordIs link h.shown s.rx.word
    pub flies : FlightIs link h.caught s.flight
    pub count : s.tx.count ≤ 255
    pub phase : PhaseIs link h s.tx.phase s.tx.accepted s.tx.count s.meter.cost

  -- the pair's state is one that the model's stands for
  pub record Stands (x : Ends) (s : State Received) : Type 0 where
    pub hidden : Hidden
    pub is : x ≡ real link hidden s
    pub facts : Facts hidden s

  -- both ends of the model on this link
  abbrev pub moves : Event → State Received → State Received
  moves = step (parts link lent) link.largest link.window
