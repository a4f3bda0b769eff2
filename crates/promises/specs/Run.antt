-- A run of the two ends of one direction of a link, and the ledger that an onlooker keeps of it. No machine reads the ledger.
-- Assumes nothing.
use Rattle.std.specs.Prelude.{ℕ, zero, suc, ◌+◌, ◌-◌, Bool, true, false, ◌&&◌, List, [], ◌∷◌, T, ltb, length}

abbrev pub Block : Type 0
Block = List ℕ

abbrev pub are_bytes : Block → Bool
are_bytes [] = true
are_bytes (x ∷ xs) = ltb x 256 && are_bytes xs

-- a block of bytes with its quality: Verified Length, or else Best Effort
pub record Load : Type 0 where
  pub verified : Bool
  pub block : Block
  pub bytes : T (are_bytes block)

-- Whatever can happen. The message asked for arrives; its outcome is told, done or no reply; the receiver's application takes a block
-- into a buffer.
pub data Event : Type 0 where
  submit : Load → Event
  reset frame arrive told_done told_no_reply restart_sender restart_receiver : Event
  deliver : Block → Event

pub data Failure : Type 0 where
  refused unconfirmed abandoned : Failure

-- What an event gives back: a refusal; nothing to tell; the Reset is accepted; the open transfer is confirmed, or ends otherwise;
-- the block that is taken.
pub data Answer : Type 0 where
  denied ok accepted confirmed : Answer
  failed : Failure → Answer
  gave : Block → Answer

-- the message asked for: none; to the terminal, or a read of it, with whether it arrived
pub data Asks : Type 0 where
  nothing : Asks
  sends reads : Bool → Asks

-- both ends; `parts`: how many message parts the receiver has; `count`: the message count given for the newest transfer
pub record Machine : Type 1 where
  pub State : Type 0
  pub fresh : State
  pub step : Event → State → State
  pub says : Event → State → Answer
  pub asks : State → Asks
  pub parts : State → ℕ
  pub count : State → ℕ

-- a submission that was accepted, with its number in the run, from 0
pub record Item : Type 0 where
  pub number : ℕ
  pub load : Load

-- The newest first. Pending: submissions not yet reported. Started: submissions since the last confirmed one or accepted Reset.
-- Asked: a Reset was asked for, and neither end restarted since; sound: and it was accepted. Messages: those that the newest submission
-- asked for.
pub record Ledger : Type 0 where
  pub submitted : List Item
  pub delivered : List Block
  pub confirmed : List Item
  pub pending : ℕ
  pub started : ℕ
  pub asked : Bool
  pub sound : Bool
  pub messages : ℕ

abbrev pub ledger : List Item → List Block → List Item → ℕ → ℕ → Bool → Bool → ℕ → Ledger
ledger s d c p n a i m =
    record { submitted = s; delivered = d; confirmed = c; pending = p; started = n; asked = a; sound = i; messages = m }

-- the event itself, whatever its answer
abbrev pub begun : Event → Ledger → Ledger
begun reset l = ledger l.submitted l.delivered l.confirmed l.pending l.started true false l.messages
begun restart_sender l = ledger l.submitted l.delivered l.confirmed 0 l.started false false 0
begun restart_receiver l = ledger l.submitted l.delivered l.confirmed l.pending l.started false false l.messages
begun (submit b) l = l
begun frame l = l
begun arrive l = l
begun told_done l = l
begun told_no_reply l = l
begun (deliver buffer) l = l

-- a submission that is accepted
abbrev pub opened : Event → Ledger → Ledger
opened (submit b) l =
    ledger (record { number = length l.submitted; load = b } ∷ l.submitted) l.delivered l.confirmed (l.pending + 1) (l.started + 1)
    l.asked l.sound 0
opened reset l = l
opened frame l = l
opened arrive l = l
opened told_done l = l
opened told_no_reply l = l
opened restart_sender l = l
opened restart_receiver l = l
opened (deliver buffer) l = l

-- a report is of the newest submission
abbrev pub reported : List Item → List Item → List Item
reported [] l = l
reported (x ∷ xs) l = x ∷ l

abbrev pub heard : Answer → Event → Ledger → Ledger
heard denied e l = l
heard ok e l = opened e l
heard accepted e l = ledger l.submitted l.delivered l.confirmed l.pending 0 l.asked l.asked l.messages
heard confirmed e l =
    ledger l.submitted l.delivered (reported l.submitted l.confirmed) (l.pending - 1) 0 l.asked l.sound l.messages
heard (failed f) e l = ledger l.submitted l.delivered l.confirmed (l.pending - 1) l.started l.asked l.sound l.messages
heard (gave b) e l = ledger l.submitted (b ∷ l.delivered) l.confirmed l.pending l.started l.asked l.sound l.messages

abbrev pub one : Asks → ℕ
one nothing = 0
one (sends arrived) = 1
one (reads arrived) = 1

-- one where nothing was asked for before; where the message before arrived; where there was a message before
abbrev pub first : Asks → Asks → ℕ
first nothing x = one x
first (sends arrived) x = 0
first (reads arrived) x = 0

abbrev pub behind_arrived : Asks → Asks → ℕ
behind_arrived nothing x = 0
behind_arrived (sends false) x = 0
behind_arrived (sends true) x = one x
behind_arrived (reads false) x = 0
behind_arrived (reads true) x = one x

abbrev pub behind : Asks → Asks → ℕ
behind nothing x = 0
behind (sends arrived) x = one x
behind (reads arrived) x = one x

-- the messages newly asked for, by what is asked for before and after the event
abbrev pub new : Event → Asks → Asks → ℕ
new (submit b) a x = first a x
new frame a x = first a x
new told_done a x = behind_arrived a x
new told_no_reply a x = behind a x
new reset a x = 0
new arrive a x = 0
new restart_sender a x = 0
new restart_receiver a x = 0
new (deliver buffer) a x = 0

-- they are the newest submission's while it is pending
abbrev pub noted : ℕ → ℕ → Ledger → Ledger
noted zero n l = l
noted (suc p) n l = ledger l.submitted l.delivered l.confirmed l.pending l.started l.asked l.sound (l.messages + n)

module _ (M : Machine) where
  pub record World : Type 0 where
    pub state : M.State
    pub seen : Ledger

  abbrev pub goes : Event → World → World
  goes e w =
      let s : M.State = M.step e w.state in
      let l : Ledger = heard (M.says e w.state) e (begun e w.seen) in
      record { state = s; seen = noted l.pending (new e (M.asks w.state) (M.asks s)) l }

  abbrev pub run : List Event → World → World
  run [] w = w
  run (e ∷ es) w = run es (goes e w)

  -- after these events from a fresh start
  abbrev pub after : List Event → World
  after es = run es (record { state = M.fresh; seen = ledger [] [] [] 0 0 false false 0 })
