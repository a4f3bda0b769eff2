-- What holds after every event, so that nothing is delivered twice, out of order or in pieces.
-- Assumes nothing.
use Prim.Native.Nat.{ℕ, suc, ◌≤◌, ◌<◌}
use mathlib.Core.Path.{◌≡◌}
use mathlib.Core.Bool.{Bool, true, false, ◌&&◌}
use mathlib.Core.List.{List, [], ◌∷◌}
use lib.ListN.{length}
use Rattle.promises.specs.Run.{Block, Load, Item}
use Rattle.promises.specs.Promise.{Within, Same, messages}
use Rattle.dist_promises.proofs.Parts.{Parts, Lawful, chunk}
use Rattle.dist_promises.proofs.Model.{Msg, m_data, m_desc, m_reset, m_read, Word, w_none, w_reset, w_count, w_error, Hand, empty, held, Flight, away, came, caught}
use Rattle.dist_promises.proofs.Model.{Phase, idle, send_data, send_desc, await, reading, reset_first, send_reset, await_reset, reading_reset}
use Rattle.dist_promises.proofs.Model.{Rx, enough}
use Rattle.dist_promises.proofs.Ghost.{Book, System}
use Rattle.dist_promises.proofs.Circle.{Near}

-- the deliveries, with the one that the hand still owes
abbrev pub owed : Item → Hand → List Item → List Item
owed t empty ds = ds
owed t (held c b) ds = t ∷ ds

-- the bytes in hand are that submission's
abbrev pub FitsHand : Hand → Item → Type 0
FitsHand empty t = Unit {0}
FitsHand (held c b) t = Same t.load.verified t.load.block b

abbrev pub NearHand : ℕ → ℕ → Hand → Type 0
NearHand s n empty = Unit {0}
NearHand s n (held c b) = Near s n c

abbrev pub NearWord : ℕ → ℕ → Word → Type 0
NearWord s n w_none = Unit {0}
NearWord s n w_reset = Unit {0}
NearWord s n (w_count c) = Near s n c
NearWord s n (w_error c) = Unit {0}

-- with a Reset accepted, the counts at the terminal are at most `spent` behind the controller's
abbrev pub Close : Bool → ℕ → ℕ → Hand → Word → Type 0
Close false s n h w = Unit {0}
Close true s n h w = NearHand s n h × NearWord s n w

abbrev pub OtherHand : ℕ → Hand → Type 0
OtherHand n empty = Unit {0}
OtherHand n (held c b) = c ≡ n → ⊥

abbrev pub OtherWord : ℕ → Word → Type 0
OtherWord n w_none = Unit {0}
OtherWord n w_reset = Unit {0}
OtherWord n (w_count c) = c ≡ n → ⊥
OtherWord n (w_error c) = Unit {0}

-- ds lies within the submissions before the newest
abbrev pub Older : List Item → List Item → Type 0
Older [] ds = ⊥
Older (x ∷ xs) ds = Within ds xs

abbrev pub LoadIs : List Item → Load → Type 0
LoadIs [] b = ⊥
LoadIs (x ∷ xs) b = x.load ≡ b

abbrev pub NewestFits : List Item → Block → Type 0
NewestFits [] d = ⊥
NewestFits (x ∷ xs) d = Same x.load.verified x.load.block d

-- the newest submission can be confirmed: it is among the deliveries ds, later than what was confirmed
abbrev pub Due : List Item → List Item → List Item → Type 0
Due [] cs ds = ⊥
Due (x ∷ xs) cs ds = Within (x ∷ cs) ds

abbrev pub IsEmpty : Hand → Type 0
IsEmpty empty = Unit {0}
IsEmpty (held c b) = ⊥

-- 27T shows no block
abbrev pub Blank : Word → Type 0
Blank w_none = Unit {0}
Blank w_reset = Unit {0}
Blank (w_count c) = ⊥
Blank (w_error c) = Unit {0}

abbrev pub IsFalse : Bool → Type 0
IsFalse false = Unit {0}
IsFalse true = ⊥

abbrev pub IsAway : Flight → Type 0
IsAway away = Unit {0}
IsAway came = ⊥
IsAway (caught w) = ⊥

abbrev pub HandDue : Hand → ℕ → Book → Type 0
HandDue empty n l = Unit {0}
HandDue (held c b) n l = c ≡ n → Due l.subs l.confs (l.tag ∷ l.dels)

abbrev pub WordDue : Word → ℕ → Hand → Book → Type 0
WordDue w_none n h l = Unit {0}
WordDue w_reset n h l = Unit {0}
WordDue (w_count c) n h l = c ≡ n → IsEmpty h × Due l.subs l.confs l.dels
WordDue (w_error c) n h l = Unit {0}

-- a read that was caught shows the present count only if its block was delivered, and nothing came since
abbrev pub CaughtDue : Flight → Bool → ℕ → Hand → Word → Book → Type 0
CaughtDue away a n h w l = Unit {0}
CaughtDue came a n h w l = Unit {0}
CaughtDue (caught w_none) a n h w l = Unit {0}
CaughtDue (caught w_reset) a n h w l = Unit {0}
CaughtDue (caught (w_count c)) a n h w l = c ≡ n → (IsEmpty h × Close a 0 n h w) × Due l.subs l.confs l.dels
CaughtDue (caught (w_error c)) a n h w l = Unit {0}

-- how many messages came, with message j asked for
abbrev pub came_to : Flight → ℕ → ℕ
came_to away j = j
came_to came j = suc j
came_to (caught w) j = suc j

module _ (largest : ℕ) (P : Parts) (L : Lawful largest P) where
  -- what a terminal that has seen the Reset would take is the newest submission
  abbrev pub Placed : Bool → Bool → ℕ → P.Store → List Item → Type 0
  Placed false q n s xs = Unit {0}
  Placed true q n s xs = enough P q (P.met n s) ≡ true → NewestFits xs (P.block n s)

  -- a transfer that the terminal cannot know yet
  pub record Unknown (n : ℕ) (r : Rx P.Store) (l : Book) : Type 0 where
    pub low : 1 ≤ n
    pub high : n ≤ 255
    pub older : Older l.subs (owed l.tag r.hand l.dels)
    pub other_hand : OtherHand n r.hand
    pub other_word : OtherWord n r.word

  -- the descriptor may have come
  pub record Sent (n : ℕ) (r : Rx P.Store) (l : Book) : Type 0 where
    pub in_hand : HandDue r.hand n l
    pub in_word : WordDue r.word n r.hand l

  -- a data message that the controller asked for
  pub record DataOk (j : ℕ) (d : Block) : Type 0 where
    pub block : Block
    pub is : chunk block j ≡ d
    pub within : j < messages (length block)
    pub fits : length block ≤ largest

  abbrev pub MsgOk : Msg → Rx P.Store → Book → Type 0
  MsgOk (m_data j d) r l = DataOk j d
  MsgOk (m_desc q c n) r l = Older l.subs (owed l.tag r.hand l.dels) × Placed r.seen q n r.parts l.subs
  MsgOk m_reset r l = Unit {0}
  MsgOk m_read r l = Unit {0}

  -- of a terminal that has seen the Reset, with Verified Length: the first i messages came
  abbrev pub Filled : Bool → ℕ → Block → P.Store → Type 0
  Filled false i b s = Unit {0}
  Filled true i b s = L.Full i b s

  pub record Sending (b : Load) (j i n : ℕ) (r : Rx P.Store) (l : Book) : Type 0 where
    pub unknown : Unknown n r l
    pub is : LoadIs l.subs b
    pub filled : Filled (b.verified && r.seen) i b.block r.parts
    pub within : j < messages (length b.block)
    pub fits : length b.block ≤ largest

  abbrev pub DescOk : Flight → Bool → ℕ → ℕ → Rx P.Store → Book → Type 0
  DescOk away q k n r l = Unknown n r l × Placed r.seen q k r.parts l.subs
  DescOk came q k n r l = Sent n r l
  DescOk (caught w) q k n r l = Sent n r l

  abbrev pub CutOk : Flight → Msg → Rx P.Store → Book → Type 0
  CutOk away m r l = MsgOk m r l
  CutOk came m r l = Unit {0}
  CutOk (caught w) m r l = Unit {0}

  abbrev pub Bare : Rx P.Store → Type 0
  Bare r = IsEmpty r.hand × Blank r.word

  abbrev pub BareOnce : Flight → Rx P.Store → Type 0
  BareOnce away r = Unit {0}
  BareOnce came r = Bare r
  BareOnce (caught w) r = Bare r

  abbrev pub PhaseOk : Phase → Flight → Bool → ℕ → Rx P.Store → Book → Type 0
  PhaseOk idle f a n r l = IsAway f
  PhaseOk (send_data b j) f a n r l = Sending b j (came_to f j) n r l
  PhaseOk (send_desc q k) f a n r l = DescOk f q k n r l
  PhaseOk await f a n r l = IsAway f × Sent n r l
  PhaseOk reading f a n r l = Sent n r l × CaughtDue f a n r.hand r.word l
  PhaseOk (reset_first m) f a n r l = IsFalse a × CutOk f m r l
  PhaseOk send_reset f a n r l = IsFalse a × BareOnce f r
  PhaseOk await_reset f a n r l = IsFalse a × (IsAway f × Bare r)
  PhaseOk reading_reset f a n r l = IsFalse a × Bare r

  pub record Invariant (s : System P.Store) : Type 0 where
    pub chain : Within (owed s.book.tag s.rx.hand s.book.dels) s.book.subs
    pub kept : Within s.book.confs s.book.dels
    pub whole : L.Whole s.rx.parts
    pub fits : FitsHand s.rx.hand s.book.tag
    pub close : Close s.tx.accepted s.tx.spent s.tx.count s.rx.hand s.rx.word
    pub phase : PhaseOk s.tx.phase s.flight s.tx.accepted s.tx.count s.rx s.book
