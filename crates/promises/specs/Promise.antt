-- Demand 3, for any machine: what the two ends of one direction of a link promise together, after every run from a fresh start.
-- Assumes nothing.
use Rattle.std.specs.Prelude.{ℕ, zero, suc, min, ◌+◌, ◌*◌, ◌/◌, ◌≤◌, ◌<◌, ◌≡◌, Bool, true, false, List, [], ◌∷◌, length, replicate}
use Rattle.promises.specs.Run.{Block, Load, Event, submit, reset, frame, arrive, told_done, told_no_reply, restart_sender, restart_receiver, deliver}
use Rattle.promises.specs.Run.{Answer, denied, ok, accepted, confirmed, failed, gave, Asks, nothing, sends, reads, Machine, Item, Ledger, World, goes, after}

-- xs is ys with some left out: in the same order, each at most once
pub data Within : List Item → List Item → Type 0 where
  none : Within [] []
  skip : {y : Item} {xs ys : List Item} → Within xs ys → Within xs (y ∷ ys)
  keep : {x : Item} {xs ys : List Item} → Within xs ys → Within (x ∷ xs) (x ∷ ys)

-- of a Verified Length block the same bytes; of a Best Effort block the same number of bytes
abbrev pub Same : Bool → Block → Block → Type 0
Same true block bytes = block ≡ bytes
Same false block bytes = length block ≡ length bytes

abbrev pub Match : List Item → List Block → Type 0
Match [] [] = Unit {0}
Match [] (d ∷ ds) = ⊥
Match (x ∷ xs) [] = ⊥
Match (x ∷ xs) (d ∷ ds) = Same x.load.verified x.load.block d × Match xs ds

pub record Kept (l : Ledger) : Type 0 where
  -- each delivery is of a submission, in the order submitted, each submission at most once
  pub taken : List Item
  pub match : Match taken l.delivered
  pub order : Within taken l.submitted
  -- what was reported confirmed was delivered before
  pub before : Within l.confirmed taken
  -- never are two open
  pub single : l.pending ≤ 1

-- ---- waiting for an answer

-- What an event is to someone who waits: nothing; an arrival or an outcome, told done; that arrival a read; a frame with nothing asked for;
-- that not all goes well.
pub data Turn : Type 0 where
  free message read idle barred : Turn

abbrev pub turn : Event → Asks → Turn
turn arrive nothing = free
turn arrive (sends false) = message
turn arrive (sends true) = free
turn arrive (reads false) = read
turn arrive (reads true) = free
turn told_done nothing = free
turn told_done (sends false) = free
turn told_done (sends true) = message
turn told_done (reads false) = free
turn told_done (reads true) = message
turn told_no_reply nothing = free
turn told_no_reply (sends arrived) = barred
turn told_no_reply (reads arrived) = barred
turn frame nothing = idle
turn frame (sends arrived) = free
turn frame (reads arrived) = free
turn (submit b) a = free
turn (deliver buffer) a = free
turn reset a = barred
turn restart_sender a = barred
turn restart_receiver a = barred

-- m arrivals and outcomes, and f idle frames, are left; held: a block that had to be taken before a read arrives
abbrev pub Pays : Turn → Bool → ℕ → ℕ → (ℕ → ℕ → Type 0) → Type 0
Pays free held m f rest = rest m f
Pays message held zero f rest = ⊥
Pays message held (suc m) f rest = rest m f
Pays read true m f rest = Unit {0}
Pays read false zero f rest = ⊥
Pays read false (suc m) f rest = rest m f
Pays idle held m zero rest = ⊥
Pays idle held m (suc f) rest = rest m f
Pays barred held m f rest = Unit {0}

-- an answer that ends the wait must be a good one
abbrev pub IsJudged : Answer → Type 0 → Type 0 → Type 0
IsJudged denied good rest = rest
IsJudged ok good rest = rest
IsJudged (gave b) good rest = rest
IsJudged accepted good rest = good
IsJudged confirmed good rest = good
IsJudged (failed f) good rest = good

-- Whatever comes, as long as all goes well: no more than m arrivals and outcomes and f idle frames are used up, and the answer that ends the
-- wait is a good one.
module _ (M : Machine) (held : M.State → Bool) (Good : Answer → ℕ → World M → Type 0) where
  abbrev pub Comes : ℕ → ℕ → List Event → World M → Type 0
  Comes m f [] w = Unit {0}
  Comes m f (e ∷ es) w =
      Pays (turn e (M.asks w.state)) (held w.state) m f
      (λ m f. IsJudged (M.says e w.state) (Good (M.says e w.state) m (goes M e w)) (Comes m f es (goes M e w)))

-- ---- demand 3

abbrev pub is_given : Answer → Bool
is_given (gave b) = true
is_given denied = false
is_given ok = false
is_given accepted = false
is_given confirmed = false
is_given (failed f) = false

abbrev pub messages : ℕ → ℕ
messages size = (size + 63) / 64

module _ (M : Machine) where
  -- a take with a buffer for any block would give one
  abbrev pub holding : M.State → Bool
  holding s = is_given (M.says (deliver (replicate 4096 0)) s)

  -- the receiver holds neither block nor message parts
  pub record Clear (s : M.State) : Type 0 where
    pub hand : holding s ≡ false
    pub parts : M.parts s ≡ 0

  pub record Accepted (a : Answer) (m : ℕ) (w : World M) : Type 0 where
    pub answer : a ≡ accepted
    pub clear : Clear w.state

  -- the block is confirmed, delivered byte for byte whatever its quality, and cost exactly k + 2 messages, as the count says
  pub record Confirmed (b : Load) (before : List Block) (a : Answer) (m : ℕ) (w : World M) : Type 0 where
    pub answer : a ≡ confirmed
    pub delivered : w.seen.delivered ≡ b.block ∷ before
    pub left : m ≡ 0
    pub count : M.count w.state ≡ messages (length b.block) + 2
    pub clear : Clear w.state

-- the last number that a message count has
abbrev pub last_count : ℕ
last_count = 65535

pub record Promise (largest : ℕ) (M : Machine) : Type 0 where
  pub kept : (es : List Event) → Kept (after M es).seen
  -- the message count given is that of the messages asked for
  pub counts : (es : List Event) → M.count (after M es).state ≡ min (after M es).seen.messages last_count
  -- if all goes well, a Reset is accepted within three messages (one may be out already) and two idle frames
  pub accepts : (es fs : List Event) → Comes M (λ s. false) (Accepted M) (2 * 3) 2 fs (goes M reset (after M es))
  -- a Reset accepted, nothing open, fewer than 254 started and a size that the link takes: not refused
  pub admits : (es : List Event) (b : Load) → (after M es).seen.sound ≡ true → (after M es).seen.pending ≡ 0 → (after M es).seen.started < 254
      → 0 < length b.block → length b.block ≤ largest → M.says (submit b) (after M es).state ≡ ok
  -- a Reset accepted, neither end restarted since it was asked for, the receiver clear: if all goes well, an accepted submission is confirmed
  pub confirms : (es : List Event) (b : Load) (fs : List Event) → (after M es).seen.sound ≡ true → Clear M (after M es).state
      → M.says (submit b) (after M es).state ≡ ok
      → Comes M (holding M) (Confirmed M b (after M es).seen.delivered) (2 * (messages (length b.block) + 2)) 2 fs (goes M (submit b) (after M es))
