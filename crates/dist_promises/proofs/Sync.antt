-- What the two ends and the onlooker have in common after every event: the last handled count, the standing Reset, the open transfer.
-- Assumes nothing.
use Prim.Native.Nat.{ℕ, zero, suc, ◌+◌, ◌≤◌, ◌<◌}
use mathlib.Core.Path.{◌≡◌, refl, ap}
use mathlib.Core.Bool.{Bool, true, false, cond}
use native.Mathlib.Omega.{arith}
use Rattle.promises.specs.Run.{Ledger, noted}
use Rattle.dist_promises.proofs.Parts.{Parts}
use Rattle.dist_promises.proofs.Model.{Word, w_none, w_reset, w_count, w_error, Hand, empty, held, Flight, away, came, caught}
use Rattle.dist_promises.proofs.Model.{Phase, idle, send_data, send_desc, await, reading, reset_first, send_reset, await_reset, reading_reset}
use Rattle.dist_promises.proofs.Model.{Tx, Rx, next, limit, is_open, fresh_tx, fresh_rx}
use Rattle.dist_promises.proofs.Circle.{Near, next_near, near_same}
use Rattle.dist_promises.proofs.Invariant.{IsFalse, IsAway, OtherHand, OtherWord}

-- the last handled count: none, or at most s places behind n
abbrev pub NearHandled : ℕ → ℕ → ℕ → Type 0
NearHandled s n zero = Unit {0}
NearHandled s n (suc d) = Near s n (suc d)

abbrev pub CloseHandled : Bool → ℕ → ℕ → ℕ → Type 0
CloseHandled false s n d = Unit {0}
CloseHandled true s n d = NearHandled s n d

-- the count n is in hand, or shown at 27T, only if it is the last handled one
abbrev pub HandHandled : Hand → ℕ → ℕ → Type 0
HandHandled empty n d = Unit {0}
HandHandled (held c b) n d = c ≡ n → d ≡ n

abbrev pub WordHandled : Word → ℕ → ℕ → Type 0
WordHandled w_none n d = Unit {0}
WordHandled w_reset n d = Unit {0}
WordHandled (w_count c) n d = c ≡ n → d ≡ n
WordHandled (w_error c) n d = Unit {0}

-- a word that was read before: the terminal may have restarted since
abbrev pub ReadHandled : Word → ℕ → ℕ → Type 0
ReadHandled w_none n d = Unit {0}
ReadHandled w_reset n d = Unit {0}
ReadHandled (w_count c) n d = c ≡ n → NearHandled 0 n d
ReadHandled (w_error c) n d = Unit {0}

abbrev pub CaughtHandled : Flight → ℕ → ℕ → Type 0
CaughtHandled away n d = Unit {0}
CaughtHandled came n d = Unit {0}
CaughtHandled (caught w) n d = ReadHandled w n d

-- with a Reset asked for and no restart since, the terminal has seen it
abbrev pub Awaits : Bool → Bool → Type 0
Awaits false e = Unit {0}
Awaits true e = e ≡ true

-- once the message has arrived
abbrev pub Once : Flight → Type 0 → Type 0
Once away A = Unit {0}
Once came A = A
Once (caught w) A = A

-- the onlooker knows of an accepted Reset: so does the controller, the terminal has seen it, and both count the same starts
abbrev pub Standing : Bool → Bool → Bool → ℕ → ℕ → Type 0
Standing false a e k s = Unit {0}
Standing true a e k s = (a ≡ true) × (e ≡ true) × (k ≡ s)

module _ (P : Parts) where
  -- the descriptor is out
  pub record Out (n : ℕ) (r : Rx P.Store) : Type 0 where
    pub low : 1 ≤ n
    pub high : n ≤ 255
    pub in_hand : HandHandled r.hand n r.handled
    pub in_word : WordHandled r.word n r.handled

  -- the Reset has arrived
  pub record ResetOut (q : Bool) (r : Rx P.Store) : Type 0 where
    pub seen : Awaits q r.seen
    pub handled : r.handled ≡ 0
    pub parts : P.number r.parts ≡ 0

  -- q: the onlooker's `asked`
  abbrev pub PhaseSync : Phase → Flight → Bool → ℕ → Rx P.Store → Type 0
  PhaseSync idle f q n r = Unit {0}
  PhaseSync (send_data b j) f q n r = Unit {0}
  PhaseSync (send_desc v k) f q n r = Once f (Out n r)
  PhaseSync await f q n r = Out n r
  PhaseSync reading f q n r = Out n r × CaughtHandled f n r.handled
  PhaseSync (reset_first m) f q n r = Unit {0}
  PhaseSync send_reset f q n r = Once f (ResetOut q r)
  PhaseSync await_reset f q n r = ResetOut q r
  PhaseSync reading_reset f q n r = ResetOut q r

  pub record Sync (t : Tx) (r : Rx P.Store) (f : Flight) (now : ℕ) (l : Ledger) : Type 0 where
    pub tick : now < 65536
    pub handled : CloseHandled t.accepted t.spent t.count r.handled
    pub phase : PhaseSync t.phase f l.asked t.count r
    pub standing : Standing l.sound t.accepted r.seen l.started t.spent
    pub pending : l.pending ≡ cond (is_open t.phase) 1 0

  -- the onlooker's count of messages is not in it
  pub noted_sync : (p m : ℕ) (t : Tx) (r : Rx P.Store) (f : Flight) (now : ℕ) (l : Ledger) → Sync t r f now l → Sync t r f now (noted p m l)
  noted_sync zero m t r f now l i = i
  noted_sync (suc p) m t r f now l i =
      record { tick = i.tick; handled = i.handled; phase = i.phase; standing = i.standing; pending = i.pending }

  pub sync_fresh : (l : Ledger) → l.sound ≡ false → l.pending ≡ 0 → Sync fresh_tx (fresh_rx P) away 0 l
  sync_fresh l e h = record { tick = omega arith; handled = tt; phase = tt; standing = rw e tt; pending = h }

-- ---- small laws

pub near_next : (s n d : ℕ) → s < limit → NearHandled s n d → NearHandled (s + 1) (next n) d
near_next s n zero h k = tt
near_next s n (suc d) h k = next_near s n (suc d) h k

near_self : (s n : ℕ) → 1 ≤ n → n ≤ 255 → NearHandled s n n
near_self s zero g h = tt
near_self s (suc n) g h = near_same s (suc n) g h

pub near_equal : (s n d : ℕ) → 1 ≤ n → n ≤ 255 → d ≡ n → NearHandled s n d
near_equal s n d g h e = rw e (near_self s n g h)

pub close_self : (a : Bool) (s n : ℕ) → 1 ≤ n → n ≤ 255 → CloseHandled a s n n
close_self false s n g h = tt
close_self true s n g h = near_self s n g h

pub close_near : (a : Bool) (s n d : ℕ) → NearHandled s n d → CloseHandled a s n d
close_near false s n d k = tt
close_near true s n d k = k

pub close_zero : (a : Bool) (s n : ℕ) → CloseHandled a s n 0
close_zero false s n = tt
close_zero true s n = tt

pub close_none : (a : Bool) (s n d : ℕ) → IsFalse a → CloseHandled a s n d
close_none false s n d k = tt
close_none true s n d k = absurd k

pub standing_next : (o a e : Bool) (k s : ℕ) → Standing o a e k s → Standing o a e (k + 1) (s + 1)
standing_next false a e k s h = tt
standing_next true a e k s h = (h.0, h.1, ap (λ (x : ℕ). x + 1) h.2)

pub standing_zero : (o a e : Bool) (k s : ℕ) → Standing o a e k s → Standing o a e 0 0
standing_zero false a e k s h = tt
standing_zero true a e k s h = (h.0, h.1, refl)

-- with no Reset accepted the onlooker knows of none
pub standing_none : (o a e u : Bool) (k s : ℕ) → IsFalse a → Standing o a e k s → Standing o a u k s
standing_none false a e u k s i h = tt
standing_none true true e u k s i h = absurd i
standing_none true false e u k s i h = let z : ◌≡◌ {A = ℕ} 0 1 = cc h.0 in absurd (ne z)
  where
    ne : ◌≡◌ {A = ℕ} 0 1 → ⊥
    ne z = omega arith

pub caught_away : (f : Flight) (n d : ℕ) → IsAway f → CaughtHandled f n d
caught_away away n d k = tt
caught_away came n d k = absurd k
caught_away (caught w) n d k = absurd k

pub once_away : (f : Flight) (A : Type 0) → IsAway f → Once f A
once_away away A k = tt
once_away came A k = absurd k
once_away (caught w) A k = absurd k

-- what the terminal cannot know yet
pub other_hand_lem : (h : Hand) (n d : ℕ) → OtherHand n h → HandHandled h n d
other_hand_lem empty n d k = tt
other_hand_lem (held c b) n d k = λ e. absurd (k e)

pub other_word_lem : (w : Word) (n d : ℕ) → OtherWord n w → WordHandled w n d
other_word_lem w_none n d k = tt
other_word_lem w_reset n d k = tt
other_word_lem (w_count c) n d k = λ e. absurd (k e)
other_word_lem (w_error c) n d k = tt
