-- How a wait is proved: an invariant that knows how much is left of it, and a law for one event. And what a wait means.
-- Assumes nothing.
use Prim.Native.Nat.{ℕ, zero, suc, ◌+◌, ◌*◌, ◌<◌}
use mathlib.Core.Path.{◌≡◌, subst, sym}
use mathlib.Core.Bool.{Bool, true, false, ◌&&◌, ◌||◌}
use mathlib.Core.List.{List, [], ◌∷◌}
use native.Mathlib.Omega.{arith}
use lib.Dec.{T}
use lib.ListN.{length}
use Rattle.promises.specs.Run.{Load, Event, submit, reset, Answer, denied, ok, accepted, confirmed, failed, gave, Machine, World, goes, after}
use Rattle.promises.specs.Promise.{Turn, free, message, read, idle, barred, turn, Pays, IsJudged, Comes, Confirmed, Accepted, Clear, holding, messages, Promise}
use Rattle.promises.proofs.Convict.{and_0, and_1, or_0, or_1}

pub pay_map : (t : Turn) (h : Bool) (m f : ℕ) (K L : ℕ → ℕ → Type 0) → ((m f : ℕ) → K m f → L m f) → Pays t h m f K → Pays t h m f L
pay_map free h m f K L g p = g m f p
pay_map message h zero f K L g p = p
pay_map message h (suc m) f K L g p = g m f p
pay_map read true m f K L g p = tt
pay_map read false zero f K L g p = p
pay_map read false (suc m) f K L g p = g m f p
pay_map idle h m zero K L g p = p
pay_map idle h m (suc f) K L g p = g m f p
pay_map barred h m f K L g p = tt

pub judged_map : (a : Answer) (G H K L : Type 0) → (G → H) → (K → L) → IsJudged a G K → IsJudged a H L
judged_map denied G H K L g k p = k p
judged_map ok G H K L g k p = k p
judged_map (gave b) G H K L g k p = k p
judged_map accepted G H K L g k p = g p
judged_map confirmed G H K L g k p = g p
judged_map (failed f) G H K L g k p = g p

module _ (M : Machine) (held : M.State → Bool) (Good : Answer → ℕ → World M → Type 0) where
  -- one event of a wait, with R for what is left of it
  abbrev pub Turns : (ℕ → ℕ → World M → Type 0) → ℕ → ℕ → Event → World M → Type 0
  Turns R m f e w =
      Pays (turn e (M.asks w.state)) (held w.state) m f
      (λ m f. IsJudged (M.says e w.state) (Good (M.says e w.state) m (goes M e w)) (R m f (goes M e w)))

  pub comes : (Live : ℕ → ℕ → World M → Type 0) → ((e : Event) (m f : ℕ) (w : World M) → Live m f w → Turns Live m f e w)
      → (es : List Event) (m f : ℕ) (w : World M) → Live m f w → Comes M held Good m f es w
  comes Live law [] m f w h = tt
  comes Live law (e ∷ es) m f w h =
      pay_map (turn e (M.asks w.state)) (held w.state) m f
      (λ m f. IsJudged (M.says e w.state) (Good (M.says e w.state) m (goes M e w)) (Live m f (goes M e w)))
      (λ m f. IsJudged (M.says e w.state) (Good (M.says e w.state) m (goes M e w)) (Comes M held Good m f es (goes M e w)))
      (λ m f. judged_map (M.says e w.state) (Good (M.says e w.state) m (goes M e w)) (Good (M.says e w.state) m (goes M e w))
      (Live m f (goes M e w)) (Comes M held Good m f es (goes M e w)) (λ g. g) (comes Live law es m f (goes M e w)))
      (law e m f w h)

-- ---- what it means: a schedule in which all goes well, and with more useful events than were allowed, has heard the answer

abbrev pub fine : Turn → Bool → Bool
fine free h = true
fine message h = true
fine read true = false
fine read false = true
fine idle h = true
fine barred h = false

abbrev pub worth : Turn → ℕ
worth free = 0
worth message = 1
worth read = 1
worth idle = 1
worth barred = 0

abbrev pub is_confirmed : Answer → Bool
is_confirmed confirmed = true
is_confirmed denied = false
is_confirmed ok = false
is_confirmed accepted = false
is_confirmed (failed f) = false
is_confirmed (gave b) = false

abbrev pub is_accepted : Answer → Bool
is_accepted accepted = true
is_accepted denied = false
is_accepted ok = false
is_accepted confirmed = false
is_accepted (failed f) = false
is_accepted (gave b) = false

module _ (M : Machine) where
  abbrev pub all_well : (M.State → Bool) → List Event → World M → Bool
  all_well held [] w = true
  all_well held (e ∷ es) w = fine (turn e (M.asks w.state)) (held w.state) && all_well held es (goes M e w)

  abbrev pub useful : List Event → World M → ℕ
  useful [] w = 0
  useful (e ∷ es) w = worth (turn e (M.asks w.state)) + useful es (goes M e w)

  abbrev pub hears : (Answer → Bool) → List Event → World M → Bool
  hears want [] w = false
  hears want (e ∷ es) w = want (M.says e w.state) || hears want es (goes M e w)

no_event : (m f : ℕ) → m + f < 0 → ⊥
no_event m f u = omega arith

-- the answer that the wait is for, as every good answer is that one
module _ (want : Answer → Bool) where
  -- an answer that ends the wait is the good one; any other leaves the rest
  answer_heard : (a : Answer) (b : Bool) (G R : Type 0) → (G → T (want a)) → (R → T b) → IsJudged a G R → T (want a || b)
  answer_heard denied b G R g r p = or_1 (want denied) b (r p)
  answer_heard ok b G R g r p = or_1 (want ok) b (r p)
  answer_heard (gave x) b G R g r p = or_1 (want (gave x)) b (r p)
  answer_heard accepted b G R g r p = or_0 (want accepted) b (g p)
  answer_heard confirmed b G R g r p = or_0 (want confirmed) b (g p)
  answer_heard (failed f) b G R g r p = or_0 (want (failed f)) b (g p)

  turn_heard : (t : Turn) (h : Bool) (m f n : ℕ) (a : Answer) (b : Bool) (G : ℕ → Type 0) (R : ℕ → ℕ → Type 0) → ((m : ℕ) → G m → T (want a))
      → ((m f : ℕ) → m + f < n → R m f → T b) → T (fine t h) → m + f < worth t + n → Pays t h m f (λ m f. IsJudged a (G m) (R m f))
      → T (want a || b)
  turn_heard free h m f n a b G R g r q u p = answer_heard a b (G m) (R m f) (g m) (r m f (omega arith)) p
  turn_heard message h zero f n a b G R g r q u p = absurd p
  turn_heard message h (suc m) f n a b G R g r q u p = answer_heard a b (G m) (R m f) (g m) (r m f (omega arith)) p
  turn_heard read true m f n a b G R g r q u p = absurd q
  turn_heard read false zero f n a b G R g r q u p = absurd p
  turn_heard read false (suc m) f n a b G R g r q u p = answer_heard a b (G m) (R m f) (g m) (r m f (omega arith)) p
  turn_heard idle h m zero n a b G R g r q u p = absurd p
  turn_heard idle h m (suc f) n a b G R g r q u p = answer_heard a b (G m) (R m f) (g m) (r m f (omega arith)) p
  turn_heard barred h m f n a b G R g r q u p = absurd q

  module _ (M : Machine) (held : M.State → Bool) (Good : Answer → ℕ → World M → Type 0) (good : (a : Answer) (m : ℕ) (w : World M) → Good a m w → T (want a)) where
    pub comes_heard : (es : List Event) (m f : ℕ) (w : World M) → Comes M held Good m f es w
        → T (all_well M held es w) → m + f < useful M es w → T (hears M want es w)
    comes_heard [] m f w c a u = absurd (no_event m f u)
    comes_heard (e ∷ es) m f w c a u =
        turn_heard (turn e (M.asks w.state)) (held w.state) m f (useful M es (goes M e w)) (M.says e w.state) (hears M want es (goes M e w))
        (λ m. Good (M.says e w.state) m (goes M e w)) (λ m f. Comes M held Good m f es (goes M e w))
        (λ m g. good (M.says e w.state) m (goes M e w) g)
        (λ m f u c. comes_heard es m f (goes M e w) c (and_1 (fine (turn e (M.asks w.state)) (held w.state)) (all_well M held es (goes M e w)) a) u)
        (and_0 (fine (turn e (M.asks w.state)) (held w.state)) (all_well M held es (goes M e w)) a) u c

-- A machine that keeps its promise: with a Reset accepted and the receiver clear, an accepted submission of k data messages is reported confirmed
-- in every schedule in which all goes well and that has more than 2 * (k + 2) + 2 arrivals, outcomes and idle frames.
pub confirmed_at_last : (largest : ℕ) (M : Machine) → Promise largest M → (es : List Event) (b : Load) (fs : List Event)
    → (after M es).seen.sound ≡ true → Clear M (after M es).state → M.says (submit b) (after M es).state ≡ ok
    → T (all_well M (holding M) fs (goes M (submit b) (after M es)))
    → 2 * (messages (length b.block) + 2) + 2 < useful M fs (goes M (submit b) (after M es))
    → T (hears M is_confirmed fs (goes M (submit b) (after M es)))
confirmed_at_last largest M p es b fs i c o a u =
    comes_heard is_confirmed M (holding M) (Confirmed M b (after M es).seen.delivered)
    (λ a m w g. subst (λ (a : Answer). T (is_confirmed a)) (sym g.answer) tt)
    fs (2 * (messages (length b.block) + 2)) 2 (goes M (submit b) (after M es)) (p.confirms es b fs i c o) a u

-- and a Reset is accepted, at any time, in every schedule in which all goes well and that has more than 2 * 3 + 2 of them
pub accepted_at_last : (largest : ℕ) (M : Machine) → Promise largest M → (es fs : List Event)
    → T (all_well M (λ s. false) fs (goes M reset (after M es)))
    → 2 * 3 + 2 < useful M fs (goes M reset (after M es))
    → T (hears M is_accepted fs (goes M reset (after M es)))
accepted_at_last largest M p es fs a u =
    comes_heard is_accepted M (λ s. false) (Accepted M)
    (λ a m w g. subst (λ (a : Answer). T (is_accepted a)) (sym g.answer) tt)
    fs (2 * 3) 2 (goes M reset (after M es)) (p.accepts es fs) a u
