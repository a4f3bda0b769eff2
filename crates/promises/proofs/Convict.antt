-- A computed test that the ledger of every machine which keeps its promise passes: a wrong machine fails it at one run.
-- Assumes nothing.
use Prim.Native.Nat.{ℕ, suc, ◌≤◌}
use mathlib.Core.Path.{◌≡◌, refl, ap, subst, sym}
use mathlib.Core.Bool.{Bool, true, false, ◌&&◌, ◌||◌}
use mathlib.Core.List.{List, [], ◌∷◌}
use native.Mathlib.Omega.{arith}
use lib.Dec.{T, eqb, leb, eqb_refl, le→leb}
use lib.ListN.{length}
use Rattle.promises.specs.Run.{Block, Load, Event, Item, Ledger, Machine, after, Answer, denied, ok, accepted, confirmed, failed, gave}
use Rattle.promises.specs.Promise.{Within, none, skip, keep, Same, Match, Kept, Promise}

abbrev pub eq_block : Block → Block → Bool
eq_block [] [] = true
eq_block [] (y ∷ ys) = false
eq_block (x ∷ xs) [] = false
eq_block (x ∷ xs) (y ∷ ys) = eqb x y && eq_block xs ys

abbrev pub eq_load : Bool → Block → Block → Bool
eq_load true a b = eq_block a b
eq_load false a b = eqb (length a) (length b)

-- t may be what was taken of x
abbrev pub fits : Load → Block → Bool
fits x t = eq_load x.verified x.block t

abbrev pub is_submitted : Block → List Item → Bool
is_submitted t [] = false
is_submitted t (x ∷ xs) = fits x.load t || is_submitted t xs

abbrev pub all_submitted : List Block → List Item → Bool
all_submitted [] xs = true
all_submitted (t ∷ ts) xs = is_submitted t xs && all_submitted ts xs

abbrev pub is_delivered : Item → List Block → Bool
is_delivered x [] = false
is_delivered x (t ∷ ts) = fits x.load t || is_delivered x ts

abbrev pub all_delivered : List Item → List Block → Bool
all_delivered [] ts = true
all_delivered (x ∷ xs) ts = is_delivered x ts && all_delivered xs ts

-- each delivery may be one of the submissions, and each confirmed submission one of the deliveries, and no more of them
abbrev pub passes : Ledger → Bool
passes l =
    all_submitted l.delivered l.submitted
    && (all_delivered l.confirmed l.delivered && leb (length l.confirmed) (length l.delivered))

pub and_T : (a b : Bool) → T a → T b → T (a && b)
and_T true b p q = q
and_T false b p q = p

pub and_0 : (a b : Bool) → T (a && b) → T a
and_0 true b p = tt
and_0 false b p = p

pub and_1 : (a b : Bool) → T (a && b) → T b
and_1 true b p = p
and_1 false b p = absurd p

pub or_0 : (a b : Bool) → T a → T (a || b)
or_0 true b p = tt
or_0 false b p = absurd p

pub or_1 : (a b : Bool) → T b → T (a || b)
or_1 true b p = tt
or_1 false b p = p

same : (x : Block) → T (eq_block x x)
same [] = tt
same (x ∷ xs) = and_T (eqb x x) (eq_block xs xs) (eqb_refl x) (same xs)

fits_true : (v : Bool) (a b : Block) → Same v a b → T (eq_load v a b)
fits_true true a b e = subst (λ (c : Block). T (eq_block a c)) e (same a)
fits_true false a b e = subst (λ (n : ℕ). T (eqb (length a) n)) e (eqb_refl (length a))

more_submitted : (y : Item) (ts : List Block) (xs : List Item) → T (all_submitted ts xs) → T (all_submitted ts (y ∷ xs))
more_submitted y [] xs p = tt
more_submitted y (t ∷ ts) xs p =
    and_T (is_submitted t (y ∷ xs)) (all_submitted ts (y ∷ xs))
    (or_1 (fits y.load t) (is_submitted t xs) (and_0 (is_submitted t xs) (all_submitted ts xs) p))
    (more_submitted y ts xs (and_1 (is_submitted t xs) (all_submitted ts xs) p))

more_delivered : (t : Block) (xs : List Item) (ts : List Block) → T (all_delivered xs ts) → T (all_delivered xs (t ∷ ts))
more_delivered t [] ts p = tt
more_delivered t (x ∷ xs) ts p =
    and_T (is_delivered x (t ∷ ts)) (all_delivered xs (t ∷ ts))
    (or_1 (fits x.load t) (is_delivered x ts) (and_0 (is_delivered x ts) (all_delivered xs ts) p))
    (more_delivered t xs ts (and_1 (is_delivered x ts) (all_delivered xs ts) p))

within_submitted : {xs ys : List Item} → Within xs ys → (ts : List Block) → Match xs ts → T (all_submitted ts ys)
within_submitted none [] m = tt
within_submitted none (t ∷ ts) m = absurd m
within_submitted (skip {y = y} {ys = ys} h) ts m = more_submitted y ts ys (within_submitted h ts m)
within_submitted (keep h) [] m = absurd m
within_submitted (keep {x = x} {ys = ys} h) (t ∷ ts) m =
    and_T (is_submitted t (x ∷ ys)) (all_submitted ts (x ∷ ys))
    (or_0 (fits x.load t) (is_submitted t ys) (fits_true x.load.verified x.load.block t m.0))
    (more_submitted x ts ys (within_submitted h ts m.1))

within_delivered : {xs ys : List Item} → Within xs ys → (ts : List Block) → Match ys ts → T (all_delivered xs ts)
within_delivered none ts m = tt
within_delivered (skip h) [] m = absurd m
within_delivered (skip {xs = xs} h) (t ∷ ts) m = more_delivered t xs ts (within_delivered h ts m.1)
within_delivered (keep h) [] m = absurd m
within_delivered (keep {x = x} {xs = xs} h) (t ∷ ts) m =
    and_T (is_delivered x (t ∷ ts)) (all_delivered xs (t ∷ ts))
    (or_0 (fits x.load t) (is_delivered x ts) (fits_true x.load.verified x.load.block t m.0))
    (more_delivered t xs ts (within_delivered h ts m.1))

within_length : {xs ys : List Item} → Within xs ys → length xs ≤ length ys
within_length none = omega arith
within_length (skip h) = omega (arith, within_length h)
within_length (keep h) = omega (arith, within_length h)

match_length : (xs : List Item) (ts : List Block) → Match xs ts → length xs ≡ length ts
match_length [] [] m = refl
match_length [] (t ∷ ts) m = absurd m
match_length (x ∷ xs) [] m = absurd m
match_length (x ∷ xs) (t ∷ ts) m = ap suc (match_length xs ts m.1)

kept_passes : (l : Ledger) → Kept l → T (passes l)
kept_passes l k =
    let e = match_length k.taken l.delivered k.match in
    and_T (all_submitted l.delivered l.submitted)
    (all_delivered l.confirmed l.delivered && leb (length l.confirmed) (length l.delivered))
    (within_submitted k.order l.delivered k.match)
    (and_T (all_delivered l.confirmed l.delivered) (leb (length l.confirmed) (length l.delivered))
    (within_delivered k.before l.delivered k.match)
    (le→leb (length l.confirmed) (length l.delivered) (omega (arith, e, within_length k.before))))

pub convict : (largest : ℕ) (M : Machine) (es : List Event) → Promise largest M → T (passes (after M es).seen)
convict largest M es p = kept_passes (after M es).seen (p.kept es)

-- answers are told apart by computing

abbrev pub IsOk : Answer → Type 0
IsOk ok = Unit {0}
IsOk denied = ⊥
IsOk accepted = ⊥
IsOk confirmed = ⊥
IsOk (failed f) = ⊥
IsOk (gave b) = ⊥

-- a submission that had to be accepted and was not: `a` computes to another answer
pub not_ok : (a : Answer) → a ≡ ok → IsOk a
not_ok a e = subst IsOk (sym e) tt
