-- The sixteen marks: what a mark changes, and what is missing.
-- Assumes nothing.
use mathlib.Core.Path.{◌≡◌, refl, sym, ap, ◌∙◌}
use mathlib.Core.Bool.{Bool, true, false, cond, ◌&&◌}
use mathlib.Core.List.{List, [], ◌∷◌}
use Prim.Native.Nat.{ℕ, zero, suc, ◌+◌, ◌-◌, ◌≤◌, ◌<◌}
use native.Mathlib.Omega.{arith}
use lib.ListN.{length, take, get_or, set, length-take, length-set}
use lib.Seq.{get_or-take, get_or-set_same, get_or-set_other, set-get_or}
use borrow.Author.Tests.{le-leb, le-ltb, lt-ltb, leb-true, ltb-true, ltb-false}
use Rattle.words.proofs.Ranges.{by, both}
use lib.Dec.{leb, ltb}
use lib.Bits.{bit_or, or_lt}
use lib.Count.{ones}
use lib.Pow.{pow-lt}
use Rattle.std.specs.Prelude.{Some, None, min, ◌^◌, ◌*◌, ◌/◌, ◌%◌, eqb}
use Rattle.std.specs.Int.{w16, trailing_ones}
use Rattle.std.specs.Option.{unwrap_or}
use Rattle.stores.specs.Marks.{missing_of, marks_of, number_of, trues, first_false, has_mark, mark_of, is_marked_of, marked_of, lowest_missing_of}
use Rattle.stores.proofs.Digits.{length_marks, number_marks, marks_number, trues_le, trues_more, number_lt, bit_is, or_marks, mark_at, ones_trues, lowest, first_within, first_behind}

-- ---- what a mark changes

pub inside : (s : ℕ) → has_mark s ≡ true → (11 ≤ s) × (s ≤ 26)
unfolding has_mark
inside s h = let b = both (leb 11 s) (leb s 26) h in (leb-true 11 s b.0, leb-true s 26 b.1)

marks_after : (m s : ℕ) → marks_of 16 (number_of (set (marks_of 16 m) (s - 11) true)) ≡ set (marks_of 16 m) (s - 11) true
marks_after m s = marks_number 16 (set (marks_of 16 m) (s - 11) true) (simp length-set (length_marks 16 m))

-- what the machine does to a mark
pub bit_set : (m s : ℕ) → m < 65536 → has_mark s ≡ true → bit_or m (1 * 2 ^ (s - 11) % 65536) ≡ mark_of m s
unfolding mark_of
bit_set m s h e =
    let i = s - 11 in
    let b = inside s e in
    let l : i < 16 = omega arith in
    simp e (rw (bit_is i l, ← or_marks 16 m i) (sym (number_marks 16 (bit_or m (2 ^ i)) (or_lt 16 m (2 ^ i) h (pow-lt l)))))

pub bit_read : (m s : ℕ) → has_mark s ≡ true → eqb (m / 2 ^ (s - 11) % 2) 1 ≡ is_marked_of m s
unfolding is_marked_of
bit_read m s e =
    let b = inside s e in
    simp e (sym (mark_at 16 m (s - 11) (omega arith)))

pub bits_counted : (m : ℕ) → m < 65536 → ones m ≡ marked_of m
unfolding marked_of
bits_counted m h = ones_trues 16 m h

-- a subaddress that can be marked is marked after its mark
pub marked_same : (m s : ℕ) → has_mark s ≡ true → is_marked_of (mark_of m s) s ≡ true
unfolding is_marked_of mark_of
marked_same m s h =
    let b = inside s h in
    let l = length_marks 16 m in
    simp (h, marks_after m s, get_or-set_same (marks_of 16 m) (s - 11) true false (omega arith))

-- and no other mark changes
pub marked_other : (m s t : ℕ) → (t ≡ s → ⊥) → is_marked_of (mark_of m s) t ≡ is_marked_of m t
unfolding is_marked_of mark_of
marked_other m s t ne = by (has_mark t) there (λ e. simp e)
  where
    there : has_mark t ≡ true → (has_mark t && get_or (marks_of 16 (cond (has_mark s) (number_of (set (marks_of 16 m) (s - 11) true)) m)) (t - 11) false) ≡ (has_mark t && get_or (marks_of 16 m) (t - 11) false)
    there e = by (has_mark s) (λ f.
        let b = inside s f in
        let d = inside t e in
        let apart : t - 11 ≡ s - 11 → ⊥ = λ z. ne (omega arith) in
        simp (e, f, marks_after m s, get_or-set_other (marks_of 16 m) (s - 11) (t - 11) true false apart)) (λ f. simp f)

no_digit : (k i : ℕ) → get_or (marks_of k 0) i false ≡ false
unfolding marks_of
no_digit zero i = refl
no_digit (suc k) zero = refl
no_digit (suc k) (suc i) = no_digit k i

pub none_marked : (s : ℕ) → is_marked_of 0 s ≡ false
unfolding is_marked_of
none_marked s = by (has_mark s) (λ e. simp (e, no_digit 16 (s - 11))) (λ e. simp e)

pub none_counted : marked_of 0 ≡ 0
unfolding marked_of marks_of trues
none_counted = refl

pub marked_le : (m : ℕ) → marked_of m ≤ 16
unfolding marked_of
marked_le m = let l = length_marks 16 m in omega (arith, trues_le (marks_of 16 m))

-- a new mark counts one more; an old one changes nothing
pub marked_more : (m s : ℕ) → has_mark s ≡ true → is_marked_of m s ≡ false → marked_of (mark_of m s) ≡ marked_of m + 1
unfolding is_marked_of mark_of marked_of
marked_more m s h e =
    let b = inside s h in
    let l = length_marks 16 m in
    simp (h, marks_after m s) (trues_more (marks_of 16 m) (s - 11) (omega arith) (simp h at e))

pub mark_twice : (m s : ℕ) → m < 65536 → is_marked_of m s ≡ true → mark_of m s ≡ m
unfolding is_marked_of mark_of
mark_twice m s h e =
    let b = both (has_mark s) (get_or (marks_of 16 m) (s - 11) false) e in
    let same : set (marks_of 16 m) (s - 11) true ≡ marks_of 16 m = rw b.1 at (set-get_or (marks_of 16 m) (s - 11) false) in
    simp (b.0, same) (number_marks 16 m h)

pub mark_lt : (m s : ℕ) → m < 65536 → mark_of m s < 65536
unfolding mark_of
mark_lt m s h =
    let n = number_lt (set (marks_of 16 m) (s - 11) true) in
    let l : length (set (marks_of 16 m) (s - 11) true) ≡ 16 = simp length-set (length_marks 16 m) in
    by (has_mark s) (λ e. simp e (rw l at n)) (λ e. simp e h)

-- ---- what is missing

first_le : (k : ℕ) (bs : List Bool) → first_false k bs ≤ k
unfolding first_false
first_le k [] = omega arith
first_le zero (b ∷ bs) = omega arith
first_le (suc k) (true ∷ bs) = omega (arith, first_le k bs)
first_le (suc k) (false ∷ bs) = omega arith

first_none : (k : ℕ) (bs : List Bool) → length bs ≤ k → first_false k bs ≡ k → (i : ℕ) → i < length bs → get_or bs i false ≡ true
unfolding first_false
first_none k [] h e i l = let z : ⊥ = omega arith in absurd z
first_none zero (b ∷ bs) h e i l = let z : ⊥ = omega arith in absurd z
first_none (suc k) (true ∷ bs) h e zero l = refl
first_none (suc k) (true ∷ bs) h e (suc i) l = first_none k bs (omega arith) (omega arith) i (omega arith)
first_none (suc k) (false ∷ bs) h e i l = let z : ⊥ = omega arith in absurd z

first_all : (k : ℕ) (bs : List Bool) → length bs ≤ k → ((i : ℕ) → i < length bs → get_or bs i false ≡ true) → first_false k bs ≡ k
unfolding first_false
first_all k [] h f = refl
first_all zero (b ∷ bs) h f = let z : ⊥ = omega arith in absurd z
first_all (suc k) (true ∷ bs) h f = ap suc (first_all k bs (omega arith) (λ i l. f (suc i) (omega arith)))
first_all (suc k) (false ∷ bs) h f = let z : ◌≡◌ {A = ℕ} 0 1 = cc (f 0 (omega arith)) in omega arith

has_place : (k : ℕ) → k < 16 → has_mark (11 + k) ≡ true
unfolding has_mark
has_place k h = simp (le-leb 11 (11 + k) (omega arith), le-leb (11 + k) 26 (omega arith))

mark_of_lem : (m k : ℕ) → k < 16 → is_marked_of m (11 + k) ≡ get_or (marks_of 16 m) k false
unfolding is_marked_of
mark_of_lem m k h = let e : 11 + k - 11 ≡ k = omega arith in simp (has_place k h, e)

-- the lowest bit that is not set is missing where it is one of the first n
pub missing_there : (m n p : ℕ) → m < 65536 → p ≡ trailing_ones w16 m → p < min n 16 → missing_of m n ≡ Some (11 + p)
unfolding missing_of
missing_there m n p h e l =
    let q : p ≡ first_false 16 (marks_of 16 m) = e ∙ lowest 16 m h in
    let same = first_within 16 n (marks_of 16 m) (omega arith) ∙ sym q in
    rw (same, lt-ltb p 16 (omega arith))

-- and none is where it is behind them
pub missing_nowhere : (m n p : ℕ) → m < 65536 → p ≡ trailing_ones w16 m → min n 16 ≤ p → missing_of m n ≡ None
unfolding missing_of
missing_nowhere m n p h e l = by (ltb p n) (λ f. inner (ltb-true p n f)) (λ f. outer (ltb-false p n f))
  where
    q : p ≡ first_false 16 (marks_of 16 m)
    q = e ∙ lowest 16 m h

    inner : p < n → missing_of m n ≡ None
    inner f = let same = first_within 16 n (marks_of 16 m) (omega (arith, q)) ∙ sym q in rw (same, le-ltb p 16 (omega arith))

    outer : n ≤ p → missing_of m n ≡ None
    outer f = rw (first_behind 16 n (marks_of 16 m) (omega (arith, q)))

-- 0 stands for none
pub missing_or_zero : (m n : ℕ) → unwrap_or (missing_of m n) 0 ≡ lowest_missing_of m n
unfolding missing_of lowest_missing_of
missing_or_zero m n = let p = first_false 16 (take n (marks_of 16 m)) in by (ltb p 16) (λ f. simp f) (λ f. simp f)

-- 0 says that none of the first n is missing
pub none_missing : (m n : ℕ) → lowest_missing_of m n ≡ 0 → (k : ℕ) → k < n → k < 16 → is_marked_of m (11 + k) ≡ true
unfolding lowest_missing_of
none_missing m n e k h l =
    let bs = take n (marks_of 16 m) in
    let p = first_false 16 bs in
    let s = length_marks 16 m in
    let t = length-take n (marks_of 16 m) in
    let u = first_le 16 bs in
    let full : p ≡ 16 = by (ltb p 16) (λ f. let z : 11 + p ≡ 0 = simp f at e in omega arith) (λ f. let z = ltb-false p 16 f in omega arith) in
    mark_of_lem m k l ∙ sym (get_or-take n (marks_of 16 m) k false h) ∙ first_none 16 bs (omega arith) full k (omega arith)

pub missing_none : (m n : ℕ) → ((k : ℕ) → k < n → k < 16 → is_marked_of m (11 + k) ≡ true) → lowest_missing_of m n ≡ 0
unfolding lowest_missing_of
missing_none m n f =
    let bs = take n (marks_of 16 m) in
    let s = length_marks 16 m in
    let t = length-take n (marks_of 16 m) in
    rw (first_all 16 bs (omega arith) (λ i l. get_or-take n (marks_of 16 m) i false (omega arith) ∙ sym (mark_of_lem m i (omega arith)) ∙ f i (omega arith) (omega arith)))

first_in : (k : ℕ) (bs : List Bool) → first_false k bs < k → (first_false k bs < length bs) × (get_or bs (first_false k bs) false ≡ false)
unfolding first_false
first_in k [] h = let z : ⊥ = omega arith in absurd z
first_in zero (b ∷ bs) h = let z : ⊥ = omega arith in absurd z
first_in (suc k) (true ∷ bs) h = let r = first_in k bs (omega arith) in (omega arith, r.1)
first_in (suc k) (false ∷ bs) h = (omega arith, refl)

-- another answer is a subaddress of the first n that has no mark
pub missing_is : (m n : ℕ) → (lowest_missing_of m n ≡ 0 → ⊥) → (lowest_missing_of m n < 11 + n) × (lowest_missing_of m n ≤ 26) × (is_marked_of m (lowest_missing_of m n) ≡ false)
unfolding lowest_missing_of
missing_is m n ne =
    let bs = take n (marks_of 16 m) in
    let p = first_false 16 bs in
    let t = length-take n (marks_of 16 m) in
    let lt : p < 16 = by (ltb p 16) (λ f. ltb-true p 16 f) (λ f. absurd (ne (simp f))) in
    let r = first_in 16 bs lt in
    let same : get_or (marks_of 16 m) p false ≡ false = sym (get_or-take n (marks_of 16 m) p false (omega arith)) ∙ r.1 in
    rw (lt-ltb p 16 lt) (omega arith, omega arith, mark_of_lem m p lt ∙ same)

first_below : (k : ℕ) (bs : List Bool) → first_false k bs < k → (i : ℕ) → i < first_false k bs → get_or bs i false ≡ true
unfolding first_false
first_below k [] h i l = let z : ⊥ = omega arith in absurd z
first_below zero (b ∷ bs) h i l = let z : ⊥ = omega arith in absurd z
first_below (suc k) (true ∷ bs) h zero l = refl
first_below (suc k) (true ∷ bs) h (suc i) l = first_below k bs (omega arith) i (omega arith)
first_below (suc k) (false ∷ bs) h i l = let z : ⊥ = omega arith in absurd z

-- and each below it has one
pub missing_lowest : (m n : ℕ) → (lowest_missing_of m n ≡ 0 → ⊥) → (k : ℕ) → 11 + k < lowest_missing_of m n → is_marked_of m (11 + k) ≡ true
unfolding lowest_missing_of
missing_lowest m n ne k h =
    let bs = take n (marks_of 16 m) in
    let p = first_false 16 bs in
    let t = length-take n (marks_of 16 m) in
    let lt : p < 16 = by (ltb p 16) (λ f. ltb-true p 16 f) (λ f. absurd (ne (simp f))) in
    let g : 11 + k < 11 + p = rw (lt-ltb p 16 lt) at h in
    let r = first_in 16 bs lt in
    mark_of_lem m k (omega arith) ∙ sym (get_or-take n (marks_of 16 m) k false (omega arith)) ∙ first_below 16 bs lt k (omega arith)
