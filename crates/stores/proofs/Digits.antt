-- The bits of a number and its list of marks: what the operations of the machine say of the list.
-- Assumes nothing.
use mathlib.Core.Path.{◌≡◌, refl, ap, ◌∙◌}
use mathlib.Core.Bool.{Bool, true, false, cond}
use mathlib.Core.Logic.{◌⊎◌, inl, inr}
use mathlib.Core.List.{List, [], ◌∷◌}
use Prim.Native.Nat.{ℕ, zero, suc, ◌+◌, ◌-◌, ◌*◌, ◌/◌, ◌%◌, ◌^◌, ◌≤◌, ◌<◌}
use native.Mathlib.Nat.{pow-suc}
use native.Mathlib.Omega.{arith}
use lib.ListN.{length, take, get_or, set}
use lib.Dec.{eqb}
use lib.Bits.{bit_or, or_step, or_zero_r}
use lib.Count.{ones, ones_step, count_trailing_zeros, trailing_of_zero, under}
use lib.Pow.{pow-lt, shr-shr}
use Rattle.stores.specs.Marks.{marks_of, number_of, trues, first_false}

-- ---- digits

digit : (n : ℕ) → (n % 2 ≡ 0) ⊎ (n % 2 ≡ 1)
digit n = go (n % 2) (omega arith)
  where
    go : (r : ℕ) → r < 2 → (r ≡ 0) ⊎ (r ≡ 1)
    go zero h = inl refl
    go (suc zero) h = inr refl
    go (suc (suc r)) h = let z : ⊥ = omega arith in absurd z

-- a digit from its mark
digit_is : (n : ℕ) → cond (eqb (n % 2) 1) 1 0 ≡ n % 2
digit_is n = go (digit n)
  where
    go : (n % 2 ≡ 0) ⊎ (n % 2 ≡ 1) → cond (eqb (n % 2) 1) 1 0 ≡ n % 2
    go (inl e) = rw e
    go (inr e) = rw e

halved : (k m : ℕ) → m < 2 ^ suc k → m / 2 < 2 ^ k
halved k m h = let g = rw pow-suc at h in omega arith

pub length_marks : (k m : ℕ) → length (marks_of k m) ≡ k
unfolding marks_of
length_marks zero m = refl
length_marks (suc k) m = ap suc (length_marks k (m / 2))

-- a number is the number of its marks, and marks those of their number
pub number_marks : (k m : ℕ) → m < 2 ^ k → number_of (marks_of k m) ≡ m
unfolding marks_of number_of
number_marks zero m h = omega arith
number_marks (suc k) m h = rw (digit_is m, number_marks k (m / 2) (halved k m h)) (omega arith)

pub marks_number : (k : ℕ) (bs : List Bool) → length bs ≡ k → marks_of k (number_of bs) ≡ bs
unfolding marks_of number_of
marks_number zero [] e = refl
marks_number zero (b ∷ bs) e = let z : ⊥ = omega arith in absurd z
marks_number (suc k) [] e = let z : ⊥ = omega arith in absurd z
marks_number (suc k) (true ∷ bs) e =
    let a : (1 + 2 * number_of bs) % 2 ≡ 1 = omega arith in
    let b : (1 + 2 * number_of bs) / 2 ≡ number_of bs = omega arith in
    rw (a, b, marks_number k bs (omega arith))
marks_number (suc k) (false ∷ bs) e =
    let a : (0 + 2 * number_of bs) % 2 ≡ 0 = omega arith in
    let b : (0 + 2 * number_of bs) / 2 ≡ number_of bs = omega arith in
    rw (a, b, marks_number k bs (omega arith))

-- ---- the machine's operations

-- the count of ones is the count of marks
pub ones_trues : (k m : ℕ) → m < 2 ^ k → ones m ≡ trues (marks_of k m)
unfolding marks_of trues ones
ones_trues zero m h = let z : m ≡ 0 = omega arith in rw z
ones_trues (suc k) m h = rw (ones_step m, digit_is m) (ap (λ (x : ℕ). m % 2 + x) (ones_trues k (m / 2) (halved k m h)))

pub trues_le : (bs : List Bool) → trues bs ≤ length bs
unfolding trues
trues_le [] = omega arith
trues_le (true ∷ bs) = omega (arith, trues_le bs)
trues_le (false ∷ bs) = omega (arith, trues_le bs)

-- `or` with 2 ^ i sets mark i
pub or_marks : (k m i : ℕ) → marks_of k (bit_or m (2 ^ i)) ≡ set (marks_of k m) i true
unfolding marks_of
or_marks zero m i = refl
or_marks (suc k) m zero =
    let e : bit_or m 1 ≡ m / 2 * 2 + 1 = omega (arith, or_step m 1, or_zero_r (m / 2)) in
    let a : bit_or m 1 % 2 ≡ 1 = omega arith in
    let b : bit_or m 1 / 2 ≡ m / 2 = omega arith in
    rw (a, b)
or_marks (suc k) m (suc i) =
    let p : 2 ^ suc i ≡ 2 ^ i * 2 = pow-suc 2 i in
    let h : 2 ^ suc i / 2 ≡ 2 ^ i = omega arith in
    let z : 2 ^ suc i % 2 ≡ 0 = omega arith in
    let s = rw (h, z) at (or_step m (2 ^ suc i)) in
    let a : bit_or m (2 ^ suc i) % 2 ≡ m % 2 = omega arith in
    let b : bit_or m (2 ^ suc i) / 2 ≡ bit_or (m / 2) (2 ^ i) = omega arith in
    rw (a, b) (ap (λ (l : List Bool). eqb (m % 2) 1 ∷ l) (or_marks k (m / 2) i))

-- a bit at its place, as the code shifts it
pub bit_is : (i : ℕ) → i < 16 → 1 * 2 ^ i % 65536 ≡ 2 ^ i
bit_is i h = let b : 2 ^ i < 2 ^ 16 = pow-lt h in omega arith

-- mark i is the digit that a shift by i brings down
pub mark_at : (k m i : ℕ) → i < k → get_or (marks_of k m) i false ≡ eqb (m / 2 ^ i % 2) 1
unfolding marks_of
mark_at zero m i h = let z : ⊥ = omega arith in absurd z
mark_at (suc k) m zero h = let e : m / 1 ≡ m = omega arith in rw e
mark_at (suc k) m (suc i) h =
    let n : 1 + i ≡ suc i = omega arith in
    mark_at k (m / 2) i (omega arith) ∙ ap (λ (x : ℕ). eqb (x % 2) 1) (rw n at (shr-shr m 1 i))

under_mark : (m t : ℕ) → under (1 - m % 2) t ≡ cond (eqb (m % 2) 1) (suc t) zero
under_mark m t = go (digit m)
  where
    go : (m % 2 ≡ 0) ⊎ (m % 2 ≡ 1) → under (1 - m % 2) t ≡ cond (eqb (m % 2) 1) (suc t) zero
    go (inl e) = rw e
    go (inr e) = rw e

place_turn : (x m t k : ℕ) → (x % 2 ≡ 1 - m % 2) → (count_trailing_zeros k (x / 2) ≡ t) → count_trailing_zeros (suc k) x ≡ cond (eqb (m % 2) 1) (suc t) zero
unfolding count_trailing_zeros
place_turn x m t k e f = rw (e, f) (under_mark m t)

-- the lowest place that is not marked
pub lowest : (k m : ℕ) → m < 2 ^ k → count_trailing_zeros k (2 ^ k - 1 - m) ≡ first_false k (marks_of k m)
unfolding marks_of first_false
lowest zero m b = let z : 2 ^ 0 - 1 - m ≡ 0 = omega arith in rw z (trailing_of_zero 0)
lowest (suc k) m b =
    let g = rw (pow-suc 2 k) at b in
    let last : (2 ^ k * 2 - 1 - m) % 2 ≡ 1 - m % 2 = omega arith in
    let half : (2 ^ k * 2 - 1 - m) / 2 ≡ 2 ^ k - 1 - m / 2 = omega arith in
    rw (pow-suc 2 k) (place_turn _ m _ k last (rw half (lowest k (m / 2) (halved k m b))))

-- among the first n: the same place, or none
pub first_within : (k n : ℕ) (bs : List Bool) → first_false k bs < n → first_false k (take n bs) ≡ first_false k bs
unfolding first_false
first_within k zero bs h = let z : ⊥ = omega arith in absurd z
first_within k (suc n) [] h = refl
first_within zero (suc n) (b ∷ bs) h = refl
first_within (suc k) (suc n) (true ∷ bs) h = ap suc (first_within k n bs (omega arith))
first_within (suc k) (suc n) (false ∷ bs) h = refl

pub first_behind : (k n : ℕ) (bs : List Bool) → n ≤ first_false k bs → first_false k (take n bs) ≡ k
unfolding first_false
first_behind k zero bs h = refl
first_behind k (suc n) [] h = refl
first_behind zero (suc n) (b ∷ bs) h = let z : ⊥ = omega arith in absurd z
first_behind (suc k) (suc n) (true ∷ bs) h = ap suc (first_behind k n bs (omega arith))
first_behind (suc k) (suc n) (false ∷ bs) h = let z : ⊥ = omega arith in absurd z

-- ---- one mark more

pub number_lt : (bs : List Bool) → number_of bs < 2 ^ length bs
unfolding number_of
number_lt [] = omega arith
number_lt (true ∷ bs) = rw (pow-suc 2 (length bs)) (omega (arith, number_lt bs))
number_lt (false ∷ bs) = rw (pow-suc 2 (length bs)) (omega (arith, number_lt bs))

pub trues_more : (bs : List Bool) (i : ℕ) → i < length bs → get_or bs i false ≡ false → trues (set bs i true) ≡ trues bs + 1
unfolding trues
trues_more [] i h e = let z : ⊥ = omega arith in absurd z
trues_more (true ∷ bs) zero h e = let z : ◌≡◌ {A = ℕ} 0 1 = cc in omega arith
trues_more (false ∷ bs) zero h e = omega arith
trues_more (true ∷ bs) (suc i) h e = omega (arith, trues_more bs i (omega arith) e)
trues_more (false ∷ bs) (suc i) h e = omega (arith, trues_more bs i (omega arith) e)
