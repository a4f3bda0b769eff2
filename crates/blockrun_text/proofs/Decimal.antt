-- A number that was put in decimal is read back as the same number, and has no leading zero.
-- Assumes nothing.
use mathlib.Core.Path.{◌≡◌, refl, sym, ap, ◌∙◌}
use Rattle.std.specs.Prelude.{Option, None, Some, unwrap_or}
use mathlib.Core.List.{List, [], ◌∷◌, ◌++◌, append_assoc}
use Prim.Native.Nat.{ℕ, zero, suc, min, ◌+◌, ◌-◌, ◌*◌, ◌/◌, ◌%◌, ◌^◌, ◌≤◌, ◌<◌}
use native.Mathlib.Nat.{pow-suc}
use native.Mathlib.Omega.{arith}
use borrow.Author.Tests.{ltb-true, ltb-false, ne_eqb, lt-ltb, le-ltb}
use lib.Dec.{ltb}
use lib.ListN.{length, get_or, length-append}
use Rattle.blockrun_text.specs.Printing.{spelled_on, decimal_of, value_on, value_of}
use Rattle.blockrun_text.specs.Numbers.{number_on}
use Rattle.blockrun_text.proofs.Reading.{by}

spelled_back : (k n : ℕ) (tail : List ℕ) → n < 10 ^ k → value_on 0 (spelled_on k n tail) ≡ value_on n tail
unfolding spelled_on value_on
spelled_back zero n tail h = let z : n ≡ 0 = omega arith in rw z
spelled_back (suc k) n tail h =
    let p = pow-suc 10 k in
    by (ltb n 10)
    (λ e. let l = ltb-true n 10 e in let v : 0 * 10 + (48 + n % 10 - 48) ≡ n = omega arith in simp e (ap (λ (x : ℕ). value_on x tail) v))
    (λ e. let v : n / 10 * 10 + (48 + n % 10 - 48) ≡ n = omega arith in
    simp e (spelled_back k (n / 10) ((48 + n % 10) ∷ tail) (omega arith) ∙ rw v))

-- for every u64
pub value_back : (n : ℕ) → n < 10 ^ 20 → value_of (decimal_of n) ≡ n
unfolding decimal_of value_on
value_back n h = spelled_back 20 n [] h

no_zero : (k n : ℕ) (tail : List ℕ) → 0 < n → n < 10 ^ k → 48 < get_or (spelled_on k n tail) 0 0
unfolding spelled_on
no_zero zero n tail h j = let z : ⊥ = omega arith in absurd z
no_zero (suc k) n tail h j =
    let p = pow-suc 10 k in
    by (ltb n 10)
    (λ e. let l = ltb-true n 10 e in simp e (omega arith))
    (λ e. let l = ltb-false n 10 e in simp e (no_zero k (n / 10) ((48 + n % 10) ∷ tail) (omega arith) (omega arith)))

pub no_leading_zero : (n : ℕ) → 0 < n → n < 10 ^ 20 → 48 < get_or (decimal_of n) 0 0
unfolding decimal_of
no_leading_zero n h j = no_zero 20 n [] h j

-- ---- by the reader of a line

pub spelled_tail : (k n : ℕ) (tail : List ℕ) → spelled_on k n tail ≡ spelled_on k n [] ++ tail
unfolding spelled_on
spelled_tail zero n tail = refl
spelled_tail (suc k) n tail =
    let d = 48 + n % 10 in
    by (ltb n 10) (λ e. simp e) (λ e.
    simp e (spelled_tail k (n / 10) (d ∷ tail) ∙ rw (spelled_tail k (n / 10) (d ∷ [])) (sym (append_assoc (spelled_on k (n / 10) []) (d ∷ []) tail))))

-- a digit is read
digit_read : (value : Option ℕ) (at d : ℕ) (tail : List ℕ) → d < 10
    → number_on value at ((48 + d) ∷ tail) ≡ number_on (Some (min (unwrap_or value 0 * 10 + d) 100000)) (at + 1) tail
unfolding number_on
digit_read value at d tail h =
    let v : 48 + d - 48 ≡ d = omega arith in
    simp (ne_eqb (48 + d) 9 (λ e. omega arith), le-ltb (48 + d) 48 (omega arith), le-ltb 57 (48 + d) (omega arith)) (rw v)

-- one digit more
more_read : (n at m : ℕ) (head tail : List ℕ) → number_on None at head ≡ number_on (Some (min (n / 10) 100000)) (at + m) ((48 + n % 10) ∷ tail)
    → number_on None at head ≡ number_on (Some (min n 100000)) (at + (m + 1)) tail
more_read n at m head tail v =
    let w : min (min (n / 10) 100000 * 10 + n % 10) 100000 ≡ min n 100000 = omega arith in
    let a : at + m + 1 ≡ at + (m + 1) = omega arith in
    v ∙ digit_read (Some (min (n / 10) 100000)) (at + m) (n % 10) tail (omega arith) ∙ rw (w, a)

-- n has one digit, or more
pub spelled_short : (k n : ℕ) (tail : List ℕ) → n < 10 → spelled_on (suc k) n tail ≡ (48 + n % 10) ∷ tail
unfolding spelled_on
spelled_short k n tail h = simp (lt-ltb n 10 h)

pub spelled_long : (k n : ℕ) (tail : List ℕ) → 10 ≤ n → spelled_on (suc k) n tail ≡ spelled_on k (n / 10) ((48 + n % 10) ∷ tail)
unfolding spelled_on
spelled_long k n tail h = simp (le-ltb n 10 h)

short_read : (k n at : ℕ) (tail : List ℕ) → n < 10
    → number_on None at (spelled_on (suc k) n tail) ≡ number_on (Some (min n 100000)) (at + length (spelled_on (suc k) n [])) tail
short_read k n at tail h =
    let v : 0 * 10 + n % 10 ≡ n = omega arith in
    rw (spelled_short k n tail h, spelled_short k n [] h)
    (digit_read None at (n % 10) tail (omega arith) ∙ ap (λ (x : ℕ). number_on (Some (min x 100000)) (at + 1) tail) v)

spelled_read : (k n at : ℕ) (tail : List ℕ) → n < 10 ^ suc k
    → number_on None at (spelled_on (suc k) n tail) ≡ number_on (Some (min n 100000)) (at + length (spelled_on (suc k) n [])) tail
spelled_read zero n at tail h = short_read zero n at tail (omega arith)
spelled_read (suc k) n at tail h =
    let p = pow-suc 10 (suc k) in
    let d = 48 + n % 10 in
    let s = spelled_on (suc k) (n / 10) [] in
    let e = ap length (spelled_tail (suc k) (n / 10) (d ∷ [])) ∙ length-append s (d ∷ []) in
    by (ltb n 10) (λ q. short_read (suc k) n at tail (ltb-true n 10 q)) (λ q.
    let l = ltb-false n 10 q in
    rw (spelled_long (suc k) n tail l, spelled_long (suc k) n [] l, e)
    (more_read n at (length s) (spelled_on (suc k) (n / 10) (d ∷ tail)) tail (spelled_read k (n / 10) at (d ∷ tail) (omega arith))))

-- a number in decimal is read as itself, one of 100000 or more as 100000
pub number_read : (n at : ℕ) (tail : List ℕ) → n < 10 ^ 20
    → number_on None at (decimal_of n ++ tail) ≡ number_on (Some (min n 100000)) (at + length (decimal_of n)) tail
unfolding decimal_of
number_read n at tail h = rw (← spelled_tail 20 n tail) (spelled_read 19 n at tail h)
