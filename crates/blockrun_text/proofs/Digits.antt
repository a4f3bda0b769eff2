-- A number's digits: how many there are, and that they may be put from the last.
-- Assumes nothing.
use mathlib.Core.Path.{◌≡◌, refl, sym, ap, ◌∙◌}
use mathlib.Core.List.{List, [], ◌∷◌, ◌++◌, append_assoc}
use Prim.Native.Nat.{ℕ, zero, suc, ◌+◌, ◌-◌, ◌*◌, ◌/◌, ◌%◌, ◌^◌, ◌≤◌, ◌<◌}
use native.Mathlib.Nat.{pow-suc, zero-add, add-zero, add-suc}
use native.Mathlib.Omega.{arith}
use lib.Dec.{ltb}
use lib.ListN.{length, set, length-append}
use lib.Seq.{sets, set_comm}
use Rattle.std.specs.Prelude.{Option, None, Some, IfNone, IfSome, unwrap_or}
use Rattle.blockrun_text.specs.Printing.{spelled_on, decimal_of}
use Rattle.blockrun_text.proofs.Reading.{by}
use Rattle.blockrun_text.proofs.Decimal.{spelled_tail, spelled_short, spelled_long}

-- ---- how many

pow_more : (k d : ℕ) → 10 ^ k ≤ 10 ^ (k + d)
pow_more k zero = let z : k + 0 ≡ k = omega arith in rw z (omega arith)
pow_more k (suc d) = let p = pow-suc 10 (k + d) in rw (add-suc k d) (omega (arith, p, pow_more k d))

spelled_one : (j n d : ℕ) → length (spelled_on j n (d ∷ [])) ≡ suc (length (spelled_on j n []))
spelled_one j n d = ap length (spelled_tail j n (d ∷ [])) ∙ omega (arith, length-append (spelled_on j n []) (d ∷ []))

pub count_is : (k j n : ℕ) → n < 10 ^ k → (1 < k → 10 ^ k ≤ n * 10) → 0 < k → k ≤ j → k ≡ length (spelled_on j n [])
count_is zero j n h l p q = let z : ⊥ = omega arith in absurd z
count_is (suc k) zero n h l p q = let z : ⊥ = omega arith in absurd z
count_is (suc zero) (suc j) n h l p q = rw (spelled_short j n [] (omega arith))
count_is (suc (suc k)) (suc j) n h l p q =
    let a = pow-suc 10 (suc k) in
    let b = pow-suc 10 k in
    let o = pow_more 0 k in
    let m = l (omega arith) in
    rw (spelled_long j n [] (omega arith), spelled_one j (n / 10) (48 + n % 10))
    (ap suc (count_is (suc k) j (n / 10) (omega arith) (λ t. omega arith) (omega arith) (omega arith)))

-- as many as the logarithm says, and one
pub count_by_log : (n : ℕ) (o : Option ℕ) → IfNone o (n ≡ 0) → IfSome o (λ k. 10 ^ k ≤ n) → IfSome o (λ k. n < 10 * 10 ^ k) → IfSome o (λ k. k < 20)
    → unwrap_or o 0 + 1 ≡ length (decimal_of n)
unfolding decimal_of
count_by_log n None z a b c = count_is 1 20 n (omega arith) (λ h. omega arith) (omega arith) (omega arith)
count_by_log n (Some k) z a b c =
    let p = pow-suc 10 k in
    let e : k + 1 ≡ suc k = omega arith in
    rw e (count_is (suc k) 20 n (omega arith) (λ h. omega arith) (omega arith) (omega arith))

-- ---- the last first

-- the last k digits of n, before a tail
unfoldable pub last_of : ℕ → ℕ → List ℕ → List ℕ
last_of zero n tail = tail
last_of (suc k) n tail = last_of k (n / 10) ((48 + n % 10) ∷ tail)

last_tail : (k n : ℕ) (tail : List ℕ) → last_of k n tail ≡ last_of k n [] ++ tail
unfolding last_of
last_tail zero n tail = refl
last_tail (suc k) n tail =
    let d = 48 + n % 10 in
    last_tail k (n / 10) (d ∷ tail) ∙ rw (last_tail k (n / 10) (d ∷ [])) (sym (append_assoc (last_of k (n / 10) []) (d ∷ []) tail))

length_last : (k n : ℕ) → length (last_of k n []) ≡ k
unfolding last_of
length_last zero n = refl
length_last (suc k) n =
    let d = 48 + n % 10 in
    ap length (last_tail k (n / 10) (d ∷ [])) ∙ omega (arith, length-append (last_of k (n / 10) []) (d ∷ []), length_last k (n / 10))

spelled_last : (j n : ℕ) (tail : List ℕ) → spelled_on j n tail ≡ last_of (length (spelled_on j n [])) n tail
unfolding spelled_on last_of
spelled_last zero n tail = refl
spelled_last (suc j) n tail =
    let d = 48 + n % 10 in
    by (ltb n 10) (λ e. simp e) (λ e. simp e (rw (spelled_one j (n / 10) d) (spelled_last j (n / 10) (d ∷ tail))))

-- a list with one byte more behind it is put from that byte
sets_last : (u l : List ℕ) (a d : ℕ) → sets (set l (a + length u) d) a u ≡ sets l a (u ++ (d ∷ []))
sets_last [] l a d = rw (add-zero a)
sets_last (x ∷ u) l a d =
    let n : a + length (x ∷ u) ≡ suc a + length u = omega arith in
    rw (n, set_comm l (suc a + length u) a d x (λ e. omega arith)) (sets_last u (set l a x) (suc a) d)

pub put_last : (l m : List ℕ) (a i rest d : ℕ) → m ≡ set l (a + (i - 1)) d → d ≡ 48 + rest % 10 → 0 < i
    → sets m a (last_of (i - 1) (rest / 10) []) ≡ sets l a (last_of i rest [])
unfolding last_of
put_last l m a zero rest d e f h = let z : ⊥ = omega arith in absurd z
put_last l m a (suc i) rest d e f h =
    let q : suc i - 1 ≡ i = omega arith in
    let u = last_of i (rest / 10) [] in
    let k = sets_last u l a d in
    rw (e, q, last_tail i (rest / 10) ((48 + rest % 10) ∷ []), ← f) (rw (length_last i (rest / 10)) at k)

pub put_all : (l m : List ℕ) (a i k n rest : ℕ) → sets l a (last_of i rest []) ≡ sets m a (last_of k n []) → i ≤ 0 → k ≡ length (decimal_of n)
    → l ≡ sets m a (decimal_of n)
unfolding last_of decimal_of
put_all l m a zero k n rest v h e = v ∙ rw (e, ← spelled_last 20 n [])
put_all l m a (suc i) k n rest v h e = let z : ⊥ = omega arith in absurd z

-- the same from the first place on
pub put_last_first : (l m : List ℕ) (i rest d : ℕ) → m ≡ set l (i - 1) d → d ≡ 48 + rest % 10 → 0 < i
    → sets m 0 (last_of (i - 1) (rest / 10) []) ≡ sets l 0 (last_of i rest [])
put_last_first l m i rest d e f h = put_last l m 0 i rest d (rw zero-add e) f h
