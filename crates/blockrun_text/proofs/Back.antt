-- Hex that was put is read back as the same bytes.
-- Assumes nothing.
use mathlib.Core.Path.{◌≡◌, refl, ap, ◌∙◌}
use mathlib.Core.Bool.{true}
use mathlib.Core.List.{List, [], ◌∷◌, ◌++◌, append_assoc}
use Prim.Native.Nat.{ℕ, suc, ◌+◌, ◌*◌, ◌/◌, ◌%◌, ◌≤◌, ◌<◌}
use native.Mathlib.Omega.{arith}
use borrow.Author.Tests.{ltb-true, ltb-false, lt-ltb, le-ltb}
use lib.Dec.{ltb}
use lib.ListN.{length, take, drop, get_or}
use lib.Seq.{sets, sets-eq, take_at, drop_at, length-take-le}
use Rattle.blockrun_text.specs.Hex.{is_digit, all_digits, digit_value_of, digit_of, bytes_of, block_of}
use Rattle.blockrun_text.specs.Printing.{hex_of}
use Rattle.blockrun_text.proofs.Reading.{by}
use Rattle.blockrun_text.proofs.Putting.{length_hex_of}

pub digit_back : (n : ℕ) → digit_value_of (digit_of n) ≡ n % 16
unfolding digit_of digit_value_of
digit_back n =
    by (ltb (n % 16) 10)
    (λ e. let l = ltb-true (n % 16) 10 e in
    simp (e, le-ltb (48 + n % 16) 48 (omega arith), lt-ltb (48 + n % 16) 58 (omega arith)) (omega arith))
    (λ e. let l = ltb-false (n % 16) 10 e in
    simp (e, le-ltb (55 + n % 16) 48 (omega arith), le-ltb (55 + n % 16) 58 (omega arith), le-ltb (55 + n % 16) 65 (omega arith), lt-ltb (55 + n % 16) 71 (omega arith)) (omega arith))

digit_is : (n : ℕ) → is_digit (digit_of n) ≡ true
unfolding digit_of is_digit
digit_is n =
    by (ltb (n % 16) 10)
    (λ e. let l = ltb-true (n % 16) 10 e in
    simp (e, le-ltb (48 + n % 16) 48 (omega arith), lt-ltb (48 + n % 16) 58 (omega arith)))
    (λ e. let l = ltb-false (n % 16) 10 e in
    simp (e, le-ltb (55 + n % 16) 48 (omega arith), le-ltb (55 + n % 16) 58 (omega arith), le-ltb (55 + n % 16) 65 (omega arith), lt-ltb (55 + n % 16) 71 (omega arith)))

pub hex_digits : (bytes : List ℕ) → all_digits (hex_of bytes) ≡ true
unfolding hex_of all_digits
hex_digits [] = refl
hex_digits (x ∷ bytes) = rw (digit_is (x / 16), digit_is x) (hex_digits bytes)

pub bytes_back : (bytes : List ℕ) → ((i : ℕ) → get_or bytes i 0 < 256) → bytes_of (hex_of bytes) ≡ bytes
unfolding hex_of bytes_of
bytes_back [] f = refl
bytes_back (x ∷ bytes) f =
    let h : x < 256 = f 0 in
    let e : x / 16 % 16 * 16 + x % 16 ≡ x = omega arith in
    rw (digit_back (x / 16), digit_back x, e) (ap (λ (l : List ℕ). x ∷ l) (bytes_back bytes (λ i. f (suc i))))

-- a block put into a buffer with room for it is read from there
pub block_back : (out bytes : List ℕ) (at : ℕ) → at + 2 * length bytes ≤ length out → ((i : ℕ) → get_or bytes i 0 < 256)
    → block_of (sets out at (hex_of bytes)) at (2 * length bytes) ≡ bytes
unfolding block_of
block_back out bytes at h f =
    let n = length_hex_of bytes in
    let rest = drop (at + length (hex_of bytes)) out in
    let a = ap (λ (l : List ℕ). drop at l) (sets-eq (hex_of bytes) out at (omega arith) ∙ append_assoc (take at out) (hex_of bytes) rest) ∙ drop_at (take at out) (hex_of bytes ++ rest) at (length-take-le at out (omega arith)) in
    ap (λ (l : List ℕ). bytes_of (take (2 * length bytes) l)) a ∙ ap bytes_of (take_at (hex_of bytes) rest (2 * length bytes) n) ∙ bytes_back bytes f
