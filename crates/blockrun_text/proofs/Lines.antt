-- Lines that a caller writes are read as what they say, and a text is found only where it stands.
-- Assumes nothing.
use mathlib.Core.Path.{◌≡◌, refl, sym, ap, ◌∙◌}
use mathlib.Core.Bool.{true, false}
use mathlib.Core.List.{List, [], ◌∷◌, ◌++◌, append-nil}
use Prim.Native.Nat.{ℕ, min, ◌+◌, ◌-◌, ◌*◌, ◌%◌, ◌^◌, ◌<◌}
use native.Mathlib.Omega.{arith}
use borrow.Author.Tests.{eqb-true, eq-eqb, lt-leb, le-ltb}
use lib.Dec.{eqb}
use lib.ListN.{length, drop, get_or, length-append, length-drop, drop_of_length-le}
use lib.Seq.{drop-drop, drop-append-add, take_all}
use Rattle.std.specs.Prelude.{Some}
use Rattle.words.specs.declared.control.Quality.{Quality}
use Rattle.words.specs.declared.control.Quality.TheVariants.{BestEffort, Verified}
use Rattle.blockrun_text.specs.Forms.{starts_with, is_text, line_of, fields_of, send_of, link_of, five_of, settings, reset_text, frame_text, take_text}
use Rattle.blockrun_text.specs.Hex.{block_of, bytes_of}
use Rattle.blockrun_text.specs.Numbers.{number, number_on, number_at, number_after}
use Rattle.blockrun_text.specs.Printing.{decimal_of, hex_of}
use Rattle.blockrun_text.specs.Shown.{link_line_of, send_line_of}
use Rattle.blockrun_text.specs.declared.number.Number.{Number}
use Rattle.blockrun_text.specs.declared.parse.Line.TheVariants.{Link, Send}
use Rattle.blockrun_text.proofs.Reading.{by, clash}
use Rattle.blockrun_text.proofs.Putting.{length_hex_of}
use Rattle.blockrun_text.proofs.Back.{bytes_back, hex_digits}
use Rattle.blockrun_text.proofs.Decimal.{number_read}

-- ---- texts

pub starts_is : (text line : List ℕ) → starts_with text line ≡ true → line ≡ text ++ drop (length text) line
unfolding starts_with
starts_is [] line h = refl
starts_is (x ∷ text) [] h = cc
starts_is (x ∷ text) (y ∷ line) h =
    by (eqb y x)
    (λ e. let q = eqb-true y x e in rw q (ap (λ (l : List ℕ). x ∷ l) (starts_is text line (simp e at h))))
    (λ e. let w = simp e at h in clash (cc))

pub text_is : (text line : List ℕ) → is_text text line ≡ true → line ≡ text
unfolding is_text
text_is text line h =
    by (eqb (length line) (length text))
    (λ e. let n = eqb-true (length line) (length text) e in
    let z = drop_of_length-le line {i = length text} (omega arith) in
    starts_is text line (simp e at h) ∙ ap (λ (l : List ℕ). text ++ l) z ∙ append-nil text)
    (λ e. let w = simp e at h in clash (cc))

-- ---- a block

other_text : (text line : List ℕ) → starts_with text line ≡ false → is_text text line ≡ false
unfolding is_text
other_text text line h = by (eqb (length line) (length text)) (λ e. simp (e, h)) (λ e. simp e)

send_is : (quality : Quality) (line bytes : List ℕ) → length line ≡ 7 + length (hex_of bytes) → drop 7 line ≡ hex_of bytes
    → send_of quality line ≡ Some (Send quality 7 (2 * length bytes))
unfolding send_of
send_is quality line bytes n e =
    let k = length_hex_of bytes in
    let d : length line - 7 ≡ 2 * length bytes = omega arith in
    simp (le-ltb (length line) 7 (omega arith), eq-eqb ((length line - 7) % 2) 0 (omega arith), e, hex_digits bytes) (ap (λ (x : ℕ). Some (Send quality 7 x)) d)

pub send_read : (quality : Quality) (bytes : List ℕ) → line_of (send_line_of quality bytes) ≡ Some (Send quality 7 (2 * length bytes))
unfolding line_of fields_of starts_with
send_read Verified bytes =
    let line = send_line_of Verified bytes in
    simp (other_text reset_text line refl, other_text frame_text line refl, other_text take_text line refl) (send_is Verified line bytes (omega arith) refl)
send_read BestEffort bytes =
    let line = send_line_of BestEffort bytes in
    simp (other_text reset_text line refl, other_text frame_text line refl, other_text take_text line refl) (send_is BestEffort line bytes (omega arith) refl)

pub send_block_lem : (quality : Quality) (bytes : List ℕ) → ((i : ℕ) → get_or bytes i 0 < 256) → block_of (send_line_of quality bytes) 7 (2 * length bytes) ≡ bytes
unfolding block_of
send_block_lem Verified bytes f = ap bytes_of (take_all (2 * length bytes) (hex_of bytes) (omega (arith, length_hex_of bytes))) ∙ bytes_back bytes f
send_block_lem BestEffort bytes f = ap bytes_of (take_all (2 * length bytes) (hex_of bytes) (omega (arith, length_hex_of bytes))) ∙ bytes_back bytes f

-- ---- five numbers

module _ (line : List ℕ) (from n : ℕ) (h : n < 10 ^ 20) where
  before_tab : (rest : List ℕ) → drop from line ≡ decimal_of n ++ (9 ∷ rest) → number_at line from ≡ Some (number (from + length (decimal_of n)) (min n 100000))
  unfolding number_at number_on
  before_tab rest e = rw e (number_read n from (9 ∷ rest) h)

  before_end : drop from line ≡ decimal_of n → number_at line from ≡ Some (number (from + length (decimal_of n)) (min n 100000))
  unfolding number_at number_on
  before_end e = rw e (rw (append-nil (decimal_of n)) at (number_read n from [] h))

next_start : (line head rest : List ℕ) (from : ℕ) → drop from line ≡ head ++ (9 ∷ rest) → drop (from + length head + 1) line ≡ rest
next_start line head rest from e =
    let a : from + length head + 1 ≡ from + (length head + 1) = omega arith in
    rw (a, ← drop-drop (length head + 1) from line, e) (drop-append-add head (9 ∷ rest) 1)

next_number_lem : (line head rest : List ℕ) (from v : ℕ) → drop from line ≡ head ++ (9 ∷ rest)
    → number_after line (number (from + length head) v) ≡ number_at line (from + length head + 1)
unfolding number_after
next_number_lem line head rest from v e =
    let l = sym (length-drop from line) ∙ ap length e ∙ length-append head (9 ∷ rest) in
    simp (lt-leb (length line) (from + length head) (omega arith))

five_is : (len : ℕ) (p q r s t : Number) → t.end ≡ len → five_of len p q r s t ≡ Some (Link (settings p.value q.value r.value s.value t.value))
unfolding five_of
five_is len p q r s t e = simp (eq-eqb t.end len e)

link_is : (line : List ℕ) (a b c d e : ℕ) → a < 10 ^ 20 → b < 10 ^ 20 → c < 10 ^ 20 → d < 10 ^ 20 → e < 10 ^ 20
    → drop 5 line ≡ decimal_of a ++ (9 ∷ (decimal_of b ++ (9 ∷ (decimal_of c ++ (9 ∷ (decimal_of d ++ (9 ∷ decimal_of e)))))))
    → link_of line ≡ Some (Link (settings (min a 100000) (min b 100000) (min c 100000) (min d 100000) (min e 100000)))
unfolding link_of
link_is line a b c d e ha hb hc hd he s1 =
    let t4 = decimal_of d ++ (9 ∷ decimal_of e) in
    let t3 = decimal_of c ++ (9 ∷ t4) in
    let t2 = decimal_of b ++ (9 ∷ t3) in
    let f2 = 5 + length (decimal_of a) + 1 in
    let f3 = f2 + length (decimal_of b) + 1 in
    let f4 = f3 + length (decimal_of c) + 1 in
    let f5 = f4 + length (decimal_of d) + 1 in
    let s2 = next_start line (decimal_of a) t2 5 s1 in
    let s3 = next_start line (decimal_of b) t3 f2 s2 in
    let s4 = next_start line (decimal_of c) t4 f3 s3 in
    let s5 = next_start line (decimal_of d) (decimal_of e) f4 s4 in
    let n1 = before_tab line 5 a ha t2 s1 in
    let n2 = next_number_lem line (decimal_of a) t2 5 (min a 100000) s1 ∙ before_tab line f2 b hb t3 s2 in
    let n3 = next_number_lem line (decimal_of b) t3 f2 (min b 100000) s2 ∙ before_tab line f3 c hc t4 s3 in
    let n4 = next_number_lem line (decimal_of c) t4 f3 (min c 100000) s3 ∙ before_tab line f4 d hd (decimal_of e) s4 in
    let n5 = next_number_lem line (decimal_of d) (decimal_of e) f4 (min d 100000) s4 ∙ before_end line f5 e he s5 in
    let l = sym (length-drop f4 line) ∙ ap length s4 ∙ length-append (decimal_of d) (9 ∷ decimal_of e) in
    let z : f5 + length (decimal_of e) ≡ length line = omega arith in
    rw (n1, n2, n3, n4, n5) (five_is (length line) _ _ _ _ _ z)

-- a number of 100000 or more is out of every range, and stands there as 100000
pub link_read : (a b c d e : ℕ) → a < 10 ^ 20 → b < 10 ^ 20 → c < 10 ^ 20 → d < 10 ^ 20 → e < 10 ^ 20
    → line_of (link_line_of a b c d e) ≡ Some (Link (settings (min a 100000) (min b 100000) (min c 100000) (min d 100000) (min e 100000)))
unfolding line_of fields_of starts_with
link_read a b c d e ha hb hc hd he =
    let line = link_line_of a b c d e in
    simp (other_text reset_text line refl, other_text frame_text line refl, other_text take_text line refl) (link_is line a b c d e ha hb hc hd he refl)
