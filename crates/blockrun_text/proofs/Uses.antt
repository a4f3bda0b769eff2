-- What a caller needs of the definitions: places inside the buffer, lengths, and what a block's line is.
-- Assumes nothing.
use mathlib.Core.Path.{◌≡◌, refl, ap}
use mathlib.Core.Bool.{true, false, not}
use mathlib.Core.List.{List, [], ◌∷◌, ◌++◌}
use Prim.Native.Nat.{ℕ, zero, suc, min, ◌+◌, ◌-◌, ◌/◌, ◌%◌, ◌≤◌, ◌<◌}
use native.Mathlib.Omega.{arith}
use borrow.Author.Tests.{lt-ltb, ltb-false, eqb-true, not-false}
use lib.Dec.{eqb, ltb}
use lib.ListN.{length, take, drop, get_or, length-drop}
use Rattle.words.specs.declared.control.Quality.{Quality}
use Rattle.words.specs.declared.control.Quality.TheVariants.{BestEffort, Verified}
use Rattle.blockrun_text.specs.Splitting.{first_newline, end_of, newline_of}
use Rattle.blockrun_text.specs.Forms.{starts_with, is_text, line_of, fields_of, bus_of, send_of, link_of, five_of, reset_text, frame_text, frame_line, take_text, done_text, lost_text, absent_text, verified_text, best_text, link_text}
use Rattle.blockrun_text.specs.Hex.{all_digits, bytes_of, block_of, block_size_of}
use Rattle.blockrun_text.specs.Printing.{spelled_on, decimal_of}
use Rattle.blockrun_text.specs.Numbers.{number_at, number_after}
use Rattle.blockrun_text.specs.declared.number.Number.{Number}
use Rattle.blockrun_text.specs.declared.parse.Line.TheVariants.{Frame, Send}
use Rattle.blockrun_text.specs.declared.parse.Line.{Line}
use Rattle.std.specs.Prelude.{Option, None, Some, option_and_then}
use Rattle.blockrun_text.proofs.Reading.{by, clash, digit_small}

-- ---- a line's end

pub end_inside : (buffer : List ℕ) (from : ℕ) → end_of buffer from ≤ length buffer
unfolding end_of
end_inside buffer from = omega arith

pub end_behind : (buffer : List ℕ) (from : ℕ) → from ≤ length buffer → from ≤ end_of buffer from
unfolding end_of
end_behind buffer from h = omega arith

-- ---- a whole `frame`

starts_split : (text line : List ℕ) → starts_with text line ≡ true → line ≡ text ++ drop (length text) line
unfolding starts_with
starts_split [] line h = refl
starts_split (x ∷ text) [] h = cc
starts_split (x ∷ text) (y ∷ line) h =
    by (eqb y x)
    (λ e. rw (eqb-true y x e) (ap (λ (l : List ℕ). x ∷ l) (starts_split text line (simp e at h))))
    (λ e. let z : false ≡ true = simp e at h in cc)

-- it has six bytes, ends where its newline is, and is the line of that form
module _ (buffer : List ℕ) (from : ℕ) (h : starts_with frame_line (drop from buffer) ≡ true) where
  split : drop from buffer ≡ frame_line ++ drop 6 (drop from buffer)
  split = starts_split frame_line (drop from buffer) h

  pub frame_inside : from + 6 ≤ length buffer
  frame_inside = omega (arith, length-drop from buffer, ap length split)

  pub frame_end : end_of buffer from ≡ from + 5
  unfolding end_of first_newline
  frame_end =
      let e : first_newline (drop from buffer) ≡ 5 = ap first_newline split in
      omega (arith, frame_inside)

  pub frame_newline : newline_of buffer from ≡ Some (from + 5)
  unfolding newline_of
  frame_newline = simp (frame_end, lt-ltb (from + 5) (length buffer) (omega (arith, frame_inside)))

  pub frame_read : line_of (take 5 (drop from buffer)) ≡ Some Frame
  unfolding line_of fields_of is_text starts_with
  frame_read = ap (λ (l : List ℕ). line_of (take 5 l)) split

-- ---- a number's length

spelled_most : (k n : ℕ) (tail : List ℕ) → length (spelled_on k n tail) ≤ k + length tail
unfolding spelled_on
spelled_most zero n tail = omega arith
spelled_most (suc k) n tail = by (ltb n 10) (λ e. simp e (omega arith)) (λ e. simp e (omega (arith, spelled_most k (n / 10) ((48 + n % 10) ∷ tail))))

pub length_decimal_of : (n : ℕ) → length (decimal_of n) ≤ 20
unfolding decimal_of
length_decimal_of n = spelled_most 20 n []

-- ---- a block's bytes

bytes_small : (digits : List ℕ) (i : ℕ) → get_or (bytes_of digits) i 0 < 256
unfolding bytes_of
bytes_small [] i = omega arith
bytes_small (x ∷ []) i = omega arith
bytes_small (x ∷ y ∷ digits) zero = omega (arith, digit_small x, digit_small y)
bytes_small (x ∷ y ∷ digits) (suc i) = bytes_small digits i

pub block_small : (line : List ℕ) (at digits i : ℕ) → get_or (block_of line at digits) i 0 < 256
unfolding block_of
block_small line at digits i = bytes_small (take digits (drop at line)) i

-- ---- a block's line: digits, an even number of them, to its end

pub record Carries (line : List ℕ) (at digits : ℕ) : Type 0 where
  pub start : at ≡ 7
  pub whole : at + digits ≡ length line
  pub even : digits % 2 ≡ 0
  pub hex : all_digits (drop at line) ≡ true

module _ (line : List ℕ) (quality : Quality) (at digits : ℕ) where
  no_send : {G : Type 0} → None ≡ Some (Send quality at digits) → G
  no_send e = clash (cc)

  send_only : (q : Quality) → send_of q line ≡ Some (Send quality at digits) → Carries line at digits
  unfolding send_of
  send_only q h =
      by (ltb (length line) 7) (λ e1. no_send (simp e1 at h)) (λ e1.
      by (not (eqb ((length line - 7) % 2) 0)) (λ e2. no_send (simp (e1, e2) at h)) (λ e2.
      by (not (all_digits (drop 7 line))) (λ e3. no_send (simp (e1, e2, e3) at h)) (λ e3.
      let w = simp (e1, e2, e3) at h in
      let l = ltb-false (length line) 7 e1 in
      let v = eqb-true ((length line - 7) % 2) 0 (not-false _ e2) in
      let a : at ≡ 7 = cc in
      let n : digits ≡ length line - 7 = cc in
      record { start = a; whole = omega arith; even = rw n v; hex = rw a (not-false _ e3) })))

  five_not : {G : Type 0} (len : ℕ) (p q r s t : Number) → five_of len p q r s t ≡ Some (Send quality at digits) → G
  unfolding five_of
  five_not len p q r s t h =
      by (not (eqb t.end len)) (λ e. no_send (simp e at h)) (λ e.
      let w = simp e at h in
      clash (cc))

  and_then_not : {A G : Type 0} (o : Option A) (f : A → Option Line) → ((x : A) → f x ≡ Some (Send quality at digits) → G)
      → option_and_then f o ≡ Some (Send quality at digits) → G
  and_then_not None f g h = no_send h
  and_then_not (Some x) f g h = g x h

  link_not : {G : Type 0} → link_of line ≡ Some (Send quality at digits) → G
  unfolding link_of
  link_not h =
      and_then_not (number_at line 5) _ (λ p.
      and_then_not (number_after line p) _ (λ q.
      and_then_not (number_after line q) _ (λ r.
      and_then_not (number_after line r) _ (λ s.
      and_then_not (number_after line s) _ (λ t. five_not (length line) p q r s t))))) h

  bus_not : {G : Type 0} → bus_of line ≡ Some (Send quality at digits) → G
  unfolding bus_of
  bus_not h =
      by (is_text done_text line) (λ e1. let w = simp e1 at h in clash (cc)) (λ e1.
      by (is_text lost_text line) (λ e2. let w = simp (e1, e2) at h in clash (cc)) (λ e2.
      by (is_text absent_text line) (λ e3. let w = simp (e1, e2, e3) at h in clash (cc)) (λ e3.
      no_send (simp (e1, e2, e3) at h))))

  pub send_carries : line_of line ≡ Some (Send quality at digits) → Carries line at digits
  unfolding line_of fields_of
  send_carries h =
      by (is_text reset_text line) (λ e1. let w = simp e1 at h in clash (cc)) (λ e1.
      by (is_text frame_text line) (λ e2. let w = simp (e1, e2) at h in clash (cc)) (λ e2.
      by (is_text take_text line) (λ e3. let w = simp (e1, e2, e3) at h in clash (cc)) (λ e3.
      by (starts_with verified_text line) (λ e4. send_only Verified (simp (e1, e2, e3, e4) at h)) (λ e4.
      by (starts_with best_text line) (λ e5. send_only BestEffort (simp (e1, e2, e3, e4, e5) at h)) (λ e5.
      by (starts_with link_text line) (λ e6. link_not (simp (e1, e2, e3, e4, e5, e6) at h)) (λ e6.
      bus_not (simp (e1, e2, e3, e4, e5, e6) at h)))))))

-- so the whole of its block is read into a buffer with room
pub block_whole : (line : List ℕ) (at digits room : ℕ) → Carries line at digits → digits / 2 ≤ room → block_size_of line at digits room ≡ digits / 2
unfolding block_size_of
block_whole line at digits room c h =
    let w = c.whole in
    let m : min digits (length line - at) ≡ digits = omega arith in
    rw m (omega arith)
