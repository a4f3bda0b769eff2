-- What is read from a line.
-- Assumes nothing.
use mathlib.Core.Path.{◌≡◌, refl, sym, ap, ◌∙◌}
use mathlib.Core.Bool.{Bool, true, false, cond, not}
use mathlib.Core.List.{List, [], ◌∷◌, ◌++◌}
use Prim.Native.Nat.{ℕ, zero, suc, min, ◌+◌, ◌-◌, ◌*◌, ◌/◌, ◌%◌, ◌≤◌, ◌<◌}
use native.Mathlib.Numerals.{add-one}
use native.Mathlib.Omega.{arith}
use borrow.Author.Tests.{ltb-true, ltb-false, eqb-true, lt-ltb, le-ltb, eq-eqb, ne_eqb}
use lib.Dec.{eqb, ltb}
use lib.ListN.{length, set, take, drop, get_or, drop_of_length-le, length-drop, length-take}
use lib.Seq.{drop-cons, sets}
use Rattle.blockrun_text.specs.declared.number.Number.{Number}
use Rattle.stores.proofs.Runs.{turn, take_least, sets_out, sets_cut, part_back}
use Rattle.blockrun_text.proofs.Putting.{put_least}
use Rattle.std.specs.Prelude.{Option, None, Some, option_map, unwrap_or, position}
use Rattle.std.specs.List.{list_all, position_or_len, slice_range, starts_with as starts}
use Rattle.std.proofs.lemmas.Slice.{between_to_end}
use Rattle.words.specs.declared.control.Quality.{Quality}
use Rattle.blockrun_text.specs.declared.parse.Line.TheVariants.{Send}
use Rattle.std.specs.Option.{is_some}
use Rattle.std.proofs.lemmas.List.Recursion.{is_position_or_len}
use Rattle.blockrun_text.specs.Splitting.{first_newline, end_of, newline_of}
use Rattle.blockrun_text.specs.Forms.{starts_with, send_of}
use Rattle.blockrun_text.specs.Hex.{is_digit, all_digits, digit_value_of, digit_read, bytes_of, block_of}
use Rattle.blockrun_text.specs.Numbers.{number, number_on, number_at}

-- both cases of a test
pub by : {G : Type 0} (t : Bool) → (t ≡ true → G) → (t ≡ false → G) → G
by true f g = f refl
by false f g = g refl

-- nothing that `cc` shows to be impossible is met
pub clash : {G : Type 0} → ◌≡◌ {A = ℕ} 0 1 → G
clash z = let n : ⊥ = omega arith in absurd n

-- ---- digits

pub digit_small : (x : ℕ) → digit_value_of x < 16
unfolding digit_value_of
digit_small x =
    by (ltb x 48) (λ e1. simp e1 (omega arith)) (λ e1.
    by (ltb x 58) (λ e2. let l = ltb-true x 58 e2 in simp (e1, e2) (omega arith)) (λ e2.
    by (ltb x 65) (λ e3. simp (e1, e2, e3) (omega arith)) (λ e3.
    by (ltb x 71) (λ e4. let l = ltb-true x 71 e4 in simp (e1, e2, e3, e4) (omega arith)) (λ e4.
    simp (e1, e2, e3, e4) (omega arith)))))

-- another byte has the value 0
not_digit : (x : ℕ) → is_digit x ≡ false → digit_value_of x ≡ 0
unfolding is_digit digit_value_of
not_digit x h =
    by (ltb x 48) (λ e1. simp e1) (λ e1.
    by (ltb x 58) (λ e2. let z = simp (e1, e2) at h in cc) (λ e2.
    by (ltb x 65) (λ e3. simp (e1, e2, e3)) (λ e3.
    simp (e1, e2, e3, simp (e1, e2, e3) at h))))

pub digit_or : (x : ℕ) → unwrap_or (digit_read x) 0 ≡ digit_value_of x
unfolding digit_read
digit_or x = by (is_digit x) (λ e. simp e) (λ e. simp e (sym (not_digit x e)))

pub digits_all : (s : List ℕ) → list_all (λ x. is_some (digit_read x)) s ≡ all_digits s
unfolding digit_read all_digits
digits_all [] = refl
digits_all (x ∷ s) = by (is_digit x) (λ e. simp e (digits_all s)) (λ e. simp e)

-- ---- texts

-- the library's `starts_with`
starts_same : (text line : List ℕ) → starts eqb line text ≡ starts_with text line
unfolding starts_with
starts_same [] line = refl
starts_same (x ∷ text) [] = refl
starts_same (x ∷ text) (y ∷ line) = by (eqb y x)
    (λ e. simp (e, eq-eqb x y (sym (eqb-true y x e))) (starts_same text line))
    (λ e. simp (e, ne_eqb x y (λ q. let w = sym e ∙ eq-eqb y x (sym q) in clash (cc))))

pub told : (text line : List ℕ) (r t : Bool) → r ≡ starts eqb line text → r ≡ t → starts_with text line ≡ t
told text line r t e f = sym (starts_same text line) ∙ sym e ∙ f

-- ---- a block

pub short_block : (quality : Quality) (line : List ℕ) → length line < 7 → send_of quality line ≡ None
unfolding send_of
short_block quality line h = simp (lt-ltb (length line) 7 h)

pub odd_block : (quality : Quality) (line hex : List ℕ) → 7 ≤ length line → length hex + 7 ≡ length line → (length hex % 2 ≡ 0 → ⊥) → send_of quality line ≡ None
unfolding send_of
odd_block quality line hex h e odd =
    let n : length line - 7 ≡ length hex = omega arith in
    simp (le-ltb (length line) 7 h, n, ne_eqb (length hex % 2) 0 odd)

module _ (quality : Quality) (line hex : List ℕ) (h : 7 ≤ length line) (e : hex ≡ slice_range line 7 (length line)) (even : length hex % 2 ≡ 0) where
  behind : hex ≡ drop 7 line
  behind = e ∙ between_to_end line 7 (length line) (omega arith)

  size : length hex ≡ length line - 7
  size = ap length behind ∙ length-drop 7 line

  go : (r : Bool) (n : ℕ) → length hex ≡ n → cond r (Some (Send quality 7 (length hex))) None ≡ cond (not r) None (Some (Send quality 7 n))
  go true n q = ap (λ (k : ℕ). Some (Send quality 7 k)) q
  go false n q = refl

  a_send : (r : Bool) → r ≡ list_all (λ x. is_some (digit_read x)) hex → cond r (Some (Send quality 7 (length hex))) None ≡ send_of quality line
  unfolding send_of
  a_send r d =
      let k = sym (d ∙ digits_all hex ∙ ap all_digits behind) in
      simp (le-ltb (length line) 7 h, eq-eqb ((length line - 7) % 2) 0 (rw size at even), k) (go r (length line - 7) size)

  pub a_block : (r : Bool) → r ≡ list_all (λ x. is_some (digit_read x)) hex → r ≡ true → Some (Send quality 7 (length hex)) ≡ send_of quality line
  a_block r d t = rw t at (a_send r d)

  pub no_block : (r : Bool) → r ≡ list_all (λ x. is_some (digit_read x)) hex → r ≡ false → send_of quality line ≡ None
  no_block r d t = sym (rw t at (a_send r d))

-- ---- a number

pub no_number : (s : List ℕ) (from : ℕ) → length s ≤ from → number_at s from ≡ None
unfolding number_at number_on
no_number s from h = rw (drop_of_length-le s h)

-- what is read from the place `at` on, where i bytes of s were read
module _ (s : List ℕ) (i at : ℕ) (value : Option ℕ) (r : Option Number) (v : r ≡ number_on value at (drop i s)) where
  at_tab : i < length s → get_or s i 0 ≡ 9 → option_map (number at) value ≡ r
  unfolding number_on
  at_tab h e = rw (v, drop-cons s i 0 h) (simp (eq-eqb (get_or s i 0) 9 e))

  pub too_low : i < length s → (get_or s i 0 ≡ 9 → ⊥) → get_or s i 0 < 48 → None ≡ r
  unfolding number_on
  too_low h k a = rw (v, drop-cons s i 0 h) (simp (ne_eqb (get_or s i 0) 9 k, lt-ltb (get_or s i 0) 48 a))

  pub too_high : i < length s → 57 < get_or s i 0 → None ≡ r
  unfolding number_on
  too_high h a =
      rw (v, drop-cons s i 0 h) (simp (ne_eqb (get_or s i 0) 9 (λ e. omega arith), le-ltb (get_or s i 0) 48 (omega arith), lt-ltb 57 (get_or s i 0) a))

  pub next_digit : (w next : ℕ) → i < length s → 48 ≤ get_or s i 0 → get_or s i 0 ≤ 57 → w ≡ min (unwrap_or value 0 * 10 + (get_or s i 0 - 48)) 100000
      → next ≡ at + 1 → r ≡ number_on (Some w) next (drop (i + 1) s)
  unfolding number_on
  next_digit w next h a b f e =
      rw (v, add-one i, drop-cons s i 0 h, f, e) (simp (ne_eqb (get_or s i 0) 9 (λ e. omega arith), le-ltb (get_or s i 0) 48 a, le-ltb 57 (get_or s i 0) b))

  pub number_to_tab : (n : ℕ) → i < length s → get_or s i 0 ≡ 9 → value ≡ Some n → Some (number at n) ≡ r
  number_to_tab n h e k = rw k at (at_tab h e)

  pub none_to_tab : i < length s → get_or s i 0 ≡ 9 → value ≡ None → r ≡ None
  none_to_tab h e k = sym (rw k at (at_tab h e))

  at_end : length s ≤ i → option_map (number at) value ≡ r
  unfolding number_on
  at_end h = rw (v, drop_of_length-le s h)

  pub number_to_end : (n end : ℕ) → length s ≤ i → value ≡ Some n → end ≡ at → Some (number end n) ≡ r
  number_to_end n end h k e = rw e (rw k at (at_end h))

  pub none_to_end : length s ≤ i → value ≡ None → r ≡ None
  none_to_end h k = sym (rw k at (at_end h))

-- ---- the newline

newline_place : (s : List ℕ) → first_newline s ≡ position_or_len (λ x. eqb x 10) s
unfolding first_newline
newline_place s = is_position_or_len first_newline (λ x. eqb x 10) refl (λ x xs. by (eqb x 10) (λ e. simp e) (λ e. simp e (omega arith))) s

place_of : (n from f m : ℕ) → m ≡ n - from
    → cond (ltb (min n (from + f)) n) (Some (min n (from + f))) None ≡ option_map (λ k. from + k) (cond (ltb f m) (Some f) None)
place_of n from f m e =
    by (ltb f m)
    (λ q. let l = ltb-true f m q in let z : min n (from + f) ≡ from + f = omega arith in simp (q, z, lt-ltb (from + f) n (omega arith)))
    (λ q. let l = ltb-false f m q in let z : min n (from + f) ≡ n = omega arith in simp (q, z, le-ltb n n (omega arith)))

pub newline_is : (buffer : List ℕ) (from : ℕ) → newline_of buffer from ≡ option_map (λ n. from + n) (position (λ x. eqb x 10) (drop from buffer))
unfolding newline_of end_of
newline_is buffer from =
    let l = drop from buffer in
    rw (newline_place l) (place_of (length buffer) from (position_or_len (λ x. eqb x 10) l) (length l) (length-drop from buffer))

newline_read : (buffer rest : List ℕ) (from : ℕ) (o : Option ℕ) → rest ≡ slice_range buffer from (length buffer) → o ≡ position (λ x. eqb x 10) rest
    → option_map (λ n. from + n) o ≡ newline_of buffer from
newline_read buffer rest from o e f =
    let r = e ∙ between_to_end buffer from (length buffer) (omega arith) in
    ap (option_map (λ n. from + n)) (f ∙ ap (position (λ x. eqb x 10)) r) ∙ sym (newline_is buffer from)

pub newline_at : (buffer rest : List ℕ) (from n : ℕ) (o : Option ℕ) → rest ≡ slice_range buffer from (length buffer) → o ≡ position (λ x. eqb x 10) rest → o ≡ Some n
    → Some (from + n) ≡ newline_of buffer from
newline_at buffer rest from n o e f k = rw k at (newline_read buffer rest from o e f)

pub newline_none : (buffer rest : List ℕ) (from : ℕ) (o : Option ℕ) → rest ≡ slice_range buffer from (length buffer) → o ≡ position (λ x. eqb x 10) rest → o ≡ None
    → newline_of buffer from ≡ None
newline_none buffer rest from o e f k = sym (rw k at (newline_read buffer rest from o e f))

-- ---- bytes of two digits

pub length_bytes_of : (l : List ℕ) → length (bytes_of l) ≡ length l / 2
unfolding bytes_of
length_bytes_of [] = refl
length_bytes_of (x ∷ []) = refl
length_bytes_of (x ∷ y ∷ r) = omega (arith, length_bytes_of r)

pub byte_at : (l : List ℕ) (i : ℕ) → 2 * i + 1 < length l → get_or (bytes_of l) i 0 ≡ digit_value_of (get_or l (2 * i) 0) * 16 + digit_value_of (get_or l (2 * i + 1) 0)
unfolding bytes_of
byte_at [] i h = let z : ⊥ = omega arith in absurd z
byte_at (x ∷ []) i h = let z : ⊥ = omega arith in absurd z
byte_at (x ∷ y ∷ r) zero h = refl
byte_at (x ∷ y ∷ r) (suc i) h =
    let e : 2 * suc i ≡ suc (suc (2 * i)) = omega arith in
    let g : 2 * suc i + 1 ≡ suc (suc (2 * i + 1)) = omega arith in
    rw (g, e) (byte_at r i (omega arith))

-- one byte more
pub byte_turn : (d l : List ℕ) (i v : ℕ) → 2 * i + 1 < length d → v ≡ digit_value_of (get_or d (2 * i) 0) * 16 + digit_value_of (get_or d (2 * i + 1) 0)
    → sets (set l i v) (i + 1) (drop (i + 1) (bytes_of d)) ≡ sets l i (drop i (bytes_of d))
byte_turn d l i v h e = turn l (bytes_of d) i v (omega (arith, length_bytes_of d)) (e ∙ sym (byte_at d i h))

-- out has the bytes in its first n places, which are all that it has or all that there are
pub filled : (out bytes l : List ℕ) (n i : ℕ) → n ≡ min (length out) (length bytes) → sets l i (drop i bytes) ≡ sets (take n out) 0 bytes → length l ≤ i
    → l ++ drop n out ≡ sets out 0 bytes
filled out bytes l n i e f h =
    let a = sym (sets_out l (drop i bytes) i h) ∙ f ∙ sym (sets_cut (take n out) bytes 0 n (omega (arith, length-take n out))) in
    part_back out l (take n bytes) 0 n a (omega arith) (omega (arith, length-take n bytes)) ∙ put_least out bytes 0 n (omega arith)

-- the field that the line has
pub field_is : (line : List ℕ) (at digits m : ℕ) → m ≡ min digits (length line - at) → bytes_of (take m (drop at line)) ≡ block_of line at digits
unfolding block_of
field_is line at digits m e = ap bytes_of (take_least m digits (drop at line) (rw (length-drop at line) e))

pub no_field : (line : List ℕ) (at digits : ℕ) → length line ≤ at → block_of line at digits ≡ []
unfolding block_of bytes_of
no_field line at digits h = sym (field_is line at digits 0 (omega arith))
