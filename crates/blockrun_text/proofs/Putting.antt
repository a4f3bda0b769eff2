-- Texts put into a list from a place on.
-- Assumes nothing.
use mathlib.Core.Path.{◌≡◌, refl, sym, ap, ◌∙◌}
use mathlib.Core.List.{List, [], ◌∷◌, ◌++◌, append-nil, append_assoc}
use Rattle.std.specs.List.{flat_map}
use Prim.Native.Nat.{ℕ, zero, suc, min, ◌+◌, ◌-◌, ◌*◌, ◌<◌}
use native.Mathlib.Numerals.{add-one}
use native.Mathlib.Nat.{add-zero, add-suc, suc-add}
use native.Mathlib.Omega.{arith}
use borrow.Author.Tests.{leb-true, leb-false}
use lib.Dec.{leb}
use mathlib.Core.Bool.{Bool, true, false}
use lib.ListN.{length, take, drop, get_or, set}
use lib.Seq.{drop-cons, sets, length-sets}
use Rattle.stores.proofs.Runs.{take_least, sets_cut, sets_out}
use Rattle.blockrun_text.specs.Printing.{hex_of, words_of}

-- ---- a text, byte by byte

pub put_turn : (l vs : List ℕ) (a i v : ℕ) → i < length vs → v ≡ get_or vs i 0
    → sets (set l (a + i) v) (a + (i + 1)) (drop (i + 1) vs) ≡ sets l (a + i) (drop i vs)
put_turn l vs a i v h e = rw (e, drop-cons vs i 0 h, add-one i, add-suc a i)

-- no more of a text is put than there is room for
pub put_least : (l text : List ℕ) (a n : ℕ) → n ≡ min (length text) (length l - a) → sets l a (take n text) ≡ sets l a text
put_least l text a n e =
    ap (λ (x : List ℕ). sets l a x) (take_least n (length l - a) text (omega arith)) ∙ sets_cut l text a (length l - a) (omega arith)

-- ---- texts that follow on each other

sets_append : (u v l : List ℕ) (a : ℕ) → sets (sets l a u) (a + length u) v ≡ sets l a (u ++ v)
sets_append [] v l a = rw (add-zero a)
sets_append (x ∷ u) v l a = rw (add-suc a (length u), ← suc-add a (length u)) (sets_append u v (set l a x) (suc a))

-- past the end it does not matter where
pub sets_cap : (l vs : List ℕ) (a b : ℕ) → b ≡ min (length l) a → sets l b vs ≡ sets l a vs
sets_cap l vs a b e = go (leb a (length l)) refl
  where
    go : (t : Bool) → leb a (length l) ≡ t → sets l b vs ≡ sets l a vs
    go true q = let k = leb-true a (length l) q in let z : b ≡ a = omega arith in rw z
    go false q = let k = leb-false a (length l) q in sets_out l vs b (omega arith) ∙ sym (sets_out l vs a (omega arith))

-- u was put at a, and behind it v is to come
pub put_on : (l m u v : List ℕ) (a b : ℕ) → m ≡ sets l a u → b ≡ min (length l) (a + length u) → sets m b v ≡ sets l a (u ++ v)
put_on l m u v a b e f =
    rw e (sets_cap (sets l a u) v (a + length u) b (rw (length-sets l a u) f) ∙ sets_append u v l a)

-- a loop that puts the text of one element after another, whatever the text
pub put_next : (text : List ℕ → List ℕ) (l m s : List ℕ) (i a b : ℕ)
    → text (drop i s) ≡ text (get_or s i 0 ∷ []) ++ text (drop (i + 1) s)
    → m ≡ sets l a (text (get_or s i 0 ∷ [])) → b ≡ min (length l) (a + length (text (get_or s i 0 ∷ [])))
    → sets m b (text (drop (i + 1) s)) ≡ sets l a (text (drop i s))
put_next text l m s i a b c e f =
    put_on l m (text (get_or s i 0 ∷ [])) (text (drop (i + 1) s)) a b e f ∙ ap (λ (x : List ℕ). sets l a x) (sym c)

pub put_length : (l m u : List ℕ) (a : ℕ) → m ≡ sets l a u → length m ≡ length l
put_length l m u a e = ap length e ∙ length-sets l a u

pub hex_cons : (s : List ℕ) (i : ℕ) → i < length s → hex_of (drop i s) ≡ hex_of (get_or s i 0 ∷ []) ++ hex_of (drop (i + 1) s)
unfolding hex_of
hex_cons s i h = rw (add-one i, drop-cons s i 0 h)

pub words_cons : (s : List ℕ) (i : ℕ) → i < length s → words_of (drop i s) ≡ words_of (get_or s i 0 ∷ []) ++ words_of (drop (i + 1) s)
unfolding words_of
words_cons s i h = rw (add-one i, drop-cons s i 0 h)

-- so the texts of a list's elements stand one behind the other
pub hex_each : (s : List ℕ) → flat_map (λ x. hex_of (x ∷ [])) s ≡ hex_of s
unfolding hex_of
hex_each [] = refl
hex_each (x ∷ s) = rw (hex_each s)

pub words_each : (s : List ℕ) → flat_map (λ w. words_of (w ∷ [])) s ≡ words_of s
unfolding words_of
words_each [] = refl
words_each (w ∷ s) = rw (words_each s)

flat_map_suc : {A : Type 0} (f : A → List ℕ) (s : List A) (i : ℕ) (d : A) → i < length s
    → flat_map f (take (suc i) s) ≡ flat_map f (take i s) ++ f (get_or s i d)
flat_map_suc f [] i d h = let z : ⊥ = omega arith in absurd z
flat_map_suc f (x ∷ s) zero d h = append-nil (f x)
flat_map_suc f (x ∷ s) (suc i) d h =
    rw (flat_map_suc f s i d (omega arith)) (sym (append_assoc (f x) (flat_map f (take i s)) (f (get_or s i d))))

pub flat_map_more : {A : Type 0} (f : A → List ℕ) (s : List A) (i : ℕ) (d : A) → i < length s
    → flat_map f (take (i + 1) s) ≡ flat_map f (take i s) ++ f (get_or s i d)
flat_map_more f s i d h = rw (add-one i) (flat_map_suc f s i d h)

pub length_hex_of : (s : List ℕ) → length (hex_of s) ≡ 2 * length s
unfolding hex_of
length_hex_of [] = refl
length_hex_of (x ∷ s) = omega (arith, length_hex_of s)

pub length_words_of : (s : List ℕ) → length (words_of s) ≡ 5 * length s
unfolding words_of
length_words_of [] = refl
length_words_of (x ∷ s) = omega (arith, length_words_of s)
