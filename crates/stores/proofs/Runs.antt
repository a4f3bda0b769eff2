-- Runs of stores in a list: a loop's turn, a part that was lent, what a run fills.
-- Assumes nothing.
use mathlib.Core.Path.{◌≡◌, refl, sym, ap, ◌∙◌}
use mathlib.Core.List.{List, [], ◌∷◌, ◌++◌, append-nil, append_assoc}
use Prim.Native.Nat.{ℕ, zero, suc, min, ◌+◌, ◌-◌, ◌*◌, ◌≤◌, ◌<◌}
use native.Mathlib.Numerals.{add-one}
use native.Mathlib.Omega.{arith}
use native.Mathlib.Nat.{zero-add, add-zero, suc-add, add-suc}
use lib.ListN.{length, take, drop, get_or, set, length-set, length-drop, take-append-drop, drop_of_length-le}
use lib.Seq.{drop-cons, sets, sets-eq, length-sets, take_at, drop_at, set-append_left, set_out, length-take-le, get_or-take, take-nil, get_or-drop, drop-drop, drop-set-lt, take-set-le}
use borrow.Rule.Slice.PartMut.{put_mid}

-- ---- a loop that stores vs one by one: what is left to store, from here on, gives the same

pub turn : (l vs : List ℕ) (i v : ℕ) → i < length vs → v ≡ get_or vs i 0 → sets (set l i v) (i + 1) (drop (i + 1) vs) ≡ sets l i (drop i vs)
turn l vs i v h e = rw (e, drop-cons vs i 0) (simp add-one)

-- two stores a turn
pub turn_two : (l vs : List ℕ) (i a b : ℕ) → 2 * i + 1 < length vs → a ≡ get_or vs (2 * i) 0 → b ≡ get_or vs (2 * i + 1) 0
    → sets (set (set l (2 * i) a) (2 * i + 1) b) (2 * (i + 1)) (drop (2 * (i + 1)) vs) ≡ sets l (2 * i) (drop (2 * i) vs)
turn_two l vs i a b h e f =
    let n : 2 * (i + 1) ≡ 2 * i + 1 + 1 = omega arith in
    rw n (turn (set l (2 * i) a) vs (2 * i + 1) b h f ∙ turn l vs (2 * i) a (omega arith) e)

-- n stores a turn
pub turn_many : (l vs : List ℕ) (a n : ℕ) → sets (sets l a (take n vs)) (a + n) (drop n vs) ≡ sets l a vs
turn_many l vs a zero = rw add-zero
turn_many l [] a (suc n) = refl
turn_many l (v ∷ vs) a (suc n) = rw (add-suc a n, ← suc-add a n) (turn_many (set l a v) vs (suc a) n)

pub done : (l vs : List ℕ) (i : ℕ) → length vs ≤ i → sets l i (drop i vs) ≡ l
done l vs i h = rw (drop_of_length-le vs {i = i} h)

-- a loop that copies: what it stores at i is what the other list has there
pub copied_turn : (l vs : List ℕ) (i : ℕ) → i < length vs → sets (set l i (get_or vs i 0)) (i + 1) (drop (i + 1) vs) ≡ sets l i (drop i vs)
copied_turn l vs i h = turn l vs i (get_or vs i 0) h refl

-- the last store of a run
pub last : (l vs : List ℕ) (i v : ℕ) → suc i ≡ length vs → v ≡ get_or vs i 0 → set l i v ≡ sets l i (drop i vs)
last l vs i v h e = sym (done (set l i v) vs (i + 1) (omega arith)) ∙ turn l vs i v (omega arith) e

-- a run in place: what is not yet stored over is as it was
pub same_here : (l m : List ℕ) (i : ℕ) → drop i l ≡ drop i m → get_or l i 0 ≡ get_or m i 0
same_here l m i e =
    let z : i + 0 ≡ i = omega arith in
    rw z at (sym (get_or-drop i l 0 0) ∙ ap (λ (r : List ℕ). get_or r 0 0) e ∙ get_or-drop i m 0 0)

pub same_next : (l m : List ℕ) (i v : ℕ) → drop i l ≡ drop i m → drop (i + 1) (set l i v) ≡ drop (i + 1) m
same_next l m i v e =
    drop-set-lt (i + 1) l i v (omega arith) ∙ sym (drop-drop 1 i l) ∙ ap (λ (r : List ℕ). drop 1 r) e ∙ drop-drop 1 i m

-- ---- what a run leaves

-- past the end nothing is stored
pub sets_out : (l vs : List ℕ) (i : ℕ) → length l ≤ i → sets l i vs ≡ l
sets_out l [] i h = refl
sets_out l (v ∷ vs) i h = rw (set_out l i v h) (sets_out l vs (suc i) (omega arith))

-- nor does it matter what would be stored there
pub sets_cut : (l vs : List ℕ) (i n : ℕ) → length l ≤ i + n → sets l i (take n vs) ≡ sets l i vs
sets_cut l vs i n h =
    let e = length-sets l i (take n vs) in
    sym (sets_out (sets l i (take n vs)) (drop n vs) (i + n) (omega arith)) ∙ turn_many l vs i n

-- what stands before a run, and after it, stays
pub take_before : (l vs : List ℕ) (i n : ℕ) → n ≤ i → take n (sets l i vs) ≡ take n l
take_before l [] i n h = refl
take_before l (v ∷ vs) i n h = take_before (set l i v) vs (suc i) n (omega arith) ∙ take-set-le n l i v h

pub drop_after : (l vs : List ℕ) (i n : ℕ) → i + length vs ≤ n → drop n (sets l i vs) ≡ drop n l
drop_after l [] i n h = refl
drop_after l (v ∷ vs) i n h = drop_after (set l i v) vs (suc i) n (omega arith) ∙ drop-set-lt n l i v (omega arith)

-- what a run stored stands where it was stored
pub take_stored : (l vs : List ℕ) (i : ℕ) → i + length vs ≤ length l → take (length vs) (drop i (sets l i vs)) ≡ vs
take_stored l vs i h =
    let n = length-take-le i l (omega arith) in
    rw (sets-eq vs l i h, append_assoc (take i l) vs (drop (i + length vs) l), drop_at (take i l) (vs ++ drop (i + length vs) l) i n)
    (take_at vs (drop (i + length vs) l) (length vs) refl)

-- a run from the start
pub placed : {A : Type 0} (l vs : List A) (n : ℕ) → n ≡ length vs → n ≤ length l → vs ++ drop n l ≡ sets l 0 vs
placed l vs n e h = rw e (sym (rw zero-add at (sets-eq vs l 0 (omega arith))))

-- a run that fills the list
pub sets_all : (l vs : List ℕ) → length vs ≡ length l → sets l 0 vs ≡ vs
sets_all l vs e =
    let z : drop (0 + length vs) l ≡ [] = drop_of_length-le l {i = 0 + length vs} (omega arith) in
    sets-eq vs l 0 (omega arith) ∙ rw z (append-nil vs)

-- a loop that copies the first n of a list into one of n places, whatever n
pub loaded_first : (n : ℕ) (l vs : List ℕ) → length l ≡ n → n ≤ length vs → sets l 0 (drop 0 (take n vs)) ≡ take n vs
loaded_first n l vs e h = sets_all l (take n vs) (length-take-le n vs h ∙ sym e)

pub loaded_turn : (n : ℕ) (l vs : List ℕ) (i : ℕ) → i < n → n ≤ length vs
    → sets (set l i (get_or vs i 0)) (i + 1) (drop (i + 1) (take n vs)) ≡ sets l i (drop i (take n vs))
loaded_turn n l vs i k h =
    turn l (take n vs) i (get_or vs i 0) (omega (arith, length-take-le n vs h)) (sym (get_or-take n vs i 0 k))

pub loaded : (n : ℕ) (l vs : List ℕ) (i : ℕ) → n ≤ i → n ≤ length vs → sets l i (drop i (take n vs)) ≡ l
loaded n l vs i k h = done l (take n vs) i (omega (arith, length-take-le n vs h))

-- a second run over the same places
pub sets_again : (l us vs : List ℕ) → length us ≡ length vs → length vs ≤ length l → sets (sets l 0 us) 0 vs ≡ sets l 0 vs
sets_again l us vs e h =
    let n = length-sets l 0 us in
    let past : drop (0 + length vs) (sets l 0 us) ≡ drop (0 + length vs) l =
    rw (sets-eq us l 0 (omega arith), e) (drop_at us (drop (0 + length vs) l) (0 + length vs) (omega arith)) in
    sets-eq vs (sets l 0 us) 0 (omega arith) ∙ rw past (sym (sets-eq vs l 0 (omega arith)))

-- the start of a list that a run filled
pub take_sets : (l vs : List ℕ) (n : ℕ) → n ≡ length vs → n ≤ length l → take n (sets l 0 vs) ≡ vs
take_sets l vs n e h = rw (sets-eq vs l 0 (omega arith)) (take_at vs (drop (0 + length vs) l) n (omega arith))

-- ---- a part that was lent

set_back : (p q : List ℕ) (i v : ℕ) → set (p ++ q) (length p + i) v ≡ p ++ set q i v
set_back [] q i v = rw zero-add
set_back (x ∷ p) q i v = rw suc-add (ap (λ (l : List ℕ). x ∷ l) (set_back p q i v))

-- stores past the first list are stores in the second
sets_back : (vs p q : List ℕ) (i : ℕ) → sets (p ++ q) (length p + i) vs ≡ p ++ sets q i vs
sets_back [] p q i = refl
sets_back (v ∷ vs) p q i = rw (set_back p q i v, ← add-suc) (sets_back vs p (set q i v) (suc i))

sets_front : (vs p q : List ℕ) (i : ℕ) → i + length vs ≤ length p → sets (p ++ q) i vs ≡ sets p i vs ++ q
sets_front [] p q i h = refl
sets_front (v ∷ vs) p q i h =
    let l : i < length p = omega arith in
    rw (set-append_left p q i v) (sets_front vs (set p i v) q (suc i) (simp length-set (omega arith)))

sets_part : (s vs : List ℕ) (a k : ℕ) → a + k ≤ length s → length vs ≤ k
    → take a s ++ (sets (take k (drop a s)) 0 vs ++ drop k (drop a s)) ≡ sets s a vs
sets_part s vs a k h f =
    let n : length (take k (drop a s)) ≡ k = length-take-le k (drop a s) (simp length-drop (omega arith)) in
    let m : length (take a s) + 0 ≡ a = omega (arith, length-take-le a s (omega arith)) in
    let e = sets_back vs (take a s) (drop a s) 0 in
    let g = sets_front vs (take k (drop a s)) (drop k (drop a s)) 0 (omega arith) in
    sym (rw (take-append-drop a s, m) at e ∙ ap (λ (l : List ℕ). take a s ++ l) (rw (take-append-drop k (drop a s)) at g))

-- k bytes from a on were lent, and come back with vs stored from their start: the whole has vs from a on
pub part_back : (s ys vs : List ℕ) (a k : ℕ) → ys ≡ sets (take k (drop a s)) 0 vs → a + k ≤ length s → length vs ≤ k → put_mid a k s ys ≡ sets s a vs
part_back s ys vs a k e h f = ap (λ (l : List ℕ). put_mid a k s l) e ∙ sets_part s vs a k h f

-- ---- takes and drops

-- no more can be taken than there is
pub take_least : {A : Type 0} (m n : ℕ) (l : List A) → m ≡ min n (length l) → take m l ≡ take n l
take_least zero zero l e = refl
take_least zero (suc n) [] e = refl
take_least zero (suc n) (x ∷ l) e = let z : ⊥ = omega arith in absurd z
take_least (suc m) n [] e = let z : ⊥ = omega arith in absurd z
take_least (suc m) zero (x ∷ l) e = let z : ⊥ = omega arith in absurd z
take_least {A} (suc m) (suc n) (x ∷ l) e = ap (λ (r : List A). x ∷ r) (take_least m n l (omega arith))

pub drop_take : (a n : ℕ) (l : List ℕ) → drop a (take n l) ≡ take (n - a) (drop a l)
drop_take zero n l = let e : n - 0 ≡ n = omega arith in rw e
drop_take (suc a) zero l = let e : 0 - suc a ≡ 0 = omega arith in rw e
drop_take (suc a) (suc n) [] = sym (take-nil (suc n - suc a))
drop_take (suc a) (suc n) (x ∷ l) = let e : suc n - suc a ≡ n - a = omega arith in rw e (drop_take a n l)

pub take_take_min : (m n k : ℕ) (l : List ℕ) → k ≡ min m n → take m (take n l) ≡ take k l
take_take_min zero n k l e = let z : k ≡ 0 = omega arith in rw z
take_take_min (suc m) zero k l e = let z : k ≡ 0 = omega arith in rw z
take_take_min (suc m) (suc n) zero l e = let z : ⊥ = omega arith in absurd z
take_take_min (suc m) (suc n) (suc k) [] e = refl
take_take_min (suc m) (suc n) (suc k) (x ∷ l) e = ap (λ (r : List ℕ). x ∷ r) (take_take_min m n k l (omega arith))
