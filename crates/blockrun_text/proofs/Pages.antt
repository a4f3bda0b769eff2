-- Texts put on a page.
-- Assumes nothing.
use Rattle.std.proofs.Common.{append_assoc, [], ◌∷◌, ◌/◌, ◌%◌, ◌^◌, get_or, ◌≡◌, ℕ, min, ◌+◌, ◌-◌, ◌≤◌, ◌<◌, List, ◌++◌, length, refl, take, drop, length-drop, length-append, sym, ap, ◌∙◌, arith}
use Rattle.std.proofs.lemmas.List.Edits.{sets}
use lib.Seq.{length-take-le, length-sets}
use lib.ListN.{length-take}
use borrow.Rule.Slice.Mut.{set_vals}
use borrow.Rule.Slice.PartMut.{put_mid}
use Rattle.stores.proofs.Runs.{sets_cut, sets_all, part_back}
use Rattle.blockrun_text.specs.Pages.{put}
use Rattle.blockrun_text.specs.declared.print.Page.{Page}
use Rattle.std.specs.List.{flat_map}
use Rattle.blockrun_text.proofs.Putting.{put_on, sets_cap, flat_map_more}

-- a page is known by its bytes and its place
puts : (p : Page) (text bytes : List ℕ) (at : ℕ) → bytes ≡ sets p.bytes.now p.at text → at ≡ min (length p.bytes.now) (p.at + length text)
    → record { bytes = set_vals bytes p.bytes; at = at } ≡ put p text
unfolding put
puts p text bytes at e f = λ i. record { bytes = set_vals (e i) p.bytes; at = f i }

-- the place is taken as the length where it is past the end
pub put_capped : (p : Page) (text bytes : List ℕ) (a at : ℕ) → a ≡ min p.at (length p.bytes.now) → bytes ≡ sets p.bytes.now a text
    → at ≡ min (length p.bytes.now) (a + length text) → record { bytes = set_vals bytes p.bytes; at = at } ≡ put p text
put_capped p text bytes a at h e f = puts p text bytes at (e ∙ sets_cap p.bytes.now text p.at a (omega arith)) (omega arith)

-- a text, or what fits of it, was copied into the part behind the place
pub put_whole : (p : Page) (text ys : List ℕ) (a k : ℕ) → a ≡ min p.at (length p.bytes.now) → k ≡ length text → a + length text ≤ length p.bytes.now → ys ≡ text
    → record { bytes = set_vals (put_mid a k p.bytes.now ys) p.bytes; at = a + length text } ≡ put p text
put_whole p text ys a k h e f g =
    let l = p.bytes.now in
    let m : length (take k (drop a l)) ≡ k = length-take-le k (drop a l) (simp length-drop (omega arith)) in
    let b = part_back l ys text a k (g ∙ sym (sets_all (take k (drop a l)) text (omega arith))) (omega arith) (omega arith) in
    put_capped p text _ a (a + length text) h b (omega arith)

pub put_part : (p : Page) (text ys : List ℕ) (a k : ℕ) → a ≡ min p.at (length p.bytes.now) → k ≡ length p.bytes.now - a → k < length text → ys ≡ take k text
    → record { bytes = set_vals (put_mid a k p.bytes.now ys) p.bytes; at = a + k } ≡ put p text
put_part p text ys a k h e f g =
    let l = p.bytes.now in
    let t : length (take k text) ≡ k = length-take-le k text (omega arith) in
    let m : length (take k (drop a l)) ≡ k = length-take-le k (drop a l) (simp length-drop (omega arith)) in
    let b = part_back l ys (take k text) a k (g ∙ sym (sets_all (take k (drop a l)) (take k text) (omega arith))) (omega arith) (omega arith) in
    put_capped p text _ a (a + k) h (b ∙ sets_cut l text a k (omega arith)) (omega arith)

-- a text was stored in the part behind the place, as much as it has room for
pub put_behind : (p : Page) (text ys : List ℕ) (a k at : ℕ) → a ≡ min p.at (length p.bytes.now) → k ≡ length p.bytes.now - a → ys ≡ sets (take k (drop a p.bytes.now)) 0 text
    → at ≡ min (length p.bytes.now) (a + length text) → record { bytes = set_vals (put_mid a k p.bytes.now ys) p.bytes; at = at } ≡ put p text
put_behind p text ys a k at h e f g =
    let l = p.bytes.now in
    let m : length (take k (drop a l)) ≡ k = length-take-le k (drop a l) (simp length-drop (omega arith)) in
    let t : length (take k text) ≤ k = omega (arith, length-take k text) in
    let b = part_back l ys (take k text) a k (f ∙ sym (sets_cut (take k (drop a l)) text 0 k (omega arith))) (omega arith) t in
    put_capped p text _ a at h (b ∙ sets_cut l text a k (omega arith)) g

-- one text behind the other is both
pub put_append : (p : Page) (u v : List ℕ) → put (put p u) v ≡ put p (u ++ v)
unfolding put
put_append p u v =
    let l = p.bytes.now in
    puts p (u ++ v) _ _ (put_on l (sets l p.at u) u v p.at _ refl refl) (omega (arith, length-append u v, length-sets l p.at u))

-- the place stays inside the buffer, whose length stays
pub put_inside : (p : Page) (text : List ℕ) → ((put p text).at ≤ length (put p text).bytes.now) × (length (put p text).bytes.now ≡ length p.bytes.now)
unfolding put
put_inside p text =
    let n = length-sets p.bytes.now p.at text in
    (omega (arith, n), n)

-- no item yet
pub put_none : (p : Page) (at : ℕ) → at ≡ min p.at (length p.bytes.now) → record { bytes = p.bytes; at = at } ≡ put p []
put_none p at e = put_capped p [] p.bytes.now at at e refl (omega arith)

-- one item more
pub put_more : {A : Type 0} (f : A → List ℕ) (s : List A) (i : ℕ) (x : A) (p q r : Page) → i < length s → x ≡ get_or s i x
    → q ≡ put p (flat_map f (take i s)) → r ≡ put q (f x) → r ≡ put p (flat_map f (take (i + 1) s))
put_more f s i x p q r h e a b =
    let c : flat_map f (take i s) ++ f x ≡ flat_map f (take (i + 1) s) = ap (λ y. flat_map f (take i s) ++ f y) e ∙ sym (flat_map_more f s i x h) in
    b ∙ ap (λ y. put y (f x)) a ∙ put_append p (flat_map f (take i s)) (f x) ∙ ap (put p) c

-- what chains of puts need
pub ruleset puts_law = (put_append, append_assoc)
