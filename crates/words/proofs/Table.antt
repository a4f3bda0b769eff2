-- A table's rule, proved once: a test that is computed over the rows, and the law that turns it into an equation at each row.
-- Assumes nothing.
use Rattle.std.proofs.Common.{◌≡◌, ℕ, Bool, true, false, ◌&&◌, T, eqb, List, [], ◌∷◌, sym, refl, ap, ◌∙◌, ap₂, eqb→eq}
use mathlib.Core.List.{Memᴰ}
use Rattle.words.specs.Edges.{Row}

abbrev pub same : List ℕ → List ℕ → Bool
same [] [] = true
same [] (y ∷ ys) = false
same (x ∷ xs) [] = false
same (x ∷ xs) (y ∷ ys) = eqb x y && same xs ys

abbrev pub every : List Row → Bool
every [] = true
every (r ∷ rs) = same r.given r.paper && every rs

and_left : (a b : Bool) → T (a && b) → T a
and_left true b t = tt
and_left false b t = t

and_right : (a b : Bool) → T (a && b) → T b
and_right true b t = t
and_right false b t = absurd t

same_sound : (xs ys : List ℕ) → T (same xs ys) → xs ≡ ys
same_sound [] [] t = refl
same_sound [] (y ∷ ys) t = absurd t
same_sound (x ∷ xs) [] t = absurd t
same_sound (x ∷ xs) (y ∷ ys) t =
    ap₂ ◌∷◌ (eqb→eq x y (and_left (eqb x y) (same xs ys) t)) (same_sound xs ys (and_right (eqb x y) (same xs ys) t))

pub at : (rs : List Row) → T (every rs) → (r : Row) → Memᴰ r rs → r.given ≡ r.paper
at [] t r x'' = elim x'' [ ]
at (x ∷ rs) t r (Memᴰ.head e) =
    ap (λ (y : Row). y.given) e ∙ same_sound x.given x.paper (and_left (same x.given x.paper) (every rs) t)
    ∙ ap (λ (y : Row). y.paper) (sym e)
at (x ∷ rs) t r (Memᴰ.tail m) = at rs (and_right (same x.given x.paper) (every rs) t) r m
