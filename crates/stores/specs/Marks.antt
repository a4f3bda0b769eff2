-- The sixteen marks of a terminal's subaddresses in one number (document 01, "Distribution").
-- Assumes nothing.
use Rattle.std.specs.Prelude.{ℕ, zero, suc, ◌+◌, ◌-◌, ◌*◌, ◌/◌, ◌%◌, Bool, true, false, cond, ◌&&◌, List, [], ◌∷◌, take, get_or, set, eqb, leb, ltb, Option, Some, None}

-- the lowest k binary digits of a number, lowest first: whether each is set
unfoldable pub marks_of : ℕ → ℕ → List Bool
marks_of zero m = []
marks_of (suc k) m = eqb (m % 2) 1 ∷ marks_of k (m / 2)

-- the number of digits
unfoldable pub number_of : List Bool → ℕ
number_of [] = 0
number_of (b ∷ bs) = cond b 1 0 + 2 * number_of bs

-- how many are true
unfoldable pub trues : List Bool → ℕ
trues [] = 0
trues (b ∷ bs) = cond b 1 0 + trues bs

-- the place of the first that is false; k where none is (k is at least the length)
unfoldable pub first_false : ℕ → List Bool → ℕ
first_false k [] = k
first_false zero (b ∷ bs) = zero
first_false (suc k) (b ∷ bs) = cond b (suc (first_false k bs)) zero

-- subaddress 11 has place 0, subaddress 26 place 15
unfoldable pub has_mark : ℕ → Bool
has_mark subaddress = leb 11 subaddress && leb subaddress 26

-- marks with that of a subaddress
unfoldable pub mark_of : ℕ → ℕ → ℕ
mark_of m subaddress = cond (has_mark subaddress) (number_of (set (marks_of 16 m) (subaddress - 11) true)) m

unfoldable pub is_marked_of : ℕ → ℕ → Bool
is_marked_of m subaddress = has_mark subaddress && get_or (marks_of 16 m) (subaddress - 11) false

unfoldable pub marked_of : ℕ → ℕ
marked_of m = trues (marks_of 16 m)

-- the subaddress of a place; 0 for the place 16, which means none
abbrev pub subaddress_at : ℕ → ℕ
subaddress_at p = cond (ltb p 16) (11 + p) 0

-- the lowest subaddress missing of the first n
unfoldable pub lowest_missing_of : ℕ → ℕ → ℕ
lowest_missing_of m n = subaddress_at (first_false 16 (take n (marks_of 16 m)))

-- the same, none where each has a mark
unfoldable pub missing_of : ℕ → ℕ → Option ℕ
missing_of m n = let p = first_false 16 (take n (marks_of 16 m)) in cond (ltb p 16) (Some (11 + p)) None
