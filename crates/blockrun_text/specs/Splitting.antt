-- Where a line ends.
-- Assumes nothing.
use Rattle.std.specs.Prelude.{ℕ, suc, min, ◌+◌, cond, List, [], ◌∷◌, Option, None, Some, eqb, ltb, length, drop}

-- how many bytes stand before the first newline, which is 10
unfoldable pub first_newline : List ℕ → ℕ
first_newline [] = 0
first_newline (x ∷ bytes) = cond (eqb x 10) 0 (suc (first_newline bytes))

-- the place of the first newline at or after `from`, the length where there is none
unfoldable pub end_of : List ℕ → ℕ → ℕ
end_of buffer from = min (length buffer) (from + first_newline (drop from buffer))

-- the first newline at or after `from`, none where it is the length that `end_of` says
unfoldable pub newline_of : List ℕ → ℕ → Option ℕ
newline_of buffer from = cond (ltb (end_of buffer from) (length buffer)) (Some (end_of buffer from)) None
