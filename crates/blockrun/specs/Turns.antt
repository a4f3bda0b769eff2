-- What a line of input, however long, does to the link and what its answer is.
-- Assumes nothing.
use Rattle.std.specs.Prelude.{ℕ, Bool, cond, ◌||◌, List, length, nat_lt}
use Rattle.blockrun_text.specs.Forms.{line_of}
use Rattle.dist_pair.specs.declared.state.Pair.{Pair}
use Rattle.blockrun_lines.specs.Lines.{no_text}
use Rattle.blockrun_lines.specs.Answering.{Lent, line_pair, line_text}

-- a line over 16384 bytes, or one whose start was passed over, is of another form
abbrev pub passed_over : Bool → List ℕ → Bool
passed_over long line = long || nat_lt 16384 (length line)

abbrev pub pair_after : Bool → Pair → List ℕ → Lent → Pair
pair_after long p line m = cond (passed_over long line) p (line_pair (line_of line) p line m)

abbrev pub answer_to : Bool → Pair → ℕ → List ℕ → Lent → List ℕ
answer_to long p number line m = cond (passed_over long line) (no_text number 0) (line_text (line_of line) p number line m)
