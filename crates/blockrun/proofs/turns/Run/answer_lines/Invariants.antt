use Rattle.std.proofs.Common.{length, ◌-◌, ◌≤◌}
use Rattle.blockrun.proofs.turns.Run.answer_lines.Given as goal

abbrev pub invariant-loop-from : goal.invariant-loop-from
invariant-loop-from g l = l.from ≤ length l.lines

abbrev pub decreases-loop-from : goal.decreases-loop-from
decreases-loop-from g l = length l.lines - l.from
