use Rattle.std.proofs.Common.{◌≡◌, ◌≤◌, ◌+◌, drop, unwrap_or}
use Rattle.blockrun_text.specs.Numbers.{number_at, number_on}
use Rattle.blockrun_text.proofs.number.number_at.Given as goal

abbrev pub invariant-loop-i : goal.invariant-loop-i
invariant-loop-i l = record {
  small : unwrap_or l.value 0 ≤ 100000;
  same : number_at l.line l.from ≡ number_on l.value (l.from + l.i) (drop l.i l.byte-items);
}
