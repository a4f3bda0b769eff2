use Rattle.std.proofs.Common.{[], ◌≡◌}
use Rattle.std.proofs.lemmas.List.Edits.{sets}
use Rattle.blockrun_text.proofs.Digits.{last_of}
use Rattle.blockrun_text.proofs.print.put_digits.Given as goal

abbrev pub invariant-loop-i : goal.invariant-loop-i
invariant-loop-i l = sets l.room 0 (last_of l.i l.rest []) ≡ sets l.initial.room 0 (last_of l.size l.n [])
