use Rattle.std.proofs.Common.{◌≡◌, drop}
use Rattle.std.proofs.lemmas.List.Edits.{sets}
use Rattle.blockrun_text.specs.Hex.{bytes_of}
use Rattle.blockrun_text.proofs.parse.read_digits.Given as goal

abbrev pub invariant-loop-i : goal.invariant-loop-i
invariant-loop-i l = sets l.byte-items l.i (drop l.i (bytes_of l.digits)) ≡ sets l.initial.byte-items 0 (bytes_of l.digits)
