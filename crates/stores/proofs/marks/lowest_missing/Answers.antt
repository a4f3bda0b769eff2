use Rattle.std.proofs.Common.{arith, refl}
use Rattle.stores.proofs.Marking.{missing_there, missing_nowhere, missing_or_zero}
use Rattle.stores.proofs.marks.lowest_missing.Goals as goal

pub returns-then-place-from-clause-or_zero : goal.returns-then-place-from-clause-or_zero
returns-then-place-from-clause-or_zero c =
    let a = c.args in
    rw (missing_there a.marks a.needed _ c.ranges.marks.fits refl (omega (arith, c.if-place-from.true, c.from.ensures, c.min.ensures))) at (missing_or_zero a.marks a.needed)

pub returns-clause-or_zero : goal.returns-clause-or_zero
returns-clause-or_zero c =
    let a = c.args in
    rw (missing_nowhere a.marks a.needed _ c.ranges.marks.fits refl (omega (arith, c.if-place-from.false, c.from.ensures, c.min.ensures))) at (missing_or_zero a.marks a.needed)
