-- Bounds that follow from the definitions alone.
-- Assumes nothing.
use Rattle.std.proofs.Common.{◌≤◌, Bool, true, false, lit≤}
use Rattle.words.specs.Control.{bit_of}

pub bit_le : (flag : Bool) → bit_of flag ≤ 1
bit_le false = lit≤ tt
bit_le true = lit≤ tt
