-- A machine that carries the first block and then only echoes counts breaks the promise.
-- Assumes nothing.
use mathlib.Core.List.{◌++◌}
use Rattle.promises.specs.Promise.{Promise}
use Rattle.dist_wrong.specs.Made.{in_mode0}
use Rattle.dist_wrong.specs.Machines.{echoing}
use Rattle.dist_wrong.proofs.Open.{opened}
use Rattle.dist_wrong.proofs.Fresh.{convict_in_0}
use Rattle.dist_wrong.proofs.Runs.{byte, sync, whole}

-- the second block is confirmed and never delivered
pub breaks : Promise 1024 (in_mode0 echoing) → ⊥
unfolding opened
breaks = convict_in_0 echoing (sync ++ whole (byte 1 tt) ++ whole (byte 2 tt))
