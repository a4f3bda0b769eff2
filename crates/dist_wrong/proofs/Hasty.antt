-- A machine whose terminal confirms a block before it is taken breaks the promise.
-- Assumes nothing.
use mathlib.Core.List.{◌∷◌, ◌++◌}
use Rattle.promises.specs.Run.{submit}
use Rattle.promises.specs.Promise.{Promise}
use Rattle.dist_wrong.specs.Made.{in_mode0}
use Rattle.dist_wrong.specs.Machines.{hasty}
use Rattle.dist_wrong.proofs.Open.{opened}
use Rattle.dist_wrong.proofs.Fresh.{convict_in_0}
use Rattle.dist_wrong.proofs.Runs.{byte, done, read, sync}

-- confirmed, with no take
pub breaks : Promise 1024 (in_mode0 hasty) → ⊥
unfolding opened
breaks = convict_in_0 hasty (sync ++ (submit (byte 1 tt) ∷ done) ++ done ++ read)
