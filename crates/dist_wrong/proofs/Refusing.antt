-- A machine that refuses every submission breaks the promise.
-- Assumes nothing.
use mathlib.Core.Path.{refl}
use native.Mathlib.Omega.{arith}
use Rattle.promises.specs.Promise.{Promise}
use Rattle.promises.proofs.Convict.{not_ok}
use Rattle.dist_wrong.specs.Made.{in_mode0}
use Rattle.dist_wrong.specs.Machines.{refusing}
use Rattle.dist_wrong.proofs.Open.{opened}
use Rattle.dist_wrong.proofs.Fresh.{plain_in_0}
use Rattle.dist_wrong.proofs.Runs.{byte, sync}

pub breaks : Promise 1024 (in_mode0 refusing) → ⊥
unfolding opened
breaks p = not_ok _ ((plain_in_0 refusing p).admits sync (byte 1 tt) refl refl (omega arith) (omega arith) (omega arith))
