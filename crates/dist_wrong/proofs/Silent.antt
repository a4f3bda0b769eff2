-- A machine that asks for no message breaks the promise.
-- Assumes nothing.
use mathlib.Core.List.{[], ◌∷◌}
use Rattle.promises.specs.Run.{frame}
use Rattle.promises.specs.Promise.{Promise}
use Rattle.dist_wrong.specs.Made.{in_mode0}
use Rattle.dist_wrong.specs.Machines.{silent}
use Rattle.dist_wrong.proofs.Open.{opened}
use Rattle.dist_wrong.proofs.Fresh.{plain_in_0}

-- no Reset is accepted, however many frames go by
pub breaks : Promise 1024 (in_mode0 silent) → ⊥
unfolding opened
breaks p = (plain_in_0 silent p).accepts [] (frame ∷ frame ∷ frame ∷ [])
