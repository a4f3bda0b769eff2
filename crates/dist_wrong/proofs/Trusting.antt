-- A machine that trusts "27T shows reset" when its own Reset descriptor was lost breaks the promise.
-- Assumes nothing.
use mathlib.Core.List.{◌∷◌, ◌++◌}
use Rattle.promises.specs.Run.{submit, reset, told_no_reply}
use Rattle.promises.specs.Promise.{Promise}
use Rattle.dist_wrong.specs.Made.{in_mode0}
use Rattle.dist_wrong.specs.Machines.{trusting}
use Rattle.dist_wrong.proofs.Open.{opened}
use Rattle.dist_wrong.proofs.Fresh.{convict_in_0}
use Rattle.dist_wrong.proofs.Runs.{byte, done, read, sync, takes}

-- the first block stays in hand; the second Reset does not arrive; taking the old block 1 confirms the new block 1
pub breaks : Promise 1024 (in_mode0 trusting) → ⊥
unfolding opened
breaks =
    convict_in_0 trusting
    (sync ++ (submit (byte 1 tt) ∷ done) ++ done ++ (reset ∷ told_no_reply ∷ read) ++ (submit (byte 2 tt) ∷ done) ++ done ++ takes 64 ++ read)
