-- In mode 1, a machine whose terminal does not test Verified Length breaks the promise.
-- Assumes nothing.
use mathlib.Core.List.{[], ◌∷◌, ◌++◌}
use Rattle.promises.specs.Run.{submit, arrive, told_no_reply}
use Rattle.promises.specs.Promise.{Promise}
use Rattle.dist_wrong.specs.Made.{in_mode1}
use Rattle.dist_wrong.specs.Machines.{unverifying}
use Rattle.dist_wrong.proofs.Open.{opened}
use Rattle.dist_wrong.proofs.Fresh.{convict_in_1}
use Rattle.dist_wrong.proofs.Runs.{sure, done, sync, takes}

-- the first block's message arrives and loses its reply, so its words stay in front of the second block's: 1 2 3 4 is delivered
pub breaks : Promise 1024 (in_mode1 unverifying) → ⊥
unfolding opened
breaks =
    convict_in_1 unverifying
    (sync ++ (submit (sure (1 ∷ 2 ∷ []) tt) ∷ arrive ∷ told_no_reply ∷ []) ++ (submit (sure (3 ∷ 4 ∷ 5 ∷ 6 ∷ []) tt) ∷ done) ++ done ++ takes 64)
