-- A machine that sends the descriptor after a failed Verified data message breaks the promise.
-- Assumes nothing.
use mathlib.Core.List.{◌∷◌, ◌++◌}
use lib.ListN.{replicate}
use Rattle.promises.specs.Run.{submit, told_no_reply}
use Rattle.promises.specs.Promise.{Promise}
use Rattle.dist_wrong.specs.Made.{in_mode0}
use Rattle.dist_wrong.specs.Machines.{going_on}
use Rattle.dist_wrong.proofs.Open.{opened}
use Rattle.dist_wrong.proofs.Fresh.{convict_in_0}
use Rattle.dist_wrong.proofs.Runs.{sure, done, read, sync, takes}

-- the first descriptor does not arrive and the marks stay; of the second block only the first message arrives: half and half are joined
pub breaks : Promise 1024 (in_mode0 going_on) → ⊥
unfolding opened
breaks =
    convict_in_0 going_on
    (sync ++ (submit (sure (replicate 128 1) tt) ∷ done) ++ done ++ (told_no_reply ∷ read)
    ++ (submit (sure (replicate 128 2) tt) ∷ done) ++ (told_no_reply ∷ done) ++ takes 128)
