-- A machine that starts 255 transfers breaks the promise: the count comes round to the one that 27T still shows.
-- Assumes nothing.
use mathlib.Core.List.{[], ◌∷◌, ◌++◌}
use Rattle.promises.specs.Run.{submit, told_no_reply}
use Rattle.promises.specs.Promise.{Promise}
use Rattle.dist_wrong.specs.Made.{in_mode0}
use Rattle.dist_wrong.specs.Machines.{starting255}
use Rattle.dist_wrong.proofs.Open.{opened}
use Rattle.dist_wrong.proofs.Fresh.{convict_in_0}
use Rattle.dist_wrong.proofs.Runs.{byte, done, read, sync, whole, times}

-- one block is confirmed, 254 are abandoned at their first message, and the descriptor of the next does not arrive
pub breaks : Promise 1024 (in_mode0 starting255) → ⊥
unfolding opened
breaks =
    convict_in_0 starting255
    (sync ++ whole (byte 1 tt) ++ times 254 (submit (byte 2 tt) ∷ told_no_reply ∷ []) ++ (submit (byte 3 tt) ∷ done) ++ (told_no_reply ∷ read))
