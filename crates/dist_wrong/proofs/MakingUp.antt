-- A machine that makes up the message count breaks the promise.
-- Assumes nothing.
use Prim.Native.Nat.{ℕ}
use mathlib.Core.Path.{◌≡◌, refl}
use mathlib.Core.List.{[], ◌∷◌, ◌++◌}
use native.Mathlib.Omega.{arith}
use Rattle.promises.specs.Run.{submit, told_no_reply}
use Rattle.promises.specs.Promise.{Promise}
use Rattle.dist_wrong.specs.Made.{in_mode0}
use Rattle.dist_wrong.specs.Machines.{making_up, estimating}
use Rattle.dist_wrong.proofs.Open.{opened}
use Rattle.dist_wrong.proofs.Fresh.{plain_in_0}
use Rattle.dist_wrong.proofs.Runs.{byte, done, read, sync, takes}

-- three messages were asked for, and it says four
pub breaks : Promise 1024 (in_mode0 making_up) → ⊥
unfolding opened
breaks p =
    let e : ◌≡◌ {A = ℕ} 4 3 =
    ((plain_in_0 making_up p).confirms sync (byte 1 tt) (done ++ done ++ takes 64 ++ read) refl (record { hand = refl; parts = refl }) refl).count
    in
    omega arith

-- one message was asked for, and it says three
pub breaks_estimate : Promise 1024 (in_mode0 estimating) → ⊥
unfolding opened
breaks_estimate p =
    let e : ◌≡◌ {A = ℕ} 3 1 = (plain_in_0 estimating p).counts (sync ++ (submit (byte 1 tt) ∷ told_no_reply ∷ [])) in
    omega arith
