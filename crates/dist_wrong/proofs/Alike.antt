-- A machine whose terminal answers every descriptor alike breaks the promise.
-- Assumes nothing.
use mathlib.Core.Path.{◌≡◌, refl, subst, sym}
use mathlib.Core.List.{◌∷◌, ◌++◌}
use Rattle.promises.specs.Run.{submit, restart_receiver, Answer, denied, ok, accepted, confirmed, failed, gave}
use Rattle.promises.specs.Promise.{Promise}
use Rattle.dist_wrong.specs.Made.{in_mode0}
use Rattle.dist_wrong.specs.Machines.{accepting, declining}
use Rattle.dist_wrong.proofs.Open.{opened}
use Rattle.dist_wrong.proofs.Fresh.{plain_in_0, convict_in_0}
use Rattle.dist_wrong.proofs.Runs.{byte, done, read, sync, takes}

-- the terminal restarts between the data message and the descriptor: a zero is delivered
pub breaks : Promise 1024 (in_mode0 accepting) → ⊥
unfolding opened
breaks = convict_in_0 accepting (sync ++ (submit (byte 1 tt) ∷ done) ++ (restart_receiver ∷ done) ++ takes 64)

abbrev IsConfirmed : Answer → Type 0
IsConfirmed denied = ⊥
IsConfirmed ok = ⊥
IsConfirmed accepted = ⊥
IsConfirmed confirmed = Unit {0}
IsConfirmed (failed f) = ⊥
IsConfirmed (gave b) = ⊥

not_confirmed : (a : Answer) → a ≡ confirmed → IsConfirmed a
not_confirmed a e = subst IsConfirmed (sym e) tt

-- all goes well, and the block is not confirmed
pub breaks_declining : Promise 1024 (in_mode0 declining) → ⊥
unfolding opened
breaks_declining p =
    not_confirmed _
    ((plain_in_0 declining p).confirms sync (byte 1 tt) (done ++ done ++ read) refl (record { hand = refl; parts = refl }) refl).answer
