-- The machine with nothing changed keeps the promise that the others break.
-- Assumes nothing.
use mathlib.Core.Path.{◌≡◌, refl, subst, sym}
use lib.ListN.{replicate}
use Rattle.std.proofs.Common.{Ok}
use Rattle.dist_promises.proofs.Starts.{settings}
use Rattle.dist_pair.specs.State.{unconfigured}
use Rattle.dist_pair.specs.Events as Events
use Rattle.dist_controller.specs.Report as Controller
use Rattle.dist_terminal.specs.Calls as Terminal
use Rattle.words.specs.Link as Link
use Rattle.promises.specs.Promise.{Promise}
use Rattle.dist_promises.proofs.Theorem.{holds}
use Rattle.dist_wrong.specs.Made.{real, in_mode0}
use Rattle.dist_wrong.proofs.Open.{opened}
use Rattle.dist_wrong.proofs.Right.{right}

configured : (Events.configure_of unconfigured (settings 5 0 11 1024 2) 1024 1024 1024).answer ≡ Ok tt
unfolding opened Events.configure_of Controller.configuring_of Link.configure_of Terminal.configuring_of Terminal.unfit_of
configured = refl

pub keeps : Promise 1024 (in_mode0 real)
keeps =
    subst (Promise 1024) (sym (right 5 0 11 1024 2 (replicate 1024 0) (replicate 1024 0) (replicate 1024 0)))
    (holds 5 0 11 1024 2 (replicate 1024 0) (replicate 1024 0) (replicate 1024 0) configured)
