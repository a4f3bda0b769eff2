-- A message arrives: a confirmation at 28R, or a command at SA 1R (document 01, "Acquisition").
-- Assumes nothing.
use Rattle.std.specs.Prelude.{ℕ, Bool, cond, not, Result, Ok, Err, List, ◌==◌}
use Rattle.words.specs.Count.{acquisition_count, same_acquisition}
use Rattle.words.specs.Link.{configured_of}
use Rattle.words.specs.Reading.{read_confirmation_of}
use Rattle.words.specs.Command.{read_command_of}
use Rattle.words.specs.Refusal.{Stepped, accept, refuse}
use Rattle.words.specs.declared.refusal.Refusal.{Refusal}
use Rattle.words.specs.declared.refusal.Refusal.TheVariants.{NotReady, BadMessage}
use Rattle.words.specs.declared.command.Command.{Command}
use Rattle.words.specs.declared.control.Control.{Control}
use Rattle.words.specs.declared.control.Control.TheVariants.{Reset, Block}
use Rattle.words.specs.declared.count.AcquisitionCount.{AcquisitionCount}
use Rattle.acq_terminal.specs.State.{asking_of, accepted_of, ended_of}
use Rattle.acq_terminal.specs.declared.state.Stage.{Stage}
use Rattle.acq_terminal.specs.declared.state.Stage.TheVariants.{Silent, Asking, Ready, Open}
use Rattle.acq_terminal.specs.declared.state.Fate.TheVariants as Fate
use Rattle.acq_terminal.specs.declared.state.Terminal.{Terminal}

abbrev pub Step : Type 0
Step = Stepped Terminal (Unit {0})

-- ---- 28R

-- of the open block, by its count alone: confirmed, or failed where Error is set, whatever its quality
abbrev pub confirmed_in : Stage → Bool → AcquisitionCount → Terminal → Terminal
confirmed_in Silent error count t = t
confirmed_in Asking error count t = t
confirmed_in Ready error count t = t
confirmed_in (Open placed) error count t =
    cond (not (same_acquisition count t.count)) t (cond error (ended_of Fate.Failed t) (ended_of Fate.Confirmed t))

abbrev pub confirmed_of : Bool → AcquisitionCount → Terminal → Terminal
confirmed_of error count t = confirmed_in t.stage error count t

-- the reset confirmation, while a Reset request stands
abbrev pub reset_in : Stage → Terminal → Terminal
reset_in Silent t = t
reset_in Asking t = accepted_of t
reset_in Ready t = t
reset_in (Open placed) t = t

abbrev pub judged_of : Control Bool AcquisitionCount → Terminal → Terminal
judged_of Reset t = reset_in t.stage t
judged_of (Block size error count) t = confirmed_of error count t

-- 6 to 9
abbrev pub confirmation_in : Result (Control Bool AcquisitionCount) Refusal → Terminal → Step
confirmation_in (Err r) t = refuse r t
confirmation_in (Ok confirmation) t = accept (judged_of confirmation t)

unfoldable pub confirmation_of : Terminal → List ℕ → Step
confirmation_of t words = confirmation_in (read_confirmation_of acquisition_count words t.link) t

-- ---- SA 1R: the Reset command has the effect of the application's own request

abbrev pub command_in : Result Command Refusal → Terminal → Step
command_in (Err r) t = refuse r t
command_in (Ok Command.Reset) t = accept (asking_of t)
command_in (Ok Command.Other) t = accept t

unfoldable pub command_of : Terminal → List ℕ → Step
command_of t words = command_in (read_command_of words) t

-- ---- 1: link not configured; 19: a subaddress that this end does not use

unfoldable pub receive_of : Terminal → ℕ → List ℕ → Step
receive_of t subaddress words =
    cond (not (configured_of t.link)) (refuse NotReady t)
    (cond (subaddress == 28) (confirmation_of t words)
    (cond (subaddress == 1) (command_of t words) (refuse BadMessage t)))
