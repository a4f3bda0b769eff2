-- A link is configured, the terminal restarts or asks for a Reset, and what it tells its application
-- (document 01, "The two machines", "Acquisition"). Assumes nothing.
use Rattle.std.specs.Prelude.{ℕ, cond, not, Option, Some, None, Result, Ok, Err, List, [], ◌∷◌, nat_lt}
use Rattle.words.specs.Link.{configure_of, configured_of, block_store_of}
use Rattle.words.specs.Refusal.{Stepped, accept, refuse, numbers_of}
use Rattle.words.specs.declared.refusal.Refusal.{Refusal}
use Rattle.words.specs.declared.refusal.Refusal.TheVariants.{NotReady, BadConfiguration}
use Rattle.words.specs.declared.link.Link.{Link}
use Rattle.words.specs.declared.link.Settings.{Settings}
use Rattle.acq_terminal.specs.State.{fresh_of, asking_of}
use Rattle.acq_terminal.specs.declared.state.Stage.{Stage}
use Rattle.acq_terminal.specs.declared.state.Stage.TheVariants.{Silent, Asking, Ready, Open}
use Rattle.acq_terminal.specs.declared.state.Fate.{Fate}
use Rattle.acq_terminal.specs.declared.state.Terminal.{Terminal}
use Rattle.acq_terminal.specs.declared.calls.Acceptance.{Acceptance}
use Rattle.acq_terminal.specs.declared.calls.Report.{Report}

abbrev pub Step : Type 0
Step = Stepped Terminal (Unit {0})

-- 20: a configuration outside the ranges, or a store too short. Configuring starts a new run; refused, it leaves an earlier one as it was
abbrev pub configuring_in : Result Link Refusal → Terminal → ℕ → Step
configuring_in (Err r) t store = refuse r t
configuring_in (Ok link) t store = cond (nat_lt store (block_store_of link)) (refuse BadConfiguration t) (accept (fresh_of link))

unfoldable pub configuring_of : Terminal → Settings → ℕ → Step
configuring_of t settings store = configuring_in (configure_of settings) t store

-- 1: link not configured
unfoldable pub restart_of : Terminal → Step
restart_of t = cond (not (configured_of t.link)) (refuse NotReady t) (accept (fresh_of t.link))

-- at any time
unfoldable pub reset_of : Terminal → Step
reset_of t = cond (not (configured_of t.link)) (refuse NotReady t) (accept (asking_of t))

abbrev pub acceptance_of : Stage → Acceptance
acceptance_of Silent = Acceptance.NotAsked
acceptance_of Asking = Acceptance.Pending
acceptance_of Ready = Acceptance.Accepted
acceptance_of (Open placed) = Acceptance.Accepted

unfoldable pub report_of : Terminal → Result Report Refusal
report_of t =
    cond (not (configured_of t.link)) (Err NotReady) (Ok (record { fate = t.fate; acceptance = acceptance_of t.stage }))

-- ---- each answer as numbers

abbrev pub fate_number : Option Fate → ℕ
fate_number None = 0
fate_number (Some Fate.Open) = 1
fate_number (Some Fate.Confirmed) = 2
fate_number (Some Fate.Failed) = 3
fate_number (Some Fate.Reset) = 4

abbrev pub acceptance_number : Acceptance → ℕ
acceptance_number Acceptance.NotAsked = 0
acceptance_number Acceptance.Pending = 1
acceptance_number Acceptance.Accepted = 2

-- the paper's number, 0 for accepted, and the values
abbrev pub report_numbers : Result Report Refusal → List ℕ
report_numbers answer = numbers_of (λ (r : Report). fate_number r.fate ∷ acceptance_number r.acceptance ∷ []) answer
