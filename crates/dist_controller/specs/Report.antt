-- A link is configured, and what the controller tells its application (document 01, "The two machines", "Distribution").
-- Assumes nothing.
use Rattle.std.specs.Prelude.{ℕ, Bool, cond, not, Option, Some, None, Result, Ok, Err, List, [], ◌∷◌, ltb, length}
use Rattle.words.specs.Link.{configure_of, configured_of, block_store_of}
use Rattle.words.specs.Refusal.{Stepped, accept, refuse, numbers_of}
use Rattle.words.specs.declared.refusal.Refusal.{Refusal}
use Rattle.words.specs.declared.refusal.Refusal.TheVariants.{NotReady, BadConfiguration}
use Rattle.words.specs.declared.link.Link.{Link}
use Rattle.words.specs.declared.link.Settings.{Settings}
use Rattle.dist_controller.specs.State.{fresh_of}
use Rattle.dist_controller.specs.Asked.{message_list}
use Rattle.dist_controller.specs.declared.state.Phase.{Phase}
use Rattle.dist_controller.specs.declared.state.Phase.TheVariants.{Idle, Sending, Waiting, Reading, Resetting, ResetWaiting, ResetReading, CutSending, CutReading, CutResetting}
use Rattle.dist_controller.specs.declared.state.Fate.{Fate}
use Rattle.dist_controller.specs.declared.state.Finding.{Finding}
use Rattle.dist_controller.specs.declared.state.Controller.{Controller}
use Rattle.dist_controller.specs.declared.report.Acceptance.{Acceptance}
use Rattle.dist_controller.specs.declared.report.Report.{Report}

-- 20: a configuration outside the ranges, or a store too short. Configuring starts a new run; refused, it leaves an earlier one as it was
abbrev pub configuring_in : Result Link Refusal → Controller → ℕ → Stepped Controller (Unit {0})
configuring_in (Err r) c store = refuse r c
configuring_in (Ok link) c store = cond (ltb store (block_store_of link)) (refuse BadConfiguration c) (accept (fresh_of link 0))

unfoldable pub configuring_of : Controller → Settings → ℕ → Stepped Controller (Unit {0})
configuring_of c settings store = configuring_in (configure_of settings) c store

abbrev pub pending_of : Phase → Acceptance
pending_of Idle = Acceptance.NotAccepted
pending_of Sending = Acceptance.NotAccepted
pending_of Waiting = Acceptance.NotAccepted
pending_of Reading = Acceptance.NotAccepted
pending_of Resetting = Acceptance.Pending
pending_of ResetWaiting = Acceptance.Pending
pending_of ResetReading = Acceptance.Pending
pending_of CutSending = Acceptance.Pending
pending_of CutReading = Acceptance.Pending
pending_of CutResetting = Acceptance.Pending

unfoldable pub acceptance_of : Phase → Bool → Acceptance
acceptance_of phase accepted = cond accepted Acceptance.Accepted (pending_of phase)

-- the message count is that of the messages asked for: the length of the transfer's message list
unfoldable pub report_of : Controller → Result Report Refusal
report_of c =
    cond (not (configured_of c.link)) (Err NotReady)
    (Ok (record {
      fate = c.transfer.fate;
      messages = length (message_list c);
      found = c.found;
      acceptance = acceptance_of c.phase c.standing.accepted;
    }))

-- ---- each answer as numbers

abbrev pub fate_number : Option Fate → ℕ
fate_number None = 0
fate_number (Some Fate.Open) = 1
fate_number (Some Fate.Confirmed) = 2
fate_number (Some Fate.Refused) = 3
fate_number (Some Fate.Unconfirmed) = 4
fate_number (Some Fate.Abandoned) = 5

abbrev pub finding_number : Option Finding → ℕ
finding_number None = 0
finding_number (Some Finding.Reset) = 1
finding_number (Some Finding.Confirmed) = 2
finding_number (Some Finding.Refused) = 3
finding_number (Some Finding.Other) = 4
finding_number (Some Finding.Lost) = 5

abbrev pub acceptance_number : Acceptance → ℕ
acceptance_number Acceptance.NotAccepted = 0
acceptance_number Acceptance.Pending = 1
acceptance_number Acceptance.Accepted = 2

abbrev pub report_values : Report → List ℕ
report_values r = fate_number r.fate ∷ r.messages ∷ finding_number r.found ∷ acceptance_number r.acceptance ∷ []

-- the paper's number, 0 for accepted, and the values
abbrev pub report_numbers : Result Report Refusal → List ℕ
report_numbers answer = numbers_of report_values answer
