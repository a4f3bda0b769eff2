-- A link is configured, and what the controller tells its application (document 01, "The two machines", "Acquisition").
-- Assumes nothing.
use Rattle.std.specs.Prelude.{ℕ, cond, not, ◌||◌, Option, Some, None, Result, Ok, Err, List, [], ◌∷◌, length, nat_lt}
use Rattle.words.specs.Link.{configure_of, configured_of, message_store_of, block_store_of}
use Rattle.words.specs.Control.{bit_of}
use Rattle.words.specs.Refusal.{accept, refuse, numbers_of}
use Rattle.words.specs.declared.refusal.Refusal.{Refusal}
use Rattle.words.specs.declared.refusal.Refusal.TheVariants.{NotReady, BadConfiguration}
use Rattle.words.specs.declared.link.Link.{Link}
use Rattle.words.specs.declared.link.Settings.{Settings}
use Rattle.acq_controller.specs.State.{fresh_of}
use Rattle.acq_controller.specs.Request.{Step}
use Rattle.acq_controller.specs.Data.{counted}
use Rattle.acq_controller.specs.Asked.{message_list}
use Rattle.acq_controller.specs.declared.state.Fate.{Fate}
use Rattle.acq_controller.specs.declared.state.Controller.{Controller}
use Rattle.acq_controller.specs.declared.report.Report.{Report}

-- 20: a configuration outside the ranges, or a store too short. Configuring starts a new run; refused, it leaves an earlier one as it was
abbrev pub configuring_in : Result Link Refusal → Controller → ℕ → ℕ → Step
configuring_in (Err r) c store hand = refuse r c
configuring_in (Ok link) c store hand =
    cond (nat_lt store (message_store_of link) || nat_lt hand (block_store_of link)) (refuse BadConfiguration c) (accept (fresh_of link 0))

unfoldable pub configuring_of : Controller → Settings → ℕ → ℕ → Step
configuring_of c settings store hand = configuring_in (configure_of settings) c store hand

-- how long the transfer's message list is
unfoldable pub messages_of : Controller → ℕ
messages_of c = counted (length (message_list c))

unfoldable pub report_of : Controller → Result Report Refusal
report_of c =
    cond (not (configured_of c.link)) (Err NotReady)
    (Ok (record { fate = c.transfer.fate; messages = messages_of c; seen = c.seen }))

-- ---- the answer as numbers

abbrev pub fate_number : Option Fate → ℕ
fate_number None = 0
fate_number (Some Fate.Held) = 1
fate_number (Some Fate.Taken) = 2
fate_number (Some Fate.Failed) = 3
fate_number (Some Fate.Reset) = 4

-- the paper's number, 0 for accepted, and the values
abbrev pub report_numbers : Result Report Refusal → List ℕ
report_numbers answer = numbers_of (λ (r : Report). fate_number r.fate ∷ r.messages ∷ bit_of r.seen ∷ []) answer
