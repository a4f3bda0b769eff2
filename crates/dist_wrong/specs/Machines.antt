-- Wrong machines: each has the real calls of both ends, but one thing is changed.
-- Assumes nothing.
use Rattle.std.specs.Prelude.{ℕ, zero, suc, ◌+◌, false, cond, not, Option, Some, None, Result, Ok, Err, List, eqb, leb, length}
use Rattle.words.specs.Control.{distribution_confirmation_words}
use Rattle.words.specs.Count.{distribution_count, next_distribution}
use Rattle.words.specs.Cutting.{messages_of, size_answer_of}
use Rattle.words.specs.Reading.{read_descriptor_of}
use Rattle.words.specs.Refusal.{Stepped, Answer, accept, refuse}
use Rattle.words.specs.declared.refusal.Refusal.{Refusal}
use Rattle.words.specs.declared.refusal.Refusal.TheVariants.{NotReady, NoAcceptedReset, TransferOpen, TransfersSpent}
use Rattle.words.specs.declared.count.DistributionCount.{DistributionCount}
use Rattle.words.specs.declared.control.Quality.{Quality}
use Rattle.words.specs.declared.control.Quality.TheVariants.{BestEffort}
use Rattle.words.specs.declared.control.Control.{Control}
use Rattle.words.specs.declared.control.Control.TheVariants as D
use Rattle.words.specs.declared.status.Outcome.{Outcome}
use Rattle.words.specs.declared.status.Outcome.TheVariants.{Done}
use Rattle.dist_controller.specs.State.{is_open, with_standing, with_transfer}
use Rattle.dist_controller.specs.Submit.{short_of, then_answer}
use Rattle.dist_controller.specs.Told.{told_of}
use Rattle.dist_controller.specs.Report.{report_of}
use Rattle.dist_controller.specs.declared.state.Controller.{Controller}
use Rattle.dist_controller.specs.declared.state.Fate.TheVariants as Fate
use Rattle.dist_controller.specs.declared.state.Phase.{Phase}
use Rattle.dist_controller.specs.declared.state.Phase.TheVariants.{Idle, Sending, Waiting, Reading, Resetting, ResetWaiting, ResetReading, CutSending, CutReading, CutResetting}
use Rattle.words.specs.declared.message.Message.{Message}
use Rattle.dist_controller.specs.declared.report.Report.{Report}
use Rattle.dist_terminal.specs.State.{cleared_of, with_hand}
use Rattle.dist_terminal.specs.Descriptor.{short, judged_of, block_step, block_hand, descriptor_in, hand_in}
use Rattle.dist_terminal.specs.Data.{data_of}
use Rattle.dist_terminal.specs.declared.state.Terminal.{Terminal}
use Rattle.dist_terminal.specs.declared.descriptor.Misfit.{Misfit}
use Rattle.dist_terminal.specs.declared.descriptor.Misfit.TheVariants.{Again}
use Rattle.dist_wrong.specs.Made.{Ways, real}

-- ---- the controller

-- the real ends, but for: answers to submissions, the transfer started, the message asked for, the outcome as it is heard, the report
abbrev pub controlled : (Controller → ℕ → ℕ → Answer) → (Quality → ℕ → Controller → Controller) → (Controller → Option Message)
    → (Controller → Outcome → Outcome) → (Controller → Result Report Refusal) → Ways
controlled admits starts asks hears reports =
    record {
      admits = admits;
      starts = starts;
      asks = asks;
      told = λ c outcome words. told_of c (hears c outcome) words;
      reports = reports;
      receives = real.receives;
      hands = real.hands;
    }

abbrev pub as_told : Controller → Outcome → Outcome
as_told c outcome = outcome

-- refuses every submission
abbrev pub refusing : Ways
refusing = controlled (λ c size store. Err TransfersSpent) real.starts real.asks as_told real.reports

-- asks for no message
abbrev pub silent : Ways
silent = controlled real.admits real.starts (λ c. None) as_told real.reports

abbrev pub counting : ℕ → Result Report Refusal → Result Report Refusal
counting n (Err m) = Err m
counting n (Ok r) = Ok (record { fate = r.fate; messages = n; found = r.found; acceptance = r.acceptance })

-- says that each transfer took four messages
abbrev pub making_up : Ways
making_up = controlled real.admits real.starts real.asks as_told (λ c. counting 4 (report_of c))

-- works its message count out from the block's size: right whenever all goes well
abbrev pub estimating : Ways
estimating =
    controlled real.admits real.starts real.asks as_told (λ c. counting (messages_of c.transfer.size + 2) (report_of c))

abbrev pub reset_done : Phase → Outcome → Outcome
reset_done Idle outcome = outcome
reset_done Sending outcome = outcome
reset_done Waiting outcome = outcome
reset_done Reading outcome = outcome
reset_done Resetting outcome = Done
reset_done ResetWaiting outcome = outcome
reset_done ResetReading outcome = outcome
reset_done CutSending outcome = outcome
reset_done CutReading outcome = outcome
reset_done CutResetting outcome = outcome

-- waits for 27T to show reset, and trusts it, though its Reset descriptor was lost
abbrev pub trusting : Ways
trusting = controlled real.admits real.starts real.asks (λ c outcome. reset_done c.phase outcome) real.reports

abbrev pub data_done : Phase → Outcome → Outcome
data_done Idle outcome = outcome
data_done Sending outcome = Done
data_done Waiting outcome = outcome
data_done Reading outcome = outcome
data_done Resetting outcome = outcome
data_done ResetWaiting outcome = outcome
data_done ResetReading outcome = outcome
data_done CutSending outcome = outcome
data_done CutReading outcome = outcome
data_done CutResetting outcome = outcome

-- goes on to the descriptor after a data message that failed, with Verified Length too
abbrev pub going_on : Ways
going_on = controlled real.admits real.starts real.asks (λ c outcome. data_done c.phase outcome) real.reports

-- a submission's answer, and the transfer started, with another limit than 254 of started transfers
abbrev pub admits_to : ℕ → Controller → ℕ → ℕ → Answer
admits_to limit c size store =
    cond (short_of c.link store) (Err NotReady)
    (cond (not c.standing.accepted) (Err NoAcceptedReset)
    (then_answer (size_answer_of c.link size)
    (cond (is_open c.phase) (Err TransferOpen) (cond (leb limit c.standing.spent) (Err TransfersSpent) (Ok tt)))))

abbrev pub starts_to : ℕ → Quality → ℕ → Controller → Controller
starts_to limit quality size c =
    with_transfer (record { size = size; quality = quality; gone = 1; fate = (Some Fate.Open) }) Sending
    (with_standing
    (record {
      accepted = c.standing.accepted;
      count = next_distribution c.standing.count;
      spent = cond (leb limit c.standing.spent) c.standing.spent (c.standing.spent + 1);
    })
    Sending
    c)

-- starts up to 255 transfers
abbrev pub starting255 : Ways
starting255 = controlled (admits_to 255) (starts_to 255) real.asks as_told real.reports

-- ---- the terminal

-- what a descriptor of a block does: to the terminal; to its hand, with the message store
abbrev pub Step : Type 0
Step = Terminal → ℕ → Quality → DistributionCount → Stepped Terminal (Unit {0})

abbrev pub Held : Type 0
Held = Terminal → ℕ → Quality → DistributionCount → List ℕ → List ℕ → List ℕ

abbrev pub step_by : Step → Result (Control Quality DistributionCount) Refusal → Terminal → Stepped Terminal (Unit {0})
step_by block (Ok D.Reset) t = descriptor_in (Ok D.Reset) t
step_by block (Ok (D.Block size quality count)) t = block t size quality count
step_by block (Err n) t = descriptor_in (Err n) t

abbrev pub hand_by : Held → Result (Control Quality DistributionCount) Refusal → Terminal → List ℕ → List ℕ → List ℕ
hand_by block (Ok D.Reset) t store hand = hand_in (Ok D.Reset) t store hand
hand_by block (Ok (D.Block size quality count)) t store hand = block t size quality count store hand
hand_by block (Err n) t store hand = hand_in (Err n) t store hand

abbrev pub receives_by : Step → Terminal → ℕ → List ℕ → ℕ → ℕ → Stepped Terminal (Unit {0})
receives_by block t subaddress words store hand =
    cond (short t.link store hand) (refuse NotReady t)
    (cond (eqb subaddress 27)
    (cond (short t.link store hand) (refuse NotReady t) (step_by block (read_descriptor_of distribution_count words t.link) t))
    (data_of t subaddress (length words) store))

abbrev pub hands_by : Held → Terminal → ℕ → List ℕ → List ℕ → List ℕ → List ℕ
hands_by block t subaddress words store hand =
    cond (short t.link (length store) (length hand)) hand
    (cond (eqb subaddress 27)
    (cond (short t.link (length store) (length hand)) hand (hand_by block (read_descriptor_of distribution_count words t.link) t store hand))
    hand)

-- the real ends, but for what a descriptor of a block does
abbrev pub received : Step → Held → Ways
received step held =
    record {
      admits = real.admits;
      starts = real.starts;
      asks = real.asks;
      told = real.told;
      reports = real.reports;
      receives = receives_by step;
      hands = hands_by held;
    }

-- the real ends, but for how a descriptor of a block is judged
abbrev pub judging : (Terminal → ℕ → Quality → DistributionCount → Result (Unit {0}) Misfit) → Ways
judging judged =
    received
    (λ t size quality count. block_step (judged t size quality count) t size count)
    (λ t size quality count store hand. block_hand (judged t size quality count) t size store hand)

-- takes every descriptor for a good one
abbrev pub accepting : Ways
accepting = judging (λ t size quality count. Ok tt)

-- takes every descriptor for one it had before
abbrev pub declining : Ways
declining = judging (λ t size quality count. Err Again)

-- judges a Verified Length block as if it were Best Effort
abbrev pub unverifying : Ways
unverifying = judging (λ t size quality count. judged_of t size BestEffort count)

-- no block is held, and 27T shows the count at once
abbrev pub echoed : ℕ → DistributionCount → Terminal → Terminal
echoed size count t = with_hand count t.hand (distribution_confirmation_words t.link size false count) (cleared_of t)

abbrev pub echo_step : ℕ → Step
echo_step zero t size quality count = block_step (judged_of t size quality count) t size count
echo_step (suc n) t size quality count = accept (echoed size count t)

-- takes the first block after a Reset, and then only echoes each descriptor's count in 27T
abbrev pub echoing : Ways
echoing =
    received
    (λ t size quality count. echo_step t.handled.0 t size quality count)
    (λ t size quality count store hand. block_hand (judged_of t size quality count) t size store hand)

abbrev pub shows : Result (Unit {0}) Misfit → Terminal → ℕ → DistributionCount → Stepped Terminal (Unit {0})
shows (Err m) t size count = block_step (Err m) t size count
shows (Ok u) t size count =
    accept
    (with_hand count (Some (record { size = size; count = count })) (distribution_confirmation_words t.link size false count) (cleared_of t))

-- writes 27T when it accepts a block, not when the block is taken
abbrev pub hasty : Ways
hasty =
    received
    (λ t size quality count. shows (judged_of t size quality count) t size count)
    (λ t size quality count store hand. block_hand (judged_of t size quality count) t size store hand)
