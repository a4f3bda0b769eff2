-- What an event of the pair is seen to say, by the fates and the acceptance before and after it.
-- Assumes nothing.
use mathlib.Core.Path.{◌≡◌, refl}
use mathlib.Core.Bool.{Bool, true, false, cond, not, ◌&&◌}
use Rattle.std.proofs.Common.{Option, Some, None}
use Rattle.words.specs.Link.{configured_of}
use Rattle.dist_controller.specs.Report.{report_of, acceptance_of, pending_of}
use Rattle.dist_controller.specs.declared.state.Phase.{Phase}
use Rattle.dist_controller.specs.declared.state.Phase.TheVariants.{Idle, Sending, Waiting, Reading, Resetting, ResetWaiting, ResetReading, CutSending, CutReading, CutResetting}
use Rattle.dist_controller.specs.declared.state.Fate.{Fate}
use Rattle.dist_controller.specs.declared.state.Controller.{Controller}
use Rattle.dist_controller.proofs.Listed.{length_list}
use Rattle.promises.specs.Run.{Answer, ok, accepted}
use Rattle.dist_promises.specs.Distribution.{is_open, is_accepted, accepted_of, messages_of, fate_of, end_of, news_of}
use Rattle.dist_promises.proofs.Real.{NotOpen}

-- fates f and g, acceptance a and b, before and after
abbrev pub news_in : Option Fate → Option Fate → Bool → Bool → Answer
news_in f g a b = cond (is_open f) (end_of g (cond (b && not a) accepted ok)) (cond (b && not a) accepted ok)

pending_not : (p : Phase) → is_accepted (pending_of p) ≡ false
pending_not Idle = refl
pending_not Sending = refl
pending_not Waiting = refl
pending_not Reading = refl
pending_not Resetting = refl
pending_not ResetWaiting = refl
pending_not ResetReading = refl
pending_not CutSending = refl
pending_not CutReading = refl
pending_not CutResetting = refl

accepted_is : (p : Phase) (a : Bool) → is_accepted (acceptance_of p a) ≡ a
unfolding acceptance_of
accepted_is p true = refl
accepted_is p false = pending_not p

report_accepted : (c : Controller) → configured_of c.link ≡ true → accepted_of (report_of c) ≡ c.standing.accepted
unfolding report_of
report_accepted c conf = rw conf (accepted_is c.phase c.standing.accepted)

report_fate : (c : Controller) → configured_of c.link ≡ true → fate_of (report_of c) ≡ c.transfer.fate
unfolding report_of
report_fate c conf = rw conf

-- the message count is the number of messages gone
pub report_messages : (c : Controller) → configured_of c.link ≡ true → messages_of (report_of c) ≡ c.transfer.gone
unfolding report_of
report_messages c conf = rw conf (length_list c)

pub news : (c d : Controller) → configured_of c.link ≡ true → configured_of d.link ≡ true
    → news_of (report_of c) (report_of d) ≡ news_in c.transfer.fate d.transfer.fate c.standing.accepted d.standing.accepted
news c d conf conf' = λ i. news_in (report_fate c conf i) (report_fate d conf' i) (report_accepted c conf i) (report_accepted d conf' i)

pub shut : (f : Option Fate) → NotOpen f → is_open f ≡ false
shut None i = refl
shut (Some Fate.Open) i = absurd i
shut (Some Fate.Confirmed) i = refl
shut (Some Fate.Refused) i = refl
shut (Some Fate.Unconfirmed) i = refl
shut (Some Fate.Abandoned) i = refl
