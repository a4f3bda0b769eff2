-- A frame, a Reset and restarts: the pair says what the model says.
-- Assumes nothing.
use Prim.Native.Nat.{ℕ}
use mathlib.Core.Path.{◌≡◌, refl, ap, ◌∙◌}
use mathlib.Core.Bool.{Bool, true, false, cond}
use mathlib.Core.List.{List}
use lib.Dec.{leb}
use Rattle.std.proofs.Common.{Option, Some, None}
use Rattle.words.specs.declared.link.Link.{Link}
use Rattle.dist_controller.specs.Report.{report_of}
use Rattle.dist_controller.specs.State.{fresh_of}
use Rattle.dist_controller.specs.Events as Controller
use Rattle.dist_controller.specs.declared.state.Fate.{Fate}
use Rattle.dist_controller.specs.declared.state.Controller as RealState
use Rattle.dist_terminal.specs.Calls as Terminal
use Rattle.dist_pair.specs.Events as Events
use Rattle.promises.specs.Run.{frame, reset, restart_sender, restart_receiver, ok, failed, abandoned}
use Rattle.dist_promises.specs.Distribution.{Ends, says_of, news_of}
use Rattle.dist_promises.proofs.Modes.{Received}
use Rattle.dist_promises.proofs.Model.{Phase, idle, send_data, send_desc, await, reading, reset_first, send_reset, await_reset, reading_reset}
use Rattle.dist_promises.proofs.Model.{State, framed, asks_read, first_age, age, ticked, is_open, cut, asked_by}
use Rattle.dist_promises.proofs.Real.{Hidden, fate_in, controller_of, real, PhaseIs, Ground, Facts, Stands}
use Rattle.dist_promises.proofs.Said.{news_in, news, shut}
use Rattle.dist_promises.proofs.SameFrame.{tx, meter, frame_controller, cut_hidden, cut_alike, store_long}

-- where neither fate nor acceptance changes there is nothing to tell
pub quiet : (f : Option Fate) (a : Bool) → news_in f f a a ≡ ok
quiet None true = refl
quiet None false = refl
quiet (Some Fate.Open) true = refl
quiet (Some Fate.Open) false = refl
quiet (Some Fate.Confirmed) true = refl
quiet (Some Fate.Confirmed) false = refl
quiet (Some Fate.Refused) true = refl
quiet (Some Fate.Refused) false = refl
quiet (Some Fate.Unconfirmed) true = refl
quiet (Some Fate.Unconfirmed) false = refl
quiet (Some Fate.Abandoned) true = refl
quiet (Some Fate.Abandoned) false = refl

restarts_quietly : (f : Option Fate) (a : Bool) → news_in f None a false ≡ ok
restarts_quietly None a = refl
restarts_quietly (Some Fate.Open) a = refl
restarts_quietly (Some Fate.Confirmed) a = refl
restarts_quietly (Some Fate.Refused) a = refl
restarts_quietly (Some Fate.Unconfirmed) a = refl
restarts_quietly (Some Fate.Abandoned) a = refl

framed_fate : (p : Phase) (x : Bool) (f : Option Fate) → fate_in (framed p x) f ≡ fate_in p f
framed_fate idle true f = refl
framed_fate idle false f = refl
framed_fate (send_data b j) true f = refl
framed_fate (send_data b j) false f = refl
framed_fate (send_desc v k) true f = refl
framed_fate (send_desc v k) false f = refl
framed_fate await true f = refl
framed_fate await false f = refl
framed_fate reading true f = refl
framed_fate reading false f = refl
framed_fate (reset_first m) true f = refl
framed_fate (reset_first m) false f = refl
framed_fate send_reset true f = refl
framed_fate send_reset false f = refl
framed_fate await_reset true f = refl
framed_fate await_reset false f = refl
framed_fate reading_reset true f = refl
framed_fate reading_reset false f = refl

cut_news : (p : Phase) (link : Link) (h : Hidden) (a : Bool) (n cost : ℕ) → PhaseIs link h p a n cost
    → news_in (fate_in p h.fate) (fate_in (cut (asked_by p n)) (cond (is_open p) (Some Fate.Abandoned) h.fate)) a false ≡ cond (is_open p) (failed abandoned) ok
cut_news idle link h a n cost i = rw (shut h.fate i)
cut_news (send_data b j) link h a n cost i = refl
cut_news (send_desc v k) link h a n cost i = refl
cut_news await link h a n cost i = refl
cut_news reading link h a n cost i = refl
cut_news (reset_first m) link h a n cost i = rw (shut h.fate i.1.0)
cut_news send_reset link h a n cost i = rw (shut h.fate i.1)
cut_news await_reset link h a n cost i = rw (shut h.fate i.1)
cut_news reading_reset link h a n cost i = rw (shut h.fate i.1)

module _ (link : Link) (lent : List ℕ) (G : Ground link lent) where
  frame_says : (h : Hidden) (s : State Received) → says_of frame (real link h s) ≡ ok
  unfolding Events.frame_of Controller.frame_of
  frame_says h s =
      let c = controller_of link h s.tx s.meter in
      let x = leb first_age (age (ticked s.meter.now) s.meter.since) in
      let e = frame_controller link G.configured h s.tx.accepted s.tx.count s.tx.spent s.tx.phase s.meter.now s.meter.since s.meter.cost in
      let d = controller_of link h (tx s.tx.accepted s.tx.count s.tx.spent (framed s.tx.phase x)) (meter (ticked s.meter.now) s.meter.since (asks_read s.tx.phase x s.meter.cost)) in
      rw G.configured
      (ap (λ (c' : RealState.Controller). news_of (report_of c) (report_of c')) (rw G.configured at e)
      ∙ news c d G.configured G.configured
      ∙ ap (λ (f : Option Fate). news_in (fate_in s.tx.phase h.fate) f s.tx.accepted s.tx.accepted) (framed_fate s.tx.phase x h.fate)
      ∙ quiet (fate_in s.tx.phase h.fate) s.tx.accepted)

  pub says_frame : (x : Ends) (s : State Received) → Stands link lent G x s → says_of frame x ≡ ok
  says_frame x s i = ap (says_of frame) i.is ∙ frame_says i.hidden s

  reset_says : (h : Hidden) (s : State Received) → Facts link lent G h s → says_of reset (real link h s) ≡ cond (is_open s.tx.phase) (failed abandoned) ok
  unfolding Events.reset_of Controller.reset_of
  reset_says h s f =
      let c = controller_of link h s.tx s.meter in
      let p = s.tx.phase in
      let e = cut_alike p link G.configured h s.tx.accepted s.tx.count s.tx.spent s.meter.now s.meter.since s.meter.cost in
      let d = controller_of link (cut_hidden p h) (tx false s.tx.count s.tx.spent (cut (asked_by p s.tx.count))) s.meter in
      rw G.configured
      (ap (λ (c' : RealState.Controller). news_of (report_of c) (report_of c')) (rw G.configured at e)
      ∙ news c d G.configured G.configured
      ∙ cut_news p link h s.tx.accepted s.tx.count s.meter.cost f.phase)

  pub says_reset : (x : Ends) (s : State Received) → Stands link lent G x s → says_of reset x ≡ cond (is_open s.tx.phase) (failed abandoned) ok
  says_reset x s i = ap (says_of reset) i.is ∙ reset_says i.hidden s i.facts

  sender_says : (h : Hidden) (s : State Received) → says_of restart_sender (real link h s) ≡ ok
  unfolding Events.controller_restarted Controller.restart_of
  sender_says h s =
      let c = controller_of link h s.tx s.meter in
      rw G.configured
      (news c (fresh_of link s.meter.now) G.configured G.configured ∙ restarts_quietly (fate_in s.tx.phase h.fate) s.tx.accepted)

  pub says_sender : (x : Ends) (s : State Received) → Stands link lent G x s → says_of restart_sender x ≡ ok
  says_sender x s i = ap (says_of restart_sender) i.is ∙ sender_says i.hidden s

  receiver_says : (h : Hidden) (s : State Received) → Facts link lent G h s → says_of restart_receiver (real link h s) ≡ ok
  unfolding Events.terminal_restarted Terminal.restart_of
  receiver_says h s f =
      let c = controller_of link h s.tx s.meter in
      rw (store_long link lent G s.rx.parts f.whole)
      (news c c G.configured G.configured ∙ quiet (fate_in s.tx.phase h.fate) s.tx.accepted)

  pub says_receiver : (x : Ends) (s : State Received) → Stands link lent G x s → says_of restart_receiver x ≡ ok
  says_receiver x s i = ap (says_of restart_receiver) i.is ∙ receiver_says i.hidden s i.facts
