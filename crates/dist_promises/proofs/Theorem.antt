-- Demand 3 for distribution: whatever configuring accepts, the pair keeps the promise.
-- Assumes nothing.
use Prim.Native.Nat.{ℕ}
use mathlib.Core.Path.{◌≡◌, refl, ap, sym, ◌∙◌}
use mathlib.Core.Bool.{Bool}
use mathlib.Core.List.{List}
use lib.ListN.{length}
use Rattle.std.proofs.Common.{Ok}
use Rattle.words.specs.declared.link.Link.{Link}
use Rattle.words.proofs.Ranges.{link_ranges}
use Rattle.dist_controller.specs.Asked.{asked_of}
use Rattle.dist_controller.specs.Report.{report_of}
use Rattle.dist_pair.specs.State.{unconfigured}
use Rattle.dist_pair.specs.Events as Events
use Rattle.dist_pair.specs.Bus as Bus
use Rattle.promises.specs.Run.{Event, submit, reset, frame, arrive, told_done, told_no_reply, restart_sender, restart_receiver, deliver, Machine}
use Rattle.promises.specs.Promise.{Promise}
use Rattle.promises.proofs.Alike.{Alike, promise_alike}
use Rattle.dist_promises.specs.Distribution.{Ends, asking_of, messages_of, step_of, says_of, distribution, partless}
use Rattle.dist_promises.proofs.Modes.{Received, parts}
use Rattle.dist_promises.proofs.Lawfully.{unnumbered, lawful_zero}
use Rattle.dist_promises.proofs.Model.{Phase, idle, send_data, send_desc, await, reading, reset_first, send_reset, await_reset, reading_reset, m_data, m_desc, m_reset, m_read}
use Rattle.dist_promises.proofs.Model.{Flight, away, came, caught, arrived_yet, asks_for, asked_by, State, says, model}
use Rattle.dist_promises.proofs.Real.{Hidden, flight_of, gone_in, controller_of, PhaseIs, Ground, Stands, moves}
use Rattle.dist_promises.proofs.Said.{report_messages}
use Rattle.dist_promises.proofs.Sends.{sending, asks_same}
use Rattle.dist_promises.proofs.SameFrame.{same_frame, same_reset, same_sender, same_receiver}
use Rattle.dist_promises.proofs.SaysFrame.{says_frame, says_reset, says_sender, says_receiver}
use Rattle.dist_promises.proofs.SameSubmit.{same_submit, says_submit}
use Rattle.dist_promises.proofs.SameTake.{same_take, says_take}
use Rattle.dist_promises.proofs.SameArrive.{same_arrive}
use Rattle.dist_promises.proofs.SameTold.{same_done, same_no_reply, says_done, says_no_reply}
use Rattle.dist_promises.proofs.Starts.{settings, link, ground, room, fresh_stands}
use Rattle.dist_promises.proofs.Promised.{keeps}

flight_same : (link : Link) (n : ℕ) (f : Flight) → Bus.has_arrived (flight_of link n f) ≡ arrived_yet f
flight_same link n away = refl
flight_same link n came = refl
flight_same link n (caught w) = refl

-- the messages gone are those counted
gone_same : (p : Phase) (link : Link) (h : Hidden) (a : Bool) (n cost : ℕ) → PhaseIs link h p a n cost → gone_in p cost ≡ cost
gone_same idle link h a n cost i = refl
gone_same (send_data b j) link h a n cost i = sym i.gone
gone_same (send_desc v k) link h a n cost i = sym i.gone
gone_same await link h a n cost i = refl
gone_same reading link h a n cost i = refl
gone_same (reset_first (m_data j d)) link h a n cost i = sym i.1.1.gone
gone_same (reset_first (m_desc v c k)) link h a n cost i = sym i.1.1.1.gone
gone_same (reset_first m_reset) link h a n cost i = refl
gone_same (reset_first m_read) link h a n cost i = refl
gone_same send_reset link h a n cost i = refl
gone_same await_reset link h a n cost i = refl
gone_same reading_reset link h a n cost i = refl

module _ (link : Link) (lent : List ℕ) (G : Ground link lent) where
  same : (e : Event) (x : Ends) (s : State Received) → Stands link lent G x s → Stands link lent G (step_of e x) (moves link lent G e s)
  same (submit b) x s i = same_submit link lent G x s b i
  same reset x s i = same_reset link lent G x s i
  same frame x s i = same_frame link lent G x s i
  same arrive x s i = same_arrive link lent G x s i
  same told_done x s i = same_done link lent G x s i
  same told_no_reply x s i = same_no_reply link lent G x s i
  same restart_sender x s i = same_sender link lent G x s i
  same restart_receiver x s i = same_receiver link lent G x s i
  same (deliver buffer) x s i = same_take link lent G x s buffer i

  said : (e : Event) (x : Ends) (s : State Received) → Stands link lent G x s → says_of e x ≡ says (parts link lent) link.largest link.window e s
  said (submit b) x s i = says_submit link lent G x s b i
  said reset x s i = says_reset link lent G x s i
  said frame x s i = says_frame link lent G x s i
  said arrive x s i = refl
  said told_done x s i = says_done link lent G x s i
  said told_no_reply x s i = says_no_reply link lent G x s i
  said restart_sender x s i = says_sender link lent G x s i
  said restart_receiver x s i = says_receiver link lent G x s i
  said (deliver buffer) x s i = says_take link lent G x s buffer i

  asked : (x : Ends) (s : State Received) → Stands link lent G x s
      → asking_of (asked_of x.pair.controller) (Bus.has_arrived x.pair.flight) ≡ asks_for (asked_by s.tx.phase s.tx.count) s.flight
  asked x s i =
      let h = i.hidden in
      let c = controller_of link h s.tx s.meter in
      ap (λ (y : Ends). asking_of (asked_of y.pair.controller) (Bus.has_arrived y.pair.flight)) i.is
      ∙ ap (asking_of (asked_of c)) (flight_same link h.caught s.flight)
      ∙ asks_same link c h.store (asked_by s.tx.phase s.tx.count) s.flight
      (sending link h s.tx.accepted s.tx.count s.tx.spent s.meter.now s.meter.since s.meter.cost i.facts.store s.tx.phase i.facts.phase)

  counted : (x : Ends) (s : State Received) → Stands link lent G x s → messages_of (report_of x.pair.controller) ≡ s.meter.cost
  counted x s i =
      let h = i.hidden in
      ap (λ (y : Ends). messages_of (report_of y.pair.controller)) i.is
      ∙ report_messages (controller_of link h s.tx s.meter) G.configured
      ∙ gone_same s.tx.phase link h s.tx.accepted s.tx.count s.meter.cost i.facts.phase

module _ (address mode subaddress largest window : ℕ) (store places hand : List ℕ)
    (accepted : (Events.configure_of unconfigured (settings address mode subaddress largest window) (length store) (length places) (length hand)).answer ≡ Ok tt) where
  abbrev ours : Machine
  ours = distribution address mode subaddress largest window store places hand

  abbrev here : Link
  here = link address mode subaddress largest window store places hand

  abbrev G : Ground here places
  G = ground address mode subaddress largest window store places hand accepted

  alike : Alike ours (model (parts here places) largest window)
  alike =
      record {
        Same = Stands here places G;
        fresh = fresh_stands address mode subaddress largest window store places hand accepted;
        step = same here places G;
        says = said here places G;
        asks = asked here places G;
        parts = λ x s i. ap (λ (y : Ends). ours.parts y) i.is;
        count = counted here places G;
      }

  -- the theorem: order, once, byte for byte, confirmed after delivered, one open; counts; Resets accepted; submissions admitted and confirmed
  pub holds : Promise largest ours
  holds =
      promise_alike ours (model (parts here places) largest window) alike largest
      (keeps largest (parts here places) G.laws
      (link_ranges here G.configured).most window)

  -- mode 0 does not need "no message parts": it promises the same as a machine that says it has none
  pub holds_with_parts : mode ≡ 0 → Promise largest (partless ours)
  holds_with_parts zero =
      promise_alike (partless ours) (model (unnumbered here places) largest window)
      (record {
        Same = Stands here places G;
        fresh = fresh_stands address mode subaddress largest window store places hand accepted;
        step = same here places G;
        says = said here places G;
        asks = asked here places G;
        parts = λ x s i. refl;
        count = counted here places G;
      })
      largest
      (keeps largest (unnumbered here places)
      (lawful_zero here places G.configured (room address mode subaddress largest window store places hand accepted) zero)
      (link_ranges here G.configured).most window)
