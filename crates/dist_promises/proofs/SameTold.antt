-- An outcome is told: the pair does and says as the model does.
-- Assumes nothing.
use Prim.Native.Nat.{ℕ}
use mathlib.Core.Path.{◌≡◌, refl, ap, subst, sym, ◌∙◌}
use mathlib.Core.Bool.{Bool}
use mathlib.Core.List.{List}
use lib.Dec.{leb}
use Rattle.words.specs.declared.link.Link.{Link}
use Rattle.dist_controller.specs.Report.{report_of}
use Rattle.dist_controller.specs.Told.{told_of}
use Rattle.dist_pair.specs.Bus as Bus
use Rattle.dist_pair.specs.Bus.{tell_of}
use Rattle.words.specs.Refusal.{Stepped, refuse}
use Rattle.words.specs.declared.refusal.Refusal.TheVariants.{NothingAsked}
use Rattle.dist_pair.specs.declared.state.Pair.{Pair}
use Rattle.promises.specs.Run.{told_done, told_no_reply, Answer, denied}
use Rattle.dist_promises.specs.Distribution.{Ends, step_of, says_of, answer_of}
use Rattle.dist_promises.proofs.Modes.{Received, parts}
use Rattle.dist_promises.proofs.Model.{Phase, idle, send_data, send_desc, await, reading, reset_first, send_reset, await_reset, reading_reset}
use Rattle.dist_promises.proofs.Model.{Tx, Rx, Meter, State, Flight, away, came, caught, stamped, costs, told_in, told_says, of_told, age, done_says}
use Rattle.dist_promises.proofs.Real.{Hidden, controller_of, real, Ground, Facts, Stands, moves}
use Rattle.dist_promises.proofs.Said.{news}
use Rattle.dist_promises.proofs.SameFrame.{tx, meter}
use Rattle.dist_promises.proofs.Finding.{Spoken, none, bare, words, told_for, outcome_for, words_for, SpokenIs}
use Rattle.dist_promises.proofs.Spoke.{Spoke, with_transfer, t}
use Rattle.dist_promises.proofs.SpokeReset.{heard}

module _ (link : Link) (lent : List ℕ) (G : Ground link lent) (h : Hidden) (a : Bool) (n s now since cost : ℕ) (r : Rx Received) (f : Flight) where
  abbrev state : Phase → State Received
  state p = record { tx = tx a n s p; rx = r; flight = f; meter = meter now since cost }

  module _ (wide : ℕ) (sp : Spoken) (w : SpokenIs link wide sp) where
    abbrev spoken : Phase → Stepped Pair (Unit {0})
    spoken p = tell_of (real link h (state p)).pair (outcome_for sp) (words_for link wide sp)

    abbrev ends : Phase → Ends
    ends p = record { pair = (spoken p).state; store = h.store; places = r.parts.places; hand = h.hand }

    -- the message leaves the bus
    abbrev next : Phase → State Received
    next p =
        record {
          tx = t link h wide a n s now since cost sp p;
          rx = r;
          flight = away;
          meter = meter now (stamped p (told_for sp) now since) (costs p (told_for sp) cost);
        }

    tell_asked : (p : Phase) → Facts link lent G h (state p) → Spoke link h wide a n s now since cost sp p → Stands link lent G (ends p) (next p)
    unfolding tell_of
    tell_asked p g k =
        record {
          hidden = with_transfer k.size k.quality k.fate k.found h;
          is = rw k.is;
          facts = record {
            store = g.store;
            hand = g.hand;
            whole = g.whole;
            holds = g.holds;
            shows = g.shows;
            flies = tt;
            count = k.count;
            phase = k.phase;
          };
        }

    tell_unasked : (p : Phase) → Facts link lent G h (state p) → told_of (real link h (state p)).pair.controller (outcome_for sp) (words_for link wide sp) ≡ refuse NothingAsked (real link h (state p)).pair.controller
        → Stands link lent G (ends p) (state p)
    unfolding tell_of
    tell_unasked p g e = record { hidden = h; is = rw e; facts = g }

    tell : (p : Phase) → Facts link lent G h (state p) → Stands link lent G (ends p) (told_in (parts link lent) link.window (told_for sp) (state p))
    tell idle g = tell_unasked idle g (heard link h wide a n s now since cost G.configured g.count idle sp w g.phase)
    tell (send_data b j) g = tell_asked (send_data b j) g (heard link h wide a n s now since cost G.configured g.count (send_data b j) sp w g.phase)
    tell (send_desc v k) g = tell_asked (send_desc v k) g (heard link h wide a n s now since cost G.configured g.count (send_desc v k) sp w g.phase)
    tell await g = tell_unasked await g (heard link h wide a n s now since cost G.configured g.count await sp w g.phase)
    tell reading g = tell_asked reading g (heard link h wide a n s now since cost G.configured g.count reading sp w g.phase)
    tell (reset_first m) g = tell_asked (reset_first m) g (heard link h wide a n s now since cost G.configured g.count (reset_first m) sp w g.phase)
    tell send_reset g = tell_asked send_reset g (heard link h wide a n s now since cost G.configured g.count send_reset sp w g.phase)
    tell await_reset g = tell_unasked await_reset g (heard link h wide a n s now since cost G.configured g.count await_reset sp w g.phase)
    tell reading_reset g = tell_asked reading_reset g (heard link h wide a n s now since cost G.configured g.count reading_reset sp w g.phase)

    -- ---- what it says

    abbrev answer : Phase → Answer
    answer p = answer_of (spoken p).answer (report_of (real link h (state p)).pair.controller) (report_of (spoken p).state.controller)

    say_asked : (p : Phase) → Spoke link h wide a n s now since cost sp p → answer p ≡ of_told p (told_for sp) n (leb link.window (age now since))
    unfolding tell_of
    say_asked p k =
        rw k.is
        (news (controller_of link h (tx a n s p) (meter now since cost))
        (controller_of link (with_transfer k.size k.quality k.fate k.found h) (next p).tx (next p).meter)
        G.configured G.configured
        ∙ k.says)

    say_unasked : (p : Phase) → told_of (real link h (state p)).pair.controller (outcome_for sp) (words_for link wide sp) ≡ refuse NothingAsked (real link h (state p)).pair.controller → answer p ≡ denied
    unfolding tell_of
    say_unasked p e = rw e

    say : (p : Phase) → Facts link lent G h (state p) → answer p ≡ told_says (parts link lent) link.window (told_for sp) (state p)
    say idle g = say_unasked idle (heard link h wide a n s now since cost G.configured g.count idle sp w g.phase)
    say (send_data b j) g = say_asked (send_data b j) (heard link h wide a n s now since cost G.configured g.count (send_data b j) sp w g.phase)
    say (send_desc v k) g = say_asked (send_desc v k) (heard link h wide a n s now since cost G.configured g.count (send_desc v k) sp w g.phase)
    say await g = say_unasked await (heard link h wide a n s now since cost G.configured g.count await sp w g.phase)
    say reading g = say_asked reading (heard link h wide a n s now since cost G.configured g.count reading sp w g.phase)
    say (reset_first m) g = say_asked (reset_first m) (heard link h wide a n s now since cost G.configured g.count (reset_first m) sp w g.phase)
    say send_reset g = say_asked send_reset (heard link h wide a n s now since cost G.configured g.count send_reset sp w g.phase)
    say await_reset g = say_unasked await_reset (heard link h wide a n s now since cost G.configured g.count await_reset sp w g.phase)
    say reading_reset g = say_asked reading_reset (heard link h wide a n s now since cost G.configured g.count reading_reset sp w g.phase)

module _ (link : Link) (lent : List ℕ) (G : Ground link lent) where
  abbrev full : Tx → Rx Received → Flight → Meter → State Received
  full q r f m = record { tx = q; rx = r; flight = f; meter = m }

  done_stands : (h : Hidden) (q : Tx) (r : Rx Received) (f : Flight) (m : Meter) → Facts link lent G h (full q r f m)
      → Stands link lent G (step_of told_done (real link h (full q r f m))) (moves link lent G told_done (full q r f m))
  unfolding Bus.told_done
  done_stands h q r away m g = rw G.configured (record { hidden = h; is = refl; facts = g })
  done_stands h q r came m g =
      rw G.configured (tell link lent G h q.accepted q.count q.spent m.now m.since m.cost r came 0 bare tt q.phase g)
  done_stands h q r (caught w) m g =
      rw G.configured
      (tell link lent G h q.accepted q.count q.spent m.now m.since m.cost r (caught w) h.caught (words w) g.flies q.phase g)

  pub same_done : (x : Ends) (s : State Received) → Stands link lent G x s → Stands link lent G (step_of told_done x) (moves link lent G told_done s)
  same_done x s i =
      subst (λ (y : Ends). Stands link lent G (step_of told_done y) (moves link lent G told_done s)) (sym i.is)
      (done_stands i.hidden s.tx s.rx s.flight s.meter i.facts)

  no_reply_stands : (h : Hidden) (s : State Received) → Facts link lent G h s
      → Stands link lent G (step_of told_no_reply (real link h s)) (moves link lent G told_no_reply s)
  unfolding Bus.told_no_reply
  no_reply_stands h s g =
      tell link lent G h s.tx.accepted s.tx.count s.tx.spent s.meter.now s.meter.since s.meter.cost s.rx s.flight 0 none tt s.tx.phase g

  pub same_no_reply : (x : Ends) (s : State Received) → Stands link lent G x s → Stands link lent G (step_of told_no_reply x) (moves link lent G told_no_reply s)
  same_no_reply x s i =
      subst (λ (y : Ends). Stands link lent G (step_of told_no_reply y) (moves link lent G told_no_reply s)) (sym i.is)
      (no_reply_stands i.hidden s i.facts)

  done_says_lem : (h : Hidden) (q : Tx) (r : Rx Received) (f : Flight) (m : Meter) → Facts link lent G h (full q r f m)
      → says_of told_done (real link h (full q r f m)) ≡ done_says (parts link lent) link.window f (full q r f m)
  unfolding Bus.told_done
  done_says_lem h q r away m g = rw G.configured
  done_says_lem h q r came m g =
      rw G.configured (say link lent G h q.accepted q.count q.spent m.now m.since m.cost r came 0 bare tt q.phase g)
  done_says_lem h q r (caught w) m g =
      rw G.configured
      (say link lent G h q.accepted q.count q.spent m.now m.since m.cost r (caught w) h.caught (words w) g.flies q.phase g)

  pub says_done : (x : Ends) (s : State Received) → Stands link lent G x s → says_of told_done x ≡ done_says (parts link lent) link.window s.flight s
  says_done x s i = ap (says_of told_done) i.is ∙ done_says_lem i.hidden s.tx s.rx s.flight s.meter i.facts

  no_reply_says : (h : Hidden) (s : State Received) → Facts link lent G h s
      → says_of told_no_reply (real link h s) ≡ told_says (parts link lent) link.window (told_for none) s
  unfolding Bus.told_no_reply
  no_reply_says h s g =
      say link lent G h s.tx.accepted s.tx.count s.tx.spent s.meter.now s.meter.since s.meter.cost s.rx s.flight 0 none tt s.tx.phase g

  pub says_no_reply : (x : Ends) (s : State Received) → Stands link lent G x s → says_of told_no_reply x ≡ told_says (parts link lent) link.window (told_for none) s
  says_no_reply x s i = ap (says_of told_no_reply) i.is ∙ no_reply_says i.hidden s i.facts
