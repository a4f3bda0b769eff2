-- A frame, a Reset and restarts: the pair does as the model does.
-- Assumes nothing.
use Prim.Native.Nat.{ℕ}
use mathlib.Core.Path.{◌≡◌, refl, ap, sym, ◌∙◌}
use mathlib.Core.Bool.{Bool, true, false, cond, not}
use mathlib.Core.List.{List}
use native.Mathlib.Omega.{arith}
use lib.Dec.{leb}
use lib.ListN.{length}
use borrow.Author.Tests.{le-ltb}
use Rattle.std.proofs.Common.{Some, None}
use Rattle.words.specs.Link.{configured_of, message_store_of}
use Rattle.words.specs.Tick.{next_tick, age_of}
use Rattle.words.specs.declared.link.Link.{Link}
use Rattle.words.specs.declared.control.Quality.TheVariants.{BestEffort}
use Rattle.dist_controller.specs.State.{counted_of}
use Rattle.dist_controller.specs.Events as Controller
use Rattle.dist_controller.specs.Events.{due_of, ask_again, ask_in, cut_transfer}
use Rattle.dist_terminal.specs.Data.{store_short}
use Rattle.dist_terminal.specs.Calls as Terminal
use Rattle.dist_controller.specs.declared.state.Fate.{Fate}
use Rattle.dist_controller.specs.declared.state.Finding.TheVariants as Finding
use Rattle.dist_controller.specs.declared.state.Controller.{Controller}
use Rattle.dist_pair.specs.Events as Events
use Rattle.promises.specs.Run.{Block, frame, reset, restart_sender, restart_receiver}
use Rattle.dist_promises.specs.Distribution.{Ends, step_of}
use Rattle.dist_promises.proofs.Parts.{chunk}
use Rattle.dist_promises.proofs.Modes.{Received}
use Rattle.dist_promises.proofs.Model.{Phase, idle, send_data, send_desc, await, reading, reset_first, send_reset, await_reset, reading_reset}
use Rattle.dist_promises.proofs.Model.{m_data, m_desc, m_reset, m_read, Tx, Meter, State, framed, asks_read, first_age, age, ticked, is_open, cut, asked_by}
use Rattle.dist_promises.proofs.Real.{Hidden, phase_of, size_in, quality_in, flight_of, terminal_of, controller_of, real, PhaseIs, Ground, Stands, moves}

abbrev pub tx : Bool → ℕ → ℕ → Phase → Tx
tx a n s p = record { accepted = a; count = n; spent = s; phase = p }

abbrev pub meter : ℕ → ℕ → ℕ → Meter
meter now since cost = record { now = now; since = since; cost = cost }

-- x: a read is due
asks_alike : (p : Phase) (x : Bool) (link : Link) (h : Hidden) (a : Bool) (n s now since cost : ℕ)
    → cond (not x) (controller_of link h (tx a n s p) (meter now since cost)) (ask_in (phase_of p) (controller_of link h (tx a n s p) (meter now since cost)))
    ≡ controller_of link h (tx a n s (framed p x)) (meter now since (asks_read p x cost))
unfolding counted_of
asks_alike idle true link h a n s now since cost = refl
asks_alike idle false link h a n s now since cost = refl
asks_alike (send_data b j) true link h a n s now since cost = refl
asks_alike (send_data b j) false link h a n s now since cost = refl
asks_alike (send_desc v k) true link h a n s now since cost = refl
asks_alike (send_desc v k) false link h a n s now since cost = refl
asks_alike await true link h a n s now since cost = refl
asks_alike await false link h a n s now since cost = refl
asks_alike reading true link h a n s now since cost = refl
asks_alike reading false link h a n s now since cost = refl
asks_alike (reset_first (m_data j d)) true link h a n s now since cost = refl
asks_alike (reset_first (m_data j d)) false link h a n s now since cost = refl
asks_alike (reset_first (m_desc v c k)) true link h a n s now since cost = refl
asks_alike (reset_first (m_desc v c k)) false link h a n s now since cost = refl
asks_alike (reset_first m_reset) true link h a n s now since cost = refl
asks_alike (reset_first m_reset) false link h a n s now since cost = refl
asks_alike (reset_first m_read) true link h a n s now since cost = refl
asks_alike (reset_first m_read) false link h a n s now since cost = refl
asks_alike send_reset true link h a n s now since cost = refl
asks_alike send_reset false link h a n s now since cost = refl
asks_alike await_reset true link h a n s now since cost = refl
asks_alike await_reset false link h a n s now since cost = refl
asks_alike reading_reset true link h a n s now since cost = refl
asks_alike reading_reset false link h a n s now since cost = refl

pub frame_controller : (link : Link) → configured_of link ≡ true → (h : Hidden) (a : Bool) (n s : ℕ) (p : Phase) (now since cost : ℕ)
    → (Controller.frame_of (controller_of link h (tx a n s p) (meter now since cost))).state
    ≡ controller_of link h (tx a n s (framed p (leb first_age (age (ticked now) since)))) (meter (ticked now) since (asks_read p (leb first_age (age (ticked now) since)) cost))
unfolding Controller.frame_of ask_again due_of next_tick age_of
frame_controller link conf h a n s p now since cost =
    rw conf (asks_alike p (leb first_age (age (ticked now) since)) link h a n s (ticked now) since cost)

phase_framed : (p : Phase) (x : Bool) (link : Link) (h : Hidden) (a : Bool) (n cost : ℕ) → PhaseIs link h p a n cost
    → PhaseIs link h (framed p x) a n (asks_read p x cost)
phase_framed idle true link h a n cost i = i
phase_framed idle false link h a n cost i = i
phase_framed (send_data b j) true link h a n cost i = i
phase_framed (send_data b j) false link h a n cost i = i
phase_framed (send_desc v k) true link h a n cost i = i
phase_framed (send_desc v k) false link h a n cost i = i
phase_framed await true link h a n cost i = i
phase_framed await false link h a n cost i = i
phase_framed reading true link h a n cost i = i
phase_framed reading false link h a n cost i = i
phase_framed (reset_first m) true link h a n cost i = i
phase_framed (reset_first m) false link h a n cost i = i
phase_framed send_reset true link h a n cost i = i
phase_framed send_reset false link h a n cost i = i
phase_framed await_reset true link h a n cost i = i
phase_framed await_reset false link h a n cost i = i
phase_framed reading_reset true link h a n cost i = i
phase_framed reading_reset false link h a n cost i = i

-- ---- a Reset

-- it cuts an open transfer
abbrev pub cut_hidden : Phase → Hidden → Hidden
cut_hidden p h =
    record {
      store = h.store;
      hand = h.hand;
      size = size_in p h.size;
      quality = quality_in p h.quality;
      fate = cond (is_open p) (Some Fate.Abandoned) h.fate;
      found = h.found;
      shown = h.shown;
      caught = h.caught;
    }

pub cut_alike : (p : Phase) (link : Link) → configured_of link ≡ true → (h : Hidden) (a : Bool) (n s now since cost : ℕ)
    → (Controller.reset_of (controller_of link h (tx a n s p) (meter now since cost))).state
    ≡ controller_of link (cut_hidden p h) (tx false n s (cut (asked_by p n))) (meter now since cost)
unfolding Controller.reset_of cut_transfer
cut_alike idle link conf h a n s now since cost = rw conf
cut_alike (send_data b j) link conf h a n s now since cost = rw conf
cut_alike (send_desc v k) link conf h a n s now since cost = rw conf
cut_alike await link conf h a n s now since cost = rw conf
cut_alike reading link conf h a n s now since cost = rw conf
cut_alike (reset_first (m_data j d)) link conf h a n s now since cost = rw conf
cut_alike (reset_first (m_desc v c k)) link conf h a n s now since cost = rw conf
cut_alike (reset_first m_reset) link conf h a n s now since cost = rw conf
cut_alike (reset_first m_read) link conf h a n s now since cost = rw conf
cut_alike send_reset link conf h a n s now since cost = rw conf
cut_alike await_reset link conf h a n s now since cost = rw conf
cut_alike reading_reset link conf h a n s now since cost = rw conf

phase_cut : (p : Phase) (link : Link) (h : Hidden) (a : Bool) (n cost : ℕ) → PhaseIs link h p a n cost
    → PhaseIs link (cut_hidden p h) (cut (asked_by p n)) false n cost
phase_cut idle link h a n cost i = (refl, i)
phase_cut (send_data b j) link h a n cost i = (
  refl,
  (
    tt,
    record {
      some = i.range.some;
      most = i.range.most;
      within = i.within;
      gone = i.gone;
      bytes = ap (λ (d : Block). chunk d j) (sym i.bytes);
    },
  ),
)
phase_cut (send_desc v k) link h a n cost i = (refl, (tt, (refl, i)))
phase_cut await link h a n cost i = (refl, tt)
phase_cut reading link h a n cost i = (refl, (tt, tt))
phase_cut (reset_first (m_data j d)) link h a n cost i = (refl, i.1)
phase_cut (reset_first (m_desc v c k)) link h a n cost i = (refl, i.1)
phase_cut (reset_first m_reset) link h a n cost i = (refl, i.1)
phase_cut (reset_first m_read) link h a n cost i = (refl, i.1)
phase_cut send_reset link h a n cost i = (refl, (i.1, tt))
phase_cut await_reset link h a n cost i = (refl, i.1)
phase_cut reading_reset link h a n cost i = (refl, (i.1, tt))

-- ---- a restart

abbrev restart_hidden : Hidden → Hidden
restart_hidden h =
    record {
      store = h.store;
      hand = h.hand;
      size = 0;
      quality = BestEffort;
      fate = None;
      found = None;
      shown = h.shown;
      caught = h.caught;
    }

module _ (link : Link) (lent : List ℕ) (G : Ground link lent) where
  abbrev ends : Hidden → State Received → Controller → Ends
  ends h s c =
      record {
        pair = record { controller = c; terminal = terminal_of link h s.rx; flight = flight_of link h.caught s.flight };
        store = h.store;
        places = s.rx.parts.places;
        hand = h.hand;
      }

  frame_is : (h : Hidden) (s : State Received) → step_of frame (real link h s) ≡ real link h (moves link lent G frame s)
  unfolding Events.frame_of
  frame_is h s =
      ap (ends h s)
      (frame_controller link G.configured h s.tx.accepted s.tx.count s.tx.spent s.tx.phase s.meter.now s.meter.since s.meter.cost)

  pub same_frame : (x : Ends) (s : State Received) → Stands link lent G x s → Stands link lent G (step_of frame x) (moves link lent G frame s)
  same_frame x s i =
      let f = i.facts in
      record {
        hidden = i.hidden;
        is = ap (step_of frame) i.is ∙ frame_is i.hidden s;
        facts = record {
          store = f.store;
          hand = f.hand;
          whole = f.whole;
          holds = f.holds;
          shows = f.shows;
          flies = f.flies;
          count = f.count;
          phase = phase_framed s.tx.phase (leb first_age (age (ticked s.meter.now) s.meter.since)) link i.hidden s.tx.accepted s.tx.count s.meter.cost f.phase;
        };
      }

  reset_is : (h : Hidden) (s : State Received) → step_of reset (real link h s) ≡ real link (cut_hidden s.tx.phase h) (moves link lent G reset s)
  unfolding Events.reset_of
  reset_is h s =
      ap (ends h s)
      (cut_alike s.tx.phase link G.configured h s.tx.accepted s.tx.count s.tx.spent s.meter.now s.meter.since s.meter.cost)

  pub same_reset : (x : Ends) (s : State Received) → Stands link lent G x s → Stands link lent G (step_of reset x) (moves link lent G reset s)
  same_reset x s i =
      let f = i.facts in
      record {
        hidden = cut_hidden s.tx.phase i.hidden;
        is = ap (step_of reset) i.is ∙ reset_is i.hidden s;
        facts = record {
          store = f.store;
          hand = f.hand;
          whole = f.whole;
          holds = f.holds;
          shows = f.shows;
          flies = f.flies;
          count = f.count;
          phase = phase_cut s.tx.phase link i.hidden s.tx.accepted s.tx.count s.meter.cost f.phase;
        };
      }

  sender_is : (h : Hidden) (s : State Received) → step_of restart_sender (real link h s) ≡ real link (restart_hidden h) (moves link lent G restart_sender s)
  unfolding Events.controller_restarted Controller.restart_of
  sender_is h s = rw G.configured

  pub same_sender : (x : Ends) (s : State Received) → Stands link lent G x s → Stands link lent G (step_of restart_sender x) (moves link lent G restart_sender s)
  same_sender x s i =
      let f = i.facts in
      record {
        hidden = restart_hidden i.hidden;
        is = ap (step_of restart_sender) i.is ∙ sender_is i.hidden s;
        facts = record { store = f.store; hand = f.hand; whole = f.whole; holds = f.holds; shows = f.shows; flies = tt; count = omega arith; phase = tt };
      }

  -- the stores are long enough
  pub store_long : (r : Received) → G.laws.Whole r → store_short link (length r.places) ≡ false
  unfolding store_short
  store_long r w = rw (G.configured, le-ltb (length r.places) (message_store_of link) (G.room r w))

  receiver_is : (h : Hidden) (s : State Received) → G.laws.Whole s.rx.parts
      → step_of restart_receiver (real link h s) ≡ real link h (moves link lent G restart_receiver s)
  unfolding Events.terminal_restarted Terminal.restart_of Terminal.store_restarted
  receiver_is h s w = rw (store_long s.rx.parts w, G.again s.rx.parts w)

  pub same_receiver : (x : Ends) (s : State Received) → Stands link lent G x s → Stands link lent G (step_of restart_receiver x) (moves link lent G restart_receiver s)
  same_receiver x s i =
      let f = i.facts in
      record {
        hidden = i.hidden;
        is = ap (step_of restart_receiver) i.is ∙ receiver_is i.hidden s f.whole;
        facts = record { store = f.store; hand = f.hand; whole = G.laws.whole_fresh; holds = tt; shows = tt; flies = f.flies; count = f.count; phase = f.phase };
      }
