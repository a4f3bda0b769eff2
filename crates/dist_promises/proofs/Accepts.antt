-- Every schedule in which all goes well accepts a Reset: at most three messages arrive and are told, and at most two frames are idle.
-- Assumes nothing.
use Prim.Native.Nat.{ℕ, zero, suc, ◌+◌, ◌*◌}
use mathlib.Core.Path.{◌≡◌, refl}
use mathlib.Core.Bool.{Bool, true, false, cond, ◌&&◌}
use mathlib.Core.List.{List}
use native.Mathlib.Omega.{arith}
use lib.Dec.{ltb, leb}
use lib.ListN.{length}
use borrow.Author.Tests.{leb-false}
use Rattle.promises.specs.Run.{Block, Load, Event, submit, reset, frame, arrive, told_done, told_no_reply, restart_sender, restart_receiver, deliver}
use Rattle.promises.specs.Run.{denied, ok, Ledger, World, goes, after}
use Rattle.promises.specs.Promise.{Comes, Accepted}
use Rattle.promises.proofs.Rule.{comes}
use Rattle.dist_promises.proofs.Parts.{Parts, Lawful}
use Rattle.dist_promises.proofs.Model.{Msg, m_data, m_desc, m_reset, m_read, Asked, unasked, asked, Word, w_none, w_reset, w_count, w_error}
use Rattle.dist_promises.proofs.Model.{Hand, empty, held, Flight, away, came, caught, Rx, Meter, State}
use Rattle.dist_promises.proofs.Model.{Phase, idle, send_data, send_desc, await, reading, reset_first, send_reset, await_reset, reading_reset}
use Rattle.dist_promises.proofs.Model.{first_age, limit, age, ticked, submits, goes_out, sized, asked_by, cut, of_take, model}
use Rattle.dist_promises.proofs.Invariant.{IsFalse}
use Rattle.dist_promises.proofs.Waiting.{no_way, tx, meter, rx, st, sent, older, judged_submit, judged_take}
use Rattle.dist_promises.proofs.LiveReset as live
use Rattle.dist_promises.proofs.Tidy as tidy

module _ (largest : ℕ) (P : Parts) (L : Lawful largest P) (W : ℕ) where
  abbrev Live : ℕ → ℕ → State P.Store → Type 0
  Live = live.Live largest P L

  abbrev LiveAt : Phase → Flight → ℕ → ℕ → Rx P.Store → Meter → Type 0
  LiveAt = live.LiveAt largest P L

  abbrev Orderly : Asked → Flight → Type 0
  Orderly = tidy.Orderly largest P L

  abbrev Steps : ℕ → ℕ → Event → State P.Store → Ledger → Type 0
  Steps = live.Steps largest P L W

  abbrev St : Type 0
  St = P.Store

  abbrev lives : ℕ → ℕ → Bool → ℕ → ℕ → Phase → Flight → Rx St → Meter → Type 0
  lives = live.lives largest P L W

  -- submit: refused, as no Reset is accepted

  stays : (a : Bool) (p : Phase) (q : Bool) → IsFalse a → submits a p q ≡ false
  stays false p q h = refl
  stays true p q h = absurd h

  on_submit : (b : Load) (m f : ℕ) (s : State P.Store) (g : Ledger) → Live m f s → Steps m f (submit b) s g
  on_submit b m f s g h =
      judged_submit (goes_out largest b s.tx)
      (Accepted (model P largest W) (cond (goes_out largest b s.tx) ok denied) m (goes (model P largest W) (submit b) (record { state = s; seen = g })))
      (λ q. Live m f (sent P.Store q b s))
      (stays s.tx.accepted s.tx.phase (ltb s.tx.spent limit && sized largest (length b.block)) h.shut) h

  -- frame

  on_wait : (m f : ℕ) (a : Bool) (n s : ℕ) (r : Rx St) (t : Meter) (g : Ledger) → lives m f a n s await_reset away r t
      → Steps m f frame (st St (tx a n s await_reset) r away t) g
  on_wait m zero a n s r t g h = no_way (omega (arith, h.phase.young, h.phase.frames))
  on_wait m (suc f) a n s r t g h = ripens (leb first_age (age (ticked t.now) t.since)) refl
    where
      o : age (ticked t.now) t.since ≡ age t.now t.since + 1
      o = older t.now t.since h.tick h.phase.tock h.phase.young

      ripens : (x : Bool) → leb first_age (age (ticked t.now) t.since) ≡ x
          → lives m f a n s (cond x reading_reset await_reset) away r (meter (ticked t.now) t.since t.cost)
      ripens true e = record { shut = h.shut; tick = omega arith; whole = h.whole; phase = (h.phase.msgs, h.phase.was) }
      ripens false e = record {
        shut = h.shut;
        tick = omega arith;
        whole = h.whole;
        phase = record {
          was = h.phase.was;
          msgs = h.phase.msgs;
          young = omega (arith, leb-false first_age (age (ticked t.now) t.since) e);
          frames = omega (arith, o, h.phase.frames);
          tock = h.phase.tock;
        };
      }

  -- the tick goes on, and nothing else
  ticks : (m f : ℕ) (a : Bool) (n s : ℕ) (p : Phase) (l : Flight) (r : Rx St) (t : Meter) (c : ℕ) → lives m f a n s p l r t
      → LiveAt p l m f r (meter (ticked t.now) t.since c) → lives m f a n s p l r (meter (ticked t.now) t.since c)
  ticks m f a n s p l r t c h k = record { shut = h.shut; tick = omega arith; whole = h.whole; phase = k }

  on_frame : (m f : ℕ) (a : Bool) (n s : ℕ) (p : Phase) (l : Flight) (r : Rx St) (t : Meter) (g : Ledger) → lives m f a n s p l r t
      → Steps m f frame (st St (tx a n s p) r l t) g
  on_frame m f a n s (reset_first (m_data j x)) l r t g h = ticks m f a n s (reset_first (m_data j x)) l r t t.cost h h.phase
  on_frame m f a n s (reset_first (m_desc q c z)) l r t g h = ticks m f a n s (reset_first (m_desc q c z)) l r t t.cost h h.phase
  on_frame m f a n s (reset_first m_reset) l r t g h = ticks m f a n s (reset_first m_reset) l r t t.cost h h.phase
  on_frame m f a n s (reset_first m_read) l r t g h = ticks m f a n s (reset_first m_read) l r t t.cost h h.phase
  on_frame m f a n s send_reset away r t g h = ticks m f a n s send_reset away r t t.cost h h.phase
  on_frame m f a n s send_reset came r t g h = ticks m f a n s send_reset came r t t.cost h h.phase
  on_frame m f a n s send_reset (caught w) r t g h = absurd h.phase
  on_frame m f a n s await_reset away r t g h = on_wait m f a n s r t g h
  on_frame m f a n s await_reset came r t g h = absurd h.phase
  on_frame m f a n s await_reset (caught w) r t g h = absurd h.phase
  on_frame m f a n s reading_reset away r t g h = ticks m f a n s reading_reset away r t t.cost h h.phase
  on_frame m f a n s reading_reset came r t g h = absurd h.phase
  on_frame m f a n s reading_reset (caught w) r t g h = ticks m f a n s reading_reset (caught w) r t t.cost h h.phase
  on_frame m f a n s idle l r t g h = absurd h.phase
  on_frame m f a n s (send_data b j) l r t g h = absurd h.phase
  on_frame m f a n s (send_desc v z) l r t g h = absurd h.phase
  on_frame m f a n s await l r t g h = absurd h.phase
  on_frame m f a n s reading l r t g h = absurd h.phase

  -- outcome

  first_told : (x : Msg) (l : Flight) (m f : ℕ) (a : Bool) (n s : ℕ) (r : Rx St) (t : Meter) → lives (suc m) f a n s (reset_first x) l r t
      → lives m f a n s send_reset away r t
  first_told x l m f a n s r t h = record {
    shut = h.shut;
    tick = h.tick;
    whole = h.whole;
    phase = (omega (arith, h.phase.0), h.phase.1);
  }

  first_done : (x : Msg) (l : Flight) (m f : ℕ) (a : Bool) (n s : ℕ) (r : Rx St) (t : Meter) (g : Ledger) → lives (suc m) f a n s (reset_first x) l r t
      → Steps (suc m) f told_done (st St (tx a n s (reset_first x)) r l t) g
  first_done (m_data j x) away m f a n s r t g h = h
  first_done (m_desc q c z) away m f a n s r t g h = h
  first_done m_reset away m f a n s r t g h = h
  first_done m_read away m f a n s r t g h = h
  first_done (m_data j x) came m f a n s r t g h = first_told (m_data j x) came m f a n s r t h
  first_done (m_desc q c z) came m f a n s r t g h = first_told (m_desc q c z) came m f a n s r t h
  first_done m_reset came m f a n s r t g h = first_told m_reset came m f a n s r t h
  first_done m_read came m f a n s r t g h = first_told m_read came m f a n s r t h
  first_done (m_data j x) (caught w) m f a n s r t g h = first_told (m_data j x) (caught w) m f a n s r t h
  first_done (m_desc q c z) (caught w) m f a n s r t g h = first_told (m_desc q c z) (caught w) m f a n s r t h
  first_done m_reset (caught w) m f a n s r t g h = first_told m_reset (caught w) m f a n s r t h
  first_done m_read (caught w) m f a n s r t g h = first_told m_read (caught w) m f a n s r t h

  reset_done_lem : (m f : ℕ) (a : Bool) (n s : ℕ) (r : Rx St) (t : Meter) (g : Ledger) → lives m f a n s send_reset came r t
      → Steps m f told_done (st St (tx a n s send_reset) r came t) g
  reset_done_lem zero f a n s r t g h = no_way (omega (arith, h.phase.0))
  reset_done_lem (suc m) f a n s r t g h = record {
    shut = h.shut;
    tick = h.tick;
    whole = h.whole;
    phase = record {
      was = h.phase.2;
      msgs = omega (arith, h.phase.0);
      young = omega (arith, h.tick);
      frames = omega (arith, h.phase.1, h.tick);
      tock = h.tick;
    };
  }

  read_done : (m f : ℕ) (a : Bool) (n s : ℕ) (e : Bool) (y : ℕ) (x : St) (o : Hand) (u w : Word) (t : Meter) (g : Ledger)
      → lives m f a n s reading_reset (caught w) (rx St e y x o u) t → Steps m f told_done (st St (tx a n s reading_reset) (rx St e y x o u) (caught w) t) g
  read_done zero f a n s e y x o u w t g h = no_way (omega (arith, h.phase.0))
  read_done (suc m) f a n s e y x (held c b) u w t g h = absurd h.phase.1.hand
  read_done (suc m) f a n s e y x empty u w_reset t g h = record { answer = refl; clear = record { hand = refl; parts = h.phase.1.parts } }
  read_done (suc m) f a n s e y x empty u w_none t g h = absurd h.phase.2
  read_done (suc m) f a n s e y x empty u (w_count c) t g h = absurd h.phase.2
  read_done (suc m) f a n s e y x empty u (w_error c) t g h = absurd h.phase.2

  on_done : (m f : ℕ) (a : Bool) (n s : ℕ) (p : Phase) (l : Flight) (r : Rx St) (t : Meter) (g : Ledger) → lives m f a n s p l r t
      → Steps m f told_done (st St (tx a n s p) r l t) g
  on_done zero f a n s (reset_first x) l r t g h = no_way (omega (arith, h.phase.0))
  on_done (suc m) f a n s (reset_first x) l r t g h = first_done x l m f a n s r t g h
  on_done m f a n s send_reset away r t g h = h
  on_done m f a n s send_reset came r t g h = reset_done_lem m f a n s r t g h
  on_done m f a n s send_reset (caught w) r t g h = absurd h.phase
  on_done m f a n s await_reset away r t g h = h
  on_done m f a n s await_reset came r t g h = absurd h.phase
  on_done m f a n s await_reset (caught w) r t g h = absurd h.phase
  on_done m f a n s reading_reset away r t g h = h
  on_done m f a n s reading_reset came r t g h = absurd h.phase
  on_done m f a n s reading_reset (caught w) r t g h = read_done m f a n s r.seen r.handled r.parts r.hand r.word w t g h
  on_done m f a n s idle l r t g h = absurd h.phase
  on_done m f a n s (send_data b j) l r t g h = absurd h.phase
  on_done m f a n s (send_desc v z) l r t g h = absurd h.phase
  on_done m f a n s await l r t g h = absurd h.phase
  on_done m f a n s reading l r t g h = absurd h.phase

  on_lost : (m f : ℕ) (a : Bool) (n s : ℕ) (p : Phase) (l : Flight) (r : Rx St) (t : Meter) (g : Ledger) → lives m f a n s p l r t
      → Steps m f told_no_reply (st St (tx a n s p) r l t) g
  on_lost m f a n s (reset_first (m_data j x)) l r t g h = tt
  on_lost m f a n s (reset_first (m_desc q c z)) l r t g h = tt
  on_lost m f a n s (reset_first m_reset) l r t g h = tt
  on_lost m f a n s (reset_first m_read) l r t g h = tt
  on_lost m f a n s send_reset l r t g h = tt
  on_lost m f a n s await_reset l r t g h = h
  on_lost m f a n s reading_reset l r t g h = tt
  on_lost m f a n s idle l r t g h = absurd h.phase
  on_lost m f a n s (send_data b j) l r t g h = absurd h.phase
  on_lost m f a n s (send_desc v z) l r t g h = absurd h.phase
  on_lost m f a n s await l r t g h = absurd h.phase
  on_lost m f a n s reading l r t g h = absurd h.phase

  -- take; q: the buffer is too short

  taken_live : (m f : ℕ) (p : Phase) (l : Flight) (e : Bool) (y : ℕ) (x : St) (c : ℕ) (b : Block) (w : Word) (t : Meter)
      → LiveAt p l m f (rx St e y x (held c b) w) t → LiveAt p l m f (rx St e y x empty (w_count c)) t
  taken_live m f (reset_first i) l e y x c b w t h = h
  taken_live m f send_reset away e y x c b w t h = h
  taken_live m f send_reset came e y x c b w t h = absurd h.2.hand
  taken_live m f send_reset (caught u) e y x c b w t h = absurd h
  taken_live m f await_reset away e y x c b w t h = absurd h.was.hand
  taken_live m f await_reset came e y x c b w t h = absurd h
  taken_live m f await_reset (caught u) e y x c b w t h = absurd h
  taken_live m f reading_reset away e y x c b w t h = absurd h.1.hand
  taken_live m f reading_reset came e y x c b w t h = absurd h
  taken_live m f reading_reset (caught u) e y x c b w t h = absurd h.1.hand
  taken_live m f idle l e y x c b w t h = absurd h
  taken_live m f (send_data i j) l e y x c b w t h = absurd h
  taken_live m f (send_desc v z) l e y x c b w t h = absurd h
  taken_live m f await l e y x c b w t h = absurd h
  taken_live m f reading l e y x c b w t h = absurd h

  on_take : (buffer : Block) (m f : ℕ) (a : Bool) (n s : ℕ) (p : Phase) (l : Flight) (e : Bool) (y : ℕ) (x : St) (o : Hand) (w : Word) (t : Meter) (g : Ledger)
      → lives m f a n s p l (rx St e y x o w) t → Steps m f (deliver buffer) (st St (tx a n s p) (rx St e y x o w) l t) g
  on_take buffer m f a n s p l e y x empty w t g h = h
  on_take buffer m f a n s p l e y x (held c b) w t g h =
      judged_take (ltb (length buffer) (length b)) b
      (Accepted (model P largest W) (of_take (held c b) (length buffer)) m (goes (model P largest W) (deliver buffer) (record { state = st St (tx a n s p) (rx St e y x (held c b) w) l t; seen = g })))
      (λ q. lives m f a n s p l (cond q (rx St e y x (held c b) w) (rx St e y x empty (w_count c))) t)
      h
      (record { shut = h.shut; tick = h.tick; whole = h.whole; phase = taken_live m f p l e y x c b w t h.phase })

  -- every event
  law : (e : Event) (m f : ℕ) (w : World (model P largest W)) → Live m f w.state → Steps m f e w.state w.seen
  law (submit b) m f w h = on_submit b m f w.state w.seen h
  law frame m f w h =
      let s : State St = w.state in
      on_frame m f s.tx.accepted s.tx.count s.tx.spent s.tx.phase s.flight s.rx s.meter w.seen h
  law arrive m f w h =
      let s : State St = w.state in
      live.on_arrive largest P L W m f s.tx.accepted s.tx.count s.tx.spent s.tx.phase s.flight s.rx s.meter w.seen h
  law told_done m f w h =
      let s : State St = w.state in
      on_done m f s.tx.accepted s.tx.count s.tx.spent s.tx.phase s.flight s.rx s.meter w.seen h
  law told_no_reply m f w h =
      let s : State St = w.state in
      on_lost m f s.tx.accepted s.tx.count s.tx.spent s.tx.phase s.flight s.rx s.meter w.seen h
  law (deliver buffer) m f w h =
      let s : State St = w.state in
      on_take buffer m f s.tx.accepted s.tx.count s.tx.spent s.tx.phase s.flight s.rx.seen s.rx.handled s.rx.parts s.rx.hand s.rx.word
      s.meter w.seen h
  law reset m f w h = tt
  law restart_sender m f w h = tt
  law restart_receiver m f w h = tt

  -- a Reset that was just asked for
  cut_live : (x : Asked) (l : Flight) (r : Rx St) (t : Meter) → Orderly x l → LiveAt (cut x) l (2 * 3) 2 r t
  cut_live unasked away r t o = (omega arith, refl)
  cut_live unasked came r t o = absurd o
  cut_live unasked (caught w) r t o = absurd o
  cut_live (asked x) away r t o = (omega arith, refl, o)
  cut_live (asked x) came r t o = (omega arith, refl, o)
  cut_live (asked x) (caught w) r t o = (omega arith, refl, o)

  -- every schedule
  pub accepted : (es : List Event) (w : World (model P largest W)) → tidy.Tidy largest P L w.state
      → Comes (model P largest W) (λ s. false) (Accepted (model P largest W)) (2 * 3) 2 es (goes (model P largest W) reset w)
  accepted es w h =
      let s : State St = w.state in
      comes (model P largest W) (λ s. false) (Accepted (model P largest W)) (λ m f w. Live m f w.state) law es (2 * 3) 2 (goes (model P largest W) reset w)
      (record {
        shut = tt;
        tick = h.tick;
        whole = h.rx.whole;
        phase =
            cut_live (asked_by s.tx.phase s.tx.count) s.flight s.rx s.meter
            (tidy.order_asked largest P L s.tx.phase s.tx.count s.flight h.phase);
      })

  -- after every run
  pub accepts : (es fs : List Event)
      → Comes (model P largest W) (λ s. false) (Accepted (model P largest W)) (2 * 3) 2 fs (goes (model P largest W) reset (after (model P largest W) es))
  accepts es fs = accepted fs (after (model P largest W) es) (tidy.tidy_run largest P L W es)
