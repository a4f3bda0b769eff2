-- What holds after every run, whatever the Resets and losses in it: the tick, whole parts, short blocks, nothing on the bus that was not asked for.
-- Assumes nothing.
use Prim.Native.Nat.{ℕ, suc, ◌≤◌, ◌<◌}
use mathlib.Core.Path.{◌≡◌, refl, subst}
use mathlib.Core.Bool.{Bool, true, false, cond}
use mathlib.Core.List.{List, [], ◌∷◌}
use native.Mathlib.Omega.{arith}
use lib.Dec.{eqb, ltb, leb}
use lib.ListN.{length}
use borrow.Author.Tests.{ltb-true}
use Rattle.promises.specs.Run.{Block, Load, Event, submit, reset, frame, arrive, told_done, told_no_reply, restart_sender, restart_receiver, deliver}
use Rattle.promises.specs.Run.{World, goes, run, after}
use Rattle.promises.specs.Promise.{messages}
use Rattle.dist_promises.proofs.Parts.{Parts, Lawful}
use Rattle.dist_promises.proofs.Model.{Msg, m_data, m_desc, m_reset, m_read, Asked, unasked, asked, Word, w_none, Hand, empty, held}
use Rattle.dist_promises.proofs.Model.{Flight, away, came, caught, Told, reply, no_reply, Rx, State, Tx, Shown, s_confirmed, s_refused, s_reset, s_other}
use Rattle.dist_promises.proofs.Model.{Phase, idle, send_data, send_desc, await, reading, reset_first, send_reset, await_reset, reading_reset}
use Rattle.dist_promises.proofs.Model.{first_age, age, goes_out, started, asked_by, cut, framed, told, landed, flown, ticked}
use Rattle.dist_promises.proofs.Model.{on_read, on_read_reset, shows_at, later, strictly, if_done, behind}
use Rattle.dist_promises.proofs.Model.{enough, on_desc, received, arrives, taken, told_in, done_in, step, model}
use Rattle.dist_promises.proofs.Invariant.{IsAway, DataOk}
use Rattle.dist_promises.proofs.Waiting.{tx, went}

module _ (largest : ℕ) (P : Parts) (L : Lawful largest P) where
  abbrev St : Type 0
  St = P.Store

  -- a message that leaves the terminal's parts whole and its hand short
  abbrev pub Harmless : Msg → Type 0
  Harmless (m_data j d) = DataOk largest P L j d
  Harmless (m_desc q c n) = n ≤ largest
  Harmless m_reset = Unit {0}
  Harmless m_read = Unit {0}

  abbrev pub Orderly : Asked → Flight → Type 0
  Orderly unasked l = IsAway l
  Orderly (asked x) l = Harmless x

  abbrev pub Order : Phase → Flight → Type 0
  Order (send_data b j) l = (j < messages (length b.block)) × (length b.block ≤ largest)
  Order (send_desc v z) l = z ≤ largest
  Order (reset_first x) l = Harmless x
  Order idle l = IsAway l
  Order await l = IsAway l
  Order await_reset l = IsAway l
  Order reading l = Unit {0}
  Order send_reset l = Unit {0}
  Order reading_reset l = Unit {0}

  abbrev pub Short : Hand → Type 0
  Short empty = Unit {0}
  Short (held c x) = length x ≤ largest

  pub record Neat (r : Rx St) : Type 0 where
    pub whole : L.Whole r.parts
    pub hand : Short r.hand

  pub record Tidy (s : State St) : Type 0 where
    pub tick : s.meter.now < 65536
    pub rx : Neat s.rx
    pub phase : Order s.tx.phase s.flight

  pub order_asked : (p : Phase) (n : ℕ) (l : Flight) → Order p l → Orderly (asked_by p n) l
  order_asked (send_data b j) n l h = record { block = b.block; is = refl; within = h.0; fits = h.1 }
  order_asked (send_desc v z) n l h = h
  order_asked (reset_first x) n l h = h
  order_asked idle n l h = h
  order_asked await n l h = h
  order_asked await_reset n l h = h
  order_asked reading n l h = h
  order_asked send_reset n l h = h
  order_asked reading_reset n l h = h

  -- ---- the terminal

  pub whole_data : (j : ℕ) (d : Block) (x : St) → DataOk largest P L j d → L.Whole x → L.Whole (P.put j d x)
  whole_data j d x k h =
      subst (λ (d : Block). L.Whole (P.put j d x)) k.is (L.whole_put k.block j x k.fits k.within h)

  pub whole_desc : (e q : Bool) (o : Hand) (v : Bool) (c n : ℕ) (r : Rx St) → L.Whole r.parts → L.Whole (on_desc P e q o v c n r).parts
  whole_desc false q o v c n r h = h
  whole_desc true true o v c n r h = L.whole_clear r.parts h
  whole_desc true false (held d b) v c n r h = L.whole_clear r.parts h
  whole_desc true false empty false c n r h = L.whole_clear r.parts h
  whole_desc true false empty true c n r h = L.whole_clear r.parts h

  short_desc : (e q : Bool) (o : Hand) (v : Bool) (c n : ℕ) (r : Rx St) → n ≤ largest → Neat r → Short (on_desc P e q o v c n r).hand
  short_desc false q o v c n r k h = h.hand
  short_desc true true o v c n r k h = h.hand
  short_desc true false (held d b) v c n r k h = h.hand
  short_desc true false empty false c n r k h = h.hand
  short_desc true false empty true c n r k h = omega (arith, L.size n r.parts k h.whole, k)

  neat_received : (x : Msg) (r : Rx St) → Harmless x → Neat r → Neat (received P x r)
  neat_received (m_data j d) r k h = record { whole = whole_data j d r.parts k h.whole; hand = h.hand }
  neat_received (m_desc q c n) r k h = record {
    whole = whole_desc r.seen (eqb c r.handled) r.hand (enough P q (P.met n r.parts)) c n r h.whole;
    hand = short_desc r.seen (eqb c r.handled) r.hand (enough P q (P.met n r.parts)) c n r k h;
  }
  neat_received m_reset r k h = record { whole = L.whole_clear r.parts h.whole; hand = tt }
  neat_received m_read r k h = h

  neat_arrives : (x : Asked) (l : Flight) (r : Rx St) → Orderly x l → Neat r → Neat (arrives P x l r)
  neat_arrives unasked l r k h = h
  neat_arrives (asked x) away r k h = neat_received x r k h
  neat_arrives (asked x) came r k h = h
  neat_arrives (asked x) (caught w) r k h = h

  -- q: the buffer is too short
  neat_cond : (q : Bool) (r u : Rx St) → Neat r → Neat u → Neat (cond q r u)
  neat_cond true r u h k = h
  neat_cond false r u h k = k

  neat_taken : (o : Hand) (n : ℕ) (r : Rx St) → Neat r → Neat (taken P o n r)
  neat_taken empty n r h = h
  neat_taken (held c b) n r h = neat_cond (ltb n (length b)) r _ h (record { whole = h.whole; hand = tt })

  -- ---- the controller

  order_flown : (p : Phase) (n : ℕ) (l : Flight) (w : Word) → Order p l → Order p (flown (asked_by p n) l w)
  order_flown (send_data b j) n l w h = h
  order_flown (send_desc v z) n l w h = h
  order_flown (reset_first x) n l w h = h
  order_flown idle n l w h = h
  order_flown await n l w h = h
  order_flown await_reset n l w h = h
  order_flown reading n l w h = h
  order_flown send_reset n l w h = h
  order_flown reading_reset n l w h = h

  order_cut : (x : Asked) (l : Flight) → Orderly x l → Order (cut x) l
  order_cut unasked l h = tt
  order_cut (asked x) l h = h

  -- x: the age is that of the first read
  order_framed : (p : Phase) (x : Bool) (l : Flight) → Order p l → Order (framed p x) l
  order_framed (send_data b j) x l h = h
  order_framed (send_desc v z) x l h = h
  order_framed (reset_first m) x l h = h
  order_framed idle x l h = h
  order_framed await true l h = tt
  order_framed await false l h = h
  order_framed await_reset true l h = tt
  order_framed await_reset false l h = h
  order_framed reading x l h = h
  order_framed send_reset x l h = h
  order_framed reading_reset x l h = h

  order_done : (o : Told) (p : Phase) → Order p away → Order (if_done o p) away
  order_done (reply w) p h = h
  order_done no_reply p h = tt

  order_behind : (q : Bool) (b : Load) (j : ℕ) → ltb (suc j) (messages (length b.block)) ≡ q → length b.block ≤ largest → Order (behind q b j) away
  order_behind true b j e h = (ltb-true (suc j) (messages (length b.block)) e, h)
  order_behind false b j e h = h

  order_later : (x : Bool) (p : Phase) → Order p away → Order (later x p) away
  order_later true p h = tt
  order_later false p h = h

  order_read : (v : Shown) (x : Bool) (t : Tx) → Order (on_read v x t).phase away
  order_read s_confirmed x t = tt
  order_read s_refused x t = tt
  order_read s_reset x t = order_later x await tt
  order_read s_other x t = order_later x await tt

  order_read_reset : (v : Shown) (x : Bool) (t : Tx) → Order (on_read_reset v x t).phase away
  order_read_reset s_reset x t = tt
  order_read_reset s_confirmed x t = order_later x await_reset tt
  order_read_reset s_refused x t = order_later x await_reset tt
  order_read_reset s_other x t = order_later x await_reset tt

  order_told : (p : Phase) (o : Told) (x a : Bool) (n s : ℕ) (l : Flight) → Order p l → Order (told p o x (tx a n s p)).phase (landed (asked_by p n) l)
  order_told idle o x a n s l h = h
  order_told (send_data b j) o x a n s l h =
      order_done (strictly b.verified o) (behind (ltb (suc j) (messages (length b.block))) b j)
      (order_behind (ltb (suc j) (messages (length b.block))) b j refl h.1)
  order_told (send_desc v z) o x a n s l h = tt
  order_told await o x a n s l h = h
  order_told reading o x a n s l h = order_read (shows_at o n) x (tx a n s reading)
  order_told (reset_first m) o x a n s l h = tt
  order_told send_reset o x a n s l h = order_done o await_reset tt
  order_told await_reset o x a n s l h = h
  order_told reading_reset o x a n s l h = order_read_reset (shows_at o n) x (tx a n s reading_reset)

  -- q: the submission is accepted
  order_submit : (q : Bool) (b : Load) (t : Tx) (l : Flight) → goes_out largest b t ≡ q → Order t.phase l → Order (started q b t).phase l
  order_submit false b t l e h = h
  order_submit true b t l e h =
      let g = went largest b t e in
      (omega (arith, g.some), g.fits)

  -- ---- every event

  module _ (W : ℕ) where
    tidy_told : (o : Told) (s : State St) → Tidy s → Tidy (told_in P W o s)
    tidy_told o s h = record {
      tick = h.tick;
      rx = h.rx;
      phase =
          order_told s.tx.phase o (leb W (age s.meter.now s.meter.since)) s.tx.accepted s.tx.count s.tx.spent s.flight
          h.phase;
    }

    tidy_done : (l : Flight) (s : State St) → Tidy s → Tidy (done_in P W l s)
    tidy_done away s h = h
    tidy_done came s h = tidy_told (reply w_none) s h
    tidy_done (caught w) s h = tidy_told (reply w) s h

    tidy_step : (e : Event) (s : State St) → Tidy s → Tidy (step P largest W e s)
    tidy_step (submit b) s h = record {
      tick = h.tick;
      rx = h.rx;
      phase = order_submit (goes_out largest b s.tx) b s.tx s.flight refl h.phase;
    }
    tidy_step reset s h = record {
      tick = h.tick;
      rx = h.rx;
      phase = order_cut (asked_by s.tx.phase s.tx.count) s.flight (order_asked s.tx.phase s.tx.count s.flight h.phase);
    }
    tidy_step frame s h = record {
      tick = omega arith;
      rx = h.rx;
      phase = order_framed s.tx.phase (leb first_age (age (ticked s.meter.now) s.meter.since)) s.flight h.phase;
    }
    tidy_step arrive s h = record {
      tick = h.tick;
      rx =
          neat_arrives (asked_by s.tx.phase s.tx.count) s.flight s.rx
          (order_asked s.tx.phase s.tx.count s.flight h.phase) h.rx;
      phase = order_flown s.tx.phase s.tx.count s.flight s.rx.word h.phase;
    }
    tidy_step told_done s h = tidy_done s.flight s h
    tidy_step told_no_reply s h = tidy_told no_reply s h
    tidy_step restart_sender s h = record { tick = h.tick; rx = h.rx; phase = tt }
    tidy_step restart_receiver s h = record { tick = h.tick; rx = record { whole = L.whole_fresh; hand = tt }; phase = h.phase }
    tidy_step (deliver buffer) s h = record { tick = h.tick; rx = neat_taken s.rx.hand (length buffer) s.rx h.rx; phase = h.phase }

    tidy_from : (es : List Event) (w : World (model P largest W)) → Tidy w.state → Tidy (run (model P largest W) es w).state
    tidy_from [] w h = h
    tidy_from (e ∷ es) w h = tidy_from es (goes (model P largest W) e w) (tidy_step e w.state h)

    -- every run
    pub tidy_run : (es : List Event) → Tidy (after (model P largest W) es).state
    tidy_run es =
        tidy_from es (after (model P largest W) [])
        (record { tick = omega arith; rx = record { whole = L.whole_fresh; hand = tt }; phase = tt })
