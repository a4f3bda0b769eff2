-- Sync is kept by the events that move no message: submissions, frames, takes, Resets, restarts.
-- Assumes nothing.
use Prim.Native.Nat.{ℕ, ◌<◌}
use mathlib.Core.Path.{◌≡◌, refl}
use mathlib.Core.Bool.{Bool, true, false, cond, ◌&&◌}
use native.Mathlib.Omega.{arith}
use lib.Dec.{ltb}
use lib.ListN.{length}
use borrow.Author.Tests.{ltb-true}
use Rattle.promises.specs.Run.{Block, Load, Ledger, heard, begun, submit, reset, restart_sender, restart_receiver, deliver, denied, ok, failed, gave, abandoned}
use Rattle.dist_promises.proofs.Parts.{Parts, Lawful}
use Rattle.dist_promises.proofs.Model.{Word, w_none, w_reset, w_count, w_error, Hand, empty, held, Flight, away, came, caught}
use Rattle.dist_promises.proofs.Model.{Phase, idle, send_data, send_desc, await, reading, reset_first, send_reset, await_reset, reading_reset}
use Rattle.dist_promises.proofs.Model.{Tx, Rx, limit, sized, submits, started, framed, ticked, cut, asked_by, is_open, taken, of_take, fresh_tx, fresh_rx}
use Rattle.dist_promises.proofs.Ghost.{Book}
use Rattle.dist_promises.proofs.Invariant.{PhaseOk}
use Rattle.dist_promises.proofs.SafeLists.{and_left, tx, rx}
use Rattle.dist_promises.proofs.Sync.{CaughtHandled, ReadHandled, Once, Out, ResetOut, PhaseSync, Standing, Sync}
use Rattle.dist_promises.proofs.Sync.{near_next, close_zero, standing_next, caught_away, once_away}

-- a word that was read is no nearer after the terminal's restart
read_fresh : (w : Word) (n d : ℕ) → ReadHandled w n d → ReadHandled w n 0
read_fresh w_none n d k = tt
read_fresh w_reset n d k = tt
read_fresh (w_count c) n d k = λ e. tt
read_fresh (w_error c) n d k = tt

caught_fresh : (f : Flight) (n d : ℕ) → CaughtHandled f n d → CaughtHandled f n 0
caught_fresh away n d k = tt
caught_fresh came n d k = tt
caught_fresh (caught w) n d k = read_fresh w n d k

module _ (largest : ℕ) (P : Parts) (L : Lawful largest P) where
  -- ---- a submission

  submit_started : (n s : ℕ) (r : Rx P.Store) (f : Flight) (now : ℕ) (l : Ledger) (b : Load) → s < limit → Sync P (tx true n s idle) r f now l
      → Sync P (started true b (tx true n s idle)) r f now (heard ok (submit b) l)
  submit_started n s r f now l b k i =
      record {
        tick = i.tick;
        handled = near_next s n r.handled k i.handled;
        phase = tt;
        standing = standing_next l.sound true r.seen l.started s i.standing;
        pending = omega (arith, i.pending);
      }

  pub submit_sync : (a : Bool) (n s : ℕ) (p : Phase) (r : Rx P.Store) (f : Flight) (now : ℕ) (l : Ledger) (b : Load) (q : Bool)
      → ltb s limit && sized largest (length b.block) ≡ q → Sync P (tx a n s p) r f now l
      → Sync P (started (submits a p q) b (tx a n s p)) r f now (heard (cond (submits a p q) ok denied) (submit b) l)
  submit_sync false n s p r f now l b q e i = i
  submit_sync true n s idle r f now l b false e i = i
  submit_sync true n s idle r f now l b true e i =
      submit_started n s r f now l b (ltb-true s limit (and_left (ltb s limit) (sized largest (length b.block)) e)) i
  submit_sync true n s (send_data d j) r f now l b q e i = i
  submit_sync true n s (send_desc v k) r f now l b q e i = i
  submit_sync true n s await r f now l b q e i = i
  submit_sync true n s reading r f now l b q e i = i
  submit_sync true n s (reset_first m) r f now l b q e i = i
  submit_sync true n s send_reset r f now l b q e i = i
  submit_sync true n s await_reset r f now l b q e i = i
  submit_sync true n s reading_reset r f now l b q e i = i

  -- ---- a frame

  abbrev Framed : Phase → Flight → Bool → ℕ → Rx P.Store → ℕ → Type 0
  Framed p f q n r k = PhaseSync P p f q n r × (k ≡ cond (is_open p) 1 0)

  framed_phase : (p : Phase) (x : Bool) (f : Flight) (q a : Bool) (n k : ℕ) (r : Rx P.Store) (g : Book) → PhaseOk largest P L p f a n r g
      → Framed p f q n r k → Framed (framed p x) f q n r k
  framed_phase idle x f q a n k r g o i = i
  framed_phase (send_data b j) x f q a n k r g o i = i
  framed_phase (send_desc v z) x f q a n k r g o i = i
  framed_phase await true f q a n k r g o i = ((i.0, caught_away f n r.handled o.0), i.1)
  framed_phase await false f q a n k r g o i = i
  framed_phase reading x f q a n k r g o i = i
  framed_phase (reset_first m) x f q a n k r g o i = i
  framed_phase send_reset x f q a n k r g o i = i
  framed_phase await_reset true f q a n k r g o i = i
  framed_phase await_reset false f q a n k r g o i = i
  framed_phase reading_reset x f q a n k r g o i = i

  pub frame_sync : (x a : Bool) (n s : ℕ) (p : Phase) (r : Rx P.Store) (f : Flight) (now : ℕ) (l : Ledger) (g : Book)
      → PhaseOk largest P L p f a n r g → Sync P (tx a n s p) r f now l → Sync P (tx a n s (framed p x)) r f (ticked now) l
  frame_sync x a n s p r f now l g o i =
      let k = framed_phase p x f l.asked a n l.pending r g o (i.phase, i.pending) in
      record { tick = omega arith; handled = i.handled; phase = k.0; standing = i.standing; pending = k.1 }

  -- ---- a take

  taken_out : (n : ℕ) (e : Bool) (d : ℕ) (m : P.Store) (c : ℕ) (b : Block) (w : Word) → Out P n (rx e d m (held c b) w) → Out P n (rx e d m empty (w_count c))
  taken_out n e d m c b w k = record { low = k.low; high = k.high; in_hand = tt; in_word = k.in_hand }

  taken_once : (f : Flight) (n : ℕ) (e : Bool) (d : ℕ) (m : P.Store) (c : ℕ) (b : Block) (w : Word) → Once f (Out P n (rx e d m (held c b) w))
      → Once f (Out P n (rx e d m empty (w_count c)))
  taken_once away n e d m c b w k = tt
  taken_once came n e d m c b w k = taken_out n e d m c b w k
  taken_once (caught v) n e d m c b w k = taken_out n e d m c b w k

  taken_reset : (q e : Bool) (d : ℕ) (m : P.Store) (c : ℕ) (b : Block) (w : Word) → ResetOut P q (rx e d m (held c b) w) → ResetOut P q (rx e d m empty (w_count c))
  taken_reset q e d m c b w k = record { seen = k.seen; handled = k.handled; parts = k.parts }

  taken_reset_once : (f : Flight) (q e : Bool) (d : ℕ) (m : P.Store) (c : ℕ) (b : Block) (w : Word) → Once f (ResetOut P q (rx e d m (held c b) w))
      → Once f (ResetOut P q (rx e d m empty (w_count c)))
  taken_reset_once away q e d m c b w k = tt
  taken_reset_once came q e d m c b w k = taken_reset q e d m c b w k
  taken_reset_once (caught v) q e d m c b w k = taken_reset q e d m c b w k

  taken_phase : (p : Phase) (f : Flight) (q : Bool) (n : ℕ) (e : Bool) (d : ℕ) (m : P.Store) (c : ℕ) (b : Block) (w : Word)
      → PhaseSync P p f q n (rx e d m (held c b) w) → PhaseSync P p f q n (rx e d m empty (w_count c))
  taken_phase idle f q n e d m c b w k = tt
  taken_phase (send_data x j) f q n e d m c b w k = tt
  taken_phase (send_desc v z) f q n e d m c b w k = taken_once f n e d m c b w k
  taken_phase await f q n e d m c b w k = taken_out n e d m c b w k
  taken_phase reading f q n e d m c b w k = (taken_out n e d m c b w k.0, k.1)
  taken_phase (reset_first x) f q n e d m c b w k = tt
  taken_phase send_reset f q n e d m c b w k = taken_reset_once f q e d m c b w k
  taken_phase await_reset f q n e d m c b w k = taken_reset q e d m c b w k
  taken_phase reading_reset f q n e d m c b w k = taken_reset q e d m c b w k

  -- y: the buffer is too small
  taken_held : (y : Bool) (t : Tx) (e : Bool) (d : ℕ) (m : P.Store) (c : ℕ) (b : Block) (w : Word) (f : Flight) (now : ℕ) (l : Ledger) (buffer : Block)
      → Sync P t (rx e d m (held c b) w) f now l
      → Sync P t (cond y (rx e d m (held c b) w) (rx e d m empty (w_count c))) f now (heard (cond y denied (gave b)) (deliver buffer) l)
  taken_held true t e d m c b w f now l buffer i = i
  taken_held false t e d m c b w f now l buffer i =
      record {
        tick = i.tick;
        handled = i.handled;
        phase = taken_phase t.phase f l.asked t.count e d m c b w i.phase;
        standing = i.standing;
        pending = i.pending;
      }

  pub take_sync : (t : Tx) (e : Bool) (d : ℕ) (m : P.Store) (h : Hand) (w : Word) (f : Flight) (now : ℕ) (l : Ledger) (buffer : Block)
      → Sync P t (rx e d m h w) f now l → Sync P t (taken P h (length buffer) (rx e d m h w)) f now (heard (of_take h (length buffer)) (deliver buffer) l)
  take_sync t e d m empty w f now l buffer i = i
  take_sync t e d m (held c b) w f now l buffer i = taken_held (ltb (length buffer) (length b)) t e d m c b w f now l buffer i

  -- ---- a Reset, restarts

  abbrev CutTo : Phase → Flight → ℕ → ℕ → Rx P.Store → Ledger → Type 0
  CutTo p f n s r l =
      PhaseSync P p f l.asked n r × Standing l.sound false r.seen l.started s × (l.pending ≡ cond (is_open p) 1 0)

  cut_phase : (p : Phase) (f : Flight) (a : Bool) (n s : ℕ) (r : Rx P.Store) (l : Ledger) (g : Book) → PhaseOk largest P L p f a n r g
      → l.pending ≡ cond (is_open p) 1 0 → CutTo (cut (asked_by p n)) f n s r (heard (cond (is_open p) (failed abandoned) ok) reset (begun reset l))
  cut_phase idle f a n s r l g o k = (once_away f (ResetOut P true r) o, tt, k)
  cut_phase (send_data b j) f a n s r l g o k = (tt, tt, omega arith)
  cut_phase (send_desc v z) f a n s r l g o k = (tt, tt, omega arith)
  cut_phase await f a n s r l g o k = (once_away f (ResetOut P true r) o.0, tt, omega arith)
  cut_phase reading f a n s r l g o k = (tt, tt, omega arith)
  cut_phase (reset_first m) f a n s r l g o k = (tt, tt, k)
  cut_phase send_reset f a n s r l g o k = (tt, tt, k)
  cut_phase await_reset f a n s r l g o k = (once_away f (ResetOut P true r) o.1.0, tt, k)
  cut_phase reading_reset f a n s r l g o k = (tt, tt, k)

  pub reset_sync : (a : Bool) (n s : ℕ) (p : Phase) (r : Rx P.Store) (f : Flight) (now : ℕ) (l : Ledger) (g : Book)
      → PhaseOk largest P L p f a n r g → Sync P (tx a n s p) r f now l
      → Sync P (tx false n s (cut (asked_by p n))) r f now (heard (cond (is_open p) (failed abandoned) ok) reset (begun reset l))
  reset_sync a n s p r f now l g o i =
      let k = cut_phase p f a n s r l g o i.pending in
      record { tick = i.tick; handled = tt; phase = k.0; standing = k.1; pending = k.2 }

  pub restart_sender_sync : (t : Tx) (r : Rx P.Store) (f : Flight) (now : ℕ) (l : Ledger) → Sync P t r f now l
      → Sync P fresh_tx r away now (begun restart_sender l)
  restart_sender_sync t r f now l i = record { tick = i.tick; handled = tt; phase = tt; standing = tt; pending = refl }

  fresh_out : (n : ℕ) (r : Rx P.Store) → Out P n r → Out P n (fresh_rx P)
  fresh_out n r k = record { low = k.low; high = k.high; in_hand = tt; in_word = tt }

  fresh_once : (f : Flight) (n : ℕ) (r : Rx P.Store) → Once f (Out P n r) → Once f (Out P n (fresh_rx P))
  fresh_once away n r k = tt
  fresh_once came n r k = fresh_out n r k
  fresh_once (caught w) n r k = fresh_out n r k

  fresh_reset : ResetOut P false (fresh_rx P)
  fresh_reset = record { seen = tt; handled = refl; parts = L.number_fresh }

  fresh_reset_once : (f : Flight) → Once f (ResetOut P false (fresh_rx P))
  fresh_reset_once away = tt
  fresh_reset_once came = fresh_reset
  fresh_reset_once (caught w) = fresh_reset

  fresh_phase : (p : Phase) (f : Flight) (q : Bool) (n : ℕ) (r : Rx P.Store) → PhaseSync P p f q n r → PhaseSync P p f false n (fresh_rx P)
  fresh_phase idle f q n r k = tt
  fresh_phase (send_data b j) f q n r k = tt
  fresh_phase (send_desc v z) f q n r k = fresh_once f n r k
  fresh_phase await f q n r k = fresh_out n r k
  fresh_phase reading f q n r k = (fresh_out n r k.0, caught_fresh f n r.handled k.1)
  fresh_phase (reset_first m) f q n r k = tt
  fresh_phase send_reset f q n r k = fresh_reset_once f
  fresh_phase await_reset f q n r k = fresh_reset
  fresh_phase reading_reset f q n r k = fresh_reset

  pub restart_receiver_sync : (t : Tx) (r : Rx P.Store) (f : Flight) (now : ℕ) (l : Ledger) → Sync P t r f now l
      → Sync P t (fresh_rx P) f now (begun restart_receiver l)
  restart_receiver_sync t r f now l i =
      record {
        tick = i.tick;
        handled = close_zero t.accepted t.spent t.count;
        phase = fresh_phase t.phase f l.asked t.count r i.phase;
        standing = tt;
        pending = i.pending;
      }
