-- Sync is kept by an outcome.
-- Assumes nothing.
use Prim.Native.Nat.{ℕ, suc}
use mathlib.Core.Path.{◌≡◌, refl, subst}
use mathlib.Core.Bool.{Bool, true, false, cond}
use native.Mathlib.Omega.{arith}
use lib.Dec.{eqb, ltb}
use lib.ListN.{length}
use borrow.Author.Tests.{eqb-true}
use Rattle.promises.specs.Run.{Load, Ledger, heard, told_done, ok, accepted, failed, unconfirmed}
use Rattle.promises.specs.Promise.{messages}
use Rattle.dist_promises.proofs.Parts.{Parts, Lawful}
use Rattle.dist_promises.proofs.Model.{Msg, Word, w_none, w_reset, w_count, w_error, Flight, away, came, caught, Told, reply, no_reply}
use Rattle.dist_promises.proofs.Model.{Phase, idle, send_data, send_desc, await, reading, reset_first, send_reset, await_reset, reading_reset}
use Rattle.dist_promises.proofs.Model.{Shown, s_confirmed, s_refused, s_reset, s_other, Rx, asked_by, at, later, strictly, if_done, behind, on_read, on_read_reset}
use Rattle.dist_promises.proofs.Model.{told, landed, of_told, of_read, of_reset, of_data, shows_at}
use Rattle.dist_promises.proofs.Ghost.{Book}
use Rattle.dist_promises.proofs.Invariant.{PhaseOk, DescOk}
use Rattle.dist_promises.proofs.SafeLists.{tx}
use Rattle.dist_promises.proofs.Sync.{NearHandled, ReadHandled, CaughtHandled, Awaits, Once, Out, ResetOut, Standing, Sync}
use Rattle.dist_promises.proofs.Sync.{close_near, standing_zero, other_hand_lem, other_word_lem}

-- what the controller is told is what the message in flight brought back
abbrev pub Brings : Flight → Told → Type 0
Brings f no_reply = Unit {0}
Brings away (reply w) = ⊥
Brings came (reply w) = w_none ≡ w
Brings (caught v) (reply w) = v ≡ w

abbrev ToldHandled : Told → ℕ → ℕ → Type 0
ToldHandled no_reply n d = Unit {0}
ToldHandled (reply w) n d = ReadHandled w n d

told_handled : (f : Flight) (o : Told) (n d : ℕ) → Brings f o → CaughtHandled f n d → ToldHandled o n d
told_handled f no_reply n d e k = tt
told_handled away (reply w) n d e k = absurd e
told_handled came (reply w) n d e k = subst (λ (v : Word). ReadHandled v n d) e tt
told_handled (caught v) (reply w) n d e k = subst (λ (v : Word). ReadHandled v n d) e k

awaits_standing : (q e : Bool) → Awaits q e → Standing q true e 0 0
awaits_standing false e k = tt
awaits_standing true e k = (refl, k, refl)

module _ (largest : ℕ) (P : Parts) (L : Lawful largest P) where
  -- ---- a data message

  data_goes : (q : Bool) (a : Bool) (n s : ℕ) (b : Load) (j : ℕ) (r : Rx P.Store) (f : Flight) (now : ℕ) (l : Ledger)
      → Sync P (tx a n s (send_data b j)) r f now l → Sync P (tx a n s (behind q b j)) r away now l
  data_goes true a n s b j r f now l i =
      record { tick = i.tick; handled = i.handled; phase = tt; standing = i.standing; pending = i.pending }
  data_goes false a n s b j r f now l i =
      record { tick = i.tick; handled = i.handled; phase = tt; standing = i.standing; pending = i.pending }

  -- o: as its quality takes it
  data_told : (o : Told) (q : Bool) (a : Bool) (n s : ℕ) (b : Load) (j : ℕ) (r : Rx P.Store) (f : Flight) (now : ℕ) (l : Ledger)
      → Sync P (tx a n s (send_data b j)) r f now l → Sync P (tx a n s (if_done o (behind q b j))) r away now (heard (of_data o) told_done l)
  data_told (reply w) q a n s b j r f now l i = data_goes q a n s b j r f now l i
  data_told no_reply q a n s b j r f now l i =
      record { tick = i.tick; handled = i.handled; phase = tt; standing = i.standing; pending = omega (arith, i.pending) }

  -- ---- the descriptor

  desc_out : (f : Flight) (v : Bool) (k n : ℕ) (r : Rx P.Store) (g : Book) → DescOk largest P L f v k n r g → Once f (Out P n r) → Out P n r
  desc_out away v k n r g o i =
      record {
        low = o.0.low;
        high = o.0.high;
        in_hand = other_hand_lem r.hand n r.handled o.0.other_hand;
        in_word = other_word_lem r.word n r.handled o.0.other_word;
      }
  desc_out came v k n r g o i = i
  desc_out (caught w) v k n r g o i = i

  desc_told : (a v : Bool) (n s k : ℕ) (r : Rx P.Store) (f : Flight) (now : ℕ) (l : Ledger) (g : Book) → DescOk largest P L f v k n r g
      → Sync P (tx a n s (send_desc v k)) r f now l → Sync P (tx a n s await) r away now l
  desc_told a v n s k r f now l g o i =
      record {
        tick = i.tick;
        handled = i.handled;
        phase = desc_out f v k n r g o i.phase;
        standing = i.standing;
        pending = i.pending;
      }

  -- ---- a read of 27T while a transfer waits

  read_other : (x a : Bool) (n s : ℕ) (r : Rx P.Store) (f : Flight) (now : ℕ) (l : Ledger) → Sync P (tx a n s reading) r f now l
      → Sync P (at (tx a n s reading) (later x await)) r away now (heard (cond x (failed unconfirmed) ok) told_done l)
  read_other true a n s r f now l i =
      record { tick = i.tick; handled = i.handled; phase = tt; standing = i.standing; pending = omega (arith, i.pending) }
  read_other false a n s r f now l i =
      record { tick = i.tick; handled = i.handled; phase = i.phase.0; standing = i.standing; pending = i.pending }

  read_count : (x a : Bool) (n s c : ℕ) (r : Rx P.Store) (f : Flight) (now : ℕ) (l : Ledger) (q : Bool) → eqb c n ≡ q
      → (c ≡ n → NearHandled 0 n r.handled) → Sync P (tx a n s reading) r f now l
      → Sync P (on_read (cond q s_confirmed s_other) x (tx a n s reading)) r away now (heard (of_read (cond q s_confirmed s_other) x) told_done l)
  read_count x a n s c r f now l true e k i =
      record {
        tick = i.tick;
        handled = close_near a 0 n r.handled (k (eqb-true c n e));
        phase = tt;
        standing = standing_zero l.sound a r.seen l.started s i.standing;
        pending = omega (arith, i.pending);
      }
  read_count x a n s c r f now l false e k i = read_other x a n s r f now l i

  read_error : (x a : Bool) (n s : ℕ) (r : Rx P.Store) (f : Flight) (now : ℕ) (l : Ledger) (q : Bool) → Sync P (tx a n s reading) r f now l
      → Sync P (on_read (cond q s_refused s_other) x (tx a n s reading)) r away now (heard (of_read (cond q s_refused s_other) x) told_done l)
  read_error x a n s r f now l true i =
      record { tick = i.tick; handled = i.handled; phase = tt; standing = i.standing; pending = omega (arith, i.pending) }
  read_error x a n s r f now l false i = read_other x a n s r f now l i

  read_told : (o : Told) (x a : Bool) (n s : ℕ) (r : Rx P.Store) (f : Flight) (now : ℕ) (l : Ledger) → ToldHandled o n r.handled
      → Sync P (tx a n s reading) r f now l → Sync P (on_read (shows_at o n) x (tx a n s reading)) r away now (heard (of_read (shows_at o n) x) told_done l)
  read_told no_reply x a n s r f now l k i = read_other x a n s r f now l i
  read_told (reply w_none) x a n s r f now l k i = read_other x a n s r f now l i
  read_told (reply w_reset) x a n s r f now l k i = read_other x a n s r f now l i
  read_told (reply (w_count c)) x a n s r f now l k i = read_count x a n s c r f now l (eqb c n) refl k i
  read_told (reply (w_error c)) x a n s r f now l k i = read_error x a n s r f now l (eqb c n) i

  -- ---- the Reset

  first_told : (a : Bool) (n s : ℕ) (m : Msg) (r : Rx P.Store) (f : Flight) (now : ℕ) (l : Ledger) → Sync P (tx a n s (reset_first m)) r f now l
      → Sync P (tx a n s send_reset) r away now l
  first_told a n s m r f now l i = record { tick = i.tick; handled = i.handled; phase = tt; standing = i.standing; pending = i.pending }

  reset_out : (f : Flight) (w : Word) (q : Bool) (r : Rx P.Store) → Brings f (reply w) → Once f (ResetOut P q r) → ResetOut P q r
  reset_out away w q r e k = absurd e
  reset_out came w q r e k = k
  reset_out (caught v) w q r e k = k

  reset_told : (o : Told) (a : Bool) (n s : ℕ) (r : Rx P.Store) (f : Flight) (now : ℕ) (l : Ledger) → Brings f o → Sync P (tx a n s send_reset) r f now l
      → Sync P (tx a n s (if_done o await_reset)) r away now l
  reset_told (reply w) a n s r f now l e i =
      record {
        tick = i.tick;
        handled = i.handled;
        phase = reset_out f w l.asked r e i.phase;
        standing = i.standing;
        pending = i.pending;
      }
  reset_told no_reply a n s r f now l e i =
      record { tick = i.tick; handled = i.handled; phase = tt; standing = i.standing; pending = i.pending }

  -- ---- a read of 27T while a Reset waits

  wait_other : (x a : Bool) (n s : ℕ) (r : Rx P.Store) (f : Flight) (now : ℕ) (l : Ledger) → Sync P (tx a n s reading_reset) r f now l
      → Sync P (at (tx a n s reading_reset) (later x await_reset)) r away now l
  wait_other true a n s r f now l i =
      record { tick = i.tick; handled = i.handled; phase = tt; standing = i.standing; pending = i.pending }
  wait_other false a n s r f now l i =
      record { tick = i.tick; handled = i.handled; phase = i.phase; standing = i.standing; pending = i.pending }

  wait_accepted : (a : Bool) (n s : ℕ) (r : Rx P.Store) (f : Flight) (now : ℕ) (l : Ledger) → Sync P (tx a n s reading_reset) r f now l
      → Sync P (tx true 0 0 idle) r away now (heard accepted told_done l)
  wait_accepted a n s r f now l i =
      record {
        tick = i.tick;
        handled = rw i.phase.handled tt;
        phase = tt;
        standing = awaits_standing l.asked r.seen i.phase.seen;
        pending = i.pending;
      }

  wait_told : (v : Shown) (x a : Bool) (n s : ℕ) (r : Rx P.Store) (f : Flight) (now : ℕ) (l : Ledger) → Sync P (tx a n s reading_reset) r f now l
      → Sync P (on_read_reset v x (tx a n s reading_reset)) r away now (heard (of_reset v) told_done l)
  wait_told s_reset x a n s r f now l i = wait_accepted a n s r f now l i
  wait_told s_confirmed x a n s r f now l i = wait_other x a n s r f now l i
  wait_told s_refused x a n s r f now l i = wait_other x a n s r f now l i
  wait_told s_other x a n s r f now l i = wait_other x a n s r f now l i

  -- ---- any outcome

  pub told_sync : (p : Phase) (o : Told) (x a : Bool) (n s : ℕ) (r : Rx P.Store) (f : Flight) (now : ℕ) (l : Ledger) (g : Book) → Brings f o
      → PhaseOk largest P L p f a n r g → Sync P (tx a n s p) r f now l
      → Sync P (told p o x (tx a n s p)) r (landed (asked_by p n) f) now (heard (of_told p o n x) told_done l)
  told_sync idle o x a n s r f now l g e k i = i
  told_sync (send_data b j) o x a n s r f now l g e k i =
      data_told (strictly b.verified o) (ltb (suc j) (messages (length b.block))) a n s b j r f now l i
  told_sync (send_desc v z) o x a n s r f now l g e k i = desc_told a v n s z r f now l g k i
  told_sync await o x a n s r f now l g e k i = i
  told_sync reading o x a n s r f now l g e k i = read_told o x a n s r f now l (told_handled f o n r.handled e i.phase.1) i
  told_sync (reset_first m) o x a n s r f now l g e k i = first_told a n s m r f now l i
  told_sync send_reset o x a n s r f now l g e k i = reset_told o a n s r f now l e i
  told_sync await_reset o x a n s r f now l g e k i = i
  told_sync reading_reset o x a n s r f now l g e k i = wait_told (shows_at o n) x a n s r f now l i
