-- Sync is kept by every event of the model.
-- Assumes nothing.
use Prim.Native.Nat.{ℕ}
use mathlib.Core.Path.{◌≡◌, refl, subst}
use mathlib.Core.Bool.{Bool, ◌&&◌}
use lib.Dec.{ltb, leb}
use lib.ListN.{length}
use Rattle.promises.specs.Run.{Event, submit, reset, frame, arrive, told_done, told_no_reply, restart_sender, restart_receiver, deliver, Ledger, heard, begun}
use Rattle.promises.specs.Run.{Answer, denied, ok, accepted, confirmed, failed, gave}
use Rattle.dist_promises.proofs.Parts.{Parts, Lawful}
use Rattle.dist_promises.proofs.Model.{w_none, Flight, away, came, caught, reply, no_reply}
use Rattle.dist_promises.proofs.Model.{Tx, Rx, Meter, State, first_age, limit, sized, age, ticked, step, says, done_in, done_says}
use Rattle.dist_promises.proofs.Ghost.{Book}
use Rattle.dist_promises.proofs.Invariant.{PhaseOk}
use Rattle.dist_promises.proofs.Sync.{Sync}
use Rattle.dist_promises.proofs.SyncCalls.{submit_sync, frame_sync, take_sync, reset_sync, restart_sender_sync, restart_receiver_sync}
use Rattle.dist_promises.proofs.SyncArrive.{arrive_sync}
use Rattle.dist_promises.proofs.SyncTold.{told_sync}

-- the onlooker hears an outcome the same whichever it is
pub heard_told : (a : Answer) (l : Ledger) → heard a told_done l ≡ heard a told_no_reply l
heard_told denied l = refl
heard_told ok l = refl
heard_told accepted l = refl
heard_told confirmed l = refl
heard_told (failed f) l = refl
heard_told (gave b) l = refl

module _ (largest : ℕ) (P : Parts) (L : Lawful largest P) (W : ℕ) where
  -- what the meter says at an outcome and at a frame
  abbrev pub late : State P.Store → Bool
  late s = leb W (age s.meter.now s.meter.since)

  abbrev pub ripe : State P.Store → Bool
  ripe s = leb first_age (age (ticked s.meter.now) s.meter.since)

  abbrev st : Tx → Rx P.Store → Flight → Meter → State P.Store
  st t r f u = record { tx = t; rx = r; flight = f; meter = u }

  done_sync : (f : Flight) (t : Tx) (r : Rx P.Store) (u : Meter) (l : Ledger) (g : Book)
      → PhaseOk largest P L t.phase f t.accepted t.count r g → Sync P t r f u.now l
      → Sync P (done_in P W f (st t r f u)).tx (done_in P W f (st t r f u)).rx (done_in P W f (st t r f u)).flight (done_in P W f (st t r f u)).meter.now
      (heard (done_says P W f (st t r f u)) told_done l)
  done_sync away t r u l g k i = i
  done_sync came t r u l g k i =
      told_sync largest P L t.phase (reply w_none) (leb W (age u.now u.since)) t.accepted t.count t.spent r came u.now l g refl k i
  done_sync (caught w) t r u l g k i =
      told_sync largest P L t.phase (reply w) (leb W (age u.now u.since)) t.accepted t.count t.spent r (caught w) u.now l g refl k i

  pub step_sync : (e : Event) (s : State P.Store) (l : Ledger) (g : Book) → L.Whole s.rx.parts
      → PhaseOk largest P L s.tx.phase s.flight s.tx.accepted s.tx.count s.rx g → Sync P s.tx s.rx s.flight s.meter.now l
      → Sync P (step P largest W e s).tx (step P largest W e s).rx (step P largest W e s).flight (step P largest W e s).meter.now
      (heard (says P largest W e s) e (begun e l))
  step_sync (submit b) s l g h k i =
      submit_sync largest P L s.tx.accepted s.tx.count s.tx.spent s.tx.phase s.rx s.flight s.meter.now l b
      (ltb s.tx.spent limit && sized largest (length b.block)) refl i
  step_sync reset s l g h k i =
      reset_sync largest P L s.tx.accepted s.tx.count s.tx.spent s.tx.phase s.rx s.flight s.meter.now l g k i
  step_sync frame s l g h k i =
      frame_sync largest P L (ripe s) s.tx.accepted s.tx.count s.tx.spent s.tx.phase s.rx s.flight s.meter.now l g k i
  step_sync arrive s l g h k i =
      arrive_sync largest P L s.tx.phase s.tx.accepted s.tx.count s.tx.spent s.rx s.flight s.meter.now l g h k i
  step_sync told_done s l g h k i = done_sync s.flight s.tx s.rx s.meter l g k i
  step_sync told_no_reply s l g h k i =
      subst (λ (m : Ledger). Sync P (step P largest W told_no_reply s).tx s.rx (step P largest W told_no_reply s).flight s.meter.now m)
      (heard_told (says P largest W told_no_reply s) l)
      (told_sync largest P L s.tx.phase no_reply (late s) s.tx.accepted s.tx.count s.tx.spent s.rx s.flight s.meter.now l g tt k i)
  step_sync restart_sender s l g h k i = restart_sender_sync largest P L s.tx s.rx s.flight s.meter.now l i
  step_sync restart_receiver s l g h k i = restart_receiver_sync largest P L s.tx s.rx s.flight s.meter.now l i
  step_sync (deliver buffer) s l g h k i =
      take_sync largest P L s.tx s.rx.seen s.rx.handled s.rx.parts s.rx.hand s.rx.word s.flight s.meter.now l buffer i
