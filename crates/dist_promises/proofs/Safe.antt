-- A fresh start has the invariant, and every event keeps it.
-- Assumes nothing.
use Prim.Native.Nat.{ℕ}
use mathlib.Core.Path.{refl}
use mathlib.Core.Bool.{Bool, ◌&&◌}
use mathlib.Core.List.{[]}
use lib.Dec.{ltb}
use lib.ListN.{length}
use Rattle.promises.specs.Run.{Item, Event, submit, reset, frame, arrive, told_done, told_no_reply, restart_sender, restart_receiver, deliver}
use Rattle.promises.specs.Promise.{none}
use Rattle.dist_promises.proofs.Parts.{Parts, Lawful}
use Rattle.dist_promises.proofs.Model.{away, fresh_tx, fresh_rx, limit, sized}
use Rattle.dist_promises.proofs.Ghost.{System, steps}
use Rattle.dist_promises.proofs.Invariant.{Invariant}
use Rattle.dist_promises.proofs.SafeLists.{sys}
use Rattle.dist_promises.proofs.SafeSubmit.{submit_ok, frame_ok, reset_ok}
use Rattle.dist_promises.proofs.SafeTake.{take_ok, restart_sender_ok, restart_receiver_ok}
use Rattle.dist_promises.proofs.SafeArrive.{arrive_ok}
use Rattle.dist_promises.proofs.SafeTold.{done_ok, no_reply_ok}

pub fresh_ok : (largest : ℕ) (P : Parts) (L : Lawful largest P) (t : Item)
    → Invariant largest P L (sys fresh_tx (fresh_rx P) away (record { subs = []; dels = []; confs = []; tag = t }))
fresh_ok m P L t = record { chain = none; kept = none; whole = L.whole_fresh; fits = tt; close = tt; phase = tt }

pub steps_ok : (largest : ℕ) (P : Parts) (L : Lawful largest P) (x : Bool) (e : Event) (s : System P.Store) → Invariant largest P L s
    → Invariant largest P L (steps P largest x e s)
steps_ok m P L x (submit b) s i =
    submit_ok m P L s.tx.accepted s.tx.count s.tx.spent s.tx.phase s.rx s.flight s.book b
    (ltb s.tx.spent limit && sized m (length b.block)) refl i
steps_ok m P L x reset s i = reset_ok m P L s.tx.accepted s.tx.count s.tx.spent s.tx.phase s.rx s.flight s.book i
steps_ok m P L x frame s i = frame_ok m P L s.tx.accepted s.tx.count s.tx.spent s.tx.phase s.rx s.flight s.book x i
steps_ok m P L x arrive s i = arrive_ok m P L s.tx.phase s.flight s.tx.accepted s.tx.count s.tx.spent s.rx s.book i
steps_ok m P L x told_done s i = done_ok m P L s.flight s.tx.phase x s.tx.accepted s.tx.count s.tx.spent s.rx s.book i
steps_ok m P L x told_no_reply s i = no_reply_ok m P L s.tx.phase x s.tx.accepted s.tx.count s.tx.spent s.rx s.flight s.book i
steps_ok m P L x restart_sender s i = restart_sender_ok m P L s.tx s.rx s.flight s.book i
steps_ok m P L x restart_receiver s i = restart_receiver_ok m P L s.tx s.rx s.flight s.book i
steps_ok m P L x (deliver buffer) s i =
    take_ok m P L s.tx s.rx.seen s.rx.handled s.rx.parts s.rx.hand s.rx.word s.flight s.book (length buffer) i
