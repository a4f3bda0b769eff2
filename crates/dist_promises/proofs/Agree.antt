-- What the onlooker wrote down is what the proof's book says.
-- Assumes nothing.
use Prim.Native.Nat.{ℕ, zero, suc}
use mathlib.Core.Path.{◌≡◌, ap}
use mathlib.Core.Bool.{Bool, true, false, cond}
use mathlib.Core.List.{List, ◌∷◌}
use lib.Dec.{ltb}
use lib.ListN.{length}
use Rattle.promises.specs.Run.{Block, Load, Item, Ledger, heard, begun, noted, submit, reset, told_done, deliver, denied, ok, failed, gave, abandoned}
use Rattle.promises.specs.Promise.{Match, Same}
use Rattle.dist_promises.proofs.Model.{Hand, empty, held, Told, reply, no_reply}
use Rattle.dist_promises.proofs.Model.{Phase, idle, send_data, send_desc, await, reading, reset_first, send_reset, await_reset, reading_reset}
use Rattle.dist_promises.proofs.Model.{Shown, s_confirmed, s_refused, s_reset, s_other, strictly, of_data, of_told, of_read, of_reset, of_take, shows_at}
use Rattle.dist_promises.proofs.Ghost.{Book, wrote, delivered, tagged, reported}
use Rattle.dist_promises.proofs.Invariant.{FitsHand}

pub record Agree (l : Ledger) (g : Book) : Type 0 where
  pub submitted : g.subs ≡ l.submitted
  pub delivered : Match g.dels l.delivered
  pub confirmed : g.confs ≡ l.confirmed

-- the count of messages is not in it
pub agree_noted : (p k : ℕ) (l : Ledger) (g : Book) → Agree l g → Agree (noted p k l) g
agree_noted zero k l g i = i
agree_noted (suc p) k l g i = record { submitted = i.submitted; delivered = i.delivered; confirmed = i.confirmed }

pub agree_submit : (go : Bool) (b : Load) (l : Ledger) (g : Book) → Agree l g → Agree (heard (cond go ok denied) (submit b) l) (wrote go b g)
agree_submit false b l g i = i
agree_submit true b l g i =
    record {
      submitted = ap (λ (xs : List Item). record { number = length xs; load = b } ∷ xs) i.submitted;
      delivered = i.delivered;
      confirmed = i.confirmed;
    }

-- y: the buffer is too small
agree_held : (y : Bool) (b buffer : Block) (l : Ledger) (g : Book) → Same g.tag.load.verified g.tag.load.block b → Agree l g
    → Agree (heard (cond y denied (gave b)) (deliver buffer) l)
    (cond y g (record { subs = g.subs; dels = g.tag ∷ g.dels; confs = g.confs; tag = g.tag }))
agree_held true b buffer l g f i = i
agree_held false b buffer l g f i = record { submitted = i.submitted; delivered = (f, i.delivered); confirmed = i.confirmed }

pub agree_take : (h : Hand) (buffer : Block) (l : Ledger) (g : Book) → FitsHand h g.tag → Agree l g
    → Agree (heard (of_take h (length buffer)) (deliver buffer) l) (delivered h (length buffer) g)
agree_take empty buffer l g f i = i
agree_take (held c b) buffer l g f i = agree_held (ltb (length buffer) (length b)) b buffer l g f i

pub agree_tagged : (h k : Hand) (l : Ledger) (g : Book) → Agree l g → Agree l (tagged h k g)
agree_tagged empty empty l g i = i
agree_tagged empty (held c b) l g i = record { submitted = i.submitted; delivered = i.delivered; confirmed = i.confirmed }
agree_tagged (held c b) k l g i = i

agree_data : (o : Told) (l : Ledger) (g : Book) → Agree l g → Agree (heard (of_data o) told_done l) g
agree_data (reply w) l g i = i
agree_data no_reply l g i = record { submitted = i.submitted; delivered = i.delivered; confirmed = i.confirmed }

agree_read : (v : Shown) (x : Bool) (l : Ledger) (g : Book) → Agree l g → Agree (heard (of_read v x) told_done l) (reported reading v g)
agree_read s_confirmed x l g i =
    record { submitted = i.submitted; delivered = i.delivered; confirmed = cc (i.submitted, i.confirmed) }
agree_read s_refused x l g i = record { submitted = i.submitted; delivered = i.delivered; confirmed = i.confirmed }
agree_read s_reset true l g i = record { submitted = i.submitted; delivered = i.delivered; confirmed = i.confirmed }
agree_read s_reset false l g i = i
agree_read s_other true l g i = record { submitted = i.submitted; delivered = i.delivered; confirmed = i.confirmed }
agree_read s_other false l g i = i

agree_wait : (v : Shown) (l : Ledger) (g : Book) → Agree l g → Agree (heard (of_reset v) told_done l) g
agree_wait s_confirmed l g i = i
agree_wait s_refused l g i = i
agree_wait s_reset l g i = record { submitted = i.submitted; delivered = i.delivered; confirmed = i.confirmed }
agree_wait s_other l g i = i

pub agree_told : (p : Phase) (o : Told) (n : ℕ) (x : Bool) (l : Ledger) (g : Book) → Agree l g
    → Agree (heard (of_told p o n x) told_done l) (reported p (shows_at o n) g)
agree_told idle o n x l g i = i
agree_told (send_data b j) o n x l g i = agree_data (strictly b.verified o) l g i
agree_told (send_desc v k) o n x l g i = i
agree_told await o n x l g i = i
agree_told reading o n x l g i = agree_read (shows_at o n) x l g i
agree_told (reset_first m) o n x l g i = i
agree_told send_reset o n x l g i = i
agree_told await_reset o n x l g i = i
agree_told reading_reset o n x l g i = agree_wait (shows_at o n) l g i

-- q: a transfer is open
pub agree_reset : (q : Bool) (l : Ledger) (g : Book) → Agree l g → Agree (heard (cond q (failed abandoned) ok) reset (begun reset l)) g
agree_reset true l g i = record { submitted = i.submitted; delivered = i.delivered; confirmed = i.confirmed }
agree_reset false l g i = record { submitted = i.submitted; delivered = i.delivered; confirmed = i.confirmed }
