-- The book that the proof keeps beside a run: deliveries with their numbers, and the submission whose block is in hand.
-- Assumes nothing.
use Prim.Native.Nat.{ℕ}
use mathlib.Core.Bool.{Bool, true, false, cond}
use mathlib.Core.List.{List, [], ◌∷◌}
use lib.Dec.{ltb}
use lib.ListN.{length}
use Rattle.promises.specs.Run.{Load, Item, Event, submit, reset, frame, arrive, told_done, told_no_reply, restart_sender, restart_receiver, deliver}
use Rattle.promises.specs.Run as Run
use Rattle.dist_promises.proofs.Parts.{Parts}
use Rattle.dist_promises.proofs.Model.{Hand, empty, held, Flight, away, came, caught, Told, reply, no_reply, w_none}
use Rattle.dist_promises.proofs.Model.{Phase, idle, send_data, send_desc, await, reading, reset_first, send_reset, await_reset, reading_reset}
use Rattle.dist_promises.proofs.Model.{Shown, s_confirmed, s_refused, s_reset, s_other, Tx, Rx, goes_out, started, told, shows_at, asked_by, at, framed, cut, landed, flown}
use Rattle.dist_promises.proofs.Model.{fresh_tx, fresh_rx, arrives, taken}

pub record Book : Type 0 where
  pub subs : List Item
  pub dels : List Item
  pub confs : List Item
  pub tag : Item

-- the model without its meter, with the book
pub record System (S : Type 0) : Type 0 where
  pub tx : Tx
  pub rx : Rx S
  pub flight : Flight
  pub book : Book

abbrev pub wrote : Bool → Load → Book → Book
wrote false b l = l
wrote true b l =
    record { subs = record { number = length l.subs; load = b } ∷ l.subs; dels = l.dels; confs = l.confs; tag = l.tag }

-- by a buffer of n bytes
abbrev pub delivered : Hand → ℕ → Book → Book
delivered empty n l = l
delivered (held c b) n l = cond (ltb n (length b)) l (record { subs = l.subs; dels = l.tag ∷ l.dels; confs = l.confs; tag = l.tag })

abbrev pub newest : List Item → Item
newest [] = record { number = 0; load = record { verified = true; block = []; bytes = tt } }
newest (x ∷ xs) = x

-- the hand before and after a message: a block that came into it is the newest submission's
abbrev pub tagged : Hand → Hand → Book → Book
tagged empty empty l = l
tagged empty (held c b) l = record { subs = l.subs; dels = l.dels; confs = l.confs; tag = newest l.subs }
tagged (held d a) h l = l

abbrev pub reported : Phase → Shown → Book → Book
reported reading s_confirmed l =
    record { subs = l.subs; dels = l.dels; confs = Run.reported l.subs l.confs; tag = l.tag }
reported reading s_refused l = l
reported reading s_reset l = l
reported reading s_other l = l
reported idle s l = l
reported (send_data b i) s l = l
reported (send_desc v k) s l = l
reported await s l = l
reported (reset_first m) s l = l
reported send_reset s l = l
reported await_reset s l = l
reported reading_reset s l = l

module _ (P : Parts) where
  abbrev pub telling : Bool → Told → System P.Store → System P.Store
  telling x o s =
      record {
        tx = told s.tx.phase o x s.tx;
        rx = s.rx;
        flight = landed (asked_by s.tx.phase s.tx.count) s.flight;
        book = reported s.tx.phase (shows_at o s.tx.count) s.book;
      }

  abbrev pub telling_done : Bool → Flight → System P.Store → System P.Store
  telling_done x away s = s
  telling_done x came s = telling x (reply w_none) s
  telling_done x (caught w) s = telling x (reply w) s

  -- one event; x is what the meter says at a frame or at an outcome: safety does not ask when
  abbrev pub steps : ℕ → Bool → Event → System P.Store → System P.Store
  steps largest x (submit b) s =
      record {
        tx = started (goes_out largest b s.tx) b s.tx;
        rx = s.rx;
        flight = s.flight;
        book = wrote (goes_out largest b s.tx) b s.book;
      }
  steps largest x reset s =
      record {
        tx = record { accepted = false; count = s.tx.count; spent = s.tx.spent; phase = cut (asked_by s.tx.phase s.tx.count) };
        rx = s.rx;
        flight = s.flight;
        book = s.book;
      }
  steps largest x frame s = record { tx = at s.tx (framed s.tx.phase x); rx = s.rx; flight = s.flight; book = s.book }
  steps largest x arrive s =
      record {
        tx = s.tx;
        rx = arrives P (asked_by s.tx.phase s.tx.count) s.flight s.rx;
        flight = flown (asked_by s.tx.phase s.tx.count) s.flight s.rx.word;
        book = tagged s.rx.hand (arrives P (asked_by s.tx.phase s.tx.count) s.flight s.rx).hand s.book;
      }
  steps largest x told_done s = telling_done x s.flight s
  steps largest x told_no_reply s = telling x no_reply s
  steps largest x restart_sender s = record { tx = fresh_tx; rx = s.rx; flight = away; book = s.book }
  steps largest x restart_receiver s = record { tx = s.tx; rx = fresh_rx P; flight = s.flight; book = s.book }
  steps largest x (deliver buffer) s =
      record {
        tx = s.tx;
        rx = taken P s.rx.hand (length buffer) s.rx;
        flight = s.flight;
        book = delivered s.rx.hand (length buffer) s.book;
      }
