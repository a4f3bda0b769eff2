-- A take and a restart of either end keep the invariant.
-- Assumes nothing.
use Prim.Native.Nat.{ℕ}
use mathlib.Core.Bool.{Bool, true, false, cond, ◌&&◌}
use mathlib.Core.List.{◌∷◌}
use lib.Dec.{ltb}
use lib.ListN.{length}
use Rattle.promises.specs.Run.{Block}
use Rattle.promises.specs.Promise.{skip}
use Rattle.dist_promises.proofs.Parts.{Parts, Lawful}
use Rattle.dist_promises.proofs.Model.{Msg, m_data, m_desc, m_reset, m_read, Word, w_none, w_reset, w_count, w_error, Hand, empty, held, Flight, away, came, caught}
use Rattle.dist_promises.proofs.Model.{Phase, idle, send_data, send_desc, await, reading, reset_first, send_reset, await_reset, reading_reset}
use Rattle.dist_promises.proofs.Model.{Tx, Rx, fresh_tx, fresh_rx, taken}
use Rattle.dist_promises.proofs.Ghost.{Book, System, delivered}
use Rattle.dist_promises.proofs.Invariant.{Invariant, PhaseOk, Close, CaughtDue, Unknown, Sent, MsgOk, DescOk, CutOk, BareOnce, Filled}
use Rattle.dist_promises.proofs.SafeLists.{rx, sys, unowed, older_unowed}

-- the block in hand is given
abbrev given : Book → Book
given l = record { subs = l.subs; dels = l.tag ∷ l.dels; confs = l.confs; tag = l.tag }

close_taken : (a : Bool) (s n c : ℕ) (b : Block) (w : Word) → Close a s n (held c b) w → Close a s n empty (w_count c)
close_taken false s n c b w k = tt
close_taken true s n c b w k = (tt, k.0)

close_fresh : (a : Bool) (s n : ℕ) → Close a s n empty w_none
close_fresh false s n = tt
close_fresh true s n = (tt, tt)

-- a count that a read caught was not in hand any more
caught_taken : (f : Flight) (a : Bool) (n c : ℕ) (b : Block) (w : Word) (l : Book) → CaughtDue f a n (held c b) w l
    → CaughtDue f a n empty (w_count c) (given l)
caught_taken away a n c b w l k = tt
caught_taken came a n c b w l k = tt
caught_taken (caught w_none) a n c b w l k = tt
caught_taken (caught w_reset) a n c b w l k = tt
caught_taken (caught (w_count d)) a n c b w l k = λ e. absurd (k e).0.0
caught_taken (caught (w_error d)) a n c b w l k = tt

caught_fresh : (f : Flight) (a : Bool) (n : ℕ) (h : Hand) (w : Word) (l : Book) → CaughtDue f a n h w l → CaughtDue f a n empty w_none l
caught_fresh away a n h w l k = tt
caught_fresh came a n h w l k = tt
caught_fresh (caught w_none) a n h w l k = tt
caught_fresh (caught w_reset) a n h w l k = tt
caught_fresh (caught (w_count d)) a n h w l k = λ e. ((tt, close_fresh a 0 n), (k e).1)
caught_fresh (caught (w_error d)) a n h w l k = tt

module _ (largest : ℕ) (P : Parts) (L : Lawful largest P) where
  abbrev Inv : System P.Store → Type 0
  Inv = Invariant largest P L

  -- ---- a take

  module _ (e : Bool) (d : ℕ) (p : P.Store) (c : ℕ) (b : Block) (w : Word) (l : Book) where
    abbrev before : Rx P.Store
    before = rx e d p (held c b) w

    abbrev after : Rx P.Store
    after = rx e d p empty (w_count c)

    unknown_taken : (n : ℕ) → Unknown largest P L n before l → Unknown largest P L n after (given l)
    unknown_taken n o = record { low = o.low; high = o.high; older = o.older; other_hand = tt; other_word = o.other_hand }

    sent_taken : (n : ℕ) → Sent largest P L n before l → Sent largest P L n after (given l)
    sent_taken n k = record { in_hand = tt; in_word = λ q. (tt, k.in_hand q) }

    desc_taken : (f : Flight) (q : Bool) (k n : ℕ) → DescOk largest P L f q k n before l → DescOk largest P L f q k n after (given l)
    desc_taken away q k n o = (unknown_taken n o.0, o.1)
    desc_taken came q k n o = sent_taken n o
    desc_taken (caught v) q k n o = sent_taken n o

    msg_taken : (m : Msg) → MsgOk largest P L m before l → MsgOk largest P L m after (given l)
    msg_taken (m_data j x) k = k
    msg_taken (m_desc q n j) k = k
    msg_taken m_reset k = tt
    msg_taken m_read k = tt

    cut_taken : (f : Flight) (m : Msg) → CutOk largest P L f m before l → CutOk largest P L f m after (given l)
    cut_taken away m k = msg_taken m k
    cut_taken came m k = tt
    cut_taken (caught v) m k = tt

    once_taken : (f : Flight) → BareOnce largest P L f before → BareOnce largest P L f after
    once_taken away k = tt
    once_taken came k = absurd k.0
    once_taken (caught v) k = absurd k.0

    phase_taken : (g : Phase) (f : Flight) (a : Bool) (n : ℕ) → PhaseOk largest P L g f a n before l → PhaseOk largest P L g f a n after (given l)
    phase_taken idle f a n k = k
    phase_taken (send_data x j) f a n k =
        record { unknown = unknown_taken n k.unknown; is = k.is; filled = k.filled; within = k.within; fits = k.fits }
    phase_taken (send_desc q j) f a n k = desc_taken f q j n k
    phase_taken await f a n k = (k.0, sent_taken n k.1)
    phase_taken reading f a n k = (sent_taken n k.0, caught_taken f a n c b w l k.1)
    phase_taken (reset_first m) f a n k = (k.0, cut_taken f m k.1)
    phase_taken send_reset f a n k = (k.0, once_taken f k.1)
    phase_taken await_reset f a n k = absurd k.1.1.0
    phase_taken reading_reset f a n k = absurd k.1.0

    -- q: the buffer is too short
    take_held : (q : Bool) (t : Tx) (f : Flight) → Inv (sys t before f l) → Inv (sys t (cond q before after) f (cond q l (given l)))
    take_held true t f i = i
    take_held false t f i =
        record {
          chain = i.chain;
          kept = skip i.kept;
          whole = i.whole;
          fits = tt;
          close = close_taken t.accepted t.spent t.count c b w i.close;
          phase = phase_taken t.phase f t.accepted t.count i.phase;
        }

  pub take_ok : (t : Tx) (e : Bool) (d : ℕ) (p : P.Store) (h : Hand) (w : Word) (f : Flight) (l : Book) (n : ℕ) → Inv (sys t (rx e d p h w) f l)
      → Inv (sys t (taken P h n (rx e d p h w)) f (delivered h n l))
  take_ok t e d p empty w f l n i = i
  take_ok t e d p (held c b) w f l n i = take_held e d p c b w l (ltb n (length b)) t f i

  -- ---- restarts

  pub restart_sender_ok : (t : Tx) (r : Rx P.Store) (f : Flight) (l : Book) → Inv (sys t r f l) → Inv (sys fresh_tx r away l)
  restart_sender_ok t r f l i = record { chain = i.chain; kept = i.kept; whole = i.whole; fits = i.fits; close = tt; phase = tt }

  unknown_fresh : (n : ℕ) (r : Rx P.Store) (l : Book) → Unknown largest P L n r l → Unknown largest P L n (fresh_rx P) l
  unknown_fresh n r l o =
      record {
        low = o.low;
        high = o.high;
        older = older_unowed l.tag r.hand l.dels l.subs o.older;
        other_hand = tt;
        other_word = tt;
      }

  desc_fresh : (f : Flight) (q : Bool) (k n : ℕ) (r : Rx P.Store) (l : Book) → DescOk largest P L f q k n r l
      → DescOk largest P L f q k n (fresh_rx P) l
  desc_fresh away q k n r l o = (unknown_fresh n r l o.0, tt)
  desc_fresh came q k n r l o = record { in_hand = tt; in_word = tt }
  desc_fresh (caught w) q k n r l o = record { in_hand = tt; in_word = tt }

  msg_fresh : (m : Msg) (r : Rx P.Store) (l : Book) → MsgOk largest P L m r l → MsgOk largest P L m (fresh_rx P) l
  msg_fresh (m_data j b) r l k = k
  msg_fresh (m_desc q n j) r l k = (older_unowed l.tag r.hand l.dels l.subs k.0, tt)
  msg_fresh m_reset r l k = tt
  msg_fresh m_read r l k = tt

  cut_fresh : (f : Flight) (m : Msg) (r : Rx P.Store) (l : Book) → CutOk largest P L f m r l → CutOk largest P L f m (fresh_rx P) l
  cut_fresh away m r l k = msg_fresh m r l k
  cut_fresh came m r l k = tt
  cut_fresh (caught w) m r l k = tt

  once_fresh : (f : Flight) → BareOnce largest P L f (fresh_rx P)
  once_fresh away = tt
  once_fresh came = (tt, tt)
  once_fresh (caught w) = (tt, tt)

  -- a terminal that has not seen the Reset is not asked what it has
  filled_fresh : (v : Bool) (j : ℕ) (b : Block) → Filled largest P L (v && false) j b P.fresh
  filled_fresh true j b = tt
  filled_fresh false j b = tt

  phase_fresh : (g : Phase) (f : Flight) (a : Bool) (n : ℕ) (r : Rx P.Store) (l : Book) → PhaseOk largest P L g f a n r l
      → PhaseOk largest P L g f a n (fresh_rx P) l
  phase_fresh idle f a n r l k = k
  phase_fresh (send_data b j) f a n r l k =
      record {
        unknown = unknown_fresh n r l k.unknown;
        is = k.is;
        filled = filled_fresh b.verified _ b.block;
        within = k.within;
        fits = k.fits;
      }
  phase_fresh (send_desc q j) f a n r l k = desc_fresh f q j n r l k
  phase_fresh await f a n r l k = (k.0, record { in_hand = tt; in_word = tt })
  phase_fresh reading f a n r l k = (record { in_hand = tt; in_word = tt }, caught_fresh f a n r.hand r.word l k.1)
  phase_fresh (reset_first m) f a n r l k = (k.0, cut_fresh f m r l k.1)
  phase_fresh send_reset f a n r l k = (k.0, once_fresh f)
  phase_fresh await_reset f a n r l k = (k.0, (k.1.0, (tt, tt)))
  phase_fresh reading_reset f a n r l k = (k.0, (tt, tt))

  pub restart_receiver_ok : (t : Tx) (r : Rx P.Store) (f : Flight) (l : Book) → Inv (sys t r f l) → Inv (sys t (fresh_rx P) f l)
  restart_receiver_ok t r f l i =
      record {
        chain = unowed l.tag r.hand l.dels l.subs i.chain;
        kept = i.kept;
        whole = L.whole_fresh;
        fits = tt;
        close = close_fresh t.accepted t.spent t.count;
        phase = phase_fresh t.phase f t.accepted t.count r l i.phase;
      }
