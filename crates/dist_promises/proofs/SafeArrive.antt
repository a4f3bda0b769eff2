-- The message asked for arrives: the invariant is kept, and what is known of the terminal is then what the outcome needs.
-- Assumes nothing.
use Prim.Native.Nat.{ℕ, suc, ◌≤◌, ◌<◌}
use mathlib.Core.Path.{◌≡◌, refl, subst}
use mathlib.Core.Bool.{Bool, true, false, ◌&&◌}
use lib.Dec.{eqb}
use lib.ListN.{length}
use Rattle.promises.specs.Run.{Block, Load}
use Rattle.promises.specs.Promise.{Within, messages}
use Rattle.dist_promises.proofs.Parts.{Parts, Lawful, chunk}
use Rattle.dist_promises.proofs.Model.{Msg, m_data, m_desc, m_reset, m_read, Word, w_none, w_reset, w_count, w_error, Hand, empty, held, Flight, away, came, caught}
use Rattle.dist_promises.proofs.Model.{Phase, idle, send_data, send_desc, await, reading, reset_first, send_reset, await_reset, reading_reset}
use Rattle.dist_promises.proofs.Model.{Rx, asked_by, flown, flown_to, enough, on_desc, received, arrives}
use Rattle.dist_promises.proofs.Ghost.{Book, System, tagged}
use Rattle.dist_promises.proofs.Circle.{near_same}
use Rattle.dist_promises.proofs.Invariant.{Invariant, owed, FitsHand, Close, OtherHand, OtherWord, Older, IsEmpty, IsFalse, HandDue, WordDue, CaughtDue}
use Rattle.dist_promises.proofs.Invariant.{Placed, Unknown, Sent, MsgOk, CutOk, DataOk, Filled}
use Rattle.dist_promises.proofs.SafeLists.{tx, rx, sys, unowed, accept_chain, accept_due, accept_fits, same_hand, emptied_hand}

-- ---- a count that is not the present one

other_hand_lem : (h : Hand) (n : ℕ) (l : Book) → OtherHand n h → HandDue h n l
other_hand_lem empty n l k = tt
other_hand_lem (held c b) n l k = λ e. absurd (k e)

other_word_lem : (w : Word) (n : ℕ) (h : Hand) (l : Book) → OtherWord n w → WordDue w n h l
other_word_lem w_none n h l k = tt
other_word_lem w_reset n h l k = tt
other_word_lem (w_count c) n h l k = λ e. absurd (k e)
other_word_lem (w_error c) n h l k = tt

-- ---- counts at the terminal

close_held : (a : Bool) (s n : ℕ) (b : Block) (w : Word) → 1 ≤ n → n ≤ 255 → Close a s n empty w → Close a s n (held n b) w
close_held false s n b w g h k = tt
close_held true s n b w g h k = (near_same s n g h, k.1)

close_error : (a : Bool) (s n c : ℕ) (h : Hand) (w : Word) → Close a s n h w → Close a s n h (w_error c)
close_error false s n c h w k = tt
close_error true s n c h w k = (k.0, tt)

close_reset : (a : Bool) (s n : ℕ) → Close a s n empty w_reset
close_reset false s n = tt
close_reset true s n = (tt, tt)

close_false : (a : Bool) (s n : ℕ) (h : Hand) (w : Word) → IsFalse a → Close a s n h w
close_false false s n h w k = tt
close_false true s n h w k = absurd k

-- 27T shows the present count
close_shown : (a : Bool) (n s c : ℕ) (h : Hand) → IsEmpty h → c ≡ n → Close a s n h (w_count c) → Close a 0 n h (w_count c)
close_shown false n s c h q e k = tt
close_shown true n s c empty q e k = (tt, rw e (near_same 0 n k.1.one k.1.top))
close_shown true n s c (held d b) q e k = absurd q

-- a read catches what 27T shows
word_caught : (w : Word) (a : Bool) (n s : ℕ) (h : Hand) (l : Book) → Close a s n h w → WordDue w n h l → CaughtDue (caught w) a n h w l
word_caught w_none a n s h l c k = tt
word_caught w_reset a n s h l c k = tt
word_caught (w_count d) a n s h l c k = λ e. (((k e).0, close_shown a n s d h (k e).0 e c), (k e).1)
word_caught (w_error d) a n s h l c k = tt

module _ (largest : ℕ) (P : Parts) (L : Lawful largest P) where
  abbrev Inv : System P.Store → Type 0
  Inv = Invariant largest P L

  abbrev Terminal : Type 0
  Terminal = Rx P.Store

  pub unknown_sent : (n : ℕ) (r : Terminal) (l : Book) → Unknown largest P L n r l → Sent largest P L n r l
  unknown_sent n r l o =
      record { in_hand = other_hand_lem r.hand n l o.other_hand; in_word = other_word_lem r.word n r.hand l o.other_word }

  -- what the terminal does with a message asked for, noted in the book
  abbrev comes : Msg → Terminal → Book → Book
  comes m r l = tagged r.hand (received P m r).hand l

  -- ---- a data message

  filled_put : (q : Bool) (b : Load) (j : ℕ) (s : P.Store) → length b.block ≤ largest → j < messages (length b.block) → L.Whole s
      → Filled largest P L q j b.block s → Filled largest P L q (suc j) b.block (P.put j (chunk b.block j) s)
  filled_put false b j s f g w k = tt
  filled_put true b j s f g w k = L.full_put b.block j s b.bytes f g w k

  data_arrives : (a : Bool) (n s : ℕ) (b : Load) (j : ℕ) (r : Terminal) (l : Book) → Inv (sys (tx a n s (send_data b j)) r away l)
      → Inv (sys (tx a n s (send_data b j)) (received P (m_data j (chunk b.block j)) r) came l)
  data_arrives a n s b j r l i =
      let o = i.phase.unknown in
      record {
        chain = i.chain;
        kept = i.kept;
        whole = L.whole_put b.block j r.parts i.phase.fits i.phase.within i.whole;
        fits = i.fits;
        close = i.close;
        phase = record {
          unknown = record { low = o.low; high = o.high; older = o.older; other_hand = o.other_hand; other_word = o.other_word };
          is = i.phase.is;
          filled = filled_put (b.verified && r.seen) b j r.parts i.phase.fits i.phase.within i.whole i.phase.filled;
          within = i.phase.within;
          fits = i.phase.fits;
        };
      }

  -- ---- the descriptor

  -- what it leaves, whoever waits for its outcome
  record After (r : Terminal) (l : Book) : Type 0 where
    chain : Within (owed l.tag r.hand l.dels) l.subs
    kept : Within l.confs l.dels
    whole : L.Whole r.parts
    fits : FitsHand r.hand l.tag

  desc_after : (e q : Bool) (h : Hand) (v y : Bool) (d c k : ℕ) (p : P.Store) (w : Word) (l : Book) → enough P y (P.met k p) ≡ v
      → Within (owed l.tag h l.dels) l.subs → Within l.confs l.dels → L.Whole p → FitsHand h l.tag
      → Older l.subs (owed l.tag h l.dels) → Placed largest P L e y k p l.subs
      → After (on_desc P e q h v c k (rx e d p h w)) (tagged h (on_desc P e q h v c k (rx e d p h w)).hand l)
  desc_after false q h v y d c k p w l m f g u t o z = rw (same_hand h l) record { chain = f; kept = g; whole = u; fits = t }
  desc_after true true h v y d c k p w l m f g u t o z =
      rw (same_hand h l) record { chain = f; kept = g; whole = L.whole_clear p u; fits = t }
  desc_after true false (held x b) v y d c k p w l m f g u t o z = record { chain = f; kept = g; whole = L.whole_clear p u; fits = t }
  desc_after true false empty false y d c k p w l m f g u t o z = record { chain = f; kept = g; whole = L.whole_clear p u; fits = t }
  desc_after true false empty true y d c k p w l m f g u t o z =
      record {
        chain = accept_chain l.subs l.dels o;
        kept = g;
        whole = L.whole_clear p u;
        fits = accept_fits l.subs (P.block k p) (z m);
      }

  -- what the controller that sent it needs
  record Sends (a : Bool) (n s : ℕ) (r : Terminal) (l : Book) : Type 0 where
    close : Close a s n r.hand r.word
    sent : Sent largest P L n r l

  desc_sends : (a e q : Bool) (h : Hand) (v : Bool) (d n s k : ℕ) (p : P.Store) (w : Word) (l : Book)
      → Close a s n h w → Within l.confs l.dels → Unknown largest P L n (rx e d p h w) l
      → Sends a n s (on_desc P e q h v n k (rx e d p h w)) (tagged h (on_desc P e q h v n k (rx e d p h w)).hand l)
  desc_sends a false q h v d n s k p w l c g o = rw (same_hand h l) record { close = c; sent = unknown_sent n (rx false d p h w) l o }
  desc_sends a true true h v d n s k p w l c g o =
      rw (same_hand h l)
      record { close = c; sent = record { in_hand = other_hand_lem h n l o.other_hand; in_word = other_word_lem w n h l o.other_word } }
  desc_sends a true false (held x b) v d n s k p w l c g o =
      record {
        close = c;
        sent = record { in_hand = other_hand_lem (held x b) n l o.other_hand; in_word = other_word_lem w n (held x b) l o.other_word };
      }
  desc_sends a true false empty false d n s k p w l c g o =
      record { close = close_error a s n n empty w c; sent = record { in_hand = tt; in_word = tt } }
  desc_sends a true false empty true d n s k p w l c g o =
      record {
        close = close_held a s n (P.block k p) w o.low o.high c;
        sent = record {
          in_hand = λ e. accept_due l.subs l.confs l.dels o.older g;
          in_word = other_word_lem w n (held n (P.block k p)) (tagged empty (held n (P.block k p)) l) o.other_word;
        };
      }

  desc_arrives : (a : Bool) (n s : ℕ) (y : Bool) (k : ℕ) (r : Terminal) (l : Book) → Inv (sys (tx a n s (send_desc y k)) r away l)
      → Inv (sys (tx a n s (send_desc y k)) (received P (m_desc y n k) r) came (comes (m_desc y n k) r l))
  desc_arrives a n s y k r l i =
      let m = enough P y (P.met k r.parts) in
      let f = desc_after r.seen (eqb n r.handled) r.hand m y r.handled n k r.parts r.word l refl
      i.chain i.kept i.whole i.fits i.phase.0.older i.phase.1 in
      let g = desc_sends a r.seen (eqb n r.handled) r.hand m r.handled n s k r.parts r.word l i.close i.kept i.phase.0 in
      record { chain = f.chain; kept = f.kept; whole = f.whole; fits = f.fits; close = g.close; phase = g.sent }

  -- ---- a read of 27T

  read_arrives : (a : Bool) (n s : ℕ) (r : Terminal) (l : Book) → Inv (sys (tx a n s reading) r away l)
      → Inv (sys (tx a n s reading) r (caught r.word) l)
  read_arrives a n s r l i =
      record {
        chain = i.chain;
        kept = i.kept;
        whole = i.whole;
        fits = i.fits;
        close = i.close;
        phase = (i.phase.0, word_caught r.word a n s r.hand l i.close i.phase.0.in_word);
      }

  reset_read_arrives : (a : Bool) (n s : ℕ) (r : Terminal) (l : Book) → Inv (sys (tx a n s reading_reset) r away l)
      → Inv (sys (tx a n s reading_reset) r (caught r.word) l)
  reset_read_arrives a n s r l i =
      record { chain = i.chain; kept = i.kept; whole = i.whole; fits = i.fits; close = i.close; phase = i.phase }

  -- ---- a Reset

  reset_arrives : (a : Bool) (n s : ℕ) (r : Terminal) (l : Book) → Inv (sys (tx a n s send_reset) r away l)
      → Inv (sys (tx a n s send_reset) (received P m_reset r) came l)
  reset_arrives a n s r l i =
      record {
        chain = unowed l.tag r.hand l.dels l.subs i.chain;
        kept = i.kept;
        whole = L.whole_clear r.parts i.whole;
        fits = tt;
        close = close_reset a s n;
        phase = (i.phase.0, (tt, tt));
      }

  -- ---- a message that was asked for before the Reset

  whole_data : (j : ℕ) (d : Block) (s : P.Store) → DataOk largest P L j d → L.Whole s → L.Whole (P.put j d s)
  whole_data j d s k w =
      subst (λ (d : Block). L.Whole (P.put j d s)) k.is (L.whole_put k.block j s k.fits k.within w)

  first_after : (m : Msg) (r : Terminal) (l : Book) → MsgOk largest P L m r l → Within (owed l.tag r.hand l.dels) l.subs
      → Within l.confs l.dels → L.Whole r.parts → FitsHand r.hand l.tag → After (received P m r) (comes m r l)
  first_after (m_data j d) r l k f g u t =
      rw (same_hand r.hand l) record { chain = f; kept = g; whole = whole_data j d r.parts k u; fits = t }
  first_after (m_desc y c n) r l k f g u t =
      desc_after r.seen (eqb c r.handled) r.hand (enough P y (P.met n r.parts)) y r.handled c n r.parts r.word l refl
      f g u t k.0 k.1
  first_after m_reset r l k f g u t =
      rw (emptied_hand r.hand l)
      record { chain = unowed l.tag r.hand l.dels l.subs f; kept = g; whole = L.whole_clear r.parts u; fits = tt }
  first_after m_read r l k f g u t = rw (same_hand r.hand l) record { chain = f; kept = g; whole = u; fits = t }

  -- nothing more is asked of a message once it came
  cut_came : (m : Msg) (w : Word) (r : Terminal) (l : Book) → CutOk largest P L (flown_to m w) m r l
  cut_came (m_data j d) w r l = tt
  cut_came (m_desc y c n) w r l = tt
  cut_came m_reset w r l = tt
  cut_came m_read w r l = tt

  first_arrives : (a : Bool) (n s : ℕ) (m : Msg) (r : Terminal) (l : Book) → Inv (sys (tx a n s (reset_first m)) r away l)
      → Inv (sys (tx a n s (reset_first m)) (received P m r) (flown_to m r.word) (comes m r l))
  first_arrives a n s m r l i =
      let f = first_after m r l i.phase.1 i.chain i.kept i.whole i.fits in
      record {
        chain = f.chain;
        kept = f.kept;
        whole = f.whole;
        fits = f.fits;
        close = close_false a s n _ _ i.phase.0;
        phase = (i.phase.0, cut_came m r.word (received P m r) (comes m r l));
      }

  -- ---- whatever is asked for

  abbrev arrived : Phase → Bool → ℕ → ℕ → Terminal → Flight → Book → System P.Store
  arrived p a n s r f l =
      sys (tx a n s p) (arrives P (asked_by p n) f r) (flown (asked_by p n) f r.word) (tagged r.hand (arrives P (asked_by p n) f r).hand l)

  pub arrive_ok : (p : Phase) (f : Flight) (a : Bool) (n s : ℕ) (r : Terminal) (l : Book) → Inv (sys (tx a n s p) r f l) → Inv (arrived p a n s r f l)
  arrive_ok idle f a n s r l i = rw (same_hand r.hand l) i
  arrive_ok await f a n s r l i = rw (same_hand r.hand l) i
  arrive_ok await_reset f a n s r l i = rw (same_hand r.hand l) i
  arrive_ok (send_data b j) away a n s r l i = rw (same_hand r.hand l) (data_arrives a n s b j r l i)
  arrive_ok (send_data b j) came a n s r l i = rw (same_hand r.hand l) i
  arrive_ok (send_data b j) (caught w) a n s r l i = rw (same_hand r.hand l) i
  arrive_ok (send_desc y k) away a n s r l i = desc_arrives a n s y k r l i
  arrive_ok (send_desc y k) came a n s r l i = rw (same_hand r.hand l) i
  arrive_ok (send_desc y k) (caught w) a n s r l i = rw (same_hand r.hand l) i
  arrive_ok reading away a n s r l i = rw (same_hand r.hand l) (read_arrives a n s r l i)
  arrive_ok reading came a n s r l i = rw (same_hand r.hand l) i
  arrive_ok reading (caught w) a n s r l i = rw (same_hand r.hand l) i
  arrive_ok (reset_first m) away a n s r l i = first_arrives a n s m r l i
  arrive_ok (reset_first m) came a n s r l i = rw (same_hand r.hand l) i
  arrive_ok (reset_first m) (caught w) a n s r l i = rw (same_hand r.hand l) i
  arrive_ok send_reset away a n s r l i = rw (emptied_hand r.hand l) (reset_arrives a n s r l i)
  arrive_ok send_reset came a n s r l i = rw (same_hand r.hand l) i
  arrive_ok send_reset (caught w) a n s r l i = rw (same_hand r.hand l) i
  arrive_ok reading_reset away a n s r l i = rw (same_hand r.hand l) (reset_read_arrives a n s r l i)
  arrive_ok reading_reset came a n s r l i = rw (same_hand r.hand l) i
  arrive_ok reading_reset (caught w) a n s r l i = rw (same_hand r.hand l) i
