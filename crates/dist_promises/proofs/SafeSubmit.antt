-- A submission, a frame and a Reset that is asked for keep the invariant.
-- Assumes nothing.
use Prim.Native.Nat.{ℕ, ◌+◌, ◌≤◌, ◌<◌}
use mathlib.Core.Path.{◌≡◌, refl}
use mathlib.Core.Bool.{Bool, true, false, ◌&&◌}
use native.Mathlib.Omega.{arith}
use lib.Dec.{ltb, leb, ltb→lt, leb→le}
use lib.ListN.{length}
use Rattle.promises.specs.Run.{Block, Load}
use Rattle.promises.specs.Promise.{skip}
use Rattle.dist_promises.proofs.Parts.{Parts, Lawful}
use Rattle.dist_promises.proofs.Model.{Word, w_none, w_reset, w_count, w_error, Hand, empty, held, Flight, away, came, caught}
use Rattle.dist_promises.proofs.Model.{Phase, idle, send_data, send_desc, await, reading, reset_first, send_reset, await_reset, reading_reset}
use Rattle.dist_promises.proofs.Model.{Rx, next, limit, sized, submits, started, framed, asked_by, cut}
use Rattle.dist_promises.proofs.Ghost.{Book, System, wrote}
use Rattle.dist_promises.proofs.Circle.{next_near, next_other}
use Rattle.dist_promises.proofs.Invariant.{Invariant, PhaseOk, NearHand, NearWord, OtherHand, OtherWord, Filled}
use Rattle.dist_promises.proofs.SafeLists.{tx, sys, true_T, and_left, and_right}

-- ---- counts at the terminal, as the controller's goes on

hand_next : (s n : ℕ) → s < limit → (h : Hand) → NearHand s n h → NearHand (s + 1) (next n) h
hand_next s n k empty h = tt
hand_next s n k (held c b) h = next_near s n c k h

word_next : (s n : ℕ) → s < limit → (w : Word) → NearWord s n w → NearWord (s + 1) (next n) w
word_next s n k w_none h = tt
word_next s n k w_reset h = tt
word_next s n k (w_count c) h = next_near s n c k h
word_next s n k (w_error c) h = tt

hand_other : (s n : ℕ) → s < limit → (h : Hand) → NearHand s n h → OtherHand (next n) h
hand_other s n k empty h = tt
hand_other s n k (held c b) h = next_other s n c k h

word_other : (s n : ℕ) → s < limit → (w : Word) → NearWord s n w → OtherWord (next n) w
word_other s n k w_none h = tt
word_other s n k w_reset h = tt
word_other s n k (w_count c) h = next_other s n c k h
word_other s n k (w_error c) h = tt

module _ (largest : ℕ) (P : Parts) (L : Lawful largest P) where
  abbrev Inv : System P.Store → Type 0
  Inv = Invariant largest P L

  -- ---- submit

  filled_none : (e : Bool) (b : Block) (s : P.Store) → L.Whole s → Filled largest P L e 0 b s
  filled_none false b s w = tt
  filled_none true b s w = L.full_none b s w

  submit_started : (n s : ℕ) (r : Rx P.Store) (l : Book) (b : Load) → s < limit → 0 < length b.block → length b.block ≤ largest
      → Inv (sys (tx true n s idle) r away l) → Inv (sys (started true b (tx true n s idle)) r away (wrote true b l))
  submit_started n s r l b k g f i =
      record {
        chain = skip i.chain;
        kept = i.kept;
        whole = i.whole;
        fits = i.fits;
        close = (hand_next s n k r.hand i.close.0, word_next s n k r.word i.close.1);
        phase = record {
          unknown = record {
            low = omega arith;
            high = omega arith;
            older = i.chain;
            other_hand = hand_other s n k r.hand i.close.0;
            other_word = word_other s n k r.word i.close.1;
          };
          is = refl;
          filled = filled_none (b.verified && r.seen) b.block r.parts i.whole;
          within = omega arith;
          fits = f;
        };
      }

  -- nothing is out while the controller is idle
  submit_idle : (f : Flight) (n s : ℕ) (r : Rx P.Store) (l : Book) (b : Load) (q : Bool)
      → ltb s limit && sized largest (length b.block) ≡ q → Inv (sys (tx true n s idle) r f l)
      → Inv (sys (started q b (tx true n s idle)) r f (wrote q b l))
  submit_idle f n s r l b false e i = i
  submit_idle came n s r l b true e i = absurd i.phase
  submit_idle (caught w) n s r l b true e i = absurd i.phase
  submit_idle away n s r l b true e i =
      let z = and_right (ltb s limit) (sized largest (length b.block)) e in
      submit_started n s r l b (ltb→lt s limit (true_T (and_left (ltb s limit) (sized largest (length b.block)) e)))
      (ltb→lt 0 (length b.block) (true_T (and_left (ltb 0 (length b.block)) (leb (length b.block) largest) z)))
      (leb→le (length b.block) largest (true_T (and_right (ltb 0 (length b.block)) (leb (length b.block) largest) z)))
      i

  pub submit_ok : (a : Bool) (n s : ℕ) (p : Phase) (r : Rx P.Store) (f : Flight) (l : Book) (b : Load) (q : Bool)
      → ltb s limit && sized largest (length b.block) ≡ q → Inv (sys (tx a n s p) r f l)
      → Inv (sys (started (submits a p q) b (tx a n s p)) r f (wrote (submits a p q) b l))
  submit_ok false n s p r f l b q e i = i
  submit_ok true n s idle r f l b q e i = submit_idle f n s r l b q e i
  submit_ok true n s (send_data d j) r f l b q e i = i
  submit_ok true n s (send_desc v k) r f l b q e i = i
  submit_ok true n s await r f l b q e i = i
  submit_ok true n s reading r f l b q e i = i
  submit_ok true n s (reset_first m) r f l b q e i = i
  submit_ok true n s send_reset r f l b q e i = i
  submit_ok true n s await_reset r f l b q e i = i
  submit_ok true n s reading_reset r f l b q e i = i

  -- ---- a frame

  phase_framed : (p : Phase) (x : Bool) (f : Flight) (a : Bool) (n : ℕ) (r : Rx P.Store) (l : Book) → PhaseOk largest P L p f a n r l
      → PhaseOk largest P L (framed p x) f a n r l
  phase_framed idle x f a n r l k = k
  phase_framed (send_data b j) x f a n r l k = k
  phase_framed (send_desc v m) x f a n r l k = k
  phase_framed await false f a n r l k = k
  phase_framed await true away a n r l k = (k.1, tt)
  phase_framed await true came a n r l k = absurd k.0
  phase_framed await true (caught w) a n r l k = absurd k.0
  phase_framed reading x f a n r l k = k
  phase_framed (reset_first m) x f a n r l k = k
  phase_framed send_reset x f a n r l k = k
  phase_framed await_reset false f a n r l k = k
  phase_framed await_reset true f a n r l k = (k.0, k.1.1)
  phase_framed reading_reset x f a n r l k = k

  pub frame_ok : (a : Bool) (n s : ℕ) (p : Phase) (r : Rx P.Store) (f : Flight) (l : Book) (x : Bool) → Inv (sys (tx a n s p) r f l)
      → Inv (sys (tx a n s (framed p x)) r f l)
  frame_ok a n s p r f l x i =
      record { chain = i.chain; kept = i.kept; whole = i.whole; fits = i.fits; close = i.close; phase = phase_framed p x f a n r l i.phase }

  -- ---- a Reset is asked for

  phase_cut : (p : Phase) (f : Flight) (a : Bool) (n : ℕ) (r : Rx P.Store) (l : Book) → PhaseOk largest P L p f a n r l
      → PhaseOk largest P L (cut (asked_by p n)) f false n r l
  phase_cut idle away a n r l k = (tt, tt)
  phase_cut idle came a n r l k = absurd k
  phase_cut idle (caught w) a n r l k = absurd k
  phase_cut (send_data b j) away a n r l k = (tt, record { block = b.block; is = refl; within = k.within; fits = k.fits })
  phase_cut (send_data b j) came a n r l k = (tt, tt)
  phase_cut (send_data b j) (caught w) a n r l k = (tt, tt)
  phase_cut (send_desc v m) away a n r l k = (tt, (k.0.older, k.1))
  phase_cut (send_desc v m) came a n r l k = (tt, tt)
  phase_cut (send_desc v m) (caught w) a n r l k = (tt, tt)
  phase_cut await away a n r l k = (tt, tt)
  phase_cut await came a n r l k = absurd k.0
  phase_cut await (caught w) a n r l k = absurd k.0
  phase_cut reading away a n r l k = (tt, tt)
  phase_cut reading came a n r l k = (tt, tt)
  phase_cut reading (caught w) a n r l k = (tt, tt)
  phase_cut (reset_first m) f a n r l k = (tt, k.1)
  phase_cut send_reset away a n r l k = (tt, tt)
  phase_cut send_reset came a n r l k = (tt, tt)
  phase_cut send_reset (caught w) a n r l k = (tt, tt)
  phase_cut await_reset away a n r l k = (tt, tt)
  phase_cut await_reset came a n r l k = absurd k.1.0
  phase_cut await_reset (caught w) a n r l k = absurd k.1.0
  phase_cut reading_reset away a n r l k = (tt, tt)
  phase_cut reading_reset came a n r l k = (tt, tt)
  phase_cut reading_reset (caught w) a n r l k = (tt, tt)

  pub reset_ok : (a : Bool) (n s : ℕ) (p : Phase) (r : Rx P.Store) (f : Flight) (l : Book) → Inv (sys (tx a n s p) r f l)
      → Inv (sys (tx false n s (cut (asked_by p n))) r f l)
  reset_ok a n s p r f l i =
      record { chain = i.chain; kept = i.kept; whole = i.whole; fits = i.fits; close = tt; phase = phase_cut p f a n r l i.phase }
