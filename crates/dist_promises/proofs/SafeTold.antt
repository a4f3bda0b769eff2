-- The controller is told the outcome of the message asked for: the invariant is kept.
-- Assumes nothing.
use Prim.Native.Nat.{ℕ, suc, ◌≤◌, ◌<◌}
use mathlib.Core.Path.{◌≡◌, refl, subst, sym}
use mathlib.Core.Bool.{Bool, true, false, cond, ◌&&◌}
use mathlib.Core.List.{List, [], ◌∷◌}
use native.Mathlib.Omega.{arith}
use lib.Dec.{eqb, ltb, eqb→eq}
use lib.ListN.{length}
use borrow.Author.Tests.{ltb-true, ltb-false}
use Rattle.promises.specs.Run.{Block, Load, Item}
use Rattle.promises.specs.Promise.{Same, messages}
use Rattle.dist_promises.proofs.Parts.{Parts, Lawful}
use Rattle.dist_promises.proofs.Model.{Msg, Word, w_none, w_reset, w_count, w_error, Hand, empty, held, Flight, away, came, caught, reply, no_reply}
use Rattle.dist_promises.proofs.Model.{Phase, idle, send_data, send_desc, await, reading, reset_first, send_reset, await_reset, reading_reset}
use Rattle.dist_promises.proofs.Model.{Rx, at, s_confirmed, s_refused, s_other, later, on_read, on_read_reset, if_done, strictly, behind}
use Rattle.dist_promises.proofs.Ghost.{Book, System, reported, telling, telling_done}
use Rattle.dist_promises.proofs.Invariant.{Invariant, PhaseOk, NearHand, NearWord, IsEmpty, Blank, LoadIs, Placed, Filled, Unknown, Sent, DescOk, Bare}
use Rattle.dist_promises.proofs.SafeLists.{tx, sys, true_T, not_false, due_reported}
use Rattle.dist_promises.proofs.SafeArrive.{unknown_sent}

-- ---- counts at a terminal after a Reset

hand_none : (h : Hand) → IsEmpty h → NearHand 0 0 h
hand_none empty k = tt
hand_none (held c b) k = absurd k

word_none : (w : Word) → Blank w → NearWord 0 0 w
word_none w_none k = tt
word_none w_reset k = tt
word_none (w_count c) k = absurd k
word_none (w_error c) k = tt

module _ (largest : ℕ) (P : Parts) (L : Lawful largest P) where
  abbrev Inv : System P.Store → Type 0
  Inv = Invariant largest P L

  abbrev Terminal : Type 0
  Terminal = Rx P.Store

  -- only the phase changes, and nothing is out
  goes_on : (a : Bool) (n s : ℕ) (p g : Phase) (r : Terminal) (f : Flight) (l : Book) → Inv (sys (tx a n s p) r f l)
      → PhaseOk largest P L g away a n r l → Inv (sys (tx a n s g) r away l)
  goes_on a n s p g r f l i k = record { chain = i.chain; kept = i.kept; whole = i.whole; fits = i.fits; close = i.close; phase = k }

  -- ---- a data message

  -- every message came, as far as the quality asks for it
  placed_last : (v e : Bool) (b : Load) (s : P.Store) (ys : List Item) → b.verified ≡ v → L.Whole s → length b.block ≤ largest
      → Filled largest P L (v && e) (messages (length b.block)) b.block s → LoadIs ys b → Placed largest P L e v (length b.block) s ys
  placed_last v false b s ys q w f k g = tt
  placed_last v true b s [] q w f k g = absurd g
  placed_last true true b s (y ∷ ys) q w f k g = λ m.
      subst (λ (x : Load). Same x.verified x.block (P.block (length b.block) s)) (sym g)
      (subst (λ (u : Bool). Same u b.block (P.block (length b.block) s)) (sym q) (sym (L.full_met b.block s b.bytes f w k m)))
  placed_last false true b s (y ∷ ys) q w f k g = λ m.
      subst (λ (x : Load). Same x.verified x.block (P.block (length b.block) s)) (sym g)
      (subst (λ (u : Bool). Same u b.block (P.block (length b.block) s)) (sym q) (sym (L.size (length b.block) s f w)))

  -- with Best Effort nothing is said of what came
  filled_free : (v e : Bool) (j : ℕ) (b : Block) (s : P.Store) → v ≡ false → Filled largest P L (v && e) j b s
  filled_free false e j b s q = tt
  filled_free true e j b s q = absurd (not_false q)

  -- message j is behind
  data_behind : (q a : Bool) (n : ℕ) (b : Load) (j : ℕ) (r : Terminal) (l : Book) → ltb (suc j) (messages (length b.block)) ≡ q
      → L.Whole r.parts → Unknown largest P L n r l → LoadIs l.subs b → Filled largest P L (b.verified && r.seen) (suc j) b.block r.parts
      → j < messages (length b.block) → length b.block ≤ largest → PhaseOk largest P L (behind q b j) away a n r l
  data_behind true a n b j r l e w o g k h f =
      record { unknown = o; is = g; filled = k; within = ltb-true (suc j) (messages (length b.block)) e; fits = f }
  data_behind false a n b j r l e w o g k h f =
      let z = ltb-false (suc j) (messages (length b.block)) e in
      let m : suc j ≡ messages (length b.block) = omega (arith, z, h) in (
        o,
        placed_last b.verified r.seen b r.parts l.subs refl w f
            (subst (λ (i : ℕ). Filled largest P L (b.verified && r.seen) i b.block r.parts) m k)
            g,
      )

  abbrev next_of : Load → ℕ → Phase
  next_of b j = behind (ltb (suc j) (messages (length b.block))) b j

  data_on : (a : Bool) (n s : ℕ) (b : Load) (j : ℕ) (r : Terminal) (f : Flight) (l : Book)
      → Filled largest P L (b.verified && r.seen) (suc j) b.block r.parts → Inv (sys (tx a n s (send_data b j)) r f l)
      → Inv (sys (tx a n s (next_of b j)) r away l)
  data_on a n s b j r f l k i =
      goes_on a n s (send_data b j) (next_of b j) r f l i
      (data_behind (ltb (suc j) (messages (length b.block))) a n b j r l refl i.whole i.phase.unknown i.phase.is k i.phase.within i.phase.fits)

  -- it is done: the flight says that it came
  data_done_lem : (v a : Bool) (n s : ℕ) (b : Load) (j : ℕ) (r : Terminal) (f : Flight) (w : Word) (l : Book)
      → Filled largest P L (b.verified && r.seen) (suc j) b.block r.parts → Inv (sys (tx a n s (send_data b j)) r f l)
      → Inv (sys (tx a n s (if_done (strictly v (reply w)) (next_of b j))) r away l)
  data_done_lem true a n s b j r f w l k i = data_on a n s b j r f l k i
  data_done_lem false a n s b j r f w l k i = data_on a n s b j r f l k i

  data_missed : (v a : Bool) (n s : ℕ) (b : Load) (j : ℕ) (r : Terminal) (f : Flight) (l : Book) → b.verified ≡ v
      → Inv (sys (tx a n s (send_data b j)) r f l) → Inv (sys (tx a n s (if_done (strictly v no_reply) (next_of b j))) r away l)
  data_missed true a n s b j r f l q i = goes_on a n s (send_data b j) idle r f l i tt
  data_missed false a n s b j r f l q i =
      data_on a n s b j r f l (filled_free b.verified r.seen (suc j) b.block r.parts q) i

  -- ---- the descriptor: whether it came or not

  desc_told : (f : Flight) (y : Bool) (k n : ℕ) (r : Terminal) (l : Book) → DescOk largest P L f y k n r l → Sent largest P L n r l
  desc_told away y k n r l o = unknown_sent largest P L n r l o.0
  desc_told came y k n r l o = o
  desc_told (caught w) y k n r l o = o

  desc_ok : (a : Bool) (n s : ℕ) (y : Bool) (k : ℕ) (r : Terminal) (f : Flight) (l : Book) → Inv (sys (tx a n s (send_desc y k)) r f l)
      → Inv (sys (tx a n s await) r away l)
  desc_ok a n s y k r f l i = goes_on a n s (send_desc y k) await r f l i (tt, desc_told f y k n r l i.phase)

  -- ---- a read of 27T while a transfer waits

  read_other : (x a : Bool) (n s : ℕ) (r : Terminal) (f : Flight) (l : Book) → Inv (sys (tx a n s reading) r f l)
      → Inv (sys (at (tx a n s reading) (later x await)) r away l)
  read_other true a n s r f l i = goes_on a n s reading idle r f l i tt
  read_other false a n s r f l i = goes_on a n s reading await r f l i (tt, i.phase.0)

  read_confirmed : (a : Bool) (n s : ℕ) (r : Terminal) (c : ℕ) (l : Book) → c ≡ n → Inv (sys (tx a n s reading) r (caught (w_count c)) l)
      → Inv (sys (tx a n 0 idle) r away (reported reading s_confirmed l))
  read_confirmed a n s r c l e i =
      let f = i.phase.1 e in
      record {
        chain = i.chain;
        kept = due_reported l.subs l.confs l.dels f.1;
        whole = i.whole;
        fits = i.fits;
        close = f.0.1;
        phase = tt;
      }

  read_count : (x a : Bool) (n s : ℕ) (r : Terminal) (c : ℕ) (l : Book) (q : Bool) → eqb c n ≡ q
      → Inv (sys (tx a n s reading) r (caught (w_count c)) l)
      → Inv (sys (on_read (cond q s_confirmed s_other) x (tx a n s reading)) r away (reported reading (cond q s_confirmed s_other) l))
  read_count x a n s r c l true e i = read_confirmed a n s r c l (eqb→eq c n (true_T e)) i
  read_count x a n s r c l false e i = read_other x a n s r (caught (w_count c)) l i

  read_error : (x a : Bool) (n s : ℕ) (r : Terminal) (f : Flight) (l : Book) (q : Bool) → Inv (sys (tx a n s reading) r f l)
      → Inv (sys (on_read (cond q s_refused s_other) x (tx a n s reading)) r away (reported reading (cond q s_refused s_other) l))
  read_error x a n s r f l true i = goes_on a n s reading idle r f l i tt
  read_error x a n s r f l false i = read_other x a n s r f l i

  read_told : (x a : Bool) (n s : ℕ) (r : Terminal) (w : Word) (l : Book) → Inv (sys (tx a n s reading) r (caught w) l)
      → Inv (telling P x (reply w) (sys (tx a n s reading) r (caught w) l))
  read_told x a n s r w_none l i = read_other x a n s r (caught w_none) l i
  read_told x a n s r w_reset l i = read_other x a n s r (caught w_reset) l i
  read_told x a n s r (w_count c) l i = read_count x a n s r c l (eqb c n) refl i
  read_told x a n s r (w_error c) l i = read_error x a n s r (caught (w_error c)) l (eqb c n) i

  -- ---- a Reset that was asked for

  reset_done_lem : (a : Bool) (n s : ℕ) (r : Terminal) (f : Flight) (l : Book) → Bare largest P L r → Inv (sys (tx a n s send_reset) r f l)
      → Inv (sys (tx a n s await_reset) r away l)
  reset_done_lem a n s r f l k i = goes_on a n s send_reset await_reset r f l i (i.phase.0, (tt, k))

  first_told : (a : Bool) (n s : ℕ) (m : Msg) (r : Terminal) (f : Flight) (l : Book) → Inv (sys (tx a n s (reset_first m)) r f l)
      → Inv (sys (tx a n s send_reset) r away l)
  first_told a n s m r f l i = goes_on a n s (reset_first m) send_reset r f l i (i.phase.0, tt)

  -- ---- a read of 27T while a Reset waits

  reset_other : (x a : Bool) (n s : ℕ) (r : Terminal) (f : Flight) (l : Book) → Inv (sys (tx a n s reading_reset) r f l)
      → Inv (sys (at (tx a n s reading_reset) (later x await_reset)) r away l)
  reset_other true a n s r f l i = goes_on a n s reading_reset idle r f l i tt
  reset_other false a n s r f l i = goes_on a n s reading_reset await_reset r f l i (i.phase.0, (tt, i.phase.1))

  reset_accepted : (a : Bool) (n s : ℕ) (r : Terminal) (f : Flight) (l : Book) → Inv (sys (tx a n s reading_reset) r f l)
      → Inv (sys (tx true 0 0 idle) r away l)
  reset_accepted a n s r f l i =
      record {
        chain = i.chain;
        kept = i.kept;
        whole = i.whole;
        fits = i.fits;
        close = (hand_none r.hand i.phase.1.0, word_none r.word i.phase.1.1);
        phase = tt;
      }

  reset_count : (x a : Bool) (n s : ℕ) (r : Terminal) (f : Flight) (l : Book) (q : Bool) → Inv (sys (tx a n s reading_reset) r f l)
      → Inv (sys (on_read_reset (cond q s_confirmed s_other) x (tx a n s reading_reset)) r away l)
  reset_count x a n s r f l true i = reset_other x a n s r f l i
  reset_count x a n s r f l false i = reset_other x a n s r f l i

  reset_error : (x a : Bool) (n s : ℕ) (r : Terminal) (f : Flight) (l : Book) (q : Bool) → Inv (sys (tx a n s reading_reset) r f l)
      → Inv (sys (on_read_reset (cond q s_refused s_other) x (tx a n s reading_reset)) r away l)
  reset_error x a n s r f l true i = reset_other x a n s r f l i
  reset_error x a n s r f l false i = reset_other x a n s r f l i

  reset_read_told : (x a : Bool) (n s : ℕ) (r : Terminal) (w : Word) (l : Book) → Inv (sys (tx a n s reading_reset) r (caught w) l)
      → Inv (telling P x (reply w) (sys (tx a n s reading_reset) r (caught w) l))
  reset_read_told x a n s r w_none l i = reset_other x a n s r (caught w_none) l i
  reset_read_told x a n s r w_reset l i = reset_accepted a n s r (caught w_reset) l i
  reset_read_told x a n s r (w_count c) l i = reset_count x a n s r (caught (w_count c)) l (eqb c n) i
  reset_read_told x a n s r (w_error c) l i = reset_error x a n s r (caught (w_error c)) l (eqb c n) i

  -- ---- whatever was asked for

  came_ok : (p : Phase) (x a : Bool) (n s : ℕ) (r : Terminal) (l : Book) → Inv (sys (tx a n s p) r came l)
      → Inv (telling P x (reply w_none) (sys (tx a n s p) r came l))
  came_ok idle x a n s r l i = i
  came_ok (send_data b j) x a n s r l i = data_done_lem b.verified a n s b j r came w_none l i.phase.filled i
  came_ok (send_desc y k) x a n s r l i = desc_ok a n s y k r came l i
  came_ok await x a n s r l i = i
  came_ok reading x a n s r l i = read_other x a n s r came l i
  came_ok (reset_first m) x a n s r l i = first_told a n s m r came l i
  came_ok send_reset x a n s r l i = reset_done_lem a n s r came l i.phase.1 i
  came_ok await_reset x a n s r l i = i
  came_ok reading_reset x a n s r l i = reset_other x a n s r came l i

  caught_ok : (p : Phase) (w : Word) (x a : Bool) (n s : ℕ) (r : Terminal) (l : Book) → Inv (sys (tx a n s p) r (caught w) l)
      → Inv (telling P x (reply w) (sys (tx a n s p) r (caught w) l))
  caught_ok idle w x a n s r l i = i
  caught_ok (send_data b j) w x a n s r l i = data_done_lem b.verified a n s b j r (caught w) w l i.phase.filled i
  caught_ok (send_desc y k) w x a n s r l i = desc_ok a n s y k r (caught w) l i
  caught_ok await w x a n s r l i = i
  caught_ok reading w x a n s r l i = read_told x a n s r w l i
  caught_ok (reset_first m) w x a n s r l i = first_told a n s m r (caught w) l i
  caught_ok send_reset w x a n s r l i = reset_done_lem a n s r (caught w) l i.phase.1 i
  caught_ok await_reset w x a n s r l i = i
  caught_ok reading_reset w x a n s r l i = reset_read_told x a n s r w l i

  pub done_ok : (f : Flight) (p : Phase) (x a : Bool) (n s : ℕ) (r : Terminal) (l : Book) → Inv (sys (tx a n s p) r f l)
      → Inv (telling_done P x f (sys (tx a n s p) r f l))
  done_ok away p x a n s r l i = i
  done_ok came p x a n s r l i = came_ok p x a n s r l i
  done_ok (caught w) p x a n s r l i = caught_ok p w x a n s r l i

  pub no_reply_ok : (p : Phase) (x a : Bool) (n s : ℕ) (r : Terminal) (f : Flight) (l : Book) → Inv (sys (tx a n s p) r f l)
      → Inv (telling P x no_reply (sys (tx a n s p) r f l))
  no_reply_ok idle x a n s r f l i = i
  no_reply_ok (send_data b j) x a n s r f l i = data_missed b.verified a n s b j r f l refl i
  no_reply_ok (send_desc y k) x a n s r f l i = desc_ok a n s y k r f l i
  no_reply_ok await x a n s r f l i = i
  no_reply_ok reading x a n s r f l i = read_other x a n s r f l i
  no_reply_ok (reset_first m) x a n s r f l i = first_told a n s m r f l i
  no_reply_ok send_reset x a n s r f l i = goes_on a n s send_reset idle r f l i tt
  no_reply_ok await_reset x a n s r f l i = i
  no_reply_ok reading_reset x a n s r f l i = reset_other x a n s r f l i
