-- Sync is kept by an arrival.
-- Assumes nothing.
use Prim.Native.Nat.{ℕ, ◌≤◌}
use mathlib.Core.Path.{◌≡◌, refl, subst, sym}
use mathlib.Core.Bool.{Bool, true, false}
use lib.Dec.{eqb}
use Rattle.promises.specs.Run.{Load, Ledger}
use Rattle.dist_promises.proofs.Parts.{Parts, Lawful, chunk}
use Rattle.dist_promises.proofs.Model.{Msg, m_data, m_desc, m_reset, Word, w_none, w_reset, w_count, w_error, Hand, empty, held, Flight, away, came, caught}
use Rattle.dist_promises.proofs.Model.{Phase, idle, send_data, send_desc, await, reading, reset_first, send_reset, await_reset, reading_reset}
use Rattle.dist_promises.proofs.Model.{Rx, asked_by, flown, flown_to, enough, on_desc, received, arrives}
use Rattle.dist_promises.proofs.Ghost.{Book}
use Rattle.dist_promises.proofs.Invariant.{PhaseOk, Unknown, OtherHand, OtherWord, IsFalse}
use Rattle.dist_promises.proofs.SafeLists.{tx, rx}
use Rattle.dist_promises.proofs.Sync.{CloseHandled, HandHandled, WordHandled, ReadHandled, Awaits, Standing, Sync}
use Rattle.dist_promises.proofs.Sync.{near_equal, close_self, close_none, standing_none, other_hand_lem, other_word_lem}

-- a read catches what 27T shows
word_read : (w : Word) (n d : ℕ) → 1 ≤ n → n ≤ 255 → WordHandled w n d → ReadHandled w n d
word_read w_none n d g h k = tt
word_read w_reset n d g h k = tt
word_read (w_count c) n d g h k = λ e. near_equal 0 n d g h (k e)
word_read (w_error c) n d g h k = tt

awaits_seen : (q : Bool) → Awaits q true
awaits_seen false = tt
awaits_seen true = refl

module _ (largest : ℕ) (P : Parts) (L : Lawful largest P) where
  -- what a descriptor with count n leaves at the terminal
  record Left (a : Bool) (n s : ℕ) (e : Bool) (r : Rx P.Store) : Type 0 where
    handled : CloseHandled a s n r.handled
    seen : r.seen ≡ e
    in_hand : HandHandled r.hand n r.handled
    in_word : WordHandled r.word n r.handled

  desc_left : (a e q : Bool) (h : Hand) (v : Bool) (d n s k : ℕ) (m : P.Store) (w : Word) → CloseHandled a s n d → 1 ≤ n → n ≤ 255
      → OtherHand n h → OtherWord n w → Left a n s e (on_desc P e q h v n k (rx e d m h w))
  desc_left a false q h v d n s k m w c g i x y =
      record { handled = c; seen = refl; in_hand = other_hand_lem h n d x; in_word = other_word_lem w n d y }
  desc_left a true true h v d n s k m w c g i x y =
      record { handled = c; seen = refl; in_hand = other_hand_lem h n d x; in_word = other_word_lem w n d y }
  desc_left a true false (held z b) v d n s k m w c g i x y =
      record { handled = c; seen = refl; in_hand = other_hand_lem (held z b) n d x; in_word = other_word_lem w n d y }
  desc_left a true false empty false d n s k m w c g i x y =
      record { handled = close_self a s n g i; seen = refl; in_hand = tt; in_word = tt }
  desc_left a true false empty true d n s k m w c g i x y =
      record { handled = close_self a s n g i; seen = refl; in_hand = λ e. refl; in_word = other_word_lem w n n y }

  desc_came : (v a : Bool) (n s k : ℕ) (r : Rx P.Store) (now : ℕ) (l : Ledger) (g : Book) → Unknown largest P L n r g
      → Sync P (tx a n s (send_desc v k)) r away now l → Sync P (tx a n s (send_desc v k)) (received P (m_desc v n k) r) came now l
  desc_came v a n s k r now l g u i =
      let f = desc_left a r.seen (eqb n r.handled) r.hand (enough P v (P.met k r.parts)) r.handled n s k r.parts r.word
      i.handled u.low u.high u.other_hand u.other_word in
      record {
        tick = i.tick;
        handled = f.handled;
        phase = record { low = u.low; high = u.high; in_hand = f.in_hand; in_word = f.in_word };
        standing = subst (λ (e : Bool). Standing l.sound a e l.started s) (sym f.seen) i.standing;
        pending = i.pending;
      }

  data_came : (a : Bool) (n s : ℕ) (b : Load) (j : ℕ) (r : Rx P.Store) (now : ℕ) (l : Ledger) → Sync P (tx a n s (send_data b j)) r away now l
      → Sync P (tx a n s (send_data b j)) (received P (m_data j (chunk b.block j)) r) came now l
  data_came a n s b j r now l i =
      record { tick = i.tick; handled = i.handled; phase = tt; standing = i.standing; pending = i.pending }

  read_came : (a : Bool) (n s : ℕ) (r : Rx P.Store) (now : ℕ) (l : Ledger) → Sync P (tx a n s reading) r away now l
      → Sync P (tx a n s reading) r (caught r.word) now l
  read_came a n s r now l i =
      let o = i.phase.0 in
      record {
        tick = i.tick;
        handled = i.handled;
        phase = (o, word_read r.word n r.handled o.low o.high o.in_word);
        standing = i.standing;
        pending = i.pending;
      }

  -- no Reset is accepted, so whatever comes is of no account
  first_came : (a : Bool) (n s : ℕ) (m : Msg) (r u : Rx P.Store) (f : Flight) (now : ℕ) (l : Ledger) → IsFalse a
      → Sync P (tx a n s (reset_first m)) r away now l → Sync P (tx a n s (reset_first m)) u f now l
  first_came a n s m r u f now l k i =
      record {
        tick = i.tick;
        handled = close_none a s n u.handled k;
        phase = tt;
        standing = standing_none l.sound a r.seen u.seen l.started s k i.standing;
        pending = i.pending;
      }

  reset_came : (a : Bool) (n s : ℕ) (r : Rx P.Store) (now : ℕ) (l : Ledger) → IsFalse a → L.Whole r.parts
      → Sync P (tx a n s send_reset) r away now l → Sync P (tx a n s send_reset) (received P m_reset r) came now l
  reset_came a n s r now l k h i =
      record {
        tick = i.tick;
        handled = close_none a s n 0 k;
        phase = record { seen = awaits_seen l.asked; handled = refl; parts = L.number_clear r.parts h };
        standing = standing_none l.sound a r.seen true l.started s k i.standing;
        pending = i.pending;
      }

  wait_came : (a : Bool) (n s : ℕ) (r : Rx P.Store) (now : ℕ) (l : Ledger) → Sync P (tx a n s reading_reset) r away now l
      → Sync P (tx a n s reading_reset) r (caught r.word) now l
  wait_came a n s r now l i = record { tick = i.tick; handled = i.handled; phase = i.phase; standing = i.standing; pending = i.pending }

  away_came : (p : Phase) (a : Bool) (n s : ℕ) (r : Rx P.Store) (now : ℕ) (l : Ledger) (g : Book) → L.Whole r.parts
      → PhaseOk largest P L p away a n r g → Sync P (tx a n s p) r away now l
      → Sync P (tx a n s p) (arrives P (asked_by p n) away r) (flown (asked_by p n) away r.word) now l
  away_came idle a n s r now l g h o i = i
  away_came (send_data b j) a n s r now l g h o i = data_came a n s b j r now l i
  away_came (send_desc v k) a n s r now l g h o i = desc_came v a n s k r now l g o.0 i
  away_came await a n s r now l g h o i = i
  away_came reading a n s r now l g h o i = read_came a n s r now l i
  away_came (reset_first m) a n s r now l g h o i = first_came a n s m r (received P m r) (flown_to m r.word) now l o.0 i
  away_came send_reset a n s r now l g h o i = reset_came a n s r now l o.0 h i
  away_came await_reset a n s r now l g h o i = i
  away_came reading_reset a n s r now l g h o i = wait_came a n s r now l i

  -- a message that arrived does not arrive again
  came_came : (p : Phase) (a : Bool) (n s : ℕ) (r : Rx P.Store) (now : ℕ) (l : Ledger) → Sync P (tx a n s p) r came now l
      → Sync P (tx a n s p) (arrives P (asked_by p n) came r) (flown (asked_by p n) came r.word) now l
  came_came idle a n s r now l i = i
  came_came (send_data b j) a n s r now l i = i
  came_came (send_desc v k) a n s r now l i = i
  came_came await a n s r now l i = i
  came_came reading a n s r now l i = i
  came_came (reset_first m) a n s r now l i = i
  came_came send_reset a n s r now l i = i
  came_came await_reset a n s r now l i = i
  came_came reading_reset a n s r now l i = i

  caught_came : (p : Phase) (a : Bool) (n s : ℕ) (r : Rx P.Store) (w : Word) (now : ℕ) (l : Ledger) → Sync P (tx a n s p) r (caught w) now l
      → Sync P (tx a n s p) (arrives P (asked_by p n) (caught w) r) (flown (asked_by p n) (caught w) r.word) now l
  caught_came idle a n s r w now l i = i
  caught_came (send_data b j) a n s r w now l i = i
  caught_came (send_desc v k) a n s r w now l i = i
  caught_came await a n s r w now l i = i
  caught_came reading a n s r w now l i = i
  caught_came (reset_first m) a n s r w now l i = i
  caught_came send_reset a n s r w now l i = i
  caught_came await_reset a n s r w now l i = i
  caught_came reading_reset a n s r w now l i = i

  pub arrive_sync : (p : Phase) (a : Bool) (n s : ℕ) (r : Rx P.Store) (f : Flight) (now : ℕ) (l : Ledger) (g : Book) → L.Whole r.parts
      → PhaseOk largest P L p f a n r g → Sync P (tx a n s p) r f now l
      → Sync P (tx a n s p) (arrives P (asked_by p n) f r) (flown (asked_by p n) f r.word) now l
  arrive_sync p a n s r away now l g h o i = away_came p a n s r now l g h o i
  arrive_sync p a n s r came now l g h o i = came_came p a n s r now l i
  arrive_sync p a n s r (caught w) now l g h o i = caught_came p a n s r w now l i
