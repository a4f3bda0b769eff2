-- What is left of the wait for a Reset while all goes well, and that an arrival keeps it so.
-- Assumes nothing.
use Prim.Native.Nat.{ℕ, zero, suc, ◌+◌, ◌≤◌, ◌<◌}
use mathlib.Core.Path.{◌≡◌}
use mathlib.Core.Bool.{Bool, false}
use native.Mathlib.Omega.{arith}
use lib.Dec.{eqb}
use Rattle.promises.specs.Run.{Event, arrive, Ledger}
use Rattle.promises.specs.Promise.{Accepted}
use Rattle.promises.proofs.Rule.{Turns}
use Rattle.dist_promises.proofs.Parts.{Parts, Lawful}
use Rattle.dist_promises.proofs.Model.{Msg, m_data, m_desc, m_reset, m_read, Word, w_none, w_reset, w_count, w_error}
use Rattle.dist_promises.proofs.Model.{Flight, away, came, caught, Rx, Meter, State}
use Rattle.dist_promises.proofs.Model.{Phase, idle, send_data, send_desc, await, reading, reset_first, send_reset, await_reset, reading_reset}
use Rattle.dist_promises.proofs.Model.{age, enough, model}
use Rattle.dist_promises.proofs.Invariant.{IsEmpty, IsFalse}
use Rattle.dist_promises.proofs.Waiting.{no_way, tx, st}
use Rattle.dist_promises.proofs.Tidy.{Harmless, whole_data, whole_desc}

abbrev pub IsReset : Word → Type 0
IsReset w_reset = Unit {0}
IsReset w_none = ⊥
IsReset (w_count c) = ⊥
IsReset (w_error c) = ⊥

-- the arrival of the message asked for is still to come
abbrev pub ahead : Flight → ℕ
ahead away = 1
ahead came = 0
ahead (caught w) = 0

module _ (largest : ℕ) (P : Parts) (L : Lawful largest P) where
  -- the Reset descriptor has arrived
  pub record Was (r : Rx P.Store) : Type 0 where
    pub hand : IsEmpty r.hand
    pub word : IsReset r.word
    pub parts : P.number r.parts ≡ 0

  pub record Waits (m f : ℕ) (r : Rx P.Store) (t : Meter) : Type 0 where
    pub was : Was r
    pub msgs : 2 ≤ m
    pub young : age t.now t.since ≤ 1
    pub frames : f + age t.now t.since ≡ 2
    pub tock : t.since < 65536

  -- m arrivals and outcomes and f idle frames are left
  abbrev pub LiveAt : Phase → Flight → ℕ → ℕ → Rx P.Store → Meter → Type 0
  LiveAt (reset_first x) l m f r t = (5 + ahead l ≤ m) × (f ≡ 2) × Harmless largest P L x
  LiveAt send_reset away m f r t = (4 ≤ m) × (f ≡ 2)
  LiveAt send_reset came m f r t = (3 ≤ m) × (f ≡ 2) × Was r
  LiveAt send_reset (caught w) m f r t = ⊥
  LiveAt await_reset away m f r t = Waits m f r t
  LiveAt await_reset came m f r t = ⊥
  LiveAt await_reset (caught w) m f r t = ⊥
  LiveAt reading_reset away m f r t = (2 ≤ m) × Was r
  LiveAt reading_reset came m f r t = ⊥
  LiveAt reading_reset (caught w) m f r t = (1 ≤ m) × Was r × IsReset w
  LiveAt idle l m f r t = ⊥
  LiveAt (send_data b j) l m f r t = ⊥
  LiveAt (send_desc v z) l m f r t = ⊥
  LiveAt await l m f r t = ⊥
  LiveAt reading l m f r t = ⊥

  pub record Live (m f : ℕ) (s : State P.Store) : Type 0 where
    pub shut : IsFalse s.tx.accepted
    pub tick : s.meter.now < 65536
    pub whole : L.Whole s.rx.parts
    pub phase : LiveAt s.tx.phase s.flight m f s.rx s.meter

  module _ (W : ℕ) where
    abbrev St : Type 0
    St = P.Store

    abbrev pub lives : (m f : ℕ) (a : Bool) (n s : ℕ) (p : Phase) (l : Flight) (r : Rx St) (t : Meter) → Type 0
    lives m f a n s p l r t = Live m f (st St (tx a n s p) r l t)

    -- one event
    abbrev pub Steps : ℕ → ℕ → Event → State P.Store → Ledger → Type 0
    Steps m f e s g =
        Turns (model P largest W) (λ s. false) (Accepted (model P largest W)) (λ m f w. Live m f w.state) m f e (record { state = s; seen = g })

    -- arrival

    first_arrives : (x : Msg) (m f : ℕ) (a : Bool) (n s : ℕ) (r : Rx St) (t : Meter) (g : Ledger) → lives (suc m) f a n s (reset_first x) away r t
        → Steps (suc m) f arrive (st St (tx a n s (reset_first x)) r away t) g
    first_arrives (m_data j d) m f a n s r t g h = record {
      shut = h.shut;
      tick = h.tick;
      whole = whole_data largest P L j d r.parts h.phase.2 h.whole;
      phase = (omega (arith, h.phase.0), h.phase.1, h.phase.2);
    }
    first_arrives (m_desc q c z) m f a n s r t g h = record {
      shut = h.shut;
      tick = h.tick;
      whole = whole_desc largest P L r.seen (eqb c r.handled) r.hand (enough P q (P.met z r.parts)) c z r h.whole;
      phase = (omega (arith, h.phase.0), h.phase.1, h.phase.2);
    }
    first_arrives m_reset m f a n s r t g h = record {
      shut = h.shut;
      tick = h.tick;
      whole = L.whole_clear r.parts h.whole;
      phase = (omega (arith, h.phase.0), h.phase.1, h.phase.2);
    }
    first_arrives m_read m f a n s r t g h = record {
      shut = h.shut;
      tick = h.tick;
      whole = h.whole;
      phase = (omega (arith, h.phase.0), h.phase.1, h.phase.2);
    }

    first_arrived : (x : Msg) (l : Flight) (m f : ℕ) (a : Bool) (n s : ℕ) (r : Rx St) (t : Meter) (g : Ledger) → lives m f a n s (reset_first x) l r t
        → Steps m f arrive (st St (tx a n s (reset_first x)) r l t) g
    first_arrived x away zero f a n s r t g h = no_way (omega (arith, h.phase.0))
    first_arrived x away (suc m) f a n s r t g h = first_arrives x m f a n s r t g h
    first_arrived (m_data j x) came m f a n s r t g h = h
    first_arrived (m_desc q c z) came m f a n s r t g h = h
    first_arrived m_reset came m f a n s r t g h = h
    first_arrived m_read came m f a n s r t g h = h
    first_arrived (m_data j x) (caught w) m f a n s r t g h = h
    first_arrived (m_desc q c z) (caught w) m f a n s r t g h = h
    first_arrived m_reset (caught w) m f a n s r t g h = h
    first_arrived m_read (caught w) m f a n s r t g h = h

    -- the Reset descriptor
    reset_arrives : (m f : ℕ) (a : Bool) (n s : ℕ) (r : Rx St) (t : Meter) (g : Ledger) → lives m f a n s send_reset away r t
        → Steps m f arrive (st St (tx a n s send_reset) r away t) g
    reset_arrives zero f a n s r t g h = no_way (omega (arith, h.phase.0))
    reset_arrives (suc m) f a n s r t g h = record {
      shut = h.shut;
      tick = h.tick;
      whole = L.whole_clear r.parts h.whole;
      phase = (omega (arith, h.phase.0), h.phase.1, record { hand = tt; word = tt; parts = L.number_clear r.parts h.whole });
    }

    read_arrives : (m f : ℕ) (a : Bool) (n s : ℕ) (r : Rx St) (t : Meter) (g : Ledger) → lives m f a n s reading_reset away r t
        → Steps m f arrive (st St (tx a n s reading_reset) r away t) g
    read_arrives zero f a n s r t g h = no_way (omega (arith, h.phase.0))
    read_arrives (suc m) f a n s r t g h = record {
      shut = h.shut;
      tick = h.tick;
      whole = h.whole;
      phase = (omega (arith, h.phase.0), h.phase.1, h.phase.1.word);
    }

    pub on_arrive : (m f : ℕ) (a : Bool) (n s : ℕ) (p : Phase) (l : Flight) (r : Rx St) (t : Meter) (g : Ledger) → lives m f a n s p l r t
        → Steps m f arrive (st St (tx a n s p) r l t) g
    on_arrive m f a n s (reset_first x) l r t g h = first_arrived x l m f a n s r t g h
    on_arrive m f a n s send_reset away r t g h = reset_arrives m f a n s r t g h
    on_arrive m f a n s send_reset came r t g h = h
    on_arrive m f a n s send_reset (caught w) r t g h = absurd h.phase
    on_arrive m f a n s await_reset l r t g h = h
    on_arrive m f a n s reading_reset away r t g h = read_arrives m f a n s r t g h
    on_arrive m f a n s reading_reset came r t g h = absurd h.phase
    on_arrive m f a n s reading_reset (caught w) r t g h = h
    on_arrive m f a n s idle l r t g h = absurd h.phase
    on_arrive m f a n s (send_data b j) l r t g h = absurd h.phase
    on_arrive m f a n s (send_desc v z) l r t g h = absurd h.phase
    on_arrive m f a n s await l r t g h = absurd h.phase
    on_arrive m f a n s reading l r t g h = absurd h.phase
