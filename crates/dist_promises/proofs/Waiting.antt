-- What both waits use: states as literals, the age at a frame, the message count, why a submission was accepted.
-- Assumes nothing.
use Prim.Native.Nat.{ℕ, ◌+◌, ◌≤◌, ◌<◌}
use mathlib.Core.Path.{◌≡◌, refl, ap}
use mathlib.Core.Bool.{Bool, true, false, cond, ◌&&◌}
use native.Mathlib.Omega.{arith}
use lib.Dec.{ltb, leb}
use lib.ListN.{length, replicate, length-replicate}
use borrow.Author.Tests.{ne_eqb, le-ltb, ltb-true, leb-true}
use Rattle.promises.specs.Run.{Block, Load, denied, ok, gave}
use Rattle.promises.specs.Promise.{is_given, IsJudged}
use Rattle.dist_promises.proofs.Model.{Hand, held, Word, Flight, unasked, Tx, Rx, Meter, State}
use Rattle.dist_promises.proofs.Model.{Phase, idle, send_data, send_desc, await, reading, reset_first, send_reset, await_reset, reading_reset}
use Rattle.dist_promises.proofs.Model.{limit, more, age, ticked, sized, submits, goes_out, started, asked_by, of_take}

pub no_way : {A : Type 0} → ◌≡◌ {A = ℕ} 0 1 → A
no_way e = absurd (let z : ⊥ = omega arith in z)

abbrev pub tx : Bool → ℕ → ℕ → Phase → Tx
tx a n s p = record { accepted = a; count = n; spent = s; phase = p }

abbrev pub meter : ℕ → ℕ → ℕ → Meter
meter now since cost = record { now = now; since = since; cost = cost }

module _ (S : Type 0) where
  abbrev pub rx : Bool → ℕ → S → Hand → Word → Rx S
  rx e c p h w = record { seen = e; handled = c; parts = p; hand = h; word = w }

  abbrev pub st : Tx → Rx S → Flight → Meter → State S
  st t r l u = record { tx = t; rx = r; flight = l; meter = u }

  -- after a submission, accepted or not
  abbrev pub sent : Bool → Load → State S → State S
  sent q b s = st (started q b s.tx) s.rx s.flight (meter s.meter.now s.meter.since (cond q 1 s.meter.cost))

-- a young age grows by one with the tick
pub older : (now since : ℕ) → now < 65536 → since < 65536 → age now since ≤ 1 → age (ticked now) since ≡ age now since + 1
older now since h g y = omega arith

not_last : (n : ℕ) → n < 65535 → n ≡ 65535 → ⊥
not_last n h e = omega arith

-- the message count does not stop yet
pub more_is : (n : ℕ) → n < 65535 → more n ≡ n + 1
more_is n h = ap (λ (q : Bool). cond q 65535 (n + 1)) (ne_eqb n 65535 (not_last n h))

-- why a submission was accepted
pub record Went (largest : ℕ) (b : Load) (t : Tx) : Type 0 where
  pub accepted : t.accepted ≡ true
  pub quiet : asked_by t.phase t.count ≡ unasked
  pub room : t.spent < limit
  pub some : 0 < length b.block
  pub fits : length b.block ≤ largest

went_in : (a : Bool) (p : Phase) (q : Bool) (n : ℕ) → submits a p q ≡ true → (a ≡ true) × (asked_by p n ≡ unasked) × (q ≡ true)
went_in true idle q n e = (refl, refl, e)
went_in false p q n e = (e, cc, cc)
went_in true (send_data b j) q n e = (refl, cc, cc)
went_in true (send_desc v z) q n e = (refl, cc, cc)
went_in true await q n e = (refl, refl, cc)
went_in true reading q n e = (refl, cc, cc)
went_in true (reset_first m) q n e = (refl, cc, cc)
went_in true send_reset q n e = (refl, cc, cc)
went_in true await_reset q n e = (refl, refl, cc)
went_in true reading_reset q n e = (refl, cc, cc)

and_left : (a b : Bool) → a && b ≡ true → a ≡ true
and_left true b e = refl
and_left false b e = e

and_right : (a b : Bool) → a && b ≡ true → b ≡ true
and_right true b e = e
and_right false b e = cc

pub went : (largest : ℕ) (b : Load) (t : Tx) → goes_out largest b t ≡ true → Went largest b t
went largest b t e =
    let n = length b.block in
    let g = went_in t.accepted t.phase (ltb t.spent limit && sized largest n) t.count e in
    let z = and_right (ltb t.spent limit) (sized largest n) g.2 in
    record {
      accepted = g.0;
      quiet = g.1;
      room = ltb-true t.spent limit (and_left (ltb t.spent limit) (sized largest n) g.2);
      some = ltb-true 0 n (and_left (ltb 0 n) (leb n largest) z);
      fits = leb-true n largest (and_right (ltb 0 n) (leb n largest) z);
    }

-- a block in hand is given to a take with a buffer for any block
pub given : (c : ℕ) (x : Block) → length x ≤ 4096 → is_given (of_take (held c x) (length (replicate {A = ℕ} 4096 0))) ≡ true
given c x h =
    let v : length (replicate {A = ℕ} 4096 0) ≡ 4096 = length-replicate {A = ℕ} 4096 0 in
    ap (λ (q : Bool). is_given (cond q denied (gave x))) (le-ltb (length (replicate {A = ℕ} 4096 0)) (length x) (omega (arith, h, v)))

-- a submission that is refused, and a take, end no wait
pub judged_submit : (q : Bool) (G : Type 0) (R : Bool → Type 0) → q ≡ false → R false → IsJudged (cond q ok denied) G (R q)
judged_submit false G R e h = h
judged_submit true G R e h = no_way cc

-- q: the buffer is too short
pub judged_take : (q : Bool) (x : Block) (G : Type 0) (R : Bool → Type 0) → R true → R false → IsJudged (cond q denied (gave x)) G (R q)
judged_take true x G R h k = h
judged_take false x G R h k = k
