-- What is left of an open transfer while all goes well, and that an arrival keeps it so.
-- Assumes nothing.
use Prim.Native.Nat.{ℕ, zero, suc, ◌+◌, ◌*◌, ◌≤◌, ◌<◌}
use mathlib.Core.Path.{◌≡◌, refl, ap, subst, sym}
use mathlib.Core.Bool.{Bool, true, false}
use mathlib.Core.List.{List, [], ◌∷◌}
use native.Mathlib.Omega.{arith}
use lib.Dec.{eqb}
use lib.ListN.{length}
use borrow.Author.Tests.{ne_eqb}
use Rattle.promises.specs.Run.{Block, Load, Event, arrive, Answer, World, ledger}
use Rattle.promises.specs.Promise.{Confirmed, holding, messages, Pays, read}
use Rattle.promises.proofs.Deliveries.{Passes}
use Rattle.dist_promises.proofs.Parts.{Parts, Lawful}
use Rattle.dist_promises.proofs.Model.{Word, w_none, w_reset, w_count, w_error, Hand, empty, held, Flight, away, came, caught, Rx, Meter, State}
use Rattle.dist_promises.proofs.Model.{Phase, idle, send_data, send_desc, await, reading, reset_first, send_reset, await_reset, reading_reset}
use Rattle.dist_promises.proofs.Model.{age, enough, on_desc, model}
use Rattle.dist_promises.proofs.Invariant.{IsEmpty, came_to}
use Rattle.dist_promises.proofs.Waiting.{no_way, tx, rx, st, given}

-- 27T, as a read caught it, shows the count
abbrev pub IsCount : Word → ℕ → Type 0
IsCount (w_count c) n = c ≡ n
IsCount w_none n = ⊥
IsCount w_reset n = ⊥
IsCount (w_error c) n = ⊥

-- m arrivals and outcomes and f idle frames are left of the transfer of b; `before` was delivered when it was submitted
module _ (largest : ℕ) (P : Parts) (L : Lawful largest P) (b : Load) (before : List Block) where
  -- the block came: it is in hand, or it was taken and 27T shows its count
  abbrev pub Came : Hand → Word → ℕ → List Block → Type 0
  Came (held c x) w n d = (c ≡ n) × (x ≡ b.block) × (d ≡ before)
  Came empty w n d = IsCount w n × (d ≡ b.block ∷ before)

  -- message j is asked for, and the first i came; x: the messages counted
  pub record Datas (c : Load) (j i m f n : ℕ) (r : Rx P.Store) (x : ℕ) (d : List Block) : Type 0 where
    pub is : c.block ≡ b.block
    pub within : j < messages (length c.block)
    pub whole : L.Whole r.parts
    pub ready : L.Ready i (length c.block) r.parts
    pub full : L.Full i c.block r.parts
    pub hand : IsEmpty r.hand
    pub seen : r.seen ≡ true
    pub other : n ≡ r.handled → ⊥
    pub untaken : d ≡ before
    pub msgs : m + j + i ≡ 2 * (messages (length b.block) + 2)
    pub frames : f ≡ 2
    pub cost : x ≡ j + 1

  pub record Desc (z m f n : ℕ) (r : Rx P.Store) (x : ℕ) (d : List Block) : Type 0 where
    pub size : z ≡ length b.block
    pub whole : L.Whole r.parts
    pub ready : L.Ready (messages (length b.block)) (length b.block) r.parts
    pub full : L.Full (messages (length b.block)) b.block r.parts
    pub hand : IsEmpty r.hand
    pub seen : r.seen ≡ true
    pub other : n ≡ r.handled → ⊥
    pub untaken : d ≡ before
    pub msgs : m ≡ 4
    pub frames : f ≡ 2
    pub cost : x ≡ messages (length b.block) + 1

  pub record Landed (n : ℕ) (r : Rx P.Store) (d : List Block) : Type 0 where
    pub came : Came r.hand r.word n d
    pub parts : P.number r.parts ≡ 0

  pub record Waits (m f n : ℕ) (r : Rx P.Store) (t : Meter) (d : List Block) : Type 0 where
    pub landed : Landed n r d
    pub msgs : m ≡ 2
    pub young : age t.now t.since ≤ 1
    pub frames : f + age t.now t.since ≡ 2
    pub cost : t.cost ≡ messages (length b.block) + 1
    pub tock : t.since < 65536

  pub record Caught (w : Word) (m n : ℕ) (r : Rx P.Store) (x : ℕ) (d : List Block) : Type 0 where
    pub shown : IsCount w n
    pub taken : d ≡ b.block ∷ before
    pub hand : IsEmpty r.hand
    pub parts : P.number r.parts ≡ 0
    pub msgs : m ≡ 1
    pub cost : x ≡ messages (length b.block) + 2

  abbrev pub LiveAt : Phase → Flight → ℕ → ℕ → ℕ → Rx P.Store → Meter → List Block → Type 0
  LiveAt (send_data c j) l m f n r t d = Datas c j (came_to l j) m f n r t.cost d
  LiveAt (send_desc v z) away m f n r t d = Desc z m f n r t.cost d
  LiveAt (send_desc v z) came m f n r t d = Landed n r d × (m ≡ 3) × (f ≡ 2) × (t.cost ≡ messages (length b.block) + 1)
  LiveAt (send_desc v z) (caught w) m f n r t d = ⊥
  LiveAt await away m f n r t d = Waits m f n r t d
  LiveAt await came m f n r t d = ⊥
  LiveAt await (caught w) m f n r t d = ⊥
  LiveAt reading away m f n r t d = Landed n r d × (m ≡ 2) × (t.cost ≡ messages (length b.block) + 2)
  LiveAt reading came m f n r t d = ⊥
  LiveAt reading (caught w) m f n r t d = Caught w m n r t.cost d
  LiveAt idle l m f n r t d = ⊥
  LiveAt (reset_first x) l m f n r t d = ⊥
  LiveAt send_reset l m f n r t d = ⊥
  LiveAt await_reset l m f n r t d = ⊥
  LiveAt reading_reset l m f n r t d = ⊥

  abbrev pub Live : ℕ → ℕ → State P.Store → List Block → Type 0
  Live m f s d = (s.meter.now < 65536) × LiveAt s.tx.phase s.flight m f s.tx.count s.rx s.meter d

  module _ (W : ℕ) where
    -- confirmed, by the state and the deliveries
    abbrev pub Right : Answer → ℕ → State P.Store → List Block → Type 0
    Right a m s d = Confirmed (model P largest W) b before a m (record { state = s; seen = ledger [] d [] 0 0 false false 0 })

    pub right : (a : Answer) (m : ℕ) (w : World (model P largest W)) → Right a m w.state w.seen.delivered → Confirmed (model P largest W) b before a m w
    right a m w g = record {
      answer = g.answer;
      delivered = g.delivered;
      left = g.left;
      count = g.count;
      clear = record { hand = g.clear.hand; parts = g.clear.parts };
    }

    -- one event
    abbrev pub Steps : ℕ → ℕ → Event → State P.Store → List Block → Type 0
    Steps m f e s d = Passes (model P largest W) (holding (model P largest W)) Right Live m f e s d

    -- ---- arrival

    module _ (some : 0 < length b.block) (fits : length b.block ≤ largest) (small : largest ≤ 4096) where
      -- the message count does not stop
      pub few : (x : ℕ) → x ≤ messages (length b.block) + 1 → x < 65535
      few x h = omega (arith, fits, small)

      pub total : (c : Load) → c.block ≡ b.block → messages (length c.block) ≡ messages (length b.block)
      total c e = ap (λ (x : Block). messages (length x)) e

      no_message_lem : (j x : ℕ) → j < x → x ≡ messages (length b.block) → 0 + j + j ≡ 2 * (messages (length b.block) + 2) → ⊥
      no_message_lem j x h e q = omega arith

      data_arrives : (m f : ℕ) (a : Bool) (n s : ℕ) (c : Load) (j : ℕ) (r : Rx P.Store) (t : Meter) (d : List Block) → t.now < 65536
          → Datas c j j m f n r t.cost d → Steps m f arrive (st P.Store (tx a n s (send_data c j)) r away t) d
      data_arrives zero f a n s c j r t d g h = absurd (no_message_lem j (messages (length c.block)) h.within (total c h.is) h.msgs)
      data_arrives (suc m) f a n s c j r t d g h =
          let u : length c.block ≤ largest = subst (λ (x : Block). length x ≤ largest) (sym h.is) fits in (
            g,
            record {
              is = h.is;
              within = h.within;
              whole = L.whole_put c.block j r.parts u h.within h.whole;
              ready = L.ready_put c.block j r.parts u h.within h.whole h.ready;
              full = L.full_put c.block j r.parts c.bytes u h.within h.whole h.full;
              hand = h.hand;
              seen = h.seen;
              other = h.other;
              untaken = h.untaken;
              msgs = omega (arith, h.msgs);
              frames = h.frames;
              cost = h.cost;
            },
          )

      -- by what a terminal asks of a descriptor: Reset seen, another count, an empty hand, enough of the length
      lands : (e q : Bool) (o : Hand) (v : Bool) (n z : ℕ) (r : Rx P.Store) (d : List Block) → e ≡ true → q ≡ false → IsEmpty o → v ≡ true
          → P.block z r.parts ≡ b.block → L.Whole r.parts → d ≡ before → Landed n (on_desc P e q o v n z r) d
      lands true false empty true n z r d a1 a2 a3 a4 y u k = record { came = (refl, y, k); parts = L.number_clear r.parts u }
      lands true false empty false n z r d a1 a2 a3 a4 y u k = no_way cc
      lands true false (held x l) v n z r d a1 a2 a3 a4 y u k = absurd a3
      lands true true o v n z r d a1 a2 a3 a4 y u k = no_way cc
      lands false q o v n z r d a1 a2 a3 a4 y u k = no_way cc

      is_enough : (v x : Bool) → x ≡ true → enough P v x ≡ true
      is_enough true x e = e
      is_enough false x e = refl

      desc_arrives : (m f : ℕ) (a : Bool) (n s : ℕ) (v : Bool) (z : ℕ) (r : Rx P.Store) (t : Meter) (d : List Block) → t.now < 65536
          → Desc z m f n r t.cost d → Steps m f arrive (st P.Store (tx a n s (send_desc v z)) r away t) d
      desc_arrives zero f a n s v z r t d g h = no_way (omega (arith, h.msgs))
      desc_arrives (suc m) f a n s v z r t d g h =
          let y : P.met (length b.block) r.parts ≡ true = L.ready_met (length b.block) r.parts some fits h.whole h.ready in
          let y1 : P.met z r.parts ≡ true = subst (λ (z : ℕ). P.met z r.parts ≡ true) (sym h.size) y in
          let y2 : P.block z r.parts ≡ b.block =
          subst (λ (z : ℕ). P.block z r.parts ≡ b.block) (sym h.size) (L.full_met b.block r.parts b.bytes fits h.whole h.full y) in (
            g,
            (
              lands r.seen (eqb n r.handled) r.hand (enough P v (P.met z r.parts)) n z r d h.seen (ne_eqb n r.handled h.other) h.hand
                  (is_enough v (P.met z r.parts) y1) y2 h.whole h.untaken,
              omega (arith, h.msgs),
              h.frames,
              h.cost,
            ),
          )

      read_arrives : (m f : ℕ) (a : Bool) (n s : ℕ) (e : Bool) (y : ℕ) (p : P.Store) (o : Hand) (w : Word) (t : Meter) (d : List Block) → t.now < 65536
          → LiveAt reading away m f n (rx P.Store e y p o w) t d → Steps m f arrive (st P.Store (tx a n s reading) (rx P.Store e y p o w) away t) d
      read_arrives m f a n s e y p (held c x) w t d g h =
          subst (λ (q : Bool). Pays read q m f (λ m f. Live m f (st P.Store (tx a n s reading) (rx P.Store e y p (held c x) w) (caught w) t) d))
          (sym (given c x (omega (arith, ap length h.0.came.1, fits, small)))) tt
      read_arrives zero f a n s e y p empty w t d g h = no_way (omega (arith, h.1))
      read_arrives (suc m) f a n s e y p empty w t d g h = (
        g,
        record { shown = h.0.came.0; taken = h.0.came.1; hand = tt; parts = h.0.parts; msgs = omega (arith, h.1); cost = h.2 },
      )

      pub on_arrive : (m f : ℕ) (a : Bool) (n s : ℕ) (p : Phase) (l : Flight) (r : Rx P.Store) (t : Meter) (d : List Block) → t.now < 65536
          → LiveAt p l m f n r t d → Steps m f arrive (st P.Store (tx a n s p) r l t) d
      on_arrive m f a n s (send_data c j) away r t d g h = data_arrives m f a n s c j r t d g h
      on_arrive m f a n s (send_data c j) came r t d g h = (g, h)
      on_arrive m f a n s (send_data c j) (caught w) r t d g h = (g, h)
      on_arrive m f a n s (send_desc v z) away r t d g h = desc_arrives m f a n s v z r t d g h
      on_arrive m f a n s (send_desc v z) came r t d g h = (g, h)
      on_arrive m f a n s (send_desc v z) (caught w) r t d g h = absurd h
      on_arrive m f a n s await l r t d g h = (g, h)
      on_arrive m f a n s reading away r t d g h = read_arrives m f a n s r.seen r.handled r.parts r.hand r.word t d g h
      on_arrive m f a n s reading came r t d g h = absurd h
      on_arrive m f a n s reading (caught w) r t d g h = (g, h)
      on_arrive m f a n s idle l r t d g h = absurd h
      on_arrive m f a n s (reset_first x) l r t d g h = absurd h
      on_arrive m f a n s send_reset l r t d g h = absurd h
      on_arrive m f a n s await_reset l r t d g h = absurd h
      on_arrive m f a n s reading_reset l r t d g h = absurd h
