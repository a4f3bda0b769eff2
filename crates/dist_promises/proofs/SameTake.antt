-- A take: the pair does and says as the model does.
-- Assumes nothing.
use Prim.Native.Nat.{ℕ, min, ◌≤◌}
use mathlib.Core.Path.{◌≡◌, refl, ap, subst, sym, ◌∙◌}
use mathlib.Core.Bool.{Bool, false, cond}
use mathlib.Core.List.{List}
use mathlib.Core.Logic.{⊎_elim}
use native.Mathlib.Omega.{arith}
use lib.Dec.{ltb}
use lib.ListN.{length, take}
use borrow.Author.Tests.{le-ltb, ltb-false}
use Rattle.words.specs.Link.{block_store_of}
use Rattle.words.specs.declared.link.Link.{Link}
use Rattle.words.proofs.Ranges.{by, largest_cases}
use Rattle.stores.specs.Copying.{copied_of}
use Rattle.stores.proofs.Runs.{take_sets}
use Rattle.dist_terminal.specs.Take as Take
use Rattle.dist_terminal.specs.Take.{hand_short}
use Rattle.dist_pair.specs.Events as Events
use Rattle.promises.specs.Run.{Block, deliver, gave}
use Rattle.dist_promises.specs.Distribution.{Ends, step_of, says_of}
use Rattle.dist_promises.proofs.Modes.{Received, parts}
use Rattle.dist_promises.proofs.Model.{Word, Hand, empty, held, Tx, Flight, Meter, State, taken, of_take}
use Rattle.dist_promises.proofs.Real.{Hidden, with_hand, phase_kept, real, HandIs, WordIs, Ground, Stands, moves}

-- 27T then shows the size of the block in hand
abbrev shown_size : Hand → ℕ → ℕ → ℕ
shown_size empty n size = size
shown_size (held c b) n size = cond (ltb n (length b)) size (length b)

abbrev taken_hidden : Hand → ℕ → Hidden → Hidden
taken_hidden hand n h = with_hand h.hand (shown_size hand n h.shown) h.caught h

module _ (link : Link) (lent : List ℕ) (G : Ground link lent) where
  hand_long : (h : Hidden) → link.largest ≤ length h.hand → hand_short link (length h.hand) ≡ false
  unfolding hand_short block_store_of
  hand_long h l = rw (G.configured, le-ltb (length h.hand) link.largest l)

  abbrev state : Tx → Bool → ℕ → Received → Hand → Word → Flight → Meter → State Received
  state t e d p g w f m = record { tx = t; rx = record { seen = e; handled = d; parts = p; hand = g; word = w }; flight = f; meter = m }

  take_is : (g : Hand) (h : Hidden) (t : Tx) (e : Bool) (d : ℕ) (p : Received) (w : Word) (f : Flight) (m : Meter) (buffer : Block) → link.largest ≤ length h.hand
      → step_of (deliver buffer) (real link h (state t e d p g w f m))
      ≡ real link (taken_hidden g (length buffer) h) (moves link lent G (deliver buffer) (state t e d p g w f m))
  unfolding Events.take_of Take.take_of
  take_is empty h t e d p w f m buffer l = rw (hand_long h l)
  take_is (held c b) h t e d p w f m buffer l = rw (hand_long h l) (by (ltb (length buffer) (length b)) (λ q. rw q) (λ q. rw q))

  take_hand : (g : Hand) (h : Hidden) (e : Bool) (d : ℕ) (p : Received) (w : Word) (n : ℕ) → HandIs link g h.hand
      → HandIs link (taken (parts link lent) g n (record { seen = e; handled = d; parts = p; hand = g; word = w })).hand h.hand
  take_hand empty h e d p w n i = tt
  take_hand (held c b) h e d p w n i = by (ltb n (length b)) (λ q. rw q i) (λ q. rw q tt)

  take_word : (g : Hand) (h : Hidden) (e : Bool) (d : ℕ) (p : Received) (w : Word) (n : ℕ) → HandIs link g h.hand → WordIs link h.shown w
      → WordIs link (shown_size g n h.shown) (taken (parts link lent) g n (record { seen = e; handled = d; parts = p; hand = g; word = w })).word
  take_word empty h e d p w n i o = o
  take_word (held c b) h e d p w n i o = by (ltb n (length b)) (λ q. rw q o) (λ q. rw q i.range)

  take_parts : (g : Hand) (e : Bool) (d : ℕ) (p : Received) (w : Word) (n : ℕ)
      → (taken (parts link lent) g n (record { seen = e; handled = d; parts = p; hand = g; word = w })).parts ≡ p
  take_parts empty e d p w n = refl
  take_parts (held c b) e d p w n = by (ltb n (length b)) (λ q. rw q) (λ q. rw q)

  pub same_take : (x : Ends) (s : State Received) (buffer : Block) → Stands link lent G x s
      → Stands link lent G (step_of (deliver buffer) x) (moves link lent G (deliver buffer) s)
  same_take x s buffer i =
      let f = i.facts in
      let h = i.hidden in
      let r = s.rx in
      let n = length buffer in
      record {
        hidden = taken_hidden r.hand n h;
        is = ap (step_of (deliver buffer)) i.is ∙ take_is r.hand h s.tx r.seen r.handled r.parts r.word s.flight s.meter buffer f.hand;
        facts = record {
          store = f.store;
          hand = f.hand;
          whole = subst G.laws.Whole (sym (take_parts r.hand r.seen r.handled r.parts r.word n)) f.whole;
          holds = take_hand r.hand h r.seen r.handled r.parts r.word n f.holds;
          shows = take_word r.hand h r.seen r.handled r.parts r.word n f.holds f.shows;
          flies = f.flies;
          count = f.count;
          phase = phase_kept s.tx.phase link h h.hand (shown_size r.hand n h.shown) h.caught s.tx.accepted s.tx.count s.meter.cost f.phase;
        };
      }

  -- the bytes given are those in hand
  given : (b hand buffer : List ℕ) → length b ≤ 4096 → take (length b) hand ≡ b → length b ≤ length buffer → take (length b) (copied_of hand buffer (length b)) ≡ b
  unfolding copied_of
  given b hand buffer small e l =
      let m : min (length b) 4096 ≡ length b = omega arith in
      rw (m, e) (take_sets buffer b (length b) refl l)

  take_says : (g : Hand) (h : Hidden) (t : Tx) (e : Bool) (d : ℕ) (p : Received) (w : Word) (f : Flight) (m : Meter) (buffer : Block) → link.largest ≤ length h.hand
      → HandIs link g h.hand → says_of (deliver buffer) (real link h (state t e d p g w f m)) ≡ of_take g (length buffer)
  unfolding Events.take_of Take.take_of Take.buffer_after
  take_says empty h t e d p w f m buffer l i = rw (hand_long h l)
  take_says (held c b) h t e d p w f m buffer l i =
      let small : length b ≤ 4096 = ⊎_elim (λ (z : link.largest ≡ 1024). omega (arith, i.range.most)) (λ (z : link.largest ≡ 4096). omega (arith, i.range.most)) (largest_cases link G.configured) in
      rw (hand_long h l)
      (by (ltb (length buffer) (length b))
      (λ q. rw q)
      (λ q. rw q (ap gave (given b h.hand buffer small i.bytes (ltb-false (length buffer) (length b) q)))))

  pub says_take : (x : Ends) (s : State Received) (buffer : Block) → Stands link lent G x s → says_of (deliver buffer) x ≡ of_take s.rx.hand (length buffer)
  says_take x s buffer i =
      let r = s.rx in
      ap (says_of (deliver buffer)) i.is
      ∙ take_says r.hand i.hidden s.tx r.seen r.handled r.parts r.word s.flight s.meter buffer i.facts.hand i.facts.holds
