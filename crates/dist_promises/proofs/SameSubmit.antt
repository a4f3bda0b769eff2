-- A submission: the pair does as the model does.
-- Assumes nothing.
use Prim.Native.Nat.{ℕ, ◌+◌, ◌*◌, ◌/◌, ◌%◌, ◌≤◌, ◌<◌}
use mathlib.Core.Path.{◌≡◌, refl, ap, subst, sym, ◌∙◌}
use mathlib.Core.Bool.{Bool, true, false, cond, ◌&&◌}
use mathlib.Core.List.{List}
use mathlib.Core.Logic.{◌⊎◌, inl, inr, ⊎_elim}
use native.Mathlib.Omega.{arith}
use lib.Dec.{eqb, leb, ltb}
use lib.ListN.{length, take}
use Rattle.std.proofs.Common.{Ok, Err, Option, Some}
use lib.Seq.{sets-eq, take_all, take-append-le}
use borrow.Author.Tests.{le-ltb, lt-ltb, le-leb, lt-leb, eqb-true, eqb-false, ltb-true, ltb-false, leb-true, leb-false}
use Rattle.words.specs.Bytes.{bytes_of, words_of, Octets}
use Rattle.words.specs.Count.{next_number}
use Rattle.words.specs.Link.{configured_of, block_store_of}
use Rattle.words.specs.Cutting.{size_answer_of}
use Rattle.words.specs.Control.{quality_of}
use Rattle.words.specs.Refusal as Words
use Rattle.words.specs.declared.refusal.Refusal as Why
use Rattle.words.specs.declared.refusal.Refusal.TheVariants.{NoAcceptedReset, BadSize, TransferOpen, TransfersSpent}
use Rattle.words.specs.declared.link.Link.{Link}
use Rattle.words.proofs.Ranges.{by, largest_cases}
use Rattle.stores.specs.Copying.{stored_of}
use Rattle.words.proofs.Bytes.{length_words_of, length_bytes_of}
use Rattle.stores.specs.Writing.{written_of}
use Rattle.stores.proofs.Messages.{length_stored}
use Rattle.stores.proofs.Bytes.{bytes_back}
use Rattle.dist_controller.specs.Submit as Submit
use Rattle.dist_controller.specs.Submit.{short_of, limit, room_answer_of, then_answer, submit_answer_of, started_of, one_more_spent}
use Rattle.dist_controller.specs.declared.state.Fate.{Fate}
use Rattle.dist_pair.specs.Events as Events
use Rattle.promises.specs.Run.{Block, Load, submit, denied, ok}
use Rattle.promises.specs.Promise.{messages}
use Rattle.dist_promises.specs.Distribution.{Ends, step_of, says_of}
use Rattle.dist_promises.proofs.Modes.{Received}
use Rattle.dist_promises.proofs.ModeBytes.{octets}
use Rattle.dist_promises.proofs.Model.{Phase, idle, send_data, send_desc, await, reading, reset_first, send_reset, await_reset, reading_reset}
use Rattle.dist_promises.proofs.Model.{Tx, Meter, State, sized, submits, goes_out, started}
use Rattle.dist_promises.proofs.Real.{Hidden, controller_of, fate_in, real, NotOpen, PhaseIs, Ground, Facts, Stands, moves}
use Rattle.dist_promises.proofs.Said.{news_in, news, shut}

-- ---- why a submission is accepted, and that the model agrees

-- the pair's answer, and whether the model lets it out
record Agreed (answer : Words.Answer) (go : Bool) (why : Type 0) : Type 0 where
  accepted : answer ≡ Ok tt
  goes : go ≡ true
  reason : why

record Refused (answer : Words.Answer) (go : Bool) : Type 0 where
  why : Why.Refusal
  refused : answer ≡ Err why
  stays : go ≡ false

record Size (link : Link) (n : ℕ) : Type 0 where
  some : 1 ≤ n
  most : n ≤ link.largest

size_agrees : (link : Link) (n : ℕ) → Agreed (size_answer_of link n) (sized link.largest n) (Size link n) ⊎ Refused (size_answer_of link n) (sized link.largest n)
unfolding size_answer_of
size_agrees link n =
    by (eqb n 0)
    (λ z. let e = eqb-true n 0 z in
    inr (record { why = BadSize; refused = rw z; stays = rw e }))
    (λ z.
    let ne : n ≡ 0 → ⊥ = eqb-false n 0 z in
    let p : 0 < n = omega arith in
    by (ltb link.largest n)
    (λ o. let l = ltb-true link.largest n o in
    inr (record { why = BadSize; refused = rw (z, o); stays = rw (lt-leb n link.largest l, lt-ltb 0 n p) }))
    (λ o. let l = ltb-false link.largest n o in
    inl (record { accepted = rw (z, o); goes = rw (lt-ltb 0 n p, le-leb n link.largest l); reason = record { some = p; most = l } })))

room_agrees : (spent : ℕ) → Agreed (cond (leb limit spent) (Err TransfersSpent) (Ok tt)) (ltb spent 254) (spent < 254)
    ⊎ Refused (cond (leb limit spent) (Err TransfersSpent) (Ok tt)) (ltb spent 254)
room_agrees spent =
    by (leb limit spent)
    (λ o. inr (record { why = TransfersSpent; refused = rw o; stays = le-ltb spent 254 (leb-true limit spent o) }))
    (λ o. let l = leb-false limit spent o in inl (record { accepted = rw o; goes = lt-ltb spent 254 l; reason = l }))

record Reason (link : Link) (n spent : ℕ) : Type 0 where
  some : 1 ≤ n
  most : n ≤ link.largest
  few : spent < 254

-- with a Reset accepted and nothing open
idle_agrees : (link : Link) (n spent : ℕ)
    → Agreed (then_answer (size_answer_of link n) (cond (leb limit spent) (Err TransfersSpent) (Ok tt))) (ltb spent 254 && sized link.largest n) (Reason link n spent)
    ⊎ Refused (then_answer (size_answer_of link n) (cond (leb limit spent) (Err TransfersSpent) (Ok tt))) (ltb spent 254 && sized link.largest n)
idle_agrees link n spent =
    ⊎_elim
    (λ (f : Agreed (size_answer_of link n) (sized link.largest n) (Size link n)).
    ⊎_elim
    (λ (r : Agreed (cond (leb limit spent) (Err TransfersSpent) (Ok tt)) (ltb spent 254) (spent < 254)).
    inl (record {
      accepted = rw (f.accepted, r.accepted);
      goes = rw (f.goes, r.goes);
      reason = record { some = f.reason.some; most = f.reason.most; few = r.reason };
    }))
    (λ (r : Refused (cond (leb limit spent) (Err TransfersSpent) (Ok tt)) (ltb spent 254)).
    inr (record { why = r.why; refused = rw (f.accepted, r.refused); stays = rw r.stays }))
    (room_agrees spent))
    (λ (f : Refused (size_answer_of link n) (sized link.largest n)).
    inr (record { why = f.why; refused = rw f.refused; stays = both_false (ltb spent 254) (sized link.largest n) f.stays }))
    (size_agrees link n)
  where
    both_false : (a b : Bool) → b ≡ false → (a && b) ≡ false
    both_false true b e = e
    both_false false b e = refl

-- while a transfer is open
open_refused : (answer : Words.Answer) (r : Why.Refusal) → Refused (then_answer answer (Err r)) false
open_refused (Ok u) r = record { why = r; refused = refl; stays = refl }
open_refused (Err q) r = record { why = q; refused = refl; stays = refl }

abbrev tx : Bool → ℕ → ℕ → Phase → Tx
tx a n s p = record { accepted = a; count = n; spent = s; phase = p }

not_both : {A : Type 0} → true ≡ false → A
not_both e = absurd (let z : ◌≡◌ {A = ℕ} 0 1 = cc in omega arith)

module _ (link : Link) (conf : configured_of link ≡ true) (h : Hidden) (m : Meter) (size len : ℕ) (long : link.largest ≤ len) where
  store_long : short_of link len ≡ false
  unfolding short_of block_store_of
  store_long = rw (conf, le-ltb len link.largest long)

  abbrev answer : Bool → ℕ → ℕ → Phase → Words.Answer
  answer a n s p = submit_answer_of (controller_of link h (tx a n s p) m) size len

  answer_agrees : (p : Phase) (a : Bool) (n s : ℕ) → PhaseIs link h p a n m.cost
      → Agreed (answer a n s p) (submits a p (ltb s 254 && sized link.largest size)) ((a ≡ true) × ((p ≡ idle) × Reason link size s))
      ⊎ Refused (answer a n s p) (submits a p (ltb s 254 && sized link.largest size))
  unfolding submit_answer_of room_answer_of
  answer_agrees p false n s i = inr (record { why = NoAcceptedReset; refused = rw store_long; stays = refl })
  answer_agrees idle true n s i =
      rw store_long
      (⊎_elim
      (λ (g : Agreed (then_answer (size_answer_of link size) (cond (leb limit s) (Err TransfersSpent) (Ok tt))) (ltb s 254 && sized link.largest size) (Reason link size s)).
      inl (record { accepted = g.accepted; goes = g.goes; reason = (refl, (refl, g.reason)) }))
      inr
      (idle_agrees link size s))
  answer_agrees (send_data b j) true n s i = rw store_long (inr (open_refused (size_answer_of link size) TransferOpen))
  answer_agrees (send_desc v k) true n s i = rw store_long (inr (open_refused (size_answer_of link size) TransferOpen))
  answer_agrees await true n s i = rw store_long (inr (open_refused (size_answer_of link size) TransferOpen))
  answer_agrees reading true n s i = rw store_long (inr (open_refused (size_answer_of link size) TransferOpen))
  answer_agrees (reset_first q) true n s i = not_both i.0
  answer_agrees send_reset true n s i = not_both i.0
  answer_agrees await_reset true n s i = not_both i.0
  answer_agrees reading_reset true n s i = not_both i.0

-- ---- what the block store then holds

-- a store of any length that has room for the block
stored_back : (store block : List ℕ) → (length block + 1) / 2 ≤ length store / 2 → Octets block → take (length block) (stored_of store block) ≡ block
unfolding stored_of written_of
stored_back store block h f =
    let n = length_words_of block in
    let m = length_bytes_of (words_of block) in
    rw (take_all (length store / 2) (words_of block) (omega arith), sets-eq (bytes_of (words_of block)) store 0 (omega arith))
    (take-append-le (length block) (bytes_of (words_of block)) _ (omega arith) ∙ bytes_back block f)

largest_even : (link : Link) → configured_of link ≡ true → link.largest ≡ 2 * (link.largest / 2)
largest_even link conf =
    ⊎_elim (λ (e : link.largest ≡ 1024). omega arith) (λ (e : link.largest ≡ 4096). omega arith) (largest_cases link conf)

abbrev stored : Hidden → Block → Hidden
stored h b =
    record {
      store = stored_of h.store b;
      hand = h.hand;
      size = h.size;
      quality = h.quality;
      fate = h.fate;
      found = h.found;
      shown = h.shown;
      caught = h.caught;
    }

module _ (link : Link) (lent : List ℕ) (G : Ground link lent) where
  abbrev goes : Load → State Received → Bool
  goes b s = goes_out link.largest b s.tx

  agrees : (h : Hidden) (s : State Received) (b : Load) → Facts link lent G h s
      → Agreed (submit_answer_of (controller_of link h s.tx s.meter) (length b.block) (length h.store)) (goes b s)
      ((s.tx.accepted ≡ true) × ((s.tx.phase ≡ idle) × Reason link (length b.block) s.tx.spent))
      ⊎ Refused (submit_answer_of (controller_of link h s.tx s.meter) (length b.block) (length h.store)) (goes b s)
  agrees h s b f =
      answer_agrees link G.configured h s.meter (length b.block) (length h.store) f.store
      s.tx.phase s.tx.accepted s.tx.count s.tx.spent f.phase

  refused_is : (h : Hidden) (s : State Received) (b : Load)
      → Refused (submit_answer_of (controller_of link h s.tx s.meter) (length b.block) (length h.store)) (goes b s)
      → step_of (submit b) (real link h s) ≡ real link h (moves link lent G (submit b) s)
  unfolding Events.submit_of Submit.submit_of Submit.store_after
  refused_is h s b r = rw (r.refused, r.stays)

  one_more_lem : (spent : ℕ) → spent < 254 → one_more_spent spent ≡ spent + 1
  unfolding one_more_spent
  one_more_lem spent l = rw (lt-leb limit spent l)

  abbrev Good : Hidden → State Received → Load → Type 0
  Good h s b =
      Agreed (submit_answer_of (controller_of link h s.tx s.meter) (length b.block) (length h.store)) (goes b s)
      ((s.tx.accepted ≡ true) × ((s.tx.phase ≡ idle) × Reason link (length b.block) s.tx.spent))

  abbrev Bad : Hidden → State Received → Load → Type 0
  Bad h s b = Refused (submit_answer_of (controller_of link h s.tx s.meter) (length b.block) (length h.store)) (goes b s)

  accepted_is : (h : Hidden) (s : State Received) (b : Load) → Good h s b
      → step_of (submit b) (real link h s) ≡ real link (stored h b.block) (moves link lent G (submit b) s)
  unfolding Events.submit_of Submit.submit_of Submit.store_after started_of next_number
  accepted_is h s b g = rw (g.accepted, g.goes, one_more_lem s.tx.spent g.reason.1.1.few)

  sent_facts : (h : Hidden) (s : State Received) (b : Load) → Facts link lent G h s → Good h s b → Facts link lent G (stored h b.block) (moves link lent G (submit b) s)
  sent_facts h s b f g =
      let r = g.reason.1.1 in
      let e = length_stored h.store b.block in
      let even = largest_even link G.configured in
      record {
        store = subst (λ (n : ℕ). link.largest ≤ n) (sym e) f.store;
        hand = f.hand;
        whole = f.whole;
        holds = f.holds;
        shows = f.shows;
        flies = f.flies;
        count = subst (λ (q : Bool). (started q b s.tx).count ≤ 255) (sym g.goes) (let z : s.tx.count % 255 + 1 ≤ 255 = omega arith in z);
        phase = subst (λ (q : Bool). PhaseIs link (stored h b.block) (started q b s.tx).phase (started q b s.tx).accepted (started q b s.tx).count (cond q 1 s.meter.cost))
            (sym g.goes)
            (record {
              range = record { some = r.some; most = r.most; low = omega arith; high = omega arith };
              within = let z : 0 < messages (length b.block) = omega (arith, r.some) in z;
              gone = refl;
              bytes = stored_back h.store b.block (omega (arith, even, f.store, r.most)) (octets b.block b.bytes);
            });
      }

  pub same_submit : (x : Ends) (s : State Received) (b : Load) → Stands link lent G x s → Stands link lent G (step_of (submit b) x) (moves link lent G (submit b) s)
  same_submit x s b i =
      let h = i.hidden in
      let f = i.facts in
      ⊎_elim
      (λ (g : Good h s b).
      record { hidden = stored h b.block; is = ap (step_of (submit b)) i.is ∙ accepted_is h s b g; facts = sent_facts h s b f g })
      (λ (g : Bad h s b).
      record {
        hidden = h;
        is = ap (step_of (submit b)) i.is ∙ refused_is h s b g;
        facts = subst (λ (q : Bool). Facts link lent G h (record { tx = started q b s.tx; rx = s.rx; flight = s.flight; meter = record { now = s.meter.now; since = s.meter.since; cost = cond q 1 s.meter.cost } }))
            (sym g.stays)
            (record { store = f.store; hand = f.hand; whole = f.whole; holds = f.holds; shows = f.shows; flies = f.flies; count = f.count; phase = f.phase });
      })
      (agrees h s b f)

  -- ---- what it says

  opens_quietly : (f : Option Fate) (a : Bool) → NotOpen f → a ≡ true → news_in f (Some Fate.Open) a a ≡ ok
  opens_quietly f a i e = rw (shut f i, e)

  says_accepted : (h : Hidden) (s : State Received) (b : Load) → Facts link lent G h s → Good h s b → says_of (submit b) (real link h s) ≡ ok
  unfolding Events.submit_of Submit.submit_of started_of
  says_accepted h s b f g =
      let t = s.tx in
      let e = g.reason.1.0 in
      let c = controller_of link h t s.meter in
      let d = started_of (quality_of b.verified) (length b.block) c in
      let quiet = opens_quietly h.fate t.accepted
      (subst (λ (p : Phase). PhaseIs link h p t.accepted t.count s.meter.cost) e f.phase) g.reason.0 in
      rw g.accepted
      (news c d G.configured G.configured
      ∙ ap (λ (p : Phase). news_in (fate_in p h.fate) (Some Fate.Open) t.accepted t.accepted) e
      ∙ quiet)

  says_refused : (h : Hidden) (s : State Received) (b : Load) → Bad h s b → says_of (submit b) (real link h s) ≡ denied
  unfolding Events.submit_of Submit.submit_of
  says_refused h s b g = rw g.refused

  pub says_submit : (x : Ends) (s : State Received) (b : Load) → Stands link lent G x s
      → says_of (submit b) x ≡ cond (goes_out link.largest b s.tx) ok denied
  says_submit x s b i =
      let h = i.hidden in
      ap (says_of (submit b)) i.is ∙
      ⊎_elim
      (λ (g : Good h s b). says_accepted h s b i.facts g ∙ ap (λ (q : Bool). cond q ok denied) (sym g.goes))
      (λ (g : Bad h s b). says_refused h s b g ∙ ap (λ (q : Bool). cond q ok denied) (sym g.stays))
      (agrees h s b i.facts)
