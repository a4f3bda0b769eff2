-- What holds after every run of the model, and the promise's sentences that follow from it alone.
-- Assumes nothing.
use Prim.Native.Nat.{ℕ, min, ◌≤◌, ◌<◌}
use mathlib.Core.Path.{◌≡◌, refl, subst}
use mathlib.Core.Bool.{Bool, true, false, cond, ◌&&◌}
use mathlib.Core.List.{List, [], ◌∷◌}
use native.Mathlib.Omega.{arith}
use lib.Dec.{ltb, leb}
use lib.ListN.{length}
use borrow.Author.Tests.{lt-ltb, le-leb}
use Rattle.promises.specs.Run.{Load, Item, Event, submit, reset, frame, arrive, told_done, told_no_reply, restart_sender, restart_receiver, deliver}
use Rattle.promises.specs.Run.{denied, ok, Ledger, heard, begun, World, goes, run, after}
use Rattle.promises.specs.Promise.{Within, Kept, last_count}
use Rattle.dist_promises.proofs.Parts.{Parts, Lawful}
use Rattle.dist_promises.proofs.Model.{w_none, Flight, away, came, caught, reply, no_reply}
use Rattle.dist_promises.proofs.Model.{Phase, idle, send_data, send_desc, await, reading, reset_first, send_reset, await_reset, reading_reset}
use Rattle.dist_promises.proofs.Model.{Tx, Rx, Meter, State, limit, sized, submits, goes_out, is_open, asked_by, age, arrives, step, says, done_in, done_says, model}
use Rattle.dist_promises.proofs.Ghost.{Book, System, newest, steps, telling_done}
use Rattle.dist_promises.proofs.Invariant.{Invariant, PhaseOk}
use Rattle.dist_promises.proofs.SafeLists.{unowed}
use Rattle.dist_promises.proofs.Safe.{fresh_ok, steps_ok}
use Rattle.dist_promises.proofs.Sync.{Sync, Standing, noted_sync, sync_fresh}
use Rattle.dist_promises.proofs.SyncStep.{late, ripe, step_sync, heard_told}
use Rattle.dist_promises.proofs.Counts.{Counted, step_counts}
use Rattle.dist_promises.proofs.Agree.{Agree, agree_noted, agree_submit, agree_take, agree_tagged, agree_told, agree_reset}

abbrev pub system : {S : Type 0} → State S → Book → System S
system s g = record { tx = s.tx; rx = s.rx; flight = s.flight; book = g }

module _ (largest : ℕ) (P : Parts) (L : Lawful largest P) (W : ℕ) where
  pub record Holds (w : World (model P largest W)) : Type 0 where
    pub book : Book
    pub agree : Agree w.seen book
    pub safe : Invariant largest P L (system w.state book)
    pub sync : Sync P w.state.tx w.state.rx w.state.flight w.state.meter.now w.seen
    pub count : Counted w.state.meter.cost w.seen

  -- what an event leaves, but for its book
  holds_with : (e : Event) (w : World (model P largest W)) (g : Book) → Holds w
      → Agree (heard (says P largest W e w.state) e (begun e w.seen)) g
      → Invariant largest P L (system (step P largest W e w.state) g) → Holds (goes (model P largest W) e w)
  holds_with e w g h a i =
      let s = step P largest W e w.state in
      let l = heard (says P largest W e w.state) e (begun e w.seen) in
      record {
        book = g;
        agree = agree_noted l.pending _ l g a;
        safe = i;
        sync = noted_sync P l.pending _ s.tx s.rx s.flight s.meter.now l
            (step_sync largest P L W e w.state w.seen h.book h.safe.whole h.safe.phase h.sync);
        count = step_counts largest P L W e w.state w.seen h.sync.pending h.count;
      }

  -- ---- told done

  abbrev st : Tx → Rx P.Store → Flight → Meter → State P.Store
  st t r f u = record { tx = t; rx = r; flight = f; meter = u }

  agree_done : (f : Flight) (t : Tx) (r : Rx P.Store) (u : Meter) (l : Ledger) (g : Book) → Agree l g
      → Agree (heard (done_says P W f (st t r f u)) told_done l) (telling_done P (leb W (age u.now u.since)) f (system (st t r f u) g)).book
  agree_done away t r u l g i = i
  agree_done came t r u l g i = agree_told t.phase (reply w_none) t.count (leb W (age u.now u.since)) l g i
  agree_done (caught w) t r u l g i = agree_told t.phase (reply w) t.count (leb W (age u.now u.since)) l g i

  safe_done : (f : Flight) (t : Tx) (r : Rx P.Store) (u : Meter) (g : Book)
      → Invariant largest P L (telling_done P (leb W (age u.now u.since)) f (system (st t r f u) g))
      → Invariant largest P L
      (system (done_in P W f (st t r f u)) (telling_done P (leb W (age u.now u.since)) f (system (st t r f u) g)).book)
  safe_done away t r u g i = i
  safe_done came t r u g i = i
  safe_done (caught w) t r u g i = i

  -- ---- every event

  abbrev booked : Bool → Event → (w : World (model P largest W)) → Holds w → Book
  booked x e w h = (steps P largest x e (system w.state h.book)).book

  safely : (x : Bool) (e : Event) (w : World (model P largest W)) (h : Holds w)
      → Invariant largest P L (steps P largest x e (system w.state h.book))
  safely x e w h = steps_ok largest P L x e (system w.state h.book) h.safe

  holds_goes : (e : Event) (w : World (model P largest W)) → Holds w → Holds (goes (model P largest W) e w)
  holds_goes (submit b) w h =
      holds_with (submit b) w (booked true (submit b) w h) h (agree_submit (goes_out largest b w.state.tx) b w.seen h.book h.agree)
      (safely true (submit b) w h)
  holds_goes reset w h =
      holds_with reset w h.book h (agree_reset (is_open w.state.tx.phase) w.seen h.book h.agree) (safely true reset w h)
  holds_goes frame w h = holds_with frame w h.book h h.agree (safely (ripe largest P L W w.state) frame w h)
  holds_goes arrive w h =
      holds_with arrive w (booked true arrive w h) h
      (agree_tagged w.state.rx.hand (arrives P (asked_by w.state.tx.phase w.state.tx.count) w.state.flight w.state.rx).hand
      w.seen h.book h.agree)
      (safely true arrive w h)
  holds_goes told_done w h =
      holds_with told_done w (booked (late largest P L W w.state) told_done w h) h
      (agree_done w.state.flight w.state.tx w.state.rx w.state.meter w.seen h.book h.agree)
      (safe_done w.state.flight w.state.tx w.state.rx w.state.meter h.book (safely (late largest P L W w.state) told_done w h))
  holds_goes told_no_reply w h =
      holds_with told_no_reply w (booked (late largest P L W w.state) told_no_reply w h) h
      (subst (λ (l : Ledger). Agree l (booked (late largest P L W w.state) told_no_reply w h))
      (heard_told (says P largest W told_no_reply w.state) w.seen)
      (agree_told w.state.tx.phase no_reply w.state.tx.count (late largest P L W w.state) w.seen h.book h.agree))
      (safely (late largest P L W w.state) told_no_reply w h)
  holds_goes restart_sender w h =
      holds_with restart_sender w h.book h
      (record { submitted = h.agree.submitted; delivered = h.agree.delivered; confirmed = h.agree.confirmed })
      (safely true restart_sender w h)
  holds_goes restart_receiver w h =
      holds_with restart_receiver w h.book h
      (record { submitted = h.agree.submitted; delivered = h.agree.delivered; confirmed = h.agree.confirmed })
      (safely true restart_receiver w h)
  holds_goes (deliver buffer) w h =
      holds_with (deliver buffer) w (booked true (deliver buffer) w h) h
      (agree_take w.state.rx.hand buffer w.seen h.book h.safe.fits h.agree)
      (safely true (deliver buffer) w h)

  -- ---- every run

  holds_from : (es : List Event) (w : World (model P largest W)) → Holds w → Holds (run (model P largest W) es w)
  holds_from [] w h = h
  holds_from (e ∷ es) w h = holds_from es (goes (model P largest W) e w) (holds_goes e w h)

  holds_fresh : Holds (after (model P largest W) [])
  holds_fresh =
      record {
        book = record { subs = []; dels = []; confs = []; tag = newest [] };
        agree = record { submitted = refl; delivered = tt; confirmed = refl };
        safe = fresh_ok largest P L (newest []);
        sync = sync_fresh P (after (model P largest W) []).seen refl refl;
        count = refl;
      }

  pub holds_run : (es : List Event) → Holds (after (model P largest W) es)
  holds_run es = holds_from es (after (model P largest W) []) holds_fresh

-- ---- in order, at most once, byte for byte; confirmed only after delivered; never two open

one_at_most : (q : Bool) (k : ℕ) → k ≡ cond q 1 0 → k ≤ 1
one_at_most true k e = omega arith
one_at_most false k e = omega arith

pub no_way : {A : Type 0} → ◌≡◌ {A = ℕ} 0 1 → A
no_way z = absurd (let f : ◌≡◌ {A = ℕ} 0 1 → ⊥ = λ z. omega arith in f z)

-- the standing Reset
pub stands : (o a e : Bool) (k s : ℕ) → o ≡ true → Standing o a e k s → Standing true a e k s
stands false a e k s q h = (cc, cc, no_way cc)
stands true a e k s q h = h

module _ (largest : ℕ) (P : Parts) (L : Lawful largest P) (W : ℕ) where
  pub kept : (w : World (model P largest W)) → Holds largest P L W w → Kept w.seen
  kept w h =
      let g = h.book in
      record {
        taken = g.dels;
        match = h.agree.delivered;
        order = subst (λ (xs : List Item). Within g.dels xs) h.agree.submitted
            (unowed g.tag w.state.rx.hand g.dels g.subs h.safe.chain);
        before = subst (λ (xs : List Item). Within xs g.dels) h.agree.confirmed h.safe.kept;
        single = one_at_most (is_open w.state.tx.phase) w.seen.pending h.sync.pending;
      }

  -- ---- the message count given is that of the messages asked for

  pub counts : (w : World (model P largest W)) → Holds largest P L W w → (model P largest W).count w.state ≡ min w.seen.messages last_count
  counts w h = h.count

  -- ---- a submission is not refused without a reason

  admit : (a : Bool) (p : Phase) (f : Flight) (n s k : ℕ) (r : Rx P.Store) (g : Book) (b : Load) → a ≡ true → k ≡ 0 → k ≡ cond (is_open p) 1 0
      → PhaseOk largest P L p f a n r g → s < 254 → 0 < length b.block → length b.block ≤ largest
      → cond (submits a p (ltb s limit && sized largest (length b.block))) ok denied ≡ ok
  admit false p f n s k r g b e z q i u v w = cc
  admit true idle f n s k r g b e z q i u v w =
      rw (lt-ltb s 254 u, lt-ltb 0 (length b.block) v, le-leb (length b.block) largest w)
  admit true (send_data c j) f n s k r g b e z q i u v w = no_way (omega arith)
  admit true (send_desc y j) f n s k r g b e z q i u v w = no_way (omega arith)
  admit true await f n s k r g b e z q i u v w = no_way (omega arith)
  admit true reading f n s k r g b e z q i u v w = no_way (omega arith)
  admit true (reset_first m) f n s k r g b e z q i u v w = absurd i.0
  admit true send_reset f n s k r g b e z q i u v w = absurd i.0
  admit true await_reset f n s k r g b e z q i u v w = absurd i.0
  admit true reading_reset f n s k r g b e z q i u v w = absurd i.0

  pub admits : (w : World (model P largest W)) (b : Load) → Holds largest P L W w → w.seen.sound ≡ true → w.seen.pending ≡ 0 → w.seen.started < 254
      → 0 < length b.block → length b.block ≤ largest → says P largest W (submit b) w.state ≡ ok
  admits w b h i o k u v =
      let t = w.state.tx in
      let f = stands w.seen.sound t.accepted w.state.rx.seen w.seen.started t.spent i h.sync.standing in
      admit t.accepted t.phase w.state.flight t.count t.spent w.seen.pending w.state.rx h.book b f.0 o
      h.sync.pending h.safe.phase (omega (arith, f.2)) u v
