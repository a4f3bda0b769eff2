-- Every schedule in which all goes well confirms an accepted submission: k + 2 messages arrive and are told, and at most two frames are idle.
-- Assumes nothing.
use Prim.Native.Nat.{ℕ, zero, suc, ◌+◌, ◌*◌, ◌≤◌, ◌<◌}
use mathlib.Core.Path.{◌≡◌, refl, ap, subst, sym, ◌∙◌}
use mathlib.Core.Bool.{Bool, true, false, cond, ◌&&◌}
use mathlib.Core.List.{List, ◌∷◌}
use native.Mathlib.Omega.{arith}
use lib.Dec.{T, ltb, leb}
use lib.ListN.{length}
use borrow.Author.Tests.{ltb-true, ltb-false, leb-false, eq-eqb}
use Rattle.promises.specs.Run.{Block, Load, are_bytes, Event, submit, reset, frame, arrive, told_done, told_no_reply, restart_sender, restart_receiver, deliver}
use Rattle.promises.specs.Run.{Answer, denied, ok, gave, World}
use Rattle.promises.specs.Promise.{Comes, Confirmed, holding, messages}
use Rattle.promises.proofs.Deliveries.{gives, comes_on}
use Rattle.dist_promises.proofs.Parts.{Parts, Lawful}
use Rattle.dist_promises.proofs.Model.{Word, w_none, w_reset, w_count, w_error, Hand, empty, held, Flight, away, came, caught, Rx, Meter, State}
use Rattle.dist_promises.proofs.Model.{Phase, idle, send_data, send_desc, await, reading, reset_first, send_reset, await_reset, reading_reset}
use Rattle.dist_promises.proofs.Model.{first_age, limit, more, age, ticked, submits, goes_out, sized, behind, of_take, step, model}
use Rattle.dist_promises.proofs.Invariant.{came_to}
use Rattle.dist_promises.proofs.Waiting.{no_way, tx, meter, rx, st, sent, older, more_is, judged_submit, judged_take}
use Rattle.dist_promises.proofs.Live as live

module _ (largest : ℕ) (P : Parts) (L : Lawful largest P) (b : Load) (before : List Block) where
  abbrev Datas : Load → ℕ → ℕ → ℕ → ℕ → ℕ → Rx P.Store → ℕ → List Block → Type 0
  Datas = live.Datas largest P L b before

  abbrev Landed : ℕ → Rx P.Store → List Block → Type 0
  Landed = live.Landed largest P L b before

  abbrev Waits : ℕ → ℕ → ℕ → Rx P.Store → Meter → List Block → Type 0
  Waits = live.Waits largest P L b before

  abbrev Caught : Word → ℕ → ℕ → Rx P.Store → ℕ → List Block → Type 0
  Caught = live.Caught largest P L b before

  abbrev LiveAt : Phase → Flight → ℕ → ℕ → ℕ → Rx P.Store → Meter → List Block → Type 0
  LiveAt = live.LiveAt largest P L b before

  abbrev Live : ℕ → ℕ → State P.Store → List Block → Type 0
  Live = live.Live largest P L b before

  module _ (W : ℕ) (some : 0 < length b.block) (fits : length b.block ≤ largest) (small : largest ≤ 4096) where
    abbrev Right : Answer → ℕ → State P.Store → List Block → Type 0
    Right = live.Right largest P L b before W

    abbrev Steps : ℕ → ℕ → Event → State P.Store → List Block → Type 0
    Steps = live.Steps largest P L b before W

    few : (x : ℕ) → x ≤ messages (length b.block) + 1 → x < 65535
    few = live.few largest P L b before W some fits small

    total : (c : Load) → c.block ≡ b.block → messages (length c.block) ≡ messages (length b.block)
    total = live.total largest P L b before W some fits small

    -- submit: refused while the transfer is open

    stays : (a : Bool) (p : Phase) (q : Bool) (l : Flight) (m f n : ℕ) (r : Rx P.Store) (t : Meter) (d : List Block) → LiveAt p l m f n r t d
        → submits a p q ≡ false
    stays false p q l m f n r t d h = refl
    stays true (send_data c j) q l m f n r t d h = refl
    stays true (send_desc v z) q l m f n r t d h = refl
    stays true await q l m f n r t d h = refl
    stays true reading q l m f n r t d h = refl
    stays true idle q l m f n r t d h = absurd h
    stays true (reset_first x) q l m f n r t d h = absurd h
    stays true send_reset q l m f n r t d h = absurd h
    stays true await_reset q l m f n r t d h = absurd h
    stays true reading_reset q l m f n r t d h = absurd h

    on_submit : (c : Load) (m f : ℕ) (s : State P.Store) (d : List Block) → Live m f s d → Steps m f (submit c) s d
    on_submit c m f s d h =
        judged_submit (goes_out largest c s.tx)
        (Right (cond (goes_out largest c s.tx) ok denied) m (sent P.Store (goes_out largest c s.tx) c s) (gives (cond (goes_out largest c s.tx) ok denied) d))
        (λ q. Live m f (sent P.Store q c s) (gives (cond q ok denied) d))
        (stays s.tx.accepted s.tx.phase (ltb s.tx.spent limit && sized largest (length c.block)) s.flight m f s.tx.count s.rx s.meter d h.1)
        h

    -- frame

    no_frame : (x : ℕ) → x ≤ 1 → 0 + x ≡ 2 → ⊥
    no_frame x y z = omega arith

    on_wait : (m f : ℕ) (a : Bool) (n s : ℕ) (r : Rx P.Store) (t : Meter) (d : List Block) → t.now < 65536 → Waits m f n r t d
        → Steps m f frame (st P.Store (tx a n s await) r away t) d
    on_wait m zero a n s r t d g h = absurd (no_frame (age t.now t.since) h.young h.frames)
    on_wait m (suc f) a n s r t d g h = ripens (leb first_age (age (ticked t.now) t.since)) refl
      where
        o : age (ticked t.now) t.since ≡ age t.now t.since + 1
        o = older t.now t.since g h.tock h.young

        ripens : (x : Bool) → leb first_age (age (ticked t.now) t.since) ≡ x
            → Live m f (st P.Store (tx a n s (cond x reading await)) r away (meter (ticked t.now) t.since (cond x (more t.cost) t.cost))) d
        ripens true e = (
          omega arith,
          (h.landed, h.msgs, omega (arith, more_is t.cost (few t.cost (omega (arith, h.cost))), h.cost)),
        )
        ripens false e = (
          omega arith,
          record {
            landed = h.landed;
            msgs = h.msgs;
            young = omega (arith, leb-false first_age (age (ticked t.now) t.since) e);
            frames = omega (arith, o, h.frames);
            cost = h.cost;
            tock = h.tock;
          },
        )

    on_frame : (m f : ℕ) (a : Bool) (n s : ℕ) (p : Phase) (l : Flight) (r : Rx P.Store) (t : Meter) (d : List Block) → t.now < 65536
        → LiveAt p l m f n r t d → Steps m f frame (st P.Store (tx a n s p) r l t) d
    on_frame m f a n s (send_data c j) l r t d g h = (omega arith, h)
    on_frame m f a n s (send_desc v z) away r t d g h = (omega arith, h)
    on_frame m f a n s (send_desc v z) came r t d g h = (omega arith, h)
    on_frame m f a n s (send_desc v z) (caught w) r t d g h = absurd h
    on_frame m f a n s await away r t d g h = on_wait m f a n s r t d g h
    on_frame m f a n s await came r t d g h = absurd h
    on_frame m f a n s await (caught w) r t d g h = absurd h
    on_frame m f a n s reading away r t d g h = (omega arith, h)
    on_frame m f a n s reading came r t d g h = absurd h
    on_frame m f a n s reading (caught w) r t d g h = (omega arith, h)
    on_frame m f a n s idle l r t d g h = absurd h
    on_frame m f a n s (reset_first x) l r t d g h = absurd h
    on_frame m f a n s send_reset l r t d g h = absurd h
    on_frame m f a n s await_reset l r t d g h = absurd h
    on_frame m f a n s reading_reset l r t d g h = absurd h

    -- outcome

    -- behind message j, the last one or not
    data_told : (m f : ℕ) (a : Bool) (n s : ℕ) (c : Load) (j : ℕ) (r : Rx P.Store) (t : Meter) (d : List Block) → t.now < 65536
        → Datas c j (suc j) (suc m) f n r t.cost d → (q : Bool) → ltb (suc j) (messages (length c.block)) ≡ q
        → Live m f (st P.Store (tx a n s (behind q c j)) r away (meter t.now t.since (more t.cost))) d
    data_told m f a n s c j r t d g h true e = (
      g,
      record {
        is = h.is;
        within = ltb-true (suc j) (messages (length c.block)) e;
        whole = h.whole;
        ready = h.ready;
        full = h.full;
        hand = h.hand;
        seen = h.seen;
        other = h.other;
        untaken = h.untaken;
        msgs = omega (arith, h.msgs);
        frames = h.frames;
        cost = omega (arith, more_is t.cost (few t.cost (omega (arith, h.cost, h.within, total c h.is))), h.cost);
      },
    )
    data_told m f a n s c j r t d g h false e =
        let z : messages (length b.block) ≡ suc j = omega (arith, h.within, total c h.is, ltb-false (suc j) (messages (length c.block)) e) in (
          g,
          record {
            size = ap length h.is;
            whole = h.whole;
            ready =
                subst (λ (i : ℕ). L.Ready i (length b.block) r.parts) (sym z)
                (subst (λ (x : Block). L.Ready (suc j) (length x) r.parts) h.is h.ready);
            full =
                subst (λ (i : ℕ). L.Full i b.block r.parts) (sym z)
                (subst (λ (x : Block). L.Full (suc j) x r.parts) h.is h.full);
            hand = h.hand;
            seen = h.seen;
            other = h.other;
            untaken = h.untaken;
            msgs = omega (arith, h.msgs, z);
            frames = h.frames;
            cost = omega (arith, more_is t.cost (few t.cost (omega (arith, h.cost, z))), h.cost, z);
          },
        )

    no_outcome : (j x : ℕ) → j < x → x ≡ messages (length b.block) → 0 + j + suc j ≡ 2 * (messages (length b.block) + 2) → ⊥
    no_outcome j x h e q = omega arith

    abbrev load : (v : Bool) (x : Block) → T (are_bytes x) → Load
    load v x y = record { verified = v; block = x; bytes = y }

    data_done_lem : (m f : ℕ) (a : Bool) (n s : ℕ) (v : Bool) (x : Block) (y : T (are_bytes x)) (j : ℕ) (l : Flight) (r : Rx P.Store) (t : Meter) (d : List Block) → t.now < 65536
        → Datas (load v x y) j (came_to l j) m f n r t.cost d → Steps m f told_done (st P.Store (tx a n s (send_data (load v x y) j)) r l t) d
    data_done_lem m f a n s v x y j away r t d g h = (g, h)
    data_done_lem zero f a n s v x y j came r t d g h = absurd (no_outcome j (messages (length x)) h.within (total (load v x y) h.is) h.msgs)
    data_done_lem (suc m) f a n s true x y j came r t d g h = data_told m f a n s (load true x y) j r t d g h (ltb (suc j) (messages (length x))) refl
    data_done_lem (suc m) f a n s false x y j came r t d g h = data_told m f a n s (load false x y) j r t d g h (ltb (suc j) (messages (length x))) refl
    data_done_lem zero f a n s v x y j (caught w) r t d g h = absurd (no_outcome j (messages (length x)) h.within (total (load v x y) h.is) h.msgs)
    data_done_lem (suc m) f a n s true x y j (caught w) r t d g h = data_told m f a n s (load true x y) j r t d g h (ltb (suc j) (messages (length x))) refl
    data_done_lem (suc m) f a n s false x y j (caught w) r t d g h = data_told m f a n s (load false x y) j r t d g h (ltb (suc j) (messages (length x))) refl

    desc_done : (m f : ℕ) (a : Bool) (n s : ℕ) (v : Bool) (z : ℕ) (r : Rx P.Store) (t : Meter) (d : List Block) → t.now < 65536
        → LiveAt (send_desc v z) came m f n r t d → Steps m f told_done (st P.Store (tx a n s (send_desc v z)) r came t) d
    desc_done zero f a n s v z r t d g h = no_way (omega (arith, h.1))
    desc_done (suc m) f a n s v z r t d g h = (
      g,
      record {
        landed = h.0;
        msgs = omega (arith, h.1);
        young = omega (arith, g);
        frames = omega (arith, g, h.2);
        cost = h.3;
        tock = g;
      },
    )

    read_done : (m f : ℕ) (a : Bool) (n s : ℕ) (e : Bool) (y : ℕ) (p : P.Store) (o : Hand) (u w : Word) (t : Meter) (d : List Block)
        → Caught w m n (rx P.Store e y p o u) t.cost d → Steps m f told_done (st P.Store (tx a n s reading) (rx P.Store e y p o u) (caught w) t) d
    read_done m f a n s e y p (held c x) u w t d h = absurd h.hand
    read_done m f a n s e y p empty u w_none t d h = absurd h.shown
    read_done m f a n s e y p empty u w_reset t d h = absurd h.shown
    read_done m f a n s e y p empty u (w_error c) t d h = absurd h.shown
    read_done zero f a n s e y p empty u (w_count c) t d h = no_way h.msgs
    read_done (suc m) f a n s e y p empty u (w_count c) t d h =
        rw (eq-eqb c n h.shown) record {
          answer = refl;
          delivered = h.taken;
          left = omega (arith, h.msgs);
          count = h.cost;
          clear = record { hand = refl; parts = h.parts };
        }

    on_done : (m f : ℕ) (a : Bool) (n s : ℕ) (p : Phase) (l : Flight) (r : Rx P.Store) (t : Meter) (d : List Block) → t.now < 65536
        → LiveAt p l m f n r t d → Steps m f told_done (st P.Store (tx a n s p) r l t) d
    on_done m f a n s (send_data c j) l r t d g h = data_done_lem m f a n s c.verified c.block c.bytes j l r t d g h
    on_done m f a n s (send_desc v z) away r t d g h = (g, h)
    on_done m f a n s (send_desc v z) came r t d g h = desc_done m f a n s v z r t d g h
    on_done m f a n s (send_desc v z) (caught w) r t d g h = absurd h
    on_done m f a n s await away r t d g h = (g, h)
    on_done m f a n s await came r t d g h = absurd h
    on_done m f a n s await (caught w) r t d g h = absurd h
    on_done m f a n s reading away r t d g h = (g, h)
    on_done m f a n s reading came r t d g h = absurd h
    on_done m f a n s reading (caught w) r t d g h = read_done m f a n s r.seen r.handled r.parts r.hand r.word w t d h
    on_done m f a n s idle l r t d g h = absurd h
    on_done m f a n s (reset_first x) l r t d g h = absurd h
    on_done m f a n s send_reset l r t d g h = absurd h
    on_done m f a n s await_reset l r t d g h = absurd h
    on_done m f a n s reading_reset l r t d g h = absurd h

    on_lost : (m f : ℕ) (a : Bool) (n s : ℕ) (p : Phase) (l : Flight) (r : Rx P.Store) (t : Meter) (d : List Block) → t.now < 65536
        → LiveAt p l m f n r t d → Steps m f told_no_reply (st P.Store (tx a n s p) r l t) d
    on_lost m f a n s (send_data c j) l r t d g h = tt
    on_lost m f a n s (send_desc v z) l r t d g h = tt
    on_lost m f a n s await l r t d g h = (g, h)
    on_lost m f a n s reading l r t d g h = tt
    on_lost m f a n s idle l r t d g h = absurd h
    on_lost m f a n s (reset_first x) l r t d g h = absurd h
    on_lost m f a n s send_reset l r t d g h = absurd h
    on_lost m f a n s await_reset l r t d g h = absurd h
    on_lost m f a n s reading_reset l r t d g h = absurd h

    -- take; q: the buffer is too short

    landed_taken : (n : ℕ) (e : Bool) (y : ℕ) (g : P.Store) (c : ℕ) (x : Block) (w : Word) (d : List Block) → Landed n (rx P.Store e y g (held c x) w) d
        → Landed n (rx P.Store e y g empty (w_count c)) (x ∷ d)
    landed_taken n e y g c x w d h = record {
      came = (h.came.0, ap (λ (x : Block). x ∷ d) h.came.1 ∙ ap (λ (d : List Block). b.block ∷ d) h.came.2);
      parts = h.parts;
    }

    taken_live : (m f n : ℕ) (p : Phase) (l : Flight) (e : Bool) (y : ℕ) (g : P.Store) (c : ℕ) (x : Block) (w : Word) (t : Meter) (d : List Block)
        → LiveAt p l m f n (rx P.Store e y g (held c x) w) t d → LiveAt p l m f n (rx P.Store e y g empty (w_count c)) t (x ∷ d)
    taken_live m f n (send_data i j) l e y g c x w t d h = absurd h.hand
    taken_live m f n (send_desc v z) away e y g c x w t d h = absurd h.hand
    taken_live m f n (send_desc v z) came e y g c x w t d h = (landed_taken n e y g c x w d h.0, h.1, h.2, h.3)
    taken_live m f n (send_desc v z) (caught u) e y g c x w t d h = absurd h
    taken_live m f n await away e y g c x w t d h = record {
      landed = landed_taken n e y g c x w d h.landed;
      msgs = h.msgs;
      young = h.young;
      frames = h.frames;
      cost = h.cost;
      tock = h.tock;
    }
    taken_live m f n await came e y g c x w t d h = absurd h
    taken_live m f n await (caught u) e y g c x w t d h = absurd h
    taken_live m f n reading away e y g c x w t d h = (landed_taken n e y g c x w d h.0, h.1, h.2)
    taken_live m f n reading came e y g c x w t d h = absurd h
    taken_live m f n reading (caught u) e y g c x w t d h = absurd h.hand
    taken_live m f n idle l e y g c x w t d h = absurd h
    taken_live m f n (reset_first i) l e y g c x w t d h = absurd h
    taken_live m f n send_reset l e y g c x w t d h = absurd h
    taken_live m f n await_reset l e y g c x w t d h = absurd h
    taken_live m f n reading_reset l e y g c x w t d h = absurd h

    on_take : (buffer : Block) (m f : ℕ) (a : Bool) (n s : ℕ) (p : Phase) (l : Flight) (e : Bool) (y : ℕ) (g : P.Store) (o : Hand) (w : Word) (t : Meter) (d : List Block)
        → t.now < 65536 → LiveAt p l m f n (rx P.Store e y g o w) t d
        → Steps m f (deliver buffer) (st P.Store (tx a n s p) (rx P.Store e y g o w) l t) d
    on_take buffer m f a n s p l e y g empty w t d k h = (k, h)
    on_take buffer m f a n s p l e y g (held c x) w t d k h =
        judged_take (ltb (length buffer) (length x)) x
        (Right (of_take (held c x) (length buffer)) m (step P largest W (deliver buffer) (st P.Store (tx a n s p) (rx P.Store e y g (held c x) w) l t)) (gives (of_take (held c x) (length buffer)) d))
        (λ q. Live m f (st P.Store (tx a n s p) (cond q (rx P.Store e y g (held c x) w) (rx P.Store e y g empty (w_count c))) l t) (gives (cond q denied (gave x)) d))
        (k, h) (k, taken_live m f n p l e y g c x w t d h)

    -- every event
    law : (e : Event) (m f : ℕ) (s : State P.Store) (d : List Block) → Live m f s d → Steps m f e s d
    law (submit c) m f s d h = on_submit c m f s d h
    law frame m f s d h = on_frame m f s.tx.accepted s.tx.count s.tx.spent s.tx.phase s.flight s.rx s.meter d h.0 h.1
    law arrive m f s d h =
        live.on_arrive largest P L b before W some fits small m f s.tx.accepted s.tx.count s.tx.spent s.tx.phase s.flight s.rx s.meter d h.0 h.1
    law told_done m f s d h = on_done m f s.tx.accepted s.tx.count s.tx.spent s.tx.phase s.flight s.rx s.meter d h.0 h.1
    law told_no_reply m f s d h = on_lost m f s.tx.accepted s.tx.count s.tx.spent s.tx.phase s.flight s.rx s.meter d h.0 h.1
    law (deliver buffer) m f s d h =
        on_take buffer m f s.tx.accepted s.tx.count s.tx.spent s.tx.phase s.flight s.rx.seen s.rx.handled s.rx.parts s.rx.hand s.rx.word
        s.meter d h.0 h.1
    law reset m f s d h = tt
    law restart_sender m f s d h = tt
    law restart_receiver m f s d h = tt

    -- every schedule
    pub wins : (es : List Event) (m f : ℕ) (w : World (model P largest W)) → Live m f w.state w.seen.delivered
        → Comes (model P largest W) (holding (model P largest W)) (Confirmed (model P largest W) b before) m f es w
    wins =
        comes_on (model P largest W) (holding (model P largest W)) Right (Confirmed (model P largest W) b before)
        (live.right largest P L b before W) Live law
