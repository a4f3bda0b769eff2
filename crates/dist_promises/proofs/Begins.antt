-- An accepted submission to a clear terminal that has seen the Reset begins a transfer that every schedule in which all goes well confirms.
-- Assumes nothing.
use Prim.Native.Nat.{ℕ, zero, suc, ◌+◌, ◌*◌, ◌≤◌, ◌<◌}
use mathlib.Core.Path.{◌≡◌, refl, subst, sym, ◌∙◌}
use mathlib.Core.Bool.{Bool, true, false, cond}
use mathlib.Core.List.{List}
use native.Mathlib.Omega.{arith}
use lib.ListN.{length, replicate}
use Rattle.promises.specs.Run.{Block, Load, Event, submit, denied, ok, World, goes}
use Rattle.promises.specs.Promise.{Comes, Confirmed, Clear, holding, is_given, messages}
use Rattle.promises.proofs.Deliveries.{gives, goes_delivered}
use Rattle.dist_promises.proofs.Parts.{Parts, Lawful}
use Rattle.dist_promises.proofs.Model.{Asked, unasked, Hand, empty, held, Flight, away, came, caught, State, limit, next, goes_out, asked_by, of_take, model}
use Rattle.dist_promises.proofs.Circle.{Near, next_other}
use Rattle.dist_promises.proofs.Invariant.{IsEmpty, came_to}
use Rattle.dist_promises.proofs.Waiting.{no_way, sent, Went, went, given}
use Rattle.dist_promises.proofs.Tidy.{Tidy, Short, Orderly, order_asked}
use Rattle.dist_promises.proofs.Live.{Live, Datas}
use Rattle.dist_promises.proofs.Confirms.{wins}

was_ok : (q : Bool) → cond q ok denied ≡ ok → q ≡ true
was_ok true e = refl
was_ok false e = cc

-- the next count is not the last handled one
other : (s n d : ℕ) → s < limit → (0 < d → Near s n d) → next n ≡ d → ⊥
other s n zero h k e = no_next n e
  where
    no_next : (n : ℕ) → next n ≡ 0 → ⊥
    no_next n e = omega arith
other s n (suc d) h k e = next_other s n (suc d) h (k (omega arith)) (sym e)

module _ (largest : ℕ) (P : Parts) (L : Lawful largest P) (small : largest ≤ 4096) where
  is_empty : (o : Hand) → Short largest P L o → is_given (of_take o (length (replicate {A = ℕ} 4096 0))) ≡ false → IsEmpty o
  is_empty empty h e = tt
  is_empty (held c x) h e =
      let g : is_given (of_take (held c x) (length (replicate {A = ℕ} 4096 0))) ≡ true = given c x (omega (arith, h, small)) in
      let z : true ≡ false = sym g ∙ e in
      no_way cc

  is_away : (x : Asked) (l : Flight) → x ≡ unasked → Orderly largest P L x l → l ≡ away
  is_away x away e h = refl
  is_away x came e h = absurd (subst (λ (x : Asked). Orderly largest P L x came) e h)
  is_away x (caught w) e h = absurd (subst (λ (x : Asked). Orderly largest P L x (caught w)) e h)

  -- the terminal has seen the Reset, and the last handled count is 0 or not far behind
  pub record Poised (s : State P.Store) : Type 0 where
    pub tidy : Tidy largest P L s
    pub seen : s.rx.seen ≡ true
    pub near : 0 < s.rx.handled → Near s.tx.spent s.tx.count s.rx.handled

  module _ (W : ℕ) where
    pub begins : (w : World (model P largest W)) (b : Load) → Poised w.state → Clear (model P largest W) w.state → Went largest b w.state.tx
        → Live largest P L b w.seen.delivered (2 * (messages (length b.block) + 2)) 2 (sent P.Store true b w.state) w.seen.delivered
    begins w b h c g =
        let t = w.state.tx in
        let r = w.state.rx in
        let l : w.state.flight ≡ away =
        is_away (asked_by t.phase t.count) w.state.flight g.quiet (order_asked largest P L t.phase t.count w.state.flight h.tidy.phase) in (
          h.tidy.tick,
          subst (λ (l : Flight). Datas largest P L b w.seen.delivered b 0 (came_to l 0) (2 * (messages (length b.block) + 2)) 2 (next t.count) r 1 w.seen.delivered) (sym l)
              (record {
                is = refl;
                within = omega (arith, g.some);
                whole = h.tidy.rx.whole;
                ready = L.ready_none (length b.block) r.parts h.tidy.rx.whole c.parts;
                full = L.full_none b.block r.parts h.tidy.rx.whole;
                hand = is_empty r.hand h.tidy.rx.hand c.hand;
                seen = h.seen;
                other = other t.spent t.count r.handled g.room h.near;
                untaken = refl;
                msgs = omega arith;
                frames = refl;
                cost = refl;
              }),
        )

    pub confirms : (w : World (model P largest W)) (b : Load) (fs : List Event) → Poised w.state → Clear (model P largest W) w.state
        → (model P largest W).says (submit b) w.state ≡ ok
        → Comes (model P largest W) (holding (model P largest W)) (Confirmed (model P largest W) b w.seen.delivered)
        (2 * (messages (length b.block) + 2)) 2 fs (goes (model P largest W) (submit b) w)
    confirms w b fs h c e =
        let m : ℕ = 2 * (messages (length b.block) + 2) in
        let q : goes_out largest b w.state.tx ≡ true = was_ok (goes_out largest b w.state.tx) e in
        let g : Went largest b w.state.tx = went largest b w.state.tx q in
        wins largest P L b w.seen.delivered W g.some g.fits small fs m 2 (goes (model P largest W) (submit b) w)
        (subst (λ (d : List Block). Live largest P L b w.seen.delivered m 2 (sent P.Store (goes_out largest b w.state.tx) b w.state) d)
        (sym (goes_delivered (model P largest W) (submit b) w))
        (subst (λ (q : Bool). Live largest P L b w.seen.delivered m 2 (sent P.Store q b w.state) (gives (cond q ok denied) w.seen.delivered))
        (sym q) (begins w b h c g)))
