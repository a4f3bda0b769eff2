-- What an accepted submission says of the link, the block and the store.
-- Assumes nothing.
use Prim.Native.Nat.{ℕ, ◌≤◌, ◌<◌}
use mathlib.Core.Path.{◌≡◌, refl}
use mathlib.Core.Bool.{true, false, not}
use Rattle.std.proofs.Common.{Ok, Err}
use native.Mathlib.Omega.{arith}
use lib.Dec.{leb, ltb}
use borrow.Author.Tests.{not-false, ltb-false, leb-false}
use Rattle.words.specs.Link.{configured_of, block_store_of}
use Rattle.words.specs.Cutting.{size_answer_of}
use Rattle.words.specs.Refusal.{Answer}
use Rattle.words.specs.declared.refusal.Refusal.{Refusal}
use Rattle.words.specs.declared.link.Link.{Link}
use Rattle.words.proofs.Ranges.{by}
use Rattle.words.proofs.Round.{Sized, sized}
use Rattle.dist_controller.specs.State.{is_open}
use Rattle.dist_controller.specs.Submit.{short_of, limit, room_answer_of, then_answer, submit_answer_of}
use Rattle.dist_controller.specs.declared.state.Controller.{Controller}

not_accepted : (r : Refusal) → ◌≡◌ {A = Answer} (Err r) (Ok tt) → ⊥
not_accepted r e = let z : ◌≡◌ {A = ℕ} 0 1 = cc in omega arith

pub record Roomy (c : Controller) : Type 0 where
  pub closed : is_open c.phase ≡ false
  pub few : c.standing.spent < limit

roomy : (c : Controller) → room_answer_of c ≡ Ok tt → Roomy c
unfolding room_answer_of
roomy c e =
    by (is_open c.phase) (λ o. absurd (not_accepted _ (rw o at e))) (λ o.
    by (leb limit c.standing.spent) (λ s. absurd (not_accepted _ (rw (o, s) at e)))
    (λ s. record { closed = o; few = leb-false limit c.standing.spent s }))

pub record Long (link : Link) (store : ℕ) : Type 0 where
  pub configured : configured_of link ≡ true
  pub most : link.largest ≤ store

pub long : (link : Link) (store : ℕ) → short_of link store ≡ false → Long link store
unfolding short_of block_store_of
long link store e =
    by (not (configured_of link)) (λ n. absurd (let f = rw n at e in let z : ◌≡◌ {A = ℕ} 0 1 = cc in omega arith)) (λ n.
    by (ltb store link.largest) (λ s. absurd (let f = rw (n, s) at e in let z : ◌≡◌ {A = ℕ} 0 1 = cc in omega arith))
    (λ s. record { configured = not-false _ n; most = ltb-false store link.largest s }))

pub record Admitted (c : Controller) (n m : ℕ) : Type 0 where
  pub store : Long c.link m
  pub accepted : c.standing.accepted ≡ true
  pub size : Sized c.link n
  pub room : Roomy c

then_first : (a b : Answer) → then_answer a b ≡ Ok tt → a ≡ Ok tt
then_first (Ok u) b e = refl
then_first (Err r) b e = e

then_rest : (a b : Answer) → then_answer a b ≡ Ok tt → b ≡ Ok tt
then_rest (Ok u) b e = e
then_rest (Err r) b e = absurd (not_accepted r e)

pub admitted : (c : Controller) (size store : ℕ) → submit_answer_of c size store ≡ Ok tt → Admitted c size store
unfolding submit_answer_of
admitted c size store e =
    by (short_of c.link store) (λ s. absurd (not_accepted _ (rw s at e))) (λ s.
    by (not c.standing.accepted) (λ a. absurd (not_accepted _ (rw (s, a) at e))) (λ a.
    let f = rw (s, a) at e in
    record {
      store = long c.link store s;
      accepted = not-false _ a;
      size = sized c.link size (then_first (size_answer_of c.link size) (room_answer_of c) f);
      room = roomy c (then_rest (size_answer_of c.link size) (room_answer_of c) f);
    }))
