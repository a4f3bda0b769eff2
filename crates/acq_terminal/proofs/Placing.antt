-- What an accepted block says of the link and its size.
-- Assumes nothing.
use Rattle.std.proofs.Common.{◌≡◌, ℕ, true, false, not, Ok, Err, arith, refl}
use Rattle.std.specs.Result.{result_and}
use borrow.Author.Tests.{not-false}
use Rattle.words.specs.Link.{configured_of, short_of, block_store_of}
use Rattle.words.specs.Cutting.{size_answer_of}
use Rattle.words.specs.Refusal.{Answer}
use Rattle.words.specs.declared.refusal.Refusal.{Refusal}
use Rattle.words.specs.declared.link.Link.{Link}
use Rattle.words.proofs.Ranges.{by}
use Rattle.words.proofs.Round.{Sized, sized}
use Rattle.acq_terminal.specs.Place.{room_answer_of, staged_answer, place_answer_of}
use Rattle.acq_terminal.specs.declared.state.Stage.{Stage}
use Rattle.acq_terminal.specs.declared.state.Stage.TheVariants.{Silent, Asking, Ready, Open}
use Rattle.acq_terminal.specs.declared.state.Terminal.{Terminal}

pub refused_not : (r : Refusal) → ◌≡◌ {A = Answer} (Err r) (Ok tt) → ⊥
refused_not r e = let z : ◌≡◌ {A = ℕ} 0 1 = cc in omega arith

first_is : (a b : Answer) → result_and a b ≡ Ok tt → a ≡ Ok tt
first_is (Ok u) b e = refl
first_is (Err r) b e = absurd (refused_not r e)

pub record Admitted (link : Link) (size : ℕ) : Type 0 where
  pub configured : configured_of link ≡ true
  pub fits : Sized link size

staged : (stage : Stage) (link : Link) (size : ℕ) → staged_answer stage link size ≡ Ok tt → Sized link size
staged Silent link size e = absurd (refused_not _ e)
staged Asking link size e = absurd (refused_not _ e)
staged Ready link size e = sized link size (first_is (size_answer_of link size) (room_answer_of Ready) e)
staged (Open placed) link size e = sized link size (first_is (size_answer_of link size) (room_answer_of (Open placed)) e)

lent : (link : Link) (store : ℕ) → short_of link (block_store_of link) store ≡ false → configured_of link ≡ true
unfolding short_of
lent link store e =
    by (not (configured_of link)) (λ n. absurd (let f = rw n at e in let z : ◌≡◌ {A = ℕ} 0 1 = cc in omega arith)) (λ n. not-false _ n)

pub admitted : (t : Terminal) (size store : ℕ) → place_answer_of t size store ≡ Ok tt → Admitted t.link size
unfolding place_answer_of
admitted t size store e =
    by (short_of t.link (block_store_of t.link) store) (λ s. absurd (refused_not _ (rw s at e)))
    (λ s. record { configured = lent t.link store s; fits = staged t.stage t.link size (rw s at e) })
