-- Verified Length of mode 0, place by place, and the size of a question.
-- Assumes nothing.
use Rattle.std.proofs.Common.{◌≡◌, ℕ, zero, suc, ◌+◌, ◌-◌, ◌≤◌, ◌<◌, true, false, Ok, refl, add-one, arith}
use Rattle.std.specs.List.{list_all, range_with_len}
use Rattle.words.specs.Cutting.{size_answer_of}
use Rattle.words.specs.Link.{configured_of}
use Rattle.words.specs.declared.link.Link.{Link}
use Rattle.words.proofs.Ranges.{link_ranges}
use Rattle.words.proofs.Round.{sized}
use Rattle.dist_terminal.specs.Length.{place_met, places_met}
use Rattle.dist_terminal.specs.declared.state.Marks.{Marks}

pub each_met : (marks : Marks) (size k n : ℕ) → list_all (λ x. place_met marks size x) (range_with_len k n) ≡ places_met marks size k n
unfolding places_met
each_met marks size k zero = refl
each_met marks size k (suc n) = rw (add-one k, each_met marks size (suc k) n)

-- one place more, and none left
module _ (marks : Marks) (size k n : ℕ) (h : k < n) where
  pub stop : place_met marks size k ≡ false → places_met marks size k (n - k) ≡ false
  unfolding places_met
  stop e = let s : n - k ≡ suc (n - (k + 1)) = omega arith in rw (s, e)

  pub on : place_met marks size k ≡ true → places_met marks size k (n - k) ≡ places_met marks size (k + 1) (n - (k + 1))
  unfolding places_met
  on e = let s : n - k ≡ suc (n - (k + 1)) = omega arith in rw (s, e, add-one k)

pub done : (marks : Marks) (size k n : ℕ) → n ≤ k → places_met marks size k (n - k) ≡ true
unfolding places_met
done marks size k n h = let s : n - k ≡ 0 = omega arith in rw s

-- a size that a configured link takes
pub asked : (link : Link) (size : ℕ) → configured_of link ≡ true → size_answer_of link size ≡ Ok tt → size ≤ 4096
asked link size c e =
    let s = sized link size e in
    let r = link_ranges link c in
    omega arith
