-- A message store as the calls leave it, in either mode, and what a configured link says of its sizes.
-- Assumes nothing.
use Prim.Native.Nat.{ℕ, ◌+◌, ◌≤◌}
use mathlib.Core.Path.{◌≡◌, sym, ap, ◌∙◌}
use mathlib.Core.Bool.{true, false}
use mathlib.Core.Logic.{◌⊎◌, inl, inr}
use mathlib.Core.List.{List, ◌++◌}
use native.Mathlib.Omega.{arith}
use lib.Dec.{eqb, leb}
use lib.ListN.{length, drop, length-replicate}
use lib.Seq.{sets-eq, length-sets}
use borrow.Author.Tests.{eqb-true}
use Rattle.words.specs.Link.{configured_of, in_ranges, message_store_of}
use Rattle.words.specs.declared.link.Link.{Link}
use Rattle.words.proofs.Ranges.{both, modes, Sixteen, One, link_ranges}
use Rattle.stores.specs.Copying.{zeros_of}
use Rattle.stores.proofs.Runs.{drop_after}
use Rattle.stores.proofs.Messages.{length_zeros}
use Rattle.dist_terminal.specs.State.{no_marks}
use Rattle.dist_terminal.specs.Calls.{emptied}
use Rattle.dist_promises.proofs.Modes.{Received, parts}

-- the bytes past the link's own are those that were lent
pub record Whole (link : Link) (lent : List ℕ) (s : Received) : Type 0 where
  pub long : length s.places ≡ length lent
  pub beyond : drop (message_store_of link) s.places ≡ drop (message_store_of link) lent
  pub sixteen : length s.marks.words ≡ 16

module _ (link : Link) (lent : List ℕ) where
  pub whole_fresh : Whole link lent (parts link lent).fresh
  unfolding emptied
  whole_fresh =
      let n = length_zeros (message_store_of link) in
      record {
        long = length-sets lent 0 (zeros_of (message_store_of link));
        beyond = drop_after lent (zeros_of (message_store_of link)) 0 (message_store_of link) (omega arith);
        sixteen = length-replicate {A = ℕ} 16 0;
      }

  pub whole_clear : (s : Received) → Whole link lent s → Whole link lent ((parts link lent).clear s)
  whole_clear s w = record { long = w.long; beyond = w.beyond; sixteen = w.sixteen }

  -- emptied again, it is as it was at first
  pub fresh_again : message_store_of link ≤ length lent → (s : Received) → Whole link lent s → emptied link s.places ≡ emptied link lent
  unfolding emptied
  fresh_again room s w =
      let z = zeros_of (message_store_of link) in
      let n : 0 + length z ≡ message_store_of link = omega (arith, length_zeros (message_store_of link)) in
      let l = w.long in
      let past : drop (0 + length z) s.places ≡ drop (0 + length z) lent = rw n w.beyond in
      sets-eq z s.places 0 (omega arith) ∙ ap (λ (r : List ℕ). z ++ r) past ∙ sym (sets-eq z lent 0 (omega arith))

  -- a restart's message parts
  pub restarted : message_store_of link ≤ length lent → (s : Received) → Whole link lent s
      → record { marks = no_marks; received = 0; places = emptied link s.places } ≡ (parts link lent).fresh
  restarted room s w = λ i. record { marks = no_marks; received = 0; places = fresh_again room s w i }

  pub long_enough : message_store_of link ≤ length lent → (s : Received) → Whole link lent s → message_store_of link ≤ length s.places
  long_enough room s w = omega (arith, w.long)

-- ---- the sizes of a configured link

-- mode 0
pub record Sixteenfold (link : Link) (lent : List ℕ) : Type 0 where
  pub mode : eqb link.mode 0 ≡ true
  pub most : link.largest ≤ 1024
  pub store : message_store_of link ≡ 1024
  pub room : 1024 ≤ length lent

-- mode 1
pub record Onefold (link : Link) (lent : List ℕ) : Type 0 where
  pub mode : eqb link.mode 0 ≡ false
  pub most : link.largest ≤ 4096
  pub store : message_store_of link ≡ 4096
  pub room : 4096 ≤ length lent

largest_zero : (link : Link) → configured_of link ≡ true → link.mode ≡ 0 → link.largest ≡ 1024
unfolding configured_of in_ranges
largest_zero link e z =
    let p = both (leb link.address 30) _ e in
    let q = both (leb 2 link.window) _ p.1 in
    let r = both (leb link.window 16) _ q.1 in
    cases (modes link.mode link.subaddress link.largest r.1)
  where
    cases : Sixteen link.mode link.subaddress link.largest ⊎ One link.mode link.subaddress link.largest → link.largest ≡ 1024
    cases (inl s) = s.largest
    cases (inr o) = let m = o.mode in let z : ⊥ = omega arith in absurd z

pub sixteenfold : (link : Link) (lent : List ℕ) → configured_of link ≡ true → message_store_of link ≤ length lent → eqb link.mode 0 ≡ true → Sixteenfold link lent
unfolding message_store_of
sixteenfold link lent c h e =
    let l = largest_zero link c (eqb-true link.mode 0 e) in
    record { mode = e; most = omega arith; store = rw e; room = rw e at h }

pub onefold : (link : Link) (lent : List ℕ) → configured_of link ≡ true → message_store_of link ≤ length lent → eqb link.mode 0 ≡ false → Onefold link lent
unfolding message_store_of
onefold link lent c h e = record { mode = e; most = (link_ranges link c).most; store = rw e; room = rw e at h }
