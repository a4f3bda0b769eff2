-- The message list of a transfer: its length is the count, and while the transfer sends, its last message is the one asked for.
-- Assumes nothing.
use Prim.Native.Nat.{ℕ, zero, suc, ◌+◌, ◌-◌, ◌<◌, ◌≤◌}
use mathlib.Core.Path.{◌≡◌, refl, ap, ◌∙◌}
use borrow.Author.Tests.{ne_eqb}
use native.Mathlib.Omega.{arith}
use Rattle.std.proofs.Common.{length, Some, slice_get}
use Rattle.words.specs.declared.link.Link.{Link}
use Rattle.dist_controller.specs.Asked.{transfer_message, messages_asked, message_list, last_of, asked_of}
use Rattle.dist_controller.specs.declared.state.Phase.TheVariants.{Sending}
use Rattle.dist_controller.specs.declared.state.Controller.{Controller}

length_asked : (link : Link) (size i n : ℕ) → length (messages_asked link size i n) ≡ n
unfolding messages_asked
length_asked link size i zero = refl
length_asked link size i (suc n) = ap suc (length_asked link size (suc i) n)

-- the count is the length of the list
pub length_list : (c : Controller) → length (message_list c) ≡ c.transfer.gone
unfolding message_list
length_list c = length_asked c.link c.transfer.size 0 c.transfer.gone

asked_at : (link : Link) (size i n k : ℕ) → k < n → slice_get (messages_asked link size i n) k ≡ Some (transfer_message link size (i + k))
unfolding messages_asked
asked_at link size i zero k h = let z : ⊥ = omega arith in absurd z
asked_at link size i (suc n) zero h = let e : i + 0 ≡ i = omega arith in rw e
asked_at link size i (suc n) (suc k) h =
    let e : i + suc k ≡ suc i + k = omega arith in
    rw e (asked_at link size (suc i) n k (omega arith))

pub last_asked : (c : Controller) → c.phase ≡ Sending → 1 ≤ c.transfer.gone → slice_get (message_list c) (c.transfer.gone - 1) ≡ asked_of c
unfolding message_list asked_of last_of
last_asked c p h =
    let n = c.transfer.gone in
    let z : n ≡ 0 → ⊥ = omega arith in
    let e : 0 + (n - 1) ≡ n - 1 = omega arith in
    asked_at c.link c.transfer.size 0 n (n - 1) (omega arith) ∙ rw (p, e) (simp (ne_eqb n 0 z))
