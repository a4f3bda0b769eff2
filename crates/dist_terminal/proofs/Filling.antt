-- The places are emptied, and a block goes out of them into the hand.
-- Assumes nothing.
use Rattle.std.proofs.Common.{◌≡◌, ℕ, min, ◌+◌, ◌-◌, ◌*◌, ◌≤◌, List, ◌++◌, length, take, drop, replicate, eqb, false, Ok, ap, sym, ◌∙◌, arith, length-append, length-take, length-drop}
use Rattle.std.proofs.lemmas.List.{length-replicate}
use Rattle.std.proofs.lemmas.List.Edits.{sets}
use lib.Seq.{take_at, drop_at, length-take-le}
use borrow.Rule.Slice.PartMut.{put_mid}
use Rattle.words.specs.Count.{distribution_count}
use Rattle.words.specs.Link.{message_store_of}
use Rattle.words.specs.Reading.{read_descriptor_of}
use Rattle.words.specs.declared.control.Control.TheVariants.{Block}
use Rattle.words.specs.declared.control.Quality.{Quality}
use Rattle.words.specs.declared.count.DistributionCount.{DistributionCount}
use Rattle.words.specs.declared.link.Link.{Link}
use Rattle.words.proofs.Ranges.{by}
use Rattle.stores.specs.Copying.{copied_of, zeros_of}
use Rattle.stores.proofs.Runs.{sets_all, part_back, turn_many}
use Rattle.stores.proofs.Messages.{length_copied}
use Rattle.dist_terminal.specs.Calls.{emptied}
use Rattle.dist_terminal.specs.Descriptor.{short, judged_of, first_words, taken_of, hand_after}
use Rattle.dist_terminal.specs.declared.state.Terminal.{Terminal}
use Rattle.dist_terminal.proofs.Ready.{within}

-- ---- parts of a store that were lent

-- the first part of a list has the length that was asked for
pub first_part : (n : ℕ) (s : List ℕ) → n ≤ length s → length (take n s) ≡ n
first_part n s h = length-take-le n s h

-- a part that was lent to be zeroed comes back as a run of zeros in the whole
pub zeroed : (s ys : List ℕ) (a n : ℕ) → a + n ≤ length s → ys ≡ zeros_of (length (take n (drop a s))) → put_mid a n s ys ≡ sets s a (zeros_of n)
unfolding zeros_of
zeroed s ys a n h e =
    let k : length (take n (drop a s)) ≡ n = length-take-le n (drop a s) (rw (length-drop a s) (omega arith)) in
    let l = length-replicate {A = ℕ} n 0 in
    part_back s ys (replicate n 0) a n (e ∙ rw k (sym (sets_all (take n (drop a s)) (replicate n 0) (l ∙ sym k)))) h (omega (arith, l))

-- the places
pub places_zeroed : (link : Link) (store ys : List ℕ) (n : ℕ) → n ≡ message_store_of link → message_store_of link ≤ length store
    → ys ≡ zeros_of (length (take n store)) → ys ++ drop n store ≡ emptied link store
unfolding emptied
places_zeroed link store ys n i h e = rw (← i) (zeroed store ys 0 n (omega arith) e)

-- ---- what is put into the hand

-- what is not over the largest block is copied whole
pub copied : (src dst : List ℕ) (n : ℕ) → n ≤ 4096 → copied_of src dst n ≡ sets dst 0 (take n src)
unfolding copied_of
copied src dst n h = let e : min n 4096 ≡ n = omega arith in rw e

-- two runs of stores, the second behind the first
joined : (l a b : List ℕ) (n : ℕ) → length a ≡ n → sets (sets l 0 a) n b ≡ sets l 0 (a ++ b)
joined l a b n e =
    let t = turn_many l (a ++ b) 0 n in
    let z : 0 + n ≡ n = omega arith in
    rw (take_at a b n e, drop_at a b n e, z) at t

-- mode 1: what came, then zeros
module _ (store hand h ys : List ℕ) (received size came : ℕ) (e : came ≡ min size (2 * received)) (small : size ≤ 4096)
    (room : size ≤ length hand) (long : 4096 ≤ length store) (first : h ≡ copied_of store hand came)
    (rest : ys ≡ zeros_of (length (take (size - came) (drop came h)))) where
  pub filled : put_mid came (size - came) h ys ≡ sets hand 0 (first_words received size store)
  unfolding first_words zeros_of
  filled =
      let l = ap length first ∙ length_copied store hand came in
      let b = zeroed h ys came (size - came) (rw l (omega arith)) rest in
      let c = first ∙ copied store hand came (omega arith) in
      let k : size - came ≡ size - 2 * received = omega arith in
      let n = length-take-le came store (omega arith) in
      b ∙ rw c (joined hand (take came store) (replicate (size - came) 0) came n ∙ rw (k, ← e))

-- all of the hand that was lent
pub filled_all : (store hand h ys : List ℕ) (received came : ℕ) → came ≡ min (length hand) (2 * received) → length hand ≤ 4096 → 4096 ≤ length store
    → h ≡ copied_of store hand came → ys ≡ zeros_of (length (take (length h - came) (drop came h)))
    → put_mid came (length h - came) h ys ≡ sets hand 0 (first_words received (length hand) store)
filled_all store hand h ys received came e small long first rest =
    let l : length h ≡ length hand = ap length first ∙ length_copied store hand came in
    rw l (filled store hand h ys received (length hand) came e small (omega arith) long first (rw l at rest))

-- ---- an accepted block

-- it is no longer than its size
length_taken : (t : Terminal) (size : ℕ) (store : List ℕ) → length (taken_of t size store) ≤ size
unfolding taken_of first_words
length_taken t size store =
    let a = length-take size store in
    let b = length-take (min size (2 * t.received)) store in
    let c = length-replicate {A = ℕ} (size - 2 * t.received) 0 in
    let d = length-append (take (min size (2 * t.received)) store) (replicate (size - 2 * t.received) 0) in
    by (eqb t.link.mode 0) (λ e. rw e (omega arith)) (λ e. rw e (omega arith))

module _ (t : Terminal) (ws store hand : List ℕ) (size : ℕ) (quality : Quality) (count : DistributionCount)
    (s : short t.link (length store) (length hand) ≡ false) (r : read_descriptor_of distribution_count ws t.link ≡ Ok (Block size quality count))
    (j : judged_of t size quality count ≡ Ok tt) where
  accepted : hand_after t ws store hand ≡ sets hand 0 (taken_of t size store)
  unfolding hand_after
  accepted = rw (s, r, j)

-- the part of the hand that was lent for it comes back
pub lent : (t : Terminal) (ws store hand ys : List ℕ) (n size : ℕ) (quality : Quality) (count : DistributionCount) → n ≡ size
    → short t.link (length store) (length hand) ≡ false → read_descriptor_of distribution_count ws t.link ≡ Ok (Block size quality count)
    → judged_of t size quality count ≡ Ok tt → ys ≡ sets (take n hand) 0 (taken_of t (length (take n hand)) store)
    → ys ++ drop n hand ≡ hand_after t ws store hand
lent t ws store hand ys n size quality count i s r j e =
    let h = within t.link ws (length store) (length hand) size quality count s r in
    let k = first_part n hand (omega arith) in
    let b = part_back hand ys (taken_of t n store) 0 n (rw k at e) (omega arith) (length_taken t n store) in
    rw (accepted t ws store hand size quality count s r j, ← i) b
