-- Cutting, shown once over the block for both modes.
-- Assumes nothing.
use Rattle.std.proofs.Common.{◌≡◌, ℕ, zero, suc, ◌+◌, ◌*◌, ◌<◌, ◌≤◌, List, length, get_or, take, drop, refl, ap, ◌∙◌, arith, length-drop, drop_of_length-le, length-take, drop-drop, eq-eqb}
use borrow.Author.Tests.{lt-leb}
use Rattle.words.specs.Bytes.{words_of}
use Rattle.words.specs.Cutting.{part_of, message_of, messages_from, cut_of, messages_of, message_words_of, message_subaddress_of}
use Rattle.words.specs.Cut.{Cut, end_to_end, no_message}
use Rattle.words.specs.declared.link.Link.{Link}
use Rattle.words.proofs.Bytes.{length_words_of, bytes_words, words_split}

length_from : (link : Link) (block : List ℕ) (k n : ℕ) → length (messages_from link block k n) ≡ n
unfolding messages_from
length_from link block k zero = refl
length_from link block k (suc n) = ap suc (length_from link block (suc k) n)

get_d_from : (link : Link) (block : List ℕ) (k n i : ℕ) → i < n → get_or (messages_from link block k n) i no_message ≡ message_of link block (k + i)
unfolding messages_from
get_d_from link block k zero i h = let z : ⊥ = omega arith in absurd z
get_d_from link block k (suc n) zero h = let e : k + 0 ≡ k = omega arith in rw e
get_d_from link block k (suc n) (suc i) h =
    let e : k + suc i ≡ suc k + i = omega arith in
    rw e (get_d_from link block (suc k) n i (omega arith))

-- the messages from k on hold the words of the block from 64 * k on, if there are enough of them
end_from : (link : Link) (block : List ℕ) (k n : ℕ) → length block ≤ 64 * (k + n) → end_to_end (messages_from link block k n) ≡ words_of (drop (64 * k) block)
unfolding messages_from message_of part_of words_of
end_from link block k zero h = rw (drop_of_length-le block {i = 64 * k} (omega arith))
end_from link block k (suc n) h =
    let i = end_from link block (suc k) n (omega arith) in
    let e : 64 * suc k ≡ 64 * k + 64 = omega arith in
    rw (i, e, ← drop-drop 64 (64 * k) block) (words_split 32 (drop (64 * k) block))

-- as many messages as the block has leave nothing over
enough : (size : ℕ) → size ≤ 64 * messages_of size
unfolding messages_of
enough size = omega arith

-- how many words message k has
pub words_of_part : (block : List ℕ) (k : ℕ) → length (words_of (part_of block k)) ≡ message_words_of (length block) k
unfolding part_of message_words_of
words_of_part block k = rw (length_words_of (take 64 (drop (64 * k) block)), length-take 64 (drop (64 * k) block), length-drop (64 * k) block)

module _ (link : Link) (block : List ℕ) where
  length_cut : length (cut_of link block) ≡ messages_of (length block)
  unfolding cut_of
  length_cut = length_from link block 0 (messages_of (length block))

  pub get_d_cut : (k : ℕ) → k < length (cut_of link block) → get_or (cut_of link block) k no_message ≡ message_of link block k
  unfolding cut_of
  get_d_cut k h =
      let e : 0 + k ≡ k = omega arith in
      get_d_from link block 0 (messages_of (length block)) k (rw length_cut at h) ∙ ap (message_of link block) e

  pub end_cut : end_to_end (cut_of link block) ≡ words_of block
  unfolding cut_of
  end_cut = end_from link block 0 (messages_of (length block)) (omega (arith, enough (length block)))

  pub cut : Cut link block
  unfolding messages_of message_words_of message_of message_subaddress_of
  cut =
      record {
        number = length_cut;
        whole = λ o. rw end_cut (bytes_words block o);
        words = λ k h. rw (get_d_cut k h) (words_of_part block k);
        full = λ k h. let g = rw length_cut at h in omega arith;
        last = λ k h. let g = rw length_cut at h in (omega arith, omega arith);
        sixteen = λ m l k h.
            let g = rw length_cut at h in
            let s : k < 16 = omega arith in
            rw (get_d_cut k h) (simp (eq-eqb _ _ m, lt-leb _ _ s));
        one = λ m k h. rw (get_d_cut k h) (simp m);
      }
