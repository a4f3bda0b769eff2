-- The message parts in mode 1: each message goes behind those that came since the parts were cleared. Messages that came before a block's own
-- make too many words, and then its length is not met.
-- Assumes nothing.
use Prim.Native.Nat.{ℕ, suc, min, ◌+◌, ◌-◌, ◌*◌, ◌/◌, ◌≤◌, ◌<◌}
use mathlib.Core.Path.{◌≡◌, sym, subst, ◌∙◌}
use mathlib.Core.Bool.{true, false}
use mathlib.Core.List.{List, append-nil}
use native.Mathlib.Omega.{arith}
use lib.Dec.{T, eqb, leb}
use lib.ListN.{length, take, drop, replicate, length-append, length-take, length-replicate}
use lib.Seq.{sets, length-sets, length-take-le, take-length, take_all}
use borrow.Author.Tests.{eq-eqb, eqb-true, leb-true, leb-false}
use Rattle.words.specs.Bytes.{bytes_of, words_of}
use Rattle.words.specs.Link.{message_store_of}
use Rattle.words.specs.declared.link.Link.{Link}
use Rattle.words.proofs.Bytes.{length_bytes_of}
use Rattle.words.proofs.Ranges.{by}
use Rattle.stores.proofs.Runs.{drop_after}
use Rattle.dist_terminal.specs.Data.{most_words, received_after, noted_of, placed_of}
use Rattle.dist_terminal.specs.Length.{length_met}
use Rattle.dist_terminal.specs.Descriptor.{first_words, taken_of}
use Rattle.promises.specs.Run.{Block, are_bytes}
use Rattle.promises.specs.Promise.{messages}
use Rattle.dist_promises.proofs.Parts.{chunk}
use Rattle.dist_promises.proofs.Modes.{Received, parts}
use Rattle.dist_promises.proofs.ModeBytes.{octets, number_chunk, bytes_chunk, chunk_behind}
use Rattle.dist_promises.proofs.ModeStore.{Whole, Onefold}

-- ---- what a message does in mode 1

abbrev put_in : Block → Received → Received
put_in b s =
    record {
      marks = s.marks;
      received = received_after s.received (length (words_of b));
      places = sets s.places (2 * s.received) (bytes_of (take (most_words - s.received) (words_of b)));
    }

put_is : (link : Link) (lent : List ℕ) (j : ℕ) (b : Block) (s : Received) → eqb link.mode 0 ≡ false → (parts link lent).put j b s ≡ put_in b s
unfolding noted_of placed_of
put_is link lent j b s e = rw e

-- words past the 2048th are not kept
kept_within : (p ws : List ℕ) (r n : ℕ) → 4096 ≤ n → drop n (sets p (2 * r) (bytes_of (take (most_words - r) ws))) ≡ drop n p
unfolding bytes_of
kept_within p ws r n h =
    by (leb r most_words)
    (λ e.
    let few = leb-true r most_words e in
    let l = length_bytes_of (take (most_words - r) ws) in
    let m = length-take (most_words - r) ws in
    drop_after p (bytes_of (take (most_words - r) ws)) (2 * r) n (omega arith))
    (λ e. let many = leb-false r most_words e in let z : most_words - r ≡ 0 = omega arith in rw z)

-- ---- the store

module _ (link : Link) (lent : List ℕ) (z : Onefold link lent) where
  pub whole_put_one : (b : Block) (j : ℕ) (s : Received) → Whole link lent s → Whole link lent ((parts link lent).put j b s)
  whole_put_one b j s w =
      subst (λ (r : Received). Whole link lent r) (sym (put_is link lent j b s z.mode))
      record {
        long = length-sets s.places (2 * s.received) (bytes_of (take (most_words - s.received) (words_of b))) ∙ w.long;
        beyond = kept_within s.places (words_of b) s.received (message_store_of link) (omega (arith, z.store)) ∙ w.beyond;
        sixteen = w.sixteen;
      }

  pub size_one : (n : ℕ) (s : Received) → n ≤ link.largest → Whole link lent s → length ((parts link lent).block n s) ≡ n
  unfolding taken_of first_words
  size_one n s l w =
      let r = s.received in
      let m : length (take (min n (2 * r)) s.places) ≡ min n (2 * r) =
      length-take-le (min n (2 * r)) s.places (omega (arith, z.most, z.room, w.long)) in
      rw (z.mode, length-append (take (min n (2 * r)) s.places) (replicate (n - 2 * r) 0), m, length-replicate {A = ℕ} (n - 2 * r) 0) (omega arith)

-- ---- the bytes

-- the words of a block's first j messages
abbrev pub words_up_to : ℕ → ℕ → ℕ
words_up_to j n = (min (64 * j) n + 1) / 2

-- as many words came at least; and if no more came, they are the block's
pub record FullOne (j : ℕ) (b : Block) (s : Received) : Type 0 where
  pub enough : words_up_to j (length b) ≤ s.received
  pub bytes : s.received ≡ words_up_to j (length b) → take (min (64 * j) (length b)) s.places ≡ take (min (64 * j) (length b)) b

pub full_none_one : (b : Block) (s : Received) → FullOne 0 b s
full_none_one b s =
    let e : min (64 * 0) (length b) ≡ 0 = omega arith in
    record { enough = omega arith; bytes = λ k. rw e }

-- a block's next message, of words that all fit
more : (r n j : ℕ) → n ≤ 4096 → j < messages n → words_up_to j n ≤ r → words_up_to (suc j) n ≤ received_after r ((min 64 (n - 64 * j) + 1) / 2)
unfolding received_after
more r n j l h e = omega arith

none_before : (r n j : ℕ) → n ≤ 4096 → j < messages n → words_up_to j n ≤ r → received_after r ((min 64 (n - 64 * j) + 1) / 2) ≡ words_up_to (suc j) n → r ≡ 32 * j
unfolding received_after
none_before r n j l h e k = omega arith

exactly : (r n j : ℕ) → n ≤ 4096 → j < messages n → r ≡ words_up_to j n → received_after r ((min 64 (n - 64 * j) + 1) / 2) ≡ words_up_to (suc j) n
unfolding received_after
exactly r n j l h e = omega arith

module _ (link : Link) (lent : List ℕ) (z : Onefold link lent) where
  -- a message behind a block's earlier ones
  behind_in : (b : Block) (j : ℕ) (s : Received) → T (are_bytes b) → length b ≤ 4096 → j < messages (length b) → Whole link lent s → s.received ≡ 32 * j
      → take (64 * j) s.places ≡ take (64 * j) b
      → take (min (64 * suc j) (length b)) (put_in (chunk b j) s).places ≡ take (min (64 * suc j) (length b)) b
  behind_in b j s o l h w e f =
      let ws = words_of (chunk b j) in
      let n = number_chunk b j in
      let m = bytes_chunk b j in
      let all : take (most_words - s.received) ws ≡ ws = take_all (most_words - s.received) ws (omega arith) in
      let at : 2 * s.received ≡ 64 * j = omega arith in
      rw (all, at) (chunk_behind s.places b j (octets b o) (omega arith) (omega (arith, z.room, w.long)) f)

  full_in : (b : Block) (j : ℕ) (s : Received) → T (are_bytes b) → length b ≤ 4096 → j < messages (length b) → Whole link lent s → FullOne j b s
      → FullOne (suc j) b (put_in (chunk b j) s)
  full_in b j s o l h w f =
      let n = number_chunk b j in
      let before : min (64 * j) (length b) ≡ 64 * j = omega arith in
      record {
        enough = rw n (more s.received (length b) j l h f.enough);
        bytes = λ k.
            let e : s.received ≡ 32 * j = none_before s.received (length b) j l h f.enough (rw n at k) in
            behind_in b j s o l h w e (rw before at (f.bytes (omega arith)));
      }

  pub full_put_one : (b : Block) (j : ℕ) (s : Received) → T (are_bytes b) → length b ≤ link.largest → j < messages (length b) → Whole link lent s
      → FullOne j b s → FullOne (suc j) b ((parts link lent).put j (chunk b j) s)
  full_put_one b j s o l h w f =
      subst (λ (r : Received). FullOne (suc j) b r) (sym (put_is link lent j (chunk b j) s z.mode))
      (full_in b j s o (omega (arith, z.most)) h w f)

  pub full_met_one : (b : Block) (s : Received) → FullOne (messages (length b)) b s → (parts link lent).met (length b) s ≡ true
      → (parts link lent).block (length b) s ≡ b
  unfolding length_met taken_of first_words
  full_met_one b s f m =
      let n = length b in
      let met : s.received ≡ (n + 1) / 2 = eqb-true s.received ((n + 1) / 2) (rw z.mode at m) in
      let all : min (64 * messages n) n ≡ n = omega arith in
      let bytes = rw all at (f.bytes (omega arith)) in
      let size : min n (2 * s.received) ≡ n = omega arith in
      let none : n - 2 * s.received ≡ 0 = omega arith in
      rw (z.mode, size, none) (append-nil (take n s.places) ∙ bytes ∙ take-length b)

-- ---- the number of words

abbrev pub ReadyOne : ℕ → ℕ → Received → Type 0
ReadyOne j n s = s.received ≡ words_up_to j n

module _ (link : Link) (lent : List ℕ) (z : Onefold link lent) where
  pub ready_none_one : (n : ℕ) (s : Received) → (parts link lent).number s ≡ 0 → ReadyOne 0 n s
  ready_none_one n s e = let r : s.received ≡ 0 = rw z.mode at e in omega arith

  pub ready_put_one : (b : Block) (j : ℕ) (s : Received) → length b ≤ link.largest → j < messages (length b)
      → ReadyOne j (length b) s → ReadyOne (suc j) (length b) ((parts link lent).put j (chunk b j) s)
  ready_put_one b j s l h f =
      let n = number_chunk b j in
      subst (λ (r : Received). ReadyOne (suc j) (length b) r) (sym (put_is link lent j (chunk b j) s z.mode))
      (rw n (exactly s.received (length b) j (omega (arith, z.most)) h f))

  pub ready_met_one : (n : ℕ) (s : Received) → ReadyOne (messages n) n s → (parts link lent).met n s ≡ true
  unfolding length_met
  ready_met_one n s f = rw z.mode (eq-eqb s.received ((n + 1) / 2) (omega arith))

  pub number_fresh_one : (parts link lent).number (parts link lent).fresh ≡ 0
  number_fresh_one = rw z.mode

  pub number_clear_one : (s : Received) → (parts link lent).number ((parts link lent).clear s) ≡ 0
  number_clear_one s = rw z.mode
