-- The message parts in mode 0: each message has its own place, so older messages do no harm and nothing need be cleared.
-- Assumes nothing.
use Prim.Native.Nat.{ℕ, zero, suc, min, ◌+◌, ◌-◌, ◌*◌, ◌≤◌, ◌<◌}
use mathlib.Core.Path.{◌≡◌, refl, sym, subst, ◌∙◌}
use mathlib.Core.Bool.{true}
use mathlib.Core.List.{List}
use native.Mathlib.Omega.{arith}
use lib.Dec.{T, eqb}
use lib.ListN.{length, take, length-set}
use lib.Seq.{sets, length-sets, length-take-le, take-length, get_or-set_same, get_or-set_other}
use borrow.Author.Tests.{eq-eqb, eqb-true, eqb-false, le-leb, lt-leb}
use Rattle.words.specs.Bytes.{bytes_of, words_of}
use Rattle.words.specs.Cutting.{messages_of, message_words_of, message_subaddress_of}
use Rattle.words.specs.Link.{message_store_of}
use Rattle.words.specs.declared.link.Link.{Link}
use Rattle.words.proofs.Ranges.{by}
use Rattle.stores.specs.Marks.{has_mark}
use Rattle.stores.proofs.Runs.{drop_after}
use Rattle.stores.proofs.Marking.{marked_same, marked_other, none_counted}
use Rattle.dist_terminal.specs.Data.{marked_with, noted_of, placed_of}
use Rattle.dist_terminal.specs.Length.{place_met, places_met, length_met}
use Rattle.dist_terminal.specs.Descriptor.{taken_of}
use Rattle.dist_terminal.specs.declared.state.Marks.{Marks}
use Rattle.promises.specs.Run.{Block, are_bytes}
use Rattle.promises.specs.Promise.{messages}
use Rattle.dist_promises.proofs.Parts.{chunk}
use Rattle.dist_promises.proofs.Modes.{Received, parts}
use Rattle.dist_promises.proofs.ModeBytes.{octets, words_chunk, bytes_chunk, chunk_behind}
use Rattle.dist_promises.proofs.ModeStore.{Whole, Sixteenfold}

-- ---- what a message does in mode 0

abbrev put_in : ℕ → Block → Received → Received
put_in j b s =
    record {
      marks = marked_with s.marks (11 + j) (length (words_of b));
      received = s.received;
      places = sets s.places (64 * j) (bytes_of (words_of b));
    }

subaddress_is : (link : Link) (j : ℕ) → eqb link.mode 0 ≡ true → j < 16 → message_subaddress_of link j ≡ 11 + j
unfolding message_subaddress_of
subaddress_is link j e h = simp (e, lt-leb 16 j h)

put_is : (link : Link) (lent : List ℕ) (j : ℕ) (b : Block) (s : Received) → eqb link.mode 0 ≡ true → j < 16 → (parts link lent).put j b s ≡ put_in j b s
unfolding noted_of placed_of
put_is link lent j b s e h = let n : 11 + j - 11 ≡ j = omega arith in rw (subaddress_is link j e h, e, n)

-- of the messages of a block that mode 0 takes
few : (n j : ℕ) → n ≤ 1024 → j < messages n → j < 16
few n j h l = omega arith

-- ---- the store

module _ (link : Link) (lent : List ℕ) (z : Sixteenfold link lent) where
  whole_in : (b : Block) (j : ℕ) (s : Received) → j < 16 → Whole link lent s → Whole link lent (put_in j (chunk b j) s)
  whole_in b j s h w =
      let n = bytes_chunk b j in
      let m = z.store in
      record {
        long = length-sets s.places (64 * j) (bytes_of (words_of (chunk b j))) ∙ w.long;
        beyond = drop_after s.places (bytes_of (words_of (chunk b j))) (64 * j) (message_store_of link) (omega arith) ∙ w.beyond;
        sixteen = length-set s.marks.words (11 + j - 11) (length (words_of (chunk b j))) ∙ w.sixteen;
      }

  pub whole_put_zero : (b : Block) (j : ℕ) (s : Received) → length b ≤ link.largest → j < messages (length b) → Whole link lent s
      → Whole link lent ((parts link lent).put j (chunk b j) s)
  whole_put_zero b j s l h w =
      let k : j < 16 = few (length b) j (omega (arith, z.most)) h in
      subst (λ (r : Received). Whole link lent r) (sym (put_is link lent j (chunk b j) s z.mode k)) (whole_in b j s k w)

  pub size_zero : (n : ℕ) (s : Received) → n ≤ link.largest → Whole link lent s → length ((parts link lent).block n s) ≡ n
  unfolding taken_of
  size_zero n s l w = rw z.mode (length-take-le n s.places (omega (arith, z.most, z.room, w.long)))

-- ---- the bytes

abbrev pub FullZero : ℕ → Block → Received → Type 0
FullZero j b s = take (min (64 * j) (length b)) s.places ≡ take (min (64 * j) (length b)) b

pub full_none_zero : (b : Block) (s : Received) → FullZero 0 b s
full_none_zero b s = let e : min (64 * 0) (length b) ≡ 0 = omega arith in rw e

module _ (link : Link) (lent : List ℕ) (z : Sixteenfold link lent) where
  pub full_put_zero : (b : Block) (j : ℕ) (s : Received) → T (are_bytes b) → length b ≤ link.largest → j < messages (length b) → Whole link lent s
      → FullZero j b s → FullZero (suc j) b ((parts link lent).put j (chunk b j) s)
  full_put_zero b j s o l h w f =
      let k : j < 16 = few (length b) j (omega (arith, z.most)) h in
      let n = bytes_chunk b j in
      let before : min (64 * j) (length b) ≡ 64 * j = omega arith in
      subst (λ (r : Received). FullZero (suc j) b r) (sym (put_is link lent j (chunk b j) s z.mode k))
      (chunk_behind s.places b j (octets b o) (omega arith) (omega (arith, z.room, w.long)) (rw before at f))

  pub full_met_zero : (b : Block) (s : Received) → FullZero (messages (length b)) b s → (parts link lent).block (length b) s ≡ b
  unfolding taken_of
  full_met_zero b s f =
      let all : min (64 * messages (length b)) (length b) ≡ length b = omega arith in
      rw z.mode ((rw all at f) ∙ take-length b)

-- ---- the marks

abbrev pub ReadyZero : ℕ → ℕ → Received → Type 0
ReadyZero j n s = (i : ℕ) → i < j → place_met s.marks n i ≡ true

pub ready_none_zero : (n : ℕ) (s : Received) → ReadyZero 0 n s
ready_none_zero n s i h = let z : ⊥ = omega arith in absurd z

has_place : (j : ℕ) → j < 16 → has_mark (11 + j) ≡ true
unfolding has_mark
has_place j h = simp (le-leb 11 (11 + j) (omega arith), le-leb (11 + j) 26 (omega arith))

-- the place of a message is met by it, another stays as it was
place_here : (m : Marks) (n j w : ℕ) → j < 16 → length m.words ≡ 16 → w ≡ message_words_of n j → place_met (marked_with m (11 + j) w) n j ≡ true
unfolding place_met
place_here m n j w h l e =
    let a : 11 + j - 11 ≡ j = omega arith in
    simp (a, marked_same m.places (11 + j) (has_place j h), get_or-set_same m.words j w 0 (omega arith)) (eq-eqb w (message_words_of n j) e)

place_there : (m : Marks) (n j w i : ℕ) → (i ≡ j → ⊥) → place_met (marked_with m (11 + j) w) n i ≡ place_met m n i
unfolding place_met
place_there m n j w i ne =
    let a : 11 + j - 11 ≡ j = omega arith in
    let apart : 11 + i ≡ 11 + j → ⊥ = λ e. ne (omega arith) in
    rw (a, marked_other m.places (11 + j) (11 + i) apart, get_or-set_other m.words j i w 0 ne)

all_met : (m : Marks) (n k j : ℕ) → ((i : ℕ) → k ≤ i → i < k + j → place_met m n i ≡ true) → places_met m n k j ≡ true
unfolding places_met
all_met m n k zero f = refl
all_met m n k (suc j) f =
    rw (f k (omega arith) (omega arith)) (all_met m n (suc k) j (λ i a b. f i (omega arith) (omega arith)))

module _ (link : Link) (lent : List ℕ) (z : Sixteenfold link lent) where
  ready_in : (b : Block) (j : ℕ) (s : Received) → j < 16 → Whole link lent s → ReadyZero j (length b) s → ReadyZero (suc j) (length b) (put_in j (chunk b j) s)
  ready_in b j s k w f i h =
      by (eqb i j)
      (λ e. let same = eqb-true i j e in rw same (place_here s.marks (length b) j (length (words_of (chunk b j))) k w.sixteen (words_chunk b j)))
      (λ e.
      let ne : i ≡ j → ⊥ = eqb-false i j e in
      place_there s.marks (length b) j (length (words_of (chunk b j))) i ne ∙ f i (omega arith))

  pub ready_put_zero : (b : Block) (j : ℕ) (s : Received) → length b ≤ link.largest → j < messages (length b) → Whole link lent s
      → ReadyZero j (length b) s → ReadyZero (suc j) (length b) ((parts link lent).put j (chunk b j) s)
  ready_put_zero b j s l h w f =
      let k : j < 16 = few (length b) j (omega (arith, z.most)) h in
      subst (λ (r : Received). ReadyZero (suc j) (length b) r) (sym (put_is link lent j (chunk b j) s z.mode k)) (ready_in b j s k w f)

  pub ready_met_zero : (n : ℕ) (s : Received) → ReadyZero (messages n) n s → (parts link lent).met n s ≡ true
  unfolding length_met messages_of
  ready_met_zero n s f = rw z.mode (all_met s.marks n 0 (messages n) (λ i a b. f i (omega arith)))

  pub number_fresh_zero : (parts link lent).number (parts link lent).fresh ≡ 0
  number_fresh_zero = rw z.mode none_counted

  pub number_clear_zero : (s : Received) → (parts link lent).number ((parts link lent).clear s) ≡ 0
  number_clear_zero s = rw z.mode none_counted
