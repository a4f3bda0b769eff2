-- Reading what was made gives back what went in, on every link and in all four tables; so what is refused is never made.
-- Assumes nothing.
use Rattle.std.proofs.Common.{◌≡◌, ℕ, ◌+◌, ◌*◌, ◌/◌, ◌%◌, ◌<◌, ◌≤◌, Bool, true, false, Some, Ok, Err, eqb, ltb, ◌⊎◌, refl, inl, inr, ⊎_elim, eq-or-lt_of_le, arith, ltb-false, le-ltb, eq-eqb, ne_eqb, eqb-true}
use borrow.Author.Tests.{eqb-false}
use Rattle.words.specs.Allowed.{Allowed}
use Rattle.words.specs.Cutting.{size_answer_of}
use Rattle.words.specs.Control.{bit_of, verified_of, quality_of, made_of, reset_words, list_of, descriptor_words, request_words, distribution_confirmation_words, acquisition_confirmation_words}
use Rattle.words.specs.Count.{distribution_count, acquisition_count}
use Rattle.words.specs.Reading.{size_of, over_of, plain_of, control_of, read_of, sized_of, after, nothing_yet_of}
use Rattle.words.specs.Reading.{read_descriptor_of, read_request_of, read_confirmation_of}
use Rattle.words.specs.Refusal.{Answer}
use Rattle.words.specs.declared.refusal.Refusal.{Refusal}
use Rattle.words.specs.declared.count.DistributionCount.{DistributionCount}
use Rattle.words.specs.declared.count.AcquisitionCount.{AcquisitionCount}
use Rattle.words.specs.declared.link.Link.{Link}
use Rattle.words.specs.declared.control.Words.{Words}
use Rattle.words.specs.declared.control.Control.TheVariants.{Reset, Block}
use Rattle.words.specs.declared.control.Quality.{Quality}
use Rattle.words.specs.declared.control.Quality.TheVariants.{BestEffort, Verified}
use Rattle.words.proofs.Bounds.{bit_le}
use Rattle.words.proofs.Ranges.{link_ranges, by}

-- ---- the fields of the second word, over plain numbers

abbrev word2 : ℕ → ℕ → ℕ → ℕ → ℕ
word2 b m s n = b * 32768 + m % 2 * 8192 + s % 32 * 256 + n

module _ (b m s n : ℕ) (hb : b ≤ 1) (hm : m ≤ 1) (hs : s ≤ 26) (hn : n < 256) where
  top_back : word2 b m s n / 32768 ≡ b
  top_back = omega arith

  reset_back : word2 b m s n / 16384 % 2 ≡ 0
  reset_back = omega arith

  mode_back : word2 b m s n / 8192 % 2 ≡ m
  mode_back = omega arith

  subaddress_back : word2 b m s n / 256 % 32 ≡ s
  subaddress_back = omega arith

  count_back : word2 b m s n % 256 ≡ n
  count_back = omega arith

reserved_back : (n : ℕ) → n % 4096 / 4096 ≡ 0
reserved_back n = omega arith

size_back : (size : ℕ) → 1 ≤ size → size ≤ 4096 → size_of (size % 4096) ≡ size
unfolding size_of
size_back size lo hi =
    ⊎_elim
    (λ (e : size ≡ 4096). rw e)
    (λ (l : size < 4096).
    let e : size % 4096 ≡ size = omega arith in
    let ne : size ≡ 0 → ⊥ = omega arith in
    simp (e, ne_eqb _ _ ne))
    (eq-or-lt_of_le hi)

flag_back : (flag : Bool) → eqb (bit_of flag) 1 ≡ flag
flag_back false = refl
flag_back true = refl

-- ---- what 3 leaves of a size

pub record Sized (link : Link) (size : ℕ) : Type 0 where
  pub some : 1 ≤ size
  pub most : size ≤ link.largest

refused_not : (r : Refusal) → ◌≡◌ {A = Answer} (Err r) (Ok tt) → ⊥
refused_not r e = let z : ◌≡◌ {A = ℕ} 0 1 = cc in omega arith

pub sized : (link : Link) (size : ℕ) → size_answer_of link size ≡ Ok tt → Sized link size
unfolding size_answer_of
sized link size e =
    by (eqb size 0) (λ z. absurd (refused_not _ (rw z at e))) (λ z.
    by (ltb link.largest size) (λ o. absurd (refused_not _ (rw (z, o) at e)))
    (λ o. record { some = some_is z; most = ltb-false link.largest size o }))
  where
    some_is : eqb size 0 ≡ false → 1 ≤ size
    some_is z = let ne : size ≡ 0 → ⊥ = eqb-false size 0 z in omega arith

-- ---- reading what was made

-- 10 and 11 are not given where 3 was not
not_over : (largest limit size : ℕ) → size ≤ largest → over_of largest limit size ≡ false
unfolding over_of
not_over largest limit size h =
    by (eqb largest limit)
    (λ e. let l : size ≤ limit = omega (arith, eqb-true largest limit e) in simp (e, le-ltb _ _ l))
    (λ e. simp e)

module _ (link : Link) (size : ℕ) (flag : Bool) (count : ℕ) (ok : Allowed link size count) where
  -- 6 to 9
  pub read_made : read_of (list_of (made_of link size flag count)) link ≡ Ok (Block size flag count)
  unfolding made_of read_of control_of plain_of
  read_made =
      let r = link_ranges link ok.configured in
      let t = sized link size ok.fits in
      let b = bit_le flag in
      simp (
        reserved_back size,
        reset_back (bit_of flag) link.mode link.subaddress count b r.mode r.to ok.byte,
        mode_back (bit_of flag) link.mode link.subaddress count b r.mode r.to ok.byte,
        subaddress_back (bit_of flag) link.mode link.subaddress count b r.mode r.to ok.byte,
        count_back (bit_of flag) link.mode link.subaddress count b r.mode r.to ok.byte,
        top_back (bit_of flag) link.mode link.subaddress count b r.mode r.to ok.byte,
        flag_back flag,
        size_back size t.some (omega arith),
        eq-eqb link.mode _ refl,
        eq-eqb link.subaddress _ refl,
      )

  -- 10 to 12
  pub sized_made : sized_of (Block size flag count) link ≡ Ok (Block size flag count)
  unfolding sized_of
  sized_made =
      let t = sized link size ok.fits in
      let ne : count ≡ 0 → ⊥ = omega (arith, ok.some) in
      simp (not_over link.largest 1024 size t.most, not_over link.largest 4096 size t.most, ne_eqb _ _ ne)

quality_back : (quality : Quality) → quality_of (verified_of quality) ≡ quality
quality_back BestEffort = refl
quality_back Verified = refl

-- made words are never both zero: the count is not
made_something : (link : Link) (size : ℕ) (flag : Bool) (count : ℕ) → 1 ≤ count → nothing_yet_of (list_of (made_of link size flag count)) ≡ false
unfolding nothing_yet_of made_of
made_something link size flag count h =
    let ne : word2 (bit_of flag) link.mode link.subaddress count ≡ 0 → ⊥ = omega arith in
    by (eqb (size % 4096) 0) (λ e. simp (e, ne_eqb _ _ ne)) (λ e. simp e)

-- Table 8-3
pub descriptor_back : (link : Link) (size : ℕ) (quality : Quality) (count : DistributionCount) → Allowed link size count.0
    → read_descriptor_of distribution_count (list_of (descriptor_words link size quality count)) link ≡ Ok (Block size quality count)
unfolding read_descriptor_of
descriptor_back link size quality count ok =
    rw (read_made link size (verified_of quality) count.0 ok, sized_made link size (verified_of quality) count.0 ok, quality_back quality)

-- Table 8-6
pub request_back : (link : Link) (size : ℕ) (quality : Quality) (count : AcquisitionCount) → Allowed link size count.0
    → read_request_of acquisition_count (list_of (request_words link size quality count)) link ≡ Ok (Some (Block size quality count))
unfolding read_request_of read_descriptor_of
request_back link size quality count ok =
    rw (
      made_something link size (verified_of quality) count.0 ok.some,
      read_made link size (verified_of quality) count.0 ok,
      sized_made link size (verified_of quality) count.0 ok,
      quality_back quality,
    )

-- Table 8-4
pub distribution_confirmation_back : (link : Link) (size : ℕ) (error : Bool) (count : DistributionCount) → Allowed link size count.0
    → read_confirmation_of distribution_count (list_of (distribution_confirmation_words link size error count)) link
    ≡ Ok (Block size error count)
unfolding read_confirmation_of
distribution_confirmation_back link size error count ok = rw (read_made link size error count.0 ok)

-- Table 8-5
pub acquisition_confirmation_back : (link : Link) (size : ℕ) (error : Bool) (count : AcquisitionCount) → Allowed link size count.0
    → read_confirmation_of acquisition_count (list_of (acquisition_confirmation_words link size error count)) link
    ≡ Ok (Block size error count)
unfolding read_confirmation_of
acquisition_confirmation_back link size error count ok = rw (read_made link size error count.0 ok)

-- Reset, on any link, configured or not, in either direction
pub reset_descriptor_back : {C : Type 0} (counted : ℕ → C) (link : Link) → read_descriptor_of counted (list_of reset_words) link ≡ Ok Reset
unfolding read_descriptor_of read_of control_of sized_of
reset_descriptor_back counted link = refl

pub reset_request_back : {C : Type 0} (counted : ℕ → C) (link : Link) → read_request_of counted (list_of reset_words) link ≡ Ok (Some Reset)
unfolding read_request_of read_descriptor_of read_of control_of sized_of nothing_yet_of
reset_request_back counted link = refl

pub reset_confirmation_back : {C : Type 0} (counted : ℕ → C) (link : Link) → read_confirmation_of counted (list_of reset_words) link ≡ Ok Reset
unfolding read_confirmation_of read_of control_of
reset_confirmation_back counted link = refl

-- ---- what is refused is never made

reset_read : (link : Link) → after (read_of (list_of reset_words) link) (λ control. sized_of control link) ≡ Ok Reset
unfolding read_of control_of sized_of
reset_read link = refl

-- words that any of the four readings refuses are not those of a block that the link allows, nor Reset: the readings of
-- confirmations are `read_of`, those of a descriptor and a request are `sized_of` after it, and a refusal by the first is one by the second
pub never_made : (link : Link) (words : Words) (r : Refusal) (size : ℕ) (flag : Bool) (count : ℕ)
    → after (read_of (list_of words) link) (λ control. sized_of control link) ≡ Err r
    → (Allowed link size count × (words ≡ made_of link size flag count)) ⊎ (words ≡ reset_words) → ⊥
never_made link words r size flag count e (inl (ok, w)) =
    let f = rw w at e in
    let a = read_made link size flag count ok in
    let b = sized_made link size flag count ok in
    let z : ◌≡◌ {A = ℕ} 0 1 = cc in omega arith
never_made link words r size flag count e (inr w) =
    let f = rw w at e in
    let a = reset_read link in
    let z : ◌≡◌ {A = ℕ} 0 1 = cc in omega arith

pub refused_first : (words : Words) (link : Link) (r : Refusal) → read_of (list_of words) link ≡ Err r
    → after (read_of (list_of words) link) (λ control. sized_of control link) ≡ Err r
refused_first words link r e = rw e
