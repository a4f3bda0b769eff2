-- What a descriptor that was not refused says: its size is one that the link takes, and its count is not 0.
-- Assumes nothing.
use Rattle.std.proofs.Common.{◌≡◌, ℕ, ◌/◌, ◌%◌, ◌≤◌, true, false, not, eqb, ◌⊎◌, List, Ok, Err, length, get_or, ap, inl, inr, arith, lit≤, ltb-false, eq-eqb}
use borrow.Author.Tests.{eqb-false}
use Rattle.words.specs.Link.{configured_of}
use Rattle.words.specs.Control.{quality_of}
use Rattle.words.specs.Count.{distribution_count}
use Rattle.words.specs.Reading.{Read, size_of, over_of, plain_of, control_of, read_of, sized_of, after, read_in_table, read_descriptor_of}
use Rattle.words.specs.declared.link.Link.{Link}
use Rattle.words.specs.declared.count.DistributionCount.{DistributionCount}
use Rattle.words.specs.declared.control.Words.{Words}
use Rattle.words.specs.declared.control.Quality.{Quality}
use Rattle.words.specs.declared.control.Control.TheVariants.{Reset, Block}
use Rattle.words.proofs.Ranges.{by, largest_cases}

-- SIZE is 1 to 4096 (12 bits, 0 read as 4096)
pub size_most : (w : ℕ) → size_of w ≤ 4096
unfolding size_of
size_most w = by (eqb (w % 4096) 0) (λ e. rw e (lit≤ tt)) (λ e. rw e (omega arith))

pub size_some : (w : ℕ) → 1 ≤ size_of w
unfolding size_of
size_some w =
    by (eqb (w % 4096) 0)
    (λ e. rw e (lit≤ tt))
    (λ e. let ne : w % 4096 ≡ 0 → ⊥ = eqb-false (w % 4096) 0 e in rw e (omega arith))

-- a block's size is its first word's
pub record Size (size : ℕ) : Type 0 where
  pub some : 1 ≤ size
  pub most : size ≤ 4096

abbrev SizeIn : Read → Type 0
SizeIn (Ok Reset) = Unit {0}
SizeIn (Ok (Block size mark count)) = Size size
SizeIn (Err r) = Unit {0}

size_plain : (w : Words) (link : Link) → SizeIn (plain_of w link)
unfolding plain_of
size_plain w link =
    by (not (eqb (w.second / 8192 % 2) link.mode)) (λ e. rw e tt) (λ e.
    by (not (eqb (w.second / 256 % 32) link.subaddress)) (λ f. rw (e, f) tt)
    (λ f. rw (e, f) record { some = size_some w.first; most = size_most w.first }))

size_control : (w : Words) (link : Link) → SizeIn (control_of w link)
unfolding control_of
size_control w link =
    by (not (eqb (w.first / 4096) 0)) (λ e. rw e tt) (λ e.
    by (eqb (w.second / 16384 % 2) 1)
    (λ r.
    by (not (eqb w.first 0)) (λ f. rw (e, r, f) tt) (λ f.
    by (not (eqb w.second 0x4B00)) (λ g. rw (e, r, f, g) tt) (λ g. rw (e, r, f, g) tt)))
    (λ r. rw (e, r) (size_plain w link)))

size_read : (ws : List ℕ) (link : Link) → SizeIn (read_of ws link)
unfolding read_of
size_read ws link =
    by (not (eqb (length ws) 2)) (λ e. rw e tt)
    (λ e. rw e (size_control (record { first = get_or ws 0 0; second = get_or ws 1 0 }) link))

-- not over 1024 on a 1024 link, nor over 4096 on a 4096 link
pub record Taken (link : Link) (size count : ℕ) : Type 0 where
  pub some : 1 ≤ size
  pub most : size ≤ 4096
  pub small : link.largest ≡ 1024 → size ≤ 1024
  pub counted : 1 ≤ count

abbrev TakenIn : Link → Read → Type 0
TakenIn link (Ok Reset) = Unit {0}
TakenIn link (Ok (Block size mark count)) = Taken link size count
TakenIn link (Err r) = Unit {0}

not_over : (largest limit size : ℕ) → over_of largest limit size ≡ false → largest ≡ limit → size ≤ limit
unfolding over_of
not_over largest limit size e h = ltb-false limit size (rw (eq-eqb largest limit h) at e)

taken_sized : (read : Read) (link : Link) → SizeIn read → TakenIn link (after read (λ control. sized_of control link))
unfolding sized_of
taken_sized (Ok Reset) link s = tt
taken_sized (Err r) link s = tt
taken_sized (Ok (Block size mark count)) link s =
    by (over_of link.largest 1024 size) (λ a. rw a tt) (λ a.
    by (over_of link.largest 4096 size) (λ b. rw (a, b) tt) (λ b.
    by (eqb count 0) (λ z. rw (a, b, z) tt)
    (λ z.
    let ne : count ≡ 0 → ⊥ = eqb-false count 0 z in
    rw (a, b, z) record { some = s.some; most = s.most; small = not_over link.largest 1024 size a; counted = omega arith })))

taken_is : (read : Read) (link : Link) (size : ℕ) (quality : Quality) (count : DistributionCount)
    → read_in_table quality_of distribution_count read ≡ Ok (Block size quality count) → TakenIn link read → Taken link size count.0
taken_is (Ok Reset) link size quality count e t = let z : ◌≡◌ {A = ℕ} 0 1 = cc in absurd (omega arith)
taken_is (Err r) link size quality count e t = let z : ◌≡◌ {A = ℕ} 0 1 = cc in absurd (omega arith)
taken_is (Ok (Block s m n)) link size quality count e t =
    let p : s ≡ size = cc in
    let q : n ≡ count.0 = ap (λ (d : DistributionCount). d.0) (cc) in
    rw (p, q) at t

pub taken : (ws : List ℕ) (link : Link) (size : ℕ) (quality : Quality) (count : DistributionCount)
    → read_descriptor_of distribution_count ws link ≡ Ok (Block size quality count) → Taken link size count.0
unfolding read_descriptor_of
taken ws link size quality count e =
    taken_is (after (read_of ws link) (λ control. sized_of control link)) link size quality count e
    (taken_sized (read_of ws link) link (size_read ws link))

-- so a configured link's largest block has room for it
pub taken_fits : (link : Link) (size count : ℕ) → configured_of link ≡ true → Taken link size count → size ≤ link.largest
taken_fits link size count k t = fits (largest_cases link k)
  where
    fits : (link.largest ≡ 1024) ⊎ (link.largest ≡ 4096) → size ≤ link.largest
    fits (inl e) = let s = t.small e in omega arith
    fits (inr e) = let s = t.most in omega arith
