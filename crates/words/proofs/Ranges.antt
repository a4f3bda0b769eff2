-- What a configuration's test says of its numbers.
-- Assumes nothing.
use Rattle.std.proofs.Common.{◌≡◌, ℕ, ◌≤◌, Bool, true, false, ◌&&◌, ◌||◌, eqb, leb, ◌⊎◌, refl, inl, inr, arith, eqb-true, eq-eqb, leb-true}
use Rattle.words.specs.Link.{mode_allows, in_ranges, configured_of, settings_of, mode_of}
use Rattle.words.specs.declared.link.Mode.{Mode}
use Rattle.words.specs.declared.link.Link.{Link}
use Rattle.words.specs.declared.link.Settings.{Settings}

-- a test and its other outcome, apart
pub by : {G : Type 0} (t : Bool) → (t ≡ true → G) → (t ≡ false → G) → G
by true f g = f refl
by false f g = g refl

pub both : (a b : Bool) → (a && b) ≡ true → (a ≡ true) × (b ≡ true)
both true b e = (refl, e)
both false b e = (cc, cc)

pub either : (a b : Bool) → (a || b) ≡ true → (a ≡ true) ⊎ (b ≡ true)
either true b e = inl refl
either false b e = inr e

pub record Sixteen (m s l : ℕ) : Type 0 where
  pub mode : m ≡ 0
  pub subaddress : s ≡ 11
  pub largest : l ≡ 1024

pub record One (m s l : ℕ) : Type 0 where
  pub mode : m ≡ 1
  pub from : 11 ≤ s
  pub to : s ≤ 26
  pub largest : (l ≡ 1024) ⊎ (l ≡ 4096)

pub modes : (mode subaddress largest : ℕ) → mode_allows mode subaddress largest ≡ true → Sixteen mode subaddress largest ⊎ One mode subaddress largest
unfolding mode_allows
modes mode subaddress largest e =
    by (eqb mode 0)
    (λ z.
    let p = both (eqb subaddress 11) (eqb largest 1024) (rw z at e) in
    inl record { mode = eqb-true mode 0 z; subaddress = eqb-true subaddress 11 p.0; largest = eqb-true largest 1024 p.1 })
    (λ z.
    let p = both (eqb mode 1) _ (rw z at e) in
    let q = both (leb 11 subaddress) _ p.1 in
    let r = both (leb subaddress 26) _ q.1 in
    inr record {
      mode = eqb-true mode 1 p.0;
      from = leb-true 11 subaddress q.0;
      to = leb-true subaddress 26 r.0;
      largest = largest_is (either (eqb largest 1024) (eqb largest 4096) r.1);
    })
  where
    largest_is : (eqb largest 1024 ≡ true) ⊎ (eqb largest 4096 ≡ true) → (largest ≡ 1024) ⊎ (largest ≡ 4096)
    largest_is (inl h) = inl (eqb-true largest 1024 h)
    largest_is (inr h) = inr (eqb-true largest 4096 h)

-- bounds of all five numbers
pub record Ranges (a m s l w : ℕ) : Type 0 where
  pub address : a ≤ 30
  pub shortest : 2 ≤ w
  pub longest : w ≤ 16
  pub mode : m ≤ 1
  pub from : 11 ≤ s
  pub to : s ≤ 26
  pub least : 1024 ≤ l
  pub most : l ≤ 4096

pub ranges : (s : Settings) → in_ranges s ≡ true → Ranges s.address s.mode s.subaddress s.largest s.window
unfolding in_ranges
ranges s e =
    let p = both (leb s.address 30) _ e in
    let q = both (leb 2 s.window) _ p.1 in
    let r = both (leb s.window 16) _ q.1 in
    bounds (leb-true s.address 30 p.0) (leb-true 2 s.window q.0) (leb-true s.window 16 r.0) (modes s.mode s.subaddress s.largest r.1)
  where
    bounds : s.address ≤ 30 → 2 ≤ s.window → s.window ≤ 16 → Sixteen s.mode s.subaddress s.largest ⊎ One s.mode s.subaddress s.largest
        → Ranges s.address s.mode s.subaddress s.largest s.window
    bounds x y z (inl k) =
        record { address = x; shortest = y; longest = z; mode = omega arith; from = omega arith; to = omega arith; least = omega arith; most = omega arith }
    bounds x y z (inr k) =
        record {
          address = x;
          shortest = y;
          longest = z;
          mode = omega arith;
          from = k.from;
          to = k.to;
          least = least_is k.largest;
          most = most_is k.largest;
        }
      where
        least_is : (s.largest ≡ 1024) ⊎ (s.largest ≡ 4096) → 1024 ≤ s.largest
        least_is (inl h) = omega arith
        least_is (inr h) = omega arith

        most_is : (s.largest ≡ 1024) ⊎ (s.largest ≡ 4096) → s.largest ≤ 4096
        most_is (inl h) = omega arith
        most_is (inr h) = omega arith

-- which number a mode is
pub mode_zero : (link : Link) (m : Mode) → m ≡ mode_of link → m ≡ Mode.Zero → link.mode ≡ 0
mode_zero link m e z =
    by (eqb link.mode 0) (λ t. eqb-true link.mode 0 t) (λ f. absurd (let c = rw (z, f) at e in let n : ◌≡◌ {A = ℕ} 0 1 = cc in omega arith))

pub mode_one : (link : Link) (m : Mode) → m ≡ mode_of link → m ≡ Mode.One → link.mode ≡ 0 → ⊥
mode_one link m e o z =
    let t = eq-eqb link.mode 0 z in
    let c = rw (o, t) at e in let n : ◌≡◌ {A = ℕ} 0 1 = cc in omega arith

pub link_ranges : (link : Link) → configured_of link ≡ true
    → Ranges link.address link.mode link.subaddress link.largest link.window
unfolding configured_of
link_ranges link e = ranges (settings_of link) e

-- the largest block is 1024 or 4096
pub largest_cases : (link : Link) → configured_of link ≡ true → (link.largest ≡ 1024) ⊎ (link.largest ≡ 4096)
unfolding configured_of in_ranges
largest_cases link e =
    let p = both (leb link.address 30) _ e in
    let q = both (leb 2 link.window) _ p.1 in
    let r = both (leb link.window 16) _ q.1 in
    cases (modes link.mode link.subaddress link.largest r.1)
  where
    cases : Sixteen link.mode link.subaddress link.largest ⊎ One link.mode link.subaddress link.largest
        → (link.largest ≡ 1024) ⊎ (link.largest ≡ 4096)
    cases (inl s) = inl s.largest
    cases (inr o) = o.largest
