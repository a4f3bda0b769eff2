-- What stores that are not too short have room for.
-- Assumes nothing.
use Rattle.std.proofs.Common.{◌≡◌, ℕ, ◌≤◌, Bool, true, false, not, ◌||◌, ltb, List, Ok, arith, ltb-false}
use borrow.Author.Tests.{not-false}
use Rattle.words.specs.Count.{distribution_count}
use Rattle.words.specs.Link.{configured_of, block_store_of, message_store_of}
use Rattle.words.specs.Reading.{read_descriptor_of}
use Rattle.words.specs.declared.control.Control.TheVariants.{Block}
use Rattle.words.specs.declared.control.Quality.{Quality}
use Rattle.words.specs.declared.count.DistributionCount.{DistributionCount}
use Rattle.words.specs.declared.link.Link.{Link}
use Rattle.words.proofs.Fits.{taken, taken_fits}
use Rattle.dist_terminal.specs.Calls.{unfit_of}
use Rattle.dist_terminal.specs.Data.{store_short}
use Rattle.dist_terminal.specs.Descriptor.{short}

pub neither : (a b : Bool) → (a || b) ≡ false → (a ≡ false) × (b ≡ false)
neither true b e = (cc, cc)
neither false b e = (cc, e)

-- ---- the message store

pub record Long (link : Link) (store : ℕ) : Type 0 where
  pub configured : configured_of link ≡ true
  pub most : message_store_of link ≤ store

pub long : (link : Link) (store : ℕ) → store_short link store ≡ false → Long link store
unfolding store_short
long link store e =
    let p = neither (not (configured_of link)) (ltb store (message_store_of link)) e in
    record { configured = not-false _ p.0; most = ltb-false store (message_store_of link) p.1 }

-- of a link that restarts
pub restarts : (link : Link) (store : ℕ) → store_short link store ≡ false → message_store_of link ≤ store
restarts link store e = (long link store e).most

-- of a link that is being configured
pub fits : (link : Link) (store hand : ℕ) → unfit_of link store hand ≡ false → message_store_of link ≤ store
unfolding unfit_of
fits link store hand e =
    ltb-false store (message_store_of link) (neither (ltb store (message_store_of link)) (ltb hand (block_store_of link)) e).0

-- ---- both stores

pub record Ready (link : Link) (n hand : ℕ) : Type 0 where
  pub store : Long link n
  pub most : link.largest ≤ hand

pub ready : (link : Link) (store hand : ℕ) → short link store hand ≡ false → Ready link store hand
unfolding short block_store_of
ready link store hand e =
    let p = neither (store_short link store) (ltb hand link.largest) e in
    record { store = long link store p.0; most = ltb-false hand link.largest p.1 }

-- of a link that a descriptor reaches
pub room : (link : Link) (store hand : ℕ) → short link store hand ≡ false → message_store_of link ≤ store
room link store hand s = (ready link store hand s).store.most

-- a block that is not refused by 6 to 11
module _ (link : Link) (ws : List ℕ) (store hand size : ℕ) (quality : Quality) (count : DistributionCount) (s : short link store hand ≡ false)
    (e : read_descriptor_of distribution_count ws link ≡ Ok (Block size quality count)) where
  pub small : size ≤ 4096
  small = (taken ws link size quality count e).most

  pub within : size ≤ hand
  within =
      let r = ready link store hand s in
      let f = taken_fits link size count.0 r.store.configured (taken ws link size quality count e) in
      let m = r.most in
      omega arith
