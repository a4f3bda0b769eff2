-- Cyclic counts: how far a count lies behind another on the circle 1 to 255.
-- Assumes nothing.
use Prim.Native.Nat.{ℕ, ◌+◌, ◌-◌, ◌%◌, ◌≤◌, ◌<◌}
use mathlib.Core.Path.{◌≡◌}
use native.Mathlib.Omega.{arith}
use Rattle.dist_promises.proofs.Model.{next, limit}

-- c is a count at most s places behind n
pub record Near (s n c : ℕ) : Type 0 where
  pub low : 1 ≤ c
  pub high : c ≤ 255
  pub top : n ≤ 255
  pub one : 1 ≤ n
  pub back : (n + 255 - c) % 255 ≤ s

pub next_near : (s n c : ℕ) → s < limit → Near s n c → Near (s + 1) (next n) c
next_near s n c h k = record { low = k.low; high = k.high; top = omega arith; one = omega arith; back = omega arith }

pub next_other : (s n c : ℕ) → s < limit → Near s n c → c ≡ next n → ⊥
next_other s n c h k e = omega arith

pub near_same : (s n : ℕ) → 1 ≤ n → n ≤ 255 → Near s n n
near_same s n h k = record { low = h; high = k; top = k; one = h; back = omega arith }
