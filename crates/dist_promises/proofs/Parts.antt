-- What the proof asks of a terminal's message parts; both modes have it (Lawfully.antt). Message j of a block is its bytes from 64 * j on.
-- Assumes nothing.
use Prim.Native.Nat.{ℕ, suc, ◌*◌, ◌≤◌, ◌<◌}
use mathlib.Core.Path.{◌≡◌}
use mathlib.Core.Bool.{Bool, true}
use lib.Dec.{T}
use lib.ListN.{length, take, drop}
use Rattle.promises.specs.Run.{Block, are_bytes}
use Rattle.promises.specs.Promise.{messages}

abbrev pub chunk : Block → ℕ → Block
chunk b j = take 64 (drop (64 * j) b)

-- message parts: none yet, after clearing, with message j; whether Verified Length holds for a size; the block of a size; their number
pub record Parts : Type 1 where
  pub Store : Type 0
  pub fresh : Store
  pub clear : Store → Store
  pub put : ℕ → Block → Store → Store
  pub met : ℕ → Store → Bool
  pub block : ℕ → Store → Block
  pub number : Store → ℕ

pub record Lawful (largest : ℕ) (P : Parts) : Type 1 where
  -- a store as the calls leave it
  pub Whole : P.Store → Type 0
  pub whole_fresh : Whole P.fresh
  pub whole_clear : (s : P.Store) → Whole s → Whole (P.clear s)
  pub whole_put : (b : Block) (j : ℕ) (s : P.Store) → length b ≤ largest → j < messages (length b) → Whole s → Whole (P.put j (chunk b j) s)
  pub size : (n : ℕ) (s : P.Store) → n ≤ largest → Whole s → length (P.block n s) ≡ n
  -- the first j messages of a block came since it was submitted: if the length is then met, the block is what is taken
  pub Full : ℕ → Block → P.Store → Type 0
  pub full_none : (b : Block) (s : P.Store) → Whole s → Full 0 b s
  pub full_put : (b : Block) (j : ℕ) (s : P.Store) → T (are_bytes b) → length b ≤ largest → j < messages (length b) → Whole s → Full j b s
      → Full (suc j) b (P.put j (chunk b j) s)
  pub full_met : (b : Block) (s : P.Store) → T (are_bytes b) → length b ≤ largest → Whole s → Full (messages (length b)) b s → P.met (length b) s ≡ true
      → P.block (length b) s ≡ b
  -- the first j messages of a block of n bytes came since the parts were cleared, and no other
  pub Ready : ℕ → ℕ → P.Store → Type 0
  pub ready_none : (n : ℕ) (s : P.Store) → Whole s → P.number s ≡ 0 → Ready 0 n s
  pub ready_put : (b : Block) (j : ℕ) (s : P.Store) → length b ≤ largest → j < messages (length b) → Whole s → Ready j (length b) s
      → Ready (suc j) (length b) (P.put j (chunk b j) s)
  pub ready_met : (n : ℕ) (s : P.Store) → 0 < n → n ≤ largest → Whole s → Ready (messages n) n s → P.met n s ≡ true
  pub number_fresh : P.number P.fresh ≡ 0
  pub number_clear : (s : P.Store) → Whole s → P.number (P.clear s) ≡ 0
