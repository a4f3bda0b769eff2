-- The frame tick (document 01, "The two machines"): a 16-bit number, 0 after 65535.
-- Assumes nothing.
use Rattle.std.specs.Prelude.{ℕ, ◌+◌, ◌-◌, ◌%◌}

unfoldable pub next_tick : ℕ → ℕ
next_tick tick = (tick + 1) % 65536

-- the present tick less an earlier one, on the same circle
unfoldable pub age_of : ℕ → ℕ → ℕ
age_of tick since = (tick + 65536 - since) % 65536
