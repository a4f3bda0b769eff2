-- The block counts (document 01, "Words on the bus"): 1 to 255, then 1 again; 0 belongs to Reset alone, and before 1.
-- Assumes nothing.
use Rattle.std.specs.Prelude.{ℕ, ◌+◌, ◌%◌, Bool, ◌==◌}
use Rattle.words.specs.declared.count.DistributionCount.{DistributionCount}
use Rattle.words.specs.declared.count.AcquisitionCount.{AcquisitionCount}

unfoldable pub next_number : ℕ → ℕ
next_number n = n % 255 + 1

-- a number as the count of one direction, never of the other
abbrev pub distribution_count : ℕ → DistributionCount
distribution_count n = record { 0 = n }

abbrev pub acquisition_count : ℕ → AcquisitionCount
acquisition_count n = record { 0 = n }

abbrev pub next_distribution : DistributionCount → DistributionCount
next_distribution c = distribution_count (next_number c.0)

abbrev pub next_acquisition : AcquisitionCount → AcquisitionCount
next_acquisition c = acquisition_count (next_number c.0)

abbrev pub same_distribution : DistributionCount → DistributionCount → Bool
same_distribution a b = a.0 == b.0

abbrev pub same_acquisition : AcquisitionCount → AcquisitionCount → Bool
same_acquisition a b = a.0 == b.0
