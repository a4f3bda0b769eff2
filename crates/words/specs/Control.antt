-- Making the two words of Tables 8-3, 8-4, 8-5 and 8-6, which have one layout. Bit 0 is the most significant.
-- Assumes nothing.
use Rattle.std.specs.Prelude.{ℕ, ◌+◌, ◌*◌, ◌%◌, Bool, true, false, List, [], ◌∷◌}
use Rattle.words.specs.declared.count.DistributionCount.{DistributionCount}
use Rattle.words.specs.declared.count.AcquisitionCount.{AcquisitionCount}
use Rattle.words.specs.declared.link.Link.{Link}
use Rattle.words.specs.declared.control.Words.{Words}
use Rattle.words.specs.declared.control.Quality.{Quality}
use Rattle.words.specs.declared.control.Quality.TheVariants.{BestEffort, Verified}

abbrev pub bit_of : Bool → ℕ
bit_of false = 0
bit_of true = 1

-- QoS 1 is Verified Length, 0 is Best Effort
abbrev pub verified_of : Quality → Bool
verified_of BestEffort = false
verified_of Verified = true

abbrev pub quality_of : Bool → Quality
quality_of false = BestEffort
quality_of true = Verified

-- word 1: four zero bits and SIZE (12 bits); word 2: QoS or Error, Reset 0, Mode (a bit each), SA (5 bits), block count (8 bits)
unfoldable pub made_of : Link → ℕ → Bool → ℕ → Words
made_of link size flag count =
    record {
      first = size % 4096;
      second = bit_of flag * 32768 + link.mode % 2 * 8192 + link.subaddress % 32 * 256 + count;
    }

-- a Reset has SIZE, QoS or Error, Mode and count 0, and SA 11
abbrev pub reset_words : Words
reset_words = record { first = 0x0000; second = 0x4B00 }

-- Tables 8-3 and 8-6, of a block that is offered
abbrev pub block_words : Link → ℕ → Quality → ℕ → Words
block_words link size quality count = made_of link size (verified_of quality) count

-- Tables 8-4 and 8-5, of a block that was handled
abbrev pub confirmation_words : Link → ℕ → Bool → ℕ → Words
confirmation_words link size error count = made_of link size error count

-- Table 8-3
abbrev pub descriptor_words : Link → ℕ → Quality → DistributionCount → Words
descriptor_words link size quality count = block_words link size quality count.0

-- Table 8-6
abbrev pub request_words : Link → ℕ → Quality → AcquisitionCount → Words
request_words link size quality count = block_words link size quality count.0

-- Table 8-4
abbrev pub distribution_confirmation_words : Link → ℕ → Bool → DistributionCount → Words
distribution_confirmation_words link size error count = confirmation_words link size error count.0

-- Table 8-5
abbrev pub acquisition_confirmation_words : Link → ℕ → Bool → AcquisitionCount → Words
acquisition_confirmation_words link size error count = confirmation_words link size error count.0

-- the words of a message, as they are sent
abbrev pub list_of : Words → List ℕ
list_of words = words.first ∷ words.second ∷ []
