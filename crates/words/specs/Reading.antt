-- Reading the words of Tables 8-3, 8-4, 8-5 and 8-6 (document 01, "Numbers a caller may get back"): the lowest number first.
-- Assumes nothing.
use Rattle.std.specs.Prelude.{ℕ, ◌/◌, ◌%◌, Bool, cond, not, ◌&&◌, List, [], ◌∷◌, Option, Some, None, Result, Ok, Err, length, ◌==◌, nat_lt, slice_index}
use Rattle.words.specs.Control.{quality_of, verified_of, bit_of}
use Rattle.words.specs.Refusal.{numbers_of}
use Rattle.words.specs.declared.refusal.Refusal.{Refusal}
use Rattle.words.specs.declared.refusal.Refusal.TheVariants.{NotTwoWords, ReservedBits, BadReset, OtherLink, Over1024, Over4096, NoReset}
use Rattle.words.specs.declared.count.DistributionCount.{DistributionCount}
use Rattle.words.specs.declared.count.AcquisitionCount.{AcquisitionCount}
use Rattle.words.specs.declared.link.Link.{Link}
use Rattle.words.specs.declared.control.Words.{Words}
use Rattle.words.specs.declared.control.Quality.{Quality}
use Rattle.words.specs.declared.control.Control.{Control}
use Rattle.words.specs.declared.control.Control.TheVariants.{Reset, Block}

-- what two words say before the table is known, or why they are refused
abbrev pub Read : Type 0
Read = Result (Control Bool ℕ) Refusal

-- the refusal r where the test holds, else what follows
abbrev pub refused : Refusal → Bool → Read → Read
refused r test read = cond test (Err r) read

-- SIZE: 12 bits, 0 reads as 4096
unfoldable pub size_of : ℕ → ℕ
size_of first = cond (first % 4096 == 0) 4096 (first % 4096)

-- words without Reset. 9: Mode or SA not the link's
unfoldable pub plain_of : Words → Link → Read
plain_of words link =
    refused OtherLink (not (words.second / 8192 % 2 == link.mode))
    (refused OtherLink (not (words.second / 256 % 32 == link.subaddress))
    (Ok (Block (size_of words.first) (words.second / 32768 == 1) (words.second % 256))))

-- 7: reserved bits not zero. 8: Reset with another field wrong. A well-formed Reset skips 9.
unfoldable pub control_of : Words → Link → Read
control_of words link =
    refused ReservedBits (not (words.first / 4096 == 0))
    (cond (words.second / 16384 % 2 == 1)
    (refused BadReset (not (words.first == 0)) (refused BadReset (not (words.second == 0x4B00)) (Ok Reset)))
    (plain_of words link))

-- 6: not two words
unfoldable pub read_of : List ℕ → Link → Read
read_of words link =
    refused NotTwoWords (not (length words == 2))
    (control_of (record { first = slice_index words 0; second = slice_index words 1 }) link)

-- a size over a limit, on a link whose largest block is that limit
unfoldable pub over_of : ℕ → ℕ → ℕ → Bool
over_of largest limit size = largest == limit && nat_lt limit size

-- of a descriptor or a request: 10, size over 1024 on a 1024 link; 11, over 4096 on a 4096 link; 12, count 0 without Reset
unfoldable pub sized_of : Control Bool ℕ → Link → Read
sized_of Reset link = Ok Reset
sized_of (Block size mark count) link =
    refused Over1024 (over_of link.largest 1024 size)
    (refused Over4096 (over_of link.largest 4096 size)
    (refused NoReset (count == 0)
    (Ok (Block size mark count))))

-- what follows words that were not refused
abbrev pub after : Read → (Control Bool ℕ → Read) → Read
after (Ok control) next = next control
after (Err r) next = Err r

-- the mark and the count as the table has them
abbrev pub in_table : {M C : Type 0} → (Bool → M) → (ℕ → C) → Control Bool ℕ → Control M C
in_table marked counted Reset = Reset
in_table marked counted (Block size mark count) = Block size (marked mark) (counted count)

abbrev pub read_in_table : {M C : Type 0} → (Bool → M) → (ℕ → C) → Read → Result (Control M C) Refusal
read_in_table marked counted (Ok control) = Ok (in_table marked counted control)
read_in_table marked counted (Err r) = Err r

-- Table 8-3, at SA 27R, by the count of its direction
unfoldable pub read_descriptor_of : {C : Type 0} → (ℕ → C) → List ℕ → Link → Result (Control Quality C) Refusal
read_descriptor_of counted words link =
    read_in_table quality_of counted (after (read_of words link) (λ control. sized_of control link))

abbrev pub some_of : {C : Type 0} → Result (Control Quality C) Refusal → Result (Option (Control Quality C)) Refusal
some_of (Ok control) = Ok (Some control)
some_of (Err r) = Err r

unfoldable pub nothing_yet_of : List ℕ → Bool
nothing_yet_of words = length words == 2 && (slice_index words 0 == 0 && slice_index words 1 == 0)

-- Table 8-6, at SA 28T. Two zero words skip all.
unfoldable pub read_request_of : {C : Type 0} → (ℕ → C) → List ℕ → Link → Result (Option (Control Quality C)) Refusal
read_request_of counted words link = cond (nothing_yet_of words) (Ok None) (some_of (read_descriptor_of counted words link))

-- Tables 8-4, at SA 27T, and 8-5, at SA 28R: tested for 6 to 9 only
unfoldable pub read_confirmation_of : {C : Type 0} → (ℕ → C) → List ℕ → Link → Result (Control Bool C) Refusal
read_confirmation_of counted words link = read_in_table (λ mark. mark) counted (read_of words link)

-- ---- each answer as the paper's number, 0 for accepted, and its values

-- size, QoS or Error, and count, all 0 in a Reset
abbrev pub control_values : {M C : Type 0} → (M → ℕ) → (C → ℕ) → Control M C → List ℕ
control_values marked counted Reset = 0 ∷ 0 ∷ 0 ∷ []
control_values marked counted (Block size mark count) = size ∷ marked mark ∷ counted count ∷ []

abbrev pub qos_of : Quality → ℕ
qos_of quality = bit_of (verified_of quality)

abbrev pub descriptor_numbers : Result (Control Quality DistributionCount) Refusal → List ℕ
descriptor_numbers answer = numbers_of (control_values qos_of (λ (c : DistributionCount). c.0)) answer

-- two zero words have none
abbrev pub request_values : Option (Control Quality AcquisitionCount) → List ℕ
request_values None = []
request_values (Some control) = control_values qos_of (λ (c : AcquisitionCount). c.0) control

abbrev pub request_numbers : Result (Option (Control Quality AcquisitionCount)) Refusal → List ℕ
request_numbers answer = numbers_of request_values answer

abbrev pub distribution_confirmation_numbers : Result (Control Bool DistributionCount) Refusal → List ℕ
distribution_confirmation_numbers answer = numbers_of (control_values bit_of (λ (c : DistributionCount). c.0)) answer

abbrev pub acquisition_confirmation_numbers : Result (Control Bool AcquisitionCount) Refusal → List ℕ
acquisition_confirmation_numbers answer = numbers_of (control_values bit_of (λ (c : AcquisitionCount). c.0)) answer
