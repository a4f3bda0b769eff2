-- A descriptor arrives (document 01, "Distribution", "Numbers a caller may get back").
-- Assumes nothing.
use Rattle.std.specs.Prelude.{ℕ, min, ◌-◌, ◌*◌, Bool, true, false, cond, not, ◌||◌, List, ◌++◌, Option, Some, None, Result, Ok, Err, ◌==◌, nat_lt, length, take, replicate}
use Rattle.std.proofs.lemmas.List.Edits.{sets}
use Rattle.words.specs.Count.{distribution_count, same_distribution}
use Rattle.words.specs.Link.{block_store_of}
use Rattle.words.specs.Control.{distribution_confirmation_words}
use Rattle.words.specs.Reading.{read_descriptor_of}
use Rattle.words.specs.Refusal.{accept, refuse}
use Rattle.words.specs.declared.refusal.Refusal.{Refusal}
use Rattle.words.specs.declared.refusal.Refusal.TheVariants as R
use Rattle.words.specs.declared.count.DistributionCount.{DistributionCount}
use Rattle.words.specs.declared.control.Quality.{Quality}
use Rattle.words.specs.declared.control.Quality.TheVariants.{BestEffort, Verified}
use Rattle.words.specs.declared.control.Control.{Control}
use Rattle.words.specs.declared.control.Control.TheVariants.{Reset, Block}
use Rattle.words.specs.declared.link.Link.{Link}
use Rattle.dist_terminal.specs.State.{Step, cleared_of, with_hand, reset_of}
use Rattle.dist_terminal.specs.Data.{store_short}
use Rattle.dist_terminal.specs.Length.{length_met}
use Rattle.dist_terminal.specs.declared.state.Held.{Held}
use Rattle.dist_terminal.specs.declared.state.Terminal.{Terminal}
use Rattle.dist_terminal.specs.declared.descriptor.Misfit.{Misfit}
use Rattle.dist_terminal.specs.declared.descriptor.Misfit.TheVariants.{NoReset, Again, HandFull, WrongLength}

-- 1: link not configured, or a store lent too short
unfoldable pub short : Link → ℕ → ℕ → Bool
short link store hand = store_short link store || nat_lt hand (block_store_of link)

unfoldable pub unmet_of : Terminal → ℕ → Quality → Bool
unmet_of t size BestEffort = false
unmet_of t size Verified = not (length_met t size)

abbrev pub is_holding : Option Held → Bool
is_holding None = false
is_holding (Some held) = true

-- 12 to 15
abbrev pub refusal_of : Misfit → Refusal
refusal_of NoReset = R.NoReset
refusal_of Again = R.LastHandled
refusal_of HandFull = R.HandFull
refusal_of WrongLength = R.WrongLength

-- 12: no Reset seen yet; 13: count equals last handled; 14: an earlier block is still in hand; 15: Verified Length not met
unfoldable pub judged_of : Terminal → ℕ → Quality → DistributionCount → Result (Unit {0}) Misfit
judged_of t size quality count =
    cond (not t.seen) (Err NoReset)
    (cond (same_distribution count t.handled) (Err Again)
    (cond (is_holding t.hand) (Err HandFull)
    (cond (unmet_of t size quality) (Err WrongLength)
    (Ok tt))))

-- 15 sets last handled and writes the error in 27T
abbrev pub failed_of : ℕ → DistributionCount → Terminal → Terminal
failed_of size count t = with_hand count t.hand (distribution_confirmation_words t.link size true count) (cleared_of t)

-- an accepted block sets last handled and is held in hand, apart from the places
abbrev pub held_of : ℕ → DistributionCount → Terminal → Terminal
held_of size count t = with_hand count (Some (record { size = size; count = count })) t.shown (cleared_of t)

-- 13, 14 and 15 clear the marks
abbrev pub block_step : Result (Unit {0}) Misfit → Terminal → ℕ → DistributionCount → Step
block_step (Err NoReset) t size count = refuse R.NoReset t
block_step (Err Again) t size count = refuse R.LastHandled (cleared_of t)
block_step (Err HandFull) t size count = refuse R.HandFull (cleared_of t)
block_step (Err WrongLength) t size count = refuse R.WrongLength (failed_of size count t)
block_step (Ok u) t size count = accept (held_of size count t)

-- the first bytes that came, zero where nothing came
unfoldable pub first_words : ℕ → ℕ → List ℕ → List ℕ
first_words received size store = take (min size (2 * received)) store ++ replicate (size - 2 * received) 0

-- SIZE bytes as stored: in mode 0 what each place last held, byte by byte, in mode 1 the first that came since marks were cleared
unfoldable pub taken_of : Terminal → ℕ → List ℕ → List ℕ
taken_of t size store = cond (t.link.mode == 0) (take size store) (first_words t.received size store)

abbrev pub block_hand : Result (Unit {0}) Misfit → Terminal → ℕ → List ℕ → List ℕ → List ℕ
block_hand (Err misfit) t size store hand = hand
block_hand (Ok u) t size store hand = sets hand 0 (taken_of t size store)

-- 6 to 12 change nothing; a well-formed Reset skips 9 to 15
abbrev pub descriptor_in : Result (Control Quality DistributionCount) Refusal → Terminal → Step
descriptor_in (Ok Reset) t = accept (reset_of t)
descriptor_in (Ok (Block size quality count)) t = block_step (judged_of t size quality count) t size count
descriptor_in (Err r) t = refuse r t

unfoldable pub descriptor_of : Terminal → List ℕ → ℕ → ℕ → Step
descriptor_of t words store hand =
    cond (short t.link store hand) (refuse R.NotReady t) (descriptor_in (read_descriptor_of distribution_count words t.link) t)

abbrev pub hand_in : Result (Control Quality DistributionCount) Refusal → Terminal → List ℕ → List ℕ → List ℕ
hand_in (Ok Reset) t store hand = hand
hand_in (Ok (Block size quality count)) t store hand = block_hand (judged_of t size quality count) t size store hand
hand_in (Err r) t store hand = hand

-- the lent hand: an accepted block at its start
unfoldable pub hand_after : Terminal → List ℕ → List ℕ → List ℕ → List ℕ
hand_after t words store hand =
    cond (short t.link (length store) (length hand)) hand (hand_in (read_descriptor_of distribution_count words t.link) t store hand)
