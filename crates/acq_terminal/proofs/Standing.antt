-- What a Reset request and a confirmation do, what 28T shows while a block is read, and what is sent past its last part.
-- Assumes nothing.
use Rattle.std.proofs.Common.{◌≡◌, ℕ, ◌≤◌, Bool, false, eqb, List, [], replicate, take, Err, refl, arith}
use Rattle.words.specs.Count.{next_number, acquisition_count, same_acquisition}
use Rattle.words.specs.Bytes.{words_of}
use Rattle.words.specs.Link.{short_of, block_store_of}
use Rattle.words.specs.Cutting.{messages_of, part_of}
use Rattle.words.specs.Control.{reset_words}
use Rattle.words.specs.declared.control.Control.TheVariants.{Reset}
use Rattle.words.specs.declared.control.Quality.{Quality}
use Rattle.words.specs.declared.count.AcquisitionCount.{AcquisitionCount}
use Rattle.words.specs.declared.refusal.Refusal.TheVariants.{NoAcceptedReset}
use Rattle.words.proofs.Ranges.{by}
use Rattle.stores.proofs.Messages.{no_part}
use Rattle.acq_terminal.specs.State.{asking_of}
use Rattle.acq_terminal.specs.Place.{place_answer_of, placed_of}
use Rattle.acq_terminal.specs.Receive.{confirmed_in, confirmed_of, judged_of}
use Rattle.acq_terminal.specs.Transmit.{shown_in, shown_of, part_sent, sent_of, moved_in, moved_of}
use Rattle.acq_terminal.specs.declared.state.Placed.{Placed}
use Rattle.acq_terminal.specs.declared.state.Stage.{Stage}
use Rattle.acq_terminal.specs.declared.state.Stage.TheVariants.{Silent, Asking, Ready, Open}
use Rattle.acq_terminal.specs.declared.state.Terminal.{Terminal}

-- ---- after a Reset request

-- no block is placed, whatever its size
pub none_placed : (t : Terminal) (size store : ℕ) → short_of t.link (block_store_of t.link) store ≡ false
    → place_answer_of (asking_of t) size store ≡ Err NoAcceptedReset
unfolding place_answer_of
none_placed t size store e = rw e

-- 28T shows it
pub reset_shown : (t : Terminal) → shown_of (asking_of t) ≡ reset_words
reset_shown t = refl

-- its confirmation makes the next block's count 1
pub first_count : (t : Terminal) (quality : Quality) (size : ℕ)
    → (placed_of quality size (judged_of Reset (asking_of t))).count ≡ acquisition_count 1
unfolding next_number
first_count t quality size = refl

-- ---- a confirmation of another count changes nothing, with Error or without

other_in : (stage : Stage) (t : Terminal) (error : Bool) (count : AcquisitionCount) → same_acquisition count t.count ≡ false
    → confirmed_in stage error count t ≡ t
other_in Silent t error count e = refl
other_in Asking t error count e = refl
other_in Ready t error count e = refl
other_in (Open placed) t error count e = rw e

pub other_count : (t : Terminal) (error : Bool) (count : AcquisitionCount) → same_acquisition count t.count ≡ false
    → confirmed_of error count t ≡ t
other_count t error count e = other_in t.stage t error count e

-- ---- 28T shows the same request before and after a message of data

shown_moved : (stage : Stage) (s t : Terminal) → s.link ≡ t.link → s.count ≡ t.count → shown_in (moved_in stage) s ≡ shown_in stage t
shown_moved Silent s t l c = refl
shown_moved Asking s t l c = refl
shown_moved Ready s t l c = refl
shown_moved (Open placed) s t l c = rw (l, c)

pub request_stays : (t : Terminal) → shown_of (moved_of t) ≡ shown_of t
unfolding moved_of
request_stays t =
    by (eqb t.link.mode 0) (λ e. rw e) (λ e. rw e (shown_moved t.stage _ t refl refl))

-- ---- past the last part, mode 1 sends zeros only

pub zeros_past : (t : Terminal) (placed : Placed) (subaddress asked : ℕ) (store : List ℕ) → t.stage ≡ Open placed → eqb t.link.mode 0 ≡ false
    → messages_of placed.size ≤ placed.part → sent_of t subaddress asked store ≡ replicate asked 0
unfolding sent_of part_sent messages_of words_of
zeros_past t placed subaddress asked store e m h =
    let n : part_of (take placed.size store) placed.part ≡ [] = no_part store placed.size placed.part (omega arith) in
    rw (e, m, n)
