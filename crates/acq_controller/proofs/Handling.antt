-- What a Reset leaves to take, when a block is held, how a confirmation is repeated, and the messages of a transfer that goes well.
-- Assumes nothing.
use Rattle.std.proofs.Common.{◌≡◌, ℕ, ◌+◌, ◌≤◌, min, eqb, true, false, List, length, arith}
use Rattle.words.specs.Count.{acquisition_count, same_acquisition}
use Rattle.words.specs.Link.{short_of, block_store_of}
use Rattle.words.specs.Cutting as Cutting
use Rattle.words.specs.Reading.{read_request_of}
use Rattle.words.specs.Refusal.{refuse}
use Rattle.words.specs.declared.refusal.Refusal.TheVariants.{NothingToTake}
use Rattle.words.specs.declared.link.Link.{Link}
use Rattle.words.specs.declared.status.Outcome.{Outcome}
use Rattle.words.proofs.Ranges.{by}
use Rattle.acq_controller.specs.State.{reset_seen, held_of, failed_of}
use Rattle.acq_controller.specs.Request.{lost_of, passed_of, requested_of}
use Rattle.acq_controller.specs.Data.{fetched_of, is_reset, same_words, checked_of, fetching_of, checking_of}
use Rattle.acq_controller.specs.Events.{take_of, taken_of}
use Rattle.acq_controller.specs.Asked.{words_asked}
use Rattle.acq_controller.specs.Report.{messages_of}
use Rattle.acq_controller.specs.declared.state.Block.{Block}
use Rattle.acq_controller.specs.declared.state.Attempt.{Attempt}
use Rattle.acq_controller.specs.declared.state.Handled.TheVariants.{Held, Taken, Failed}
use Rattle.acq_controller.specs.declared.state.Phase.TheVariants.{Idle}
use Rattle.acq_controller.specs.declared.state.Controller.{Controller}
use Rattle.acq_controller.specs.declared.data.Ending.{Ending}
use Rattle.acq_controller.proofs.Listed.{listed}

-- after a Reset there is nothing to take
pub nothing_left : (c : Controller) (hand buffer : ℕ) → short_of c.link (block_store_of c.link) hand ≡ false
    → take_of (reset_seen c) hand buffer ≡ refuse NothingToTake (reset_seen c)
unfolding take_of
nothing_left c hand buffer e = rw e

-- ---- while a block is in hand, no request begins another

pub none_begun : (c : Controller) (attempt : Attempt) (block : Block) → c.handled ≡ Held block
    → (requested_of attempt c).state ≡ passed_of c
unfolding requested_of
none_begun c attempt block e =
    by c.seen (λ s. rw (s, e) (by (same_acquisition attempt.block.count block.count) (λ q. rw q) (λ q. rw q))) (λ s. rw s)

-- ---- the second read holds a block exactly where it shows the same words

pub equal_held : (link : Link) (attempt : Attempt) (outcome : Outcome) (words : List ℕ) → lost_of outcome (length words) 2 ≡ false
    → is_reset (read_request_of acquisition_count words link) ≡ false → same_words attempt.request words ≡ true
    → checked_of link attempt outcome words ≡ Ending.Held
unfolding checked_of
equal_held link attempt outcome words l r e = rw (l, r, e)

pub unequal_failed : (link : Link) (attempt : Attempt) (outcome : Outcome) (words : List ℕ)
    → is_reset (read_request_of acquisition_count words link) ≡ false → same_words attempt.request words ≡ false
    → checked_of link attempt outcome words ≡ Ending.Failed
unfolding checked_of
unequal_failed link attempt outcome words r e =
    by (lost_of outcome (length words) 2) (λ l. rw l) (λ l. rw (l, r, e))

pub lost_failed : (link : Link) (attempt : Attempt) (outcome : Outcome) (words : List ℕ) → lost_of outcome (length words) 2 ≡ true
    → checked_of link attempt outcome words ≡ Ending.Failed
unfolding checked_of
lost_failed link attempt outcome words l = rw l

-- ---- a confirmation is repeated as first sent

pub taken_again : (c d : Controller) (attempt : Attempt) (block : Block) → d.phase ≡ Idle → c.link ≡ d.link → c.seen ≡ true
    → c.handled ≡ Taken block → same_acquisition attempt.block.count block.count ≡ true
    → words_asked (requested_of attempt c).state ≡ words_asked (taken_of block d)
unfolding requested_of
taken_again c d attempt block i l s h q = rw (s, h, q, i, l)

pub failed_again : (c d : Controller) (attempt : Attempt) (block : Block) (gone : ℕ) → eqb d.link.mode 0 ≡ false → c.link ≡ d.link
    → c.seen ≡ true → c.handled ≡ Failed block → same_acquisition attempt.block.count block.count ≡ true
    → words_asked (requested_of attempt c).state ≡ words_asked (failed_of block gone d)
unfolding requested_of
failed_again c d attempt block gone m l s h q = rw (s, h, q, m, l)

-- ---- the messages of a block that is taken at once

first_confirmed : (c : Controller) (block : Block) (gone : ℕ) → messages_of (taken_of block (held_of block gone c)) ≡ min (gone + 1) 65535
unfolding messages_of
first_confirmed c block gone = rw (listed (taken_of block (held_of block gone c)))

pub verified_count : (c : Controller) (attempt : Attempt) (outcome : Outcome) (words : List ℕ)
    → checked_of c.link attempt outcome words ≡ Ending.Held → Cutting.messages_of attempt.block.size ≤ 64
    → messages_of (taken_of attempt.block (checking_of c attempt outcome words)) ≡ Cutting.messages_of attempt.block.size + 3
unfolding checking_of
verified_count c attempt outcome words e h =
    rw (e, first_confirmed c attempt.block (min (Cutting.messages_of attempt.block.size + 2) 65535)) (omega arith)

pub best_effort_count : (c : Controller) (attempt : Attempt) (outcome : Outcome) (came : ℕ)
    → fetched_of attempt outcome came ≡ Ending.Held → attempt.part + 1 ≡ Cutting.messages_of attempt.block.size
    → Cutting.messages_of attempt.block.size ≤ 64
    → messages_of (taken_of attempt.block (fetching_of c attempt outcome came)) ≡ Cutting.messages_of attempt.block.size + 2
unfolding fetching_of
best_effort_count c attempt outcome came e p h =
    rw (e, first_confirmed c attempt.block (min (attempt.part + 2) 65535)) (omega arith)
