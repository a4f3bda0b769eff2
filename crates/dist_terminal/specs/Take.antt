-- The application takes the block in hand, and 27T is transmitted (document 01, "Distribution").
-- Assumes nothing.
use Rattle.std.specs.Prelude.{ℕ, Bool, false, cond, not, ◌||◌, List, [], ◌∷◌, Option, Some, None, Result, Ok, Err, ◌==◌, nat_lt, length}
use Rattle.std.proofs.lemmas.List.Edits.{sets}
use Rattle.words.specs.Link.{configured_of, block_store_of}
use Rattle.words.specs.Control.{distribution_confirmation_words, list_of}
use Rattle.words.specs.Refusal.{Stepped, Answer, numbers_of, refuse}
use Rattle.words.specs.declared.refusal.Refusal.{Refusal}
use Rattle.words.specs.declared.refusal.Refusal.TheVariants.{NotReady, NotTwoWords, NothingToTake, ShortBuffer}
use Rattle.words.specs.declared.count.DistributionCount.{DistributionCount}
use Rattle.words.specs.declared.link.Link.{Link}
use Rattle.stores.specs.Copying.{copied_of}
use Rattle.dist_terminal.specs.State.{with_hand}
use Rattle.dist_terminal.specs.declared.state.Held.{Held}
use Rattle.dist_terminal.specs.declared.state.Terminal.{Terminal}

-- 1: link not configured, or the hand lent too short
unfoldable pub hand_short : Link → ℕ → Bool
hand_short link hand = not (configured_of link) || nat_lt hand (block_store_of link)

-- taking it delivers it, writes 27T (a copy of the descriptor, Error 0) and empties the hand
abbrev pub delivered_of : ℕ → DistributionCount → Terminal → Terminal
delivered_of size count t = with_hand t.handled None (distribution_confirmation_words t.link size false count) t

-- 16: nothing to take; 17: take buffer shorter than the block
abbrev pub take_in : Option Held → Terminal → ℕ → Stepped Terminal ℕ
take_in None t buffer = refuse NothingToTake t
take_in (Some held) t buffer =
    cond (nat_lt buffer held.size)
    (refuse ShortBuffer t)
    (record { state = delivered_of held.size held.count t; answer = Ok held.size })

unfoldable pub take_of : Terminal → ℕ → ℕ → Stepped Terminal ℕ
take_of t hand buffer = cond (hand_short t.link hand) (refuse NotReady t) (take_in t.hand t buffer)

-- the take buffer: the block at its start; its bytes past the block stay
abbrev pub buffer_in : Option Held → List ℕ → List ℕ → List ℕ
buffer_in None hand buffer = buffer
buffer_in (Some held) hand buffer = cond (nat_lt (length buffer) held.size) buffer (copied_of hand buffer held.size)

unfoldable pub buffer_after : Terminal → List ℕ → List ℕ → List ℕ
buffer_after t hand buffer = cond (hand_short t.link (length hand)) buffer (buffer_in t.hand hand buffer)

-- the paper's number, 0 for accepted, and the size
abbrev pub take_numbers : Result ℕ Refusal → List ℕ
take_numbers answer = numbers_of (λ (size : ℕ). size ∷ []) answer

-- ---- 27T: of it any number of words but two is 6

abbrev pub unread : Terminal → ℕ → Bool
unread t out = not (configured_of t.link) || nat_lt out 2

unfoldable pub transmit_of : Terminal → ℕ → ℕ → Answer
transmit_of t asked out = cond (unread t out) (Err NotReady) (cond (not (asked == 2)) (Err NotTwoWords) (Ok tt))

unfoldable pub shown_after : Terminal → ℕ → List ℕ → List ℕ
shown_after t asked out =
    cond (unread t (length out)) out (cond (not (asked == 2)) out (sets out 0 (list_of t.shown)))
