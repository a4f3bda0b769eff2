-- A data message arrives (document 01, "Distribution").
-- Assumes nothing.
use Rattle.std.specs.Prelude.{ℕ, min, ◌+◌, ◌-◌, ◌*◌, Bool, cond, not, ◌||◌, List, Ok, Err, ◌==◌, nat_lt, length, take, set}
use Rattle.std.proofs.lemmas.List.Edits.{sets}
use Rattle.words.specs.Bytes.{bytes_of}
use Rattle.words.specs.Link.{configured_of, message_store_of}
use Rattle.words.specs.Cutting.{data_answer_of}
use Rattle.words.specs.Refusal.{Answer, accept, refuse}
use Rattle.words.specs.declared.refusal.Refusal.TheVariants.{NotReady}
use Rattle.words.specs.declared.link.Link.{Link}
use Rattle.stores.specs.Marks.{mark_of}
use Rattle.dist_terminal.specs.State.{Step, with_marks}
use Rattle.dist_terminal.specs.declared.state.Marks.{Marks}
use Rattle.dist_terminal.specs.declared.state.Terminal.{Terminal}

-- 1: link not configured, or the message store lent too short
unfoldable pub store_short : Link → ℕ → Bool
store_short link store = not (configured_of link) || nat_lt store (message_store_of link)

-- it marks which of its subaddresses were written and with how many words
abbrev pub marked_with : Marks → ℕ → ℕ → Marks
marked_with marks subaddress n = record { places = mark_of marks.places subaddress; words = set marks.words (subaddress - 11) n }

-- words past the 2048th are not kept and count as too many
abbrev pub most_words : ℕ
most_words = 2048

unfoldable pub received_after : ℕ → ℕ → ℕ
received_after received n = min (received + n) 2049

abbrev pub noted_place : Terminal → ℕ → ℕ → Terminal
noted_place t subaddress n = with_marks (marked_with t.marks subaddress n) t.received t

abbrev pub noted_words : Terminal → ℕ → Terminal
noted_words t n = with_marks t.marks (received_after t.received n) t

-- mode 1 appends
unfoldable pub noted_of : Terminal → ℕ → ℕ → Terminal
noted_of t subaddress n = cond (t.link.mode == 0) (noted_place t subaddress n) (noted_words t n)

-- 19: of 0 or over 32 words, or to a subaddress the link does not use
unfoldable pub answer_of : Terminal → ℕ → ℕ → ℕ → Answer
answer_of t subaddress n store = cond (store_short t.link store) (Err NotReady) (data_answer_of t.link subaddress n)

abbrev pub data_in : Answer → Terminal → ℕ → ℕ → Step
data_in (Err r) t subaddress n = refuse r t
data_in (Ok u) t subaddress n = accept (noted_of t subaddress n)

unfoldable pub data_of : Terminal → ℕ → ℕ → ℕ → Step
data_of t subaddress n store = data_in (answer_of t subaddress n store) t subaddress n

-- a message of n words overwrites the first 2n bytes of its place, or of what comes next in mode 1
unfoldable pub placed_of : Terminal → ℕ → List ℕ → List ℕ → List ℕ
placed_of t subaddress words store =
    cond (t.link.mode == 0)
    (sets store (64 * (subaddress - 11)) (bytes_of words))
    (sets store (2 * t.received) (bytes_of (take (most_words - t.received) words)))

abbrev pub store_in : Answer → Terminal → ℕ → List ℕ → List ℕ → List ℕ
store_in (Err r) t subaddress words store = store
store_in (Ok u) t subaddress words store = placed_of t subaddress words store

unfoldable pub store_after : Terminal → ℕ → List ℕ → List ℕ → List ℕ
store_after t subaddress words store = store_in (answer_of t subaddress (length words) (length store)) t subaddress words store
