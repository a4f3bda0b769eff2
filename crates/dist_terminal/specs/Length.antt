-- Verified Length, and the question for a size (document 01, "Distribution").
-- Assumes nothing.
use Rattle.std.specs.Prelude.{ℕ, zero, suc, ◌+◌, ◌/◌, Bool, true, cond, not, ◌&&◌, List, [], ◌∷◌, Option, Some, None, Result, Ok, Err, ◌==◌, slice_index}
use Rattle.words.specs.Link.{configured_of}
use Rattle.words.specs.Cutting.{messages_of, message_words_of, size_answer_of}
use Rattle.words.specs.Refusal.{Answer, numbers_of}
use Rattle.words.specs.declared.refusal.Refusal.{Refusal}
use Rattle.words.specs.declared.refusal.Refusal.TheVariants.{NotReady}
use Rattle.stores.specs.Marks.{is_marked_of, marked_of, missing_of}
use Rattle.dist_terminal.specs.declared.state.Marks.{Marks}
use Rattle.dist_terminal.specs.declared.state.Terminal.{Terminal}
use Rattle.dist_terminal.specs.declared.length.Marked.{Marked}

-- place k was last written with the right word count since marks were last cleared
unfoldable pub place_met : Marks → ℕ → ℕ → Bool
place_met marks size k = is_marked_of marks.places (11 + k) && slice_index marks.words k == message_words_of size k

-- each of n places, from place k on
unfoldable pub places_met : Marks → ℕ → ℕ → ℕ → Bool
places_met marks size k zero = true
places_met marks size k (suc n) = place_met marks size k && places_met marks size (suc k) n

-- Verified Length: in mode 0 each needed subaddress; in mode 1 all words received must be exactly the block's words
unfoldable pub length_met : Terminal → ℕ → Bool
length_met t size =
    cond (t.link.mode == 0)
    (places_met t.marks size 0 (messages_of size))
    (t.received == (size + 1) / 2)

-- the number of marked subaddresses, and the lowest one missing of those the size needs; in mode 1 none and none
abbrev pub question_in : Answer → Terminal → ℕ → Result Marked Refusal
question_in (Err r) t size = Err r
question_in (Ok u) t size =
    cond (t.link.mode == 0)
    (Ok (record { marked = marked_of t.marks.places; missing = missing_of t.marks.places (messages_of size) }))
    (Ok (record { marked = 0; missing = None }))

-- 1, 3
unfoldable pub question_of : Terminal → ℕ → Result Marked Refusal
question_of t size = cond (not (configured_of t.link)) (Err NotReady) (question_in (size_answer_of t.link size) t size)

-- 0 where none is missing
abbrev pub missing_number : Option ℕ → ℕ
missing_number None = 0
missing_number (Some subaddress) = subaddress

-- the paper's number, 0 for accepted, and the values
abbrev pub question_numbers : Result Marked Refusal → List ℕ
question_numbers answer = numbers_of (λ (m : Marked). m.marked ∷ missing_number m.missing ∷ []) answer
