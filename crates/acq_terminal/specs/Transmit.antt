-- A message is transmitted: 28T, or a part of the block (document 01, "Acquisition").
-- Assumes nothing.
use Rattle.std.specs.Prelude.{ℕ, ◌+◌, ◌-◌, min, Bool, cond, ◌||◌, Ok, Err, List, [], length, replicate, ◌==◌, nat_lt, take}
use Rattle.std.proofs.lemmas.List.Edits.{sets}
use Rattle.words.specs.Bytes.{words_of}
use Rattle.words.specs.Link.{short_of, block_store_of}
use Rattle.words.specs.Cutting.{messages_of, part_of, data_answer_of}
use Rattle.words.specs.Control.{request_words, reset_words, list_of}
use Rattle.words.specs.Refusal.{Stepped, Answer, accept, refuse}
use Rattle.words.specs.declared.refusal.Refusal.TheVariants.{NotReady, NotTwoWords}
use Rattle.words.specs.declared.control.Words.{Words}
use Rattle.words.specs.declared.link.Link.{Link}
use Rattle.acq_terminal.specs.State.{in_stage}
use Rattle.acq_terminal.specs.declared.state.Placed.{Placed}
use Rattle.acq_terminal.specs.declared.state.Stage.{Stage}
use Rattle.acq_terminal.specs.declared.state.Stage.TheVariants.{Silent, Asking, Ready, Open}
use Rattle.acq_terminal.specs.declared.state.Terminal.{Terminal}

-- ---- 28T: the request of the open block, the Reset request that stands, or zero

abbrev pub nothing_yet : Words
nothing_yet = record { first = 0; second = 0 }

abbrev pub shown_in : Stage → Terminal → Words
shown_in Silent t = nothing_yet
shown_in Asking t = reset_words
shown_in Ready t = nothing_yet
shown_in (Open placed) t = request_words t.link placed.size placed.quality t.count

abbrev pub shown_of : Terminal → Words
shown_of t = shown_in t.stage t

-- ---- data: the asked number of words, filled up with zeros

-- mode 0: the part of that subaddress; mode 1: the current part
unfoldable pub part_sent : Link → ℕ → Placed → ℕ
part_sent link subaddress placed = cond (link.mode == 0) (subaddress - 11) placed.part

abbrev pub words_in : Stage → Link → ℕ → List ℕ → List ℕ
words_in Silent link subaddress store = []
words_in Asking link subaddress store = []
words_in Ready link subaddress store = []
words_in (Open placed) link subaddress store = words_of (part_of (take placed.size store) (part_sent link subaddress placed))

unfoldable pub sent_of : Terminal → ℕ → ℕ → List ℕ → List ℕ
sent_of t subaddress asked store = sets (replicate asked 0) 0 (words_in t.stage t.link subaddress store)

-- mode 1 goes on to the part behind, and stops behind the last one
abbrev pub next_part : Placed → Placed
next_part placed = record { size = placed.size; quality = placed.quality; part = min (messages_of placed.size) (placed.part + 1) }

abbrev pub moved_in : Stage → Stage
moved_in Silent = Silent
moved_in Asking = Asking
moved_in Ready = Ready
moved_in (Open placed) = Open (next_part placed)

unfoldable pub moved_of : Terminal → Terminal
moved_of t = cond (t.link.mode == 0) t (in_stage (moved_in t.stage) t.fate t)

-- ---- 6 for 28T, 19 for data

unfoldable pub answer_of : Link → ℕ → ℕ → Answer
answer_of link subaddress asked =
    cond (subaddress == 28) (cond (asked == 2) (Ok tt) (Err NotTwoWords)) (data_answer_of link subaddress asked)

-- 1: link not configured, or the block store or the buffer lent too short
abbrev pub unready : Terminal → ℕ → ℕ → Bool
unready t store out = short_of t.link (block_store_of t.link) store || nat_lt out 32

abbrev pub step_in : Answer → Terminal → ℕ → Stepped Terminal (Unit {0})
step_in (Err r) t subaddress = refuse r t
step_in (Ok u) t subaddress = accept (cond (subaddress == 28) t (moved_of t))

unfoldable pub transmit_of : Terminal → ℕ → ℕ → ℕ → ℕ → Stepped Terminal (Unit {0})
transmit_of t subaddress asked store out =
    cond (unready t store out) (refuse NotReady t) (step_in (answer_of t.link subaddress asked) t subaddress)

-- the buffer: the words at its start; a refusal leaves it as it was
abbrev pub buffer_in : Answer → Terminal → ℕ → ℕ → List ℕ → List ℕ → List ℕ
buffer_in (Err r) t subaddress asked store out = out
buffer_in (Ok u) t subaddress asked store out =
    sets out 0 (cond (subaddress == 28) (list_of (shown_of t)) (sent_of t subaddress asked store))

unfoldable pub buffer_after : Terminal → ℕ → ℕ → List ℕ → List ℕ → List ℕ
buffer_after t subaddress asked store out =
    cond (unready t (length store) (length out)) out (buffer_in (answer_of t.link subaddress asked) t subaddress asked store out)
