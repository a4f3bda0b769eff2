-- A block is placed, with its request (document 01, "Acquisition", "Numbers a caller may get back").
-- Assumes nothing.
use Rattle.std.specs.Prelude.{ℕ, cond, Some, Ok, Err, List, length}
use Rattle.std.specs.Result.{result_and}
use Rattle.words.specs.Count.{next_acquisition}
use Rattle.words.specs.Link.{short_of, block_store_of}
use Rattle.words.specs.Cutting.{size_answer_of}
use Rattle.words.specs.Refusal.{Stepped, Answer, accept, refuse}
use Rattle.words.specs.declared.refusal.Refusal.TheVariants.{NotReady, NoAcceptedReset, TransferOpen}
use Rattle.words.specs.declared.control.Quality.{Quality}
use Rattle.words.specs.declared.link.Link.{Link}
use Rattle.stores.specs.Copying.{stored_of}
use Rattle.acq_terminal.specs.declared.state.Stage.{Stage}
use Rattle.acq_terminal.specs.declared.state.Stage.TheVariants.{Silent, Asking, Ready, Open}
use Rattle.acq_terminal.specs.declared.state.Fate.TheVariants as Fate
use Rattle.acq_terminal.specs.declared.state.Terminal.{Terminal}

-- 4: while a block is open
abbrev pub room_answer_of : Stage → Answer
room_answer_of Silent = Ok tt
room_answer_of Asking = Ok tt
room_answer_of Ready = Ok tt
room_answer_of (Open placed) = Err TransferOpen

-- 2: with no accepted Reset; 3: a block of 0 bytes or over the link's largest
abbrev pub staged_answer : Stage → Link → ℕ → Answer
staged_answer Silent link size = Err NoAcceptedReset
staged_answer Asking link size = Err NoAcceptedReset
staged_answer Ready link size = result_and (size_answer_of link size) (room_answer_of Ready)
staged_answer (Open placed) link size = result_and (size_answer_of link size) (room_answer_of (Open placed))

-- 1: link not configured, or the block store lent too short
unfoldable pub place_answer_of : Terminal → ℕ → ℕ → Answer
place_answer_of t size store = cond (short_of t.link (block_store_of t.link) store) (Err NotReady) (staged_answer t.stage t.link size)

-- the block takes the next count; mode 1 begins at its first part
abbrev pub placed_of : Quality → ℕ → Terminal → Terminal
placed_of quality size t =
    record {
      link = t.link;
      stage = Open (record { size = size; quality = quality; part = 0 });
      count = next_acquisition t.count;
      fate = Some Fate.Open;
    }

abbrev pub place_in : Answer → Terminal → Quality → ℕ → Stepped Terminal (Unit {0})
place_in (Ok u) t quality size = accept (placed_of quality size t)
place_in (Err r) t quality size = refuse r t

unfoldable pub place_of : Terminal → Quality → List ℕ → ℕ → Stepped Terminal (Unit {0})
place_of t quality block store = place_in (place_answer_of t (length block) store) t quality (length block)

-- the block store: the block, written through the words on the bus; a refusal leaves it as it was
abbrev pub store_in : Answer → List ℕ → List ℕ → List ℕ
store_in (Ok u) block store = stored_of store block
store_in (Err r) block store = store

unfoldable pub store_after : Terminal → List ℕ → List ℕ → List ℕ
store_after t block store = store_in (place_answer_of t (length block) (length store)) block store
