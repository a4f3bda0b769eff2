-- A block is submitted (document 01, "Distribution", "Numbers a caller may get back").
-- Assumes nothing.
use Rattle.std.specs.Prelude.{ℕ, ◌+◌, Bool, cond, not, ◌||◌, Some, Ok, Err, List, leb, ltb, length}
use Rattle.words.specs.Count.{next_distribution}
use Rattle.words.specs.Link.{configured_of, block_store_of}
use Rattle.words.specs.Cutting.{size_answer_of}
use Rattle.words.specs.Refusal.{Stepped, Answer, accept, refuse}
use Rattle.words.specs.declared.refusal.Refusal.TheVariants.{NotReady, NoAcceptedReset, TransferOpen, TransfersSpent}
use Rattle.words.specs.declared.control.Quality.{Quality}
use Rattle.words.specs.declared.link.Link.{Link}
use Rattle.stores.specs.Copying.{stored_of}
use Rattle.dist_controller.specs.State.{is_open, with_standing, with_transfer}
use Rattle.dist_controller.specs.declared.state.Phase.TheVariants.{Sending}
use Rattle.dist_controller.specs.declared.state.Fate.TheVariants as Fate
use Rattle.dist_controller.specs.declared.state.Controller.{Controller}

-- 1: link not configured, or the block store lent too short
unfoldable pub short_of : Link → ℕ → Bool
short_of link store = not (configured_of link) || ltb store (block_store_of link)

-- after so many started transfers since the last confirmed block or accepted Reset
abbrev pub limit : ℕ
limit = 254

-- 4: while a transfer is open; 5: 254 transfers spent
unfoldable pub room_answer_of : Controller → Answer
room_answer_of c = cond (is_open c.phase) (Err TransferOpen) (cond (leb limit c.standing.spent) (Err TransfersSpent) (Ok tt))

-- what 3 answered, and else what follows
abbrev pub then_answer : Answer → Answer → Answer
then_answer (Err r) rest = Err r
then_answer (Ok u) rest = rest

-- 2: with no accepted Reset; 3: a block of 0 bytes or over the link's largest
unfoldable pub submit_answer_of : Controller → ℕ → ℕ → Answer
submit_answer_of c size store =
    cond (short_of c.link store) (Err NotReady)
    (cond (not c.standing.accepted) (Err NoAcceptedReset)
    (then_answer (size_answer_of c.link size) (room_answer_of c)))

-- one more spent transfer, never over 254
unfoldable pub one_more_spent : ℕ → ℕ
one_more_spent spent = cond (leb limit spent) spent (spent + 1)

-- each started transfer takes the next count, and asks for its first data message at once
unfoldable pub started_of : Quality → ℕ → Controller → Controller
started_of quality size c =
    with_transfer (record { size = size; quality = quality; gone = 1; fate = Some Fate.Open }) Sending
    (with_standing
    (record { accepted = c.standing.accepted; count = next_distribution c.standing.count; spent = one_more_spent c.standing.spent })
    Sending
    c)

abbrev pub submit_in : Answer → Controller → Quality → ℕ → Stepped Controller (Unit {0})
submit_in (Ok u) c quality size = accept (started_of quality size c)
submit_in (Err r) c quality size = refuse r c

unfoldable pub submit_of : Controller → Quality → List ℕ → ℕ → Stepped Controller (Unit {0})
submit_of c quality block store = submit_in (submit_answer_of c (length block) store) c quality (length block)

-- the block store: the block, written through the words on the bus; a refusal leaves it as it was
abbrev pub store_in : Answer → List ℕ → List ℕ → List ℕ
store_in (Ok u) block store = stored_of store block
store_in (Err r) block store = store

unfoldable pub store_after : Controller → List ℕ → List ℕ → List ℕ
store_after c block store = store_in (submit_answer_of c (length block) (length store)) block store
