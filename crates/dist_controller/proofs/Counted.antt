-- How many words a message has that is read out of the block store.
-- Assumes nothing.
use Prim.Native.Nat.{ℕ, ◌*◌, ◌≤◌}
use mathlib.Core.Path.{◌≡◌}
use mathlib.Core.List.{List}
use native.Mathlib.Omega.{arith}
use lib.ListN.{length, take, drop, length-take}
use Rattle.words.specs.Bytes.{words_of}
use Rattle.words.specs.Cutting.{part_of}
use Rattle.words.proofs.Bytes.{length_words_of}
use Rattle.words.specs.Cutting.{messages_of}
use Rattle.words.proofs.Ranges.{by}
use Rattle.std.proofs.Common.{◌++◌}
use Rattle.std.proofs.lemmas.List.Edits.{sets}
use Rattle.stores.proofs.Runs.{part_back}
use Rattle.stores.specs.Reading.{words_read_of, message_words_read_of}
use lib.Dec.{ltb, lit≤}
use Rattle.dist_controller.specs.Asked.{last_of}
use Rattle.dist_controller.specs.Message.{transfer_words_at, words_in, words_asked}
use Rattle.dist_controller.specs.declared.state.Phase.{Phase}
use Rattle.dist_controller.specs.declared.state.Phase.TheVariants.{Idle, Sending, Waiting, Reading, Resetting, ResetWaiting, ResetReading, CutSending, CutReading, CutResetting}
use Rattle.dist_controller.specs.declared.state.Controller.{Controller}

-- a buffer of 32 words has room for any message
pub read_count : (room : ℕ) (block : List ℕ) (size k : ℕ) → 32 ≤ room → message_words_read_of room block size k ≡ length (words_of (part_of (take size block) k))
unfolding message_words_read_of words_read_of part_of
read_count room block size k h =
    let p = take 64 (drop (64 * k) (take size block)) in
    let l = length-take 64 (drop (64 * k) (take size block)) in
    omega (arith, length_words_of p, l)

-- no message has more words than that
part_few : (block : List ℕ) (k : ℕ) → length (words_of (part_of block k)) ≤ 32
unfolding part_of
part_few block k =
    let l = length-take 64 (drop (64 * k) block) in
    omega (arith, length_words_of (take 64 (drop (64 * k) block)), l)

transfer_few : (c : Controller) (store : List ℕ) (i : ℕ) → length (transfer_words_at c store i) ≤ 32
unfolding transfer_words_at
transfer_few c store i =
    by (ltb i (messages_of c.transfer.size)) (λ e. rw e (part_few (take c.transfer.size store) i)) (λ e.
    by (ltb (messages_of c.transfer.size) i) (λ f. rw (e, f) (lit≤ tt)) (λ f. rw (e, f) (lit≤ tt)))

few_in : (phase : Phase) (c : Controller) (store : List ℕ) → length (words_in phase c store) ≤ 32
few_in Idle c store = lit≤ tt
few_in Sending c store = transfer_few c store (last_of c.transfer.gone)
few_in Waiting c store = lit≤ tt
few_in Reading c store = lit≤ tt
few_in Resetting c store = lit≤ tt
few_in ResetWaiting c store = lit≤ tt
few_in ResetReading c store = lit≤ tt
few_in CutSending c store = transfer_few c store (last_of c.transfer.gone)
few_in CutReading c store = lit≤ tt
few_in CutResetting c store = lit≤ tt

pub words_few : (c : Controller) (store : List ℕ) → length (words_asked c store) ≤ 32
unfolding words_asked
words_few c store = few_in c.phase c store

-- the words stand at the start of the buffer that its first part was lent from
pub front : (c : Controller) (store out ys : List ℕ) → 32 ≤ length out → ys ≡ sets (take 32 out) 0 (words_asked c store)
    → ys ++ drop 32 out ≡ sets out 0 (words_asked c store)
front c store out ys h e = part_back out ys (words_asked c store) 0 32 e h (words_few c store)
