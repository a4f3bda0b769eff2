use lib.ListN.{length-take}
use lib.Seq.{take-length}
use Rattle.words.specs.Bytes.{words_of}
use Rattle.words.specs.Cutting.{part_of}
use Rattle.stores.specs.Reading.{read_of, words_read_of, message_read_of, message_words_read_of}
use Rattle.stores.proofs.Runs.{take_sets}
use Rattle.words.proofs.Bytes.{length_words_of}
use native.Mathlib.Omega.{arith}
use mathlib.Core.Path.{◌≡◌}
use Prim.Native.Nat.{◌*◌}
use lib.ListN.{take, drop}
use Rattle.stores.proofs.copies.carry_message.Goals as goal

pub returns : goal.returns
unfolding message_read_of message_words_read_of read_of words_read_of part_of
returns c =
    let a = c.args in
    let b = a.block.now in
    let all = take-length b in
    let part = part_of b a.k in
    let l = length-take 64 (drop (64 * a.k) b) in
    let n = length_words_of part in
    let count = rw all at c.read_message-n.ensures.0 in
    let words : take c.read_message-n.result c.read_message-n.new.out ≡ words_of part =
    rw (rw all at c.read_message-n.ensures.1) (take_sets _ (words_of part) c.read_message-n.result (omega (arith, count)) (omega (arith, count))) in
    rw words at c.write_message.ensures.1
