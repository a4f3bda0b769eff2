use Prim.Native.Nat.{min}
use Rattle.words.specs.Bytes.{words_of}
use Rattle.stores.specs.Reading.{read_of, words_read_of, message_read_of, message_words_read_of}
use Rattle.stores.proofs.Messages.{part_is, no_part}
use native.Mathlib.Omega.{arith}
use mathlib.Core.Path.{◌≡◌, refl}
use Prim.Native.Nat.{◌+◌, ◌-◌, ◌*◌}
use lib.ListN.{length}
use Rattle.stores.proofs.reader.read_message.Goals as goal

pub returns-then-held-k : goal.returns-then-held-k
unfolding message_read_of message_words_read_of read_of words_read_of words_of
returns-then-held-k c =
    let a = c.args in
    rw (no_part a.block.now a.size a.k (omega (arith, c.min-held.ensures))) (omega arith, refl)

pub returns : goal.returns
unfolding message_read_of message_words_read_of
returns c =
    let a = c.args in
    let m : 64 * a.k + c.min.result - 64 * a.k ≡ min 64 (min a.size (length a.block.now) - 64 * a.k) =
    rw (← c.min-held.ensures) (omega (arith, c.min.ensures)) in
    rw (part_is a.block.now a.size a.k (64 * a.k + c.min.result - 64 * a.k) m) at c.read_words.ensures
