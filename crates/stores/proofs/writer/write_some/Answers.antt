use Rattle.std.proofs.Common.{arith, ap, ◌∙◌, ◌/◌, ◌*◌, length, take}
use lib.ListN.{length-take}
use Rattle.words.specs.Bytes.{bytes_of}
use Rattle.words.proofs.Bytes.{length_bytes_of}
use Rattle.stores.specs.Writing.{written_of, words_written_of}
use Rattle.stores.proofs.Runs.{placed, take_least}
use Rattle.stores.proofs.writer.write_some.Goals as goal

pub returns : goal.returns
unfolding written_of words_written_of
returns c =
    let a = c.args in
    let room = length a.part.now / 2 in
    let n = c.min-n.result in
    let bytes = c.put_bytes.ensures ∙ ap bytes_of (take_least n room a.words.now (omega (arith, c.min-n.ensures))) in
    let l = length_bytes_of (take room a.words.now) in
    let t = length-take room a.words.now in
    (omega (arith, c.min-n.ensures), rw bytes (placed a.part.now (bytes_of (take room a.words.now)) (2 * n) (omega (arith, c.min-n.ensures)) (omega (arith, c.min-n.ensures))))
