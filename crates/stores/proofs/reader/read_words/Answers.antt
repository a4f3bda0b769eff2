use Rattle.std.proofs.Common.{arith, ap, ◌∙◌}
use Rattle.words.specs.Bytes.{words_of}
use Rattle.words.proofs.Bytes.{length_words_of}
use Rattle.stores.specs.Reading.{read_of, words_read_of}
use Rattle.stores.proofs.Runs.{placed}
use Rattle.stores.proofs.reader.read_words.Goals as goal

pub returns : goal.returns
unfolding read_of words_read_of
returns c =
    let a = c.args in
    let whole = c.in-Some.ensures.cases in
    let room = c.in-Some-first_chunk_mut.ensures.cases in
    let n = length_words_of a.part.now in
    let words = c.words_of.ensures ∙ ap words_of whole.same in
    (omega (arith, whole.long, room.enough), rw words (placed a.out.now (words_of a.part.now) 32 (omega (arith, whole.long)) room.enough))
