use Rattle.std.proofs.Common.{arith, ap, ◌∙◌, ◌≡◌, ◌/◌, length, take, min}
use Rattle.words.specs.Bytes.{bytes_of}
use Rattle.words.proofs.Bytes.{length_bytes_of}
use lib.ListN.{length-take}
use Rattle.stores.specs.Writing.{written_of, words_written_of}
use Rattle.stores.proofs.Runs.{placed, take_least}
use Rattle.stores.proofs.writer.write_words.Goals as goal

pub returns : goal.returns
unfolding written_of words_written_of
returns c =
    let a = c.args in
    let room = length a.part.now / 2 in
    let fits = c.min.result in
    let whole = c.in-Some.ensures.cases in
    let place = c.in-Some-first_chunk_mut.ensures.cases in
    let message = whole.same ∙ take_least fits room a.words.now (omega (arith, c.min.ensures)) in
    let n : 32 ≡ min room (length a.words.now) = omega (arith, whole.long, c.min.ensures, length-take fits a.words.now) in
    let bytes = c.bytes_of.ensures ∙ ap bytes_of message in
    let l = length_bytes_of (take room a.words.now) in
    let t = length-take room a.words.now in
    (n, rw bytes (placed a.part.now (bytes_of (take room a.words.now)) 64 (omega arith) place.enough))
