use Rattle.std.proofs.Common.{rules, arith, sym, ◌∙◌}
use Rattle.words.specs.Bytes.{words_of}
use Rattle.words.proofs.Bytes.{length_words_of}
use Rattle.stores.proofs.Runs.{turn, done, sets_all}
use Rattle.stores.proofs.Bytes.{pair_word}
use Rattle.stores.proofs.whole.put_words.Goals as goal

pub loop-i-init : goal.loop-i-init
loop-i-init c =
    let n = length_words_of c.args.bytes.now in
    record { long = search rules; left = sets_all c.args.out.now (words_of c.args.bytes.now) (omega (arith, c.requires)) }

pub loop-i-preserved : goal.loop-i-preserved
loop-i-preserved c =
    let b = c.args.bytes.now in
    let i = c.loop-i.i in
    let n = length_words_of b in
    let word = c.from_be_bytes.ensures ∙ pair_word b i in
    record { long = search rules; left = turn c.loop-i.out (words_of b) i _ (omega (arith, c.loop-i.invariant.long)) word ∙ c.loop-i.invariant.left }

pub returns : goal.returns
returns c =
    let b = c.args.bytes.now in
    let n = length_words_of b in
    sym (done c.loop-i.out (words_of b) c.loop-i.i (omega (arith, c.loop-i.invariant.long))) ∙ c.loop-i.invariant.left
