use Rattle.std.proofs.Common.{rules, arith, sym, ◌∙◌, ◌*◌}
use Rattle.words.specs.Bytes.{bytes_of}
use Rattle.words.proofs.Bytes.{length_bytes_of}
use Rattle.stores.proofs.Runs.{turn_two, done, sets_all}
use Rattle.stores.proofs.Bytes.{high_byte, low_byte}
use Rattle.stores.proofs.whole.put_bytes.Goals as goal

pub loop-i-init : goal.loop-i-init
loop-i-init c =
    let n = length_bytes_of c.args.words.now in
    record { long = search rules; left = sets_all c.args.part.now (bytes_of c.args.words.now) (omega (arith, c.requires)) }

pub loop-i-preserved : goal.loop-i-preserved
loop-i-preserved c =
    let w = c.args.words.now in
    let i = c.loop-i.i in
    let n = length_bytes_of w in
    let high = high_byte w _ i (search rules) c.to_be_bytes.ensures in
    let low = low_byte w _ i c.to_be_bytes.ensures in
    record { long = search rules; left = turn_two c.loop-i.part (bytes_of w) i _ _ (omega arith) high low ∙ c.loop-i.invariant.left }

pub returns : goal.returns
returns c =
    let w = c.args.words.now in
    let n = length_bytes_of w in
    sym (done c.loop-i.part (bytes_of w) (2 * c.loop-i.i) (omega arith)) ∙ c.loop-i.invariant.left
