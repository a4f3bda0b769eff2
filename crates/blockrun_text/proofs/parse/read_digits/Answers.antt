use Rattle.std.proofs.Common.{arith, ◌∙◌}
use lib.ListN.{length-take}
use Rattle.blockrun_text.proofs.Reading.{byte_turn}
use Rattle.blockrun_text.proofs.parse.read_digits.Goals as goal

pub loop-i-preserved : goal.loop-i-preserved
loop-i-preserved c =
    let k = length-take c.min-n.result c.args.out.now in
    byte_turn c.args.digits.now c.loop-i.byte-items c.loop-i.i _ (omega arith) c.byte_of.ensures ∙ c.loop-i.invariant
