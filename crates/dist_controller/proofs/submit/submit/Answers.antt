use Rattle.std.proofs.Common.{length, sym, ◌∙◌, arith}
use Rattle.words.proofs.Ranges.{link_ranges}
use Rattle.dist_controller.proofs.Admitted.{admitted}
use Rattle.dist_controller.proofs.submit.submit.Goals as goal

pub overflow_cast-block : goal.overflow_cast-block
overflow_cast-block c =
    let a = c.args in
    let k = admitted a.c (length a.block.now) (length a.store.now) (sym c.submit_answer.ensures ∙ c.in_default.is) in
    let r = link_ranges a.c.link k.store.configured in
    omega (arith, k.size.most)
