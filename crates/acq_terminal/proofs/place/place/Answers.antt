use Rattle.std.proofs.Common.{length, sym, ◌∙◌, arith}
use Rattle.words.proofs.Ranges.{link_ranges}
use Rattle.acq_terminal.proofs.Placing.{admitted}
use Rattle.acq_terminal.proofs.place.place.Goals as goal

pub overflow_cast-block : goal.overflow_cast-block
overflow_cast-block c =
    let a = c.args in
    let k = admitted a.t (length a.block.now) (length a.store.now) (sym c.place_answer.ensures ∙ c.in_default.is) in
    let r = link_ranges a.t.link k.configured in
    omega (arith, k.fits.most)
