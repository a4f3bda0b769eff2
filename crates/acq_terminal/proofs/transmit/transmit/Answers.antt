use Rattle.std.proofs.Common.{sym, ◌∙◌, arith}
use Rattle.acq_terminal.proofs.Sending.{few}
use Rattle.acq_terminal.proofs.transmit.transmit.Goals as goal

pub put_data-requires : goal.put_data-requires
put_data-requires c =
    let a = c.args in
    let f = few a.t.link a.subaddress a.asked (sym c.answer.ensures ∙ c.in_default.is) in
    omega (arith, f, c.if-out-lt32.false)
