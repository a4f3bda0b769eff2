use Rattle.std.proofs.Common.{replicate, length-take-le, sym, arith}
use Rattle.acq_controller.proofs.Zeros.{few}
use Rattle.acq_controller.proofs.data.put_zeros.Goals as goal

pub slice_bounds-zeros-end : goal.slice_bounds-zeros-end
slice_bounds-zeros-end c =
    let a = c.args.attempt in
    omega (arith, c.from.ensures, c.message_words-n.ensures, few a.block.size a.part)

pub slice_bounds-write_message-end : goal.slice_bounds-write_message-end
slice_bounds-write_message-end c =
    let a = c.args.attempt in
    sym (length-take-le c.from.result (replicate 32 0) (omega (arith, c.from.ensures, c.message_words-n.ensures, few a.block.size a.part)))
