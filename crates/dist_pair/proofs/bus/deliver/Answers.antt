use Rattle.std.proofs.Common.{◌≡◌, ◌-◌, take, arith}
use Rattle.stores.proofs.Runs.{take_sets}
use Rattle.dist_controller.specs.Message.{words_asked, words_count, words_after}
use Rattle.dist_controller.proofs.Counted.{words_few}
use Rattle.dist_pair.specs.Bus.{hand_received, places_received, receive_of}
use Rattle.dist_pair.proofs.bus.deliver.Goals as goal

pub slice_bounds-receive-end : goal.slice_bounds-receive-end
unfolding words_count
slice_bounds-receive-end c = omega (arith, c.words_asked-n.ensures.0, words_few c.args.p.controller c.args.store.now)

pub returns : goal.returns
unfolding hand_received places_received receive_of words_count words_after
returns c =
    let a = c.args in
    let ws = words_asked a.p.controller a.store.now in
    let e = c.words_asked-n.ensures in
    let few = words_few a.p.controller a.store.now in
    let words : take (c.words_asked-n.result - 0) c.words_asked-n.new.out ≡ ws =
    rw e.1 (take_sets _ ws (c.words_asked-n.result - 0) (omega (arith, e.0)) (omega (arith, e.0))) in
    let r = rw words at c.receive-s.ensures in
    record { result = simp (c.terminal_stepped.ensures, r.result); bytes = (r.bytes.0, r.bytes.1) }
