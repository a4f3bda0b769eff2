use Rattle.std.proofs.Common.{◌≤◌, length, le-ltb}
use Rattle.dist_controller.specs.Message.{words_count, words_after}
use Rattle.dist_controller.proofs.Counted.{front}
use Rattle.dist_controller.proofs.message.words_asked.Goals as goal

pub returns : goal.returns
unfolding words_count words_after
returns c =
    let a = c.args in
    let i = c.in-Some.ensures.cases in
    let e = c.put_words.ensures in
    let h : 32 ≤ length a.out.now = i.enough in
    rw (le-ltb (length a.out.now) 32 h) (e.0, front a.c a.store.now a.out.now _ h (rw i.same at e.1))
