use Rattle.std.proofs.Common.{◌≤◌, length, le-ltb, sym, ◌∙◌}
use Rattle.dist_controller.specs.Message.{buffer_after}
use Rattle.dist_controller.specs.Submit.{short_of}
use Rattle.words.specs.Link as Link
use Rattle.dist_controller.proofs.Counted.{front}
use Rattle.dist_controller.proofs.message.message.Goals as goal

pub returns-clause-words : goal.returns-clause-words
unfolding buffer_after short_of Link.short_of
returns-clause-words c =
    let a = c.args in
    let i = c.in-Some.ensures.cases in
    let h : 32 ≤ length a.out.now = i.enough in
    let s = sym (rw c.block_store.ensures at c.is_short.ensures) ∙ c.if-is_short.false in
    rw (s, le-ltb (length a.out.now) 32 h)
    (front a.c a.store.now a.out.now _ h (rw i.same at c.put_words.ensures.1))
