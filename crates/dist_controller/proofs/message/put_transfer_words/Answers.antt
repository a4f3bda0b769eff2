use native.Mathlib.Omega.{arith}
use borrow.Author.Tests.{lt-ltb}
use mathlib.Core.Path.{◌∙◌}
use Rattle.stores.specs.Reading.{message_read_of, read_of}
use Rattle.dist_controller.specs.Message.{transfer_words_at}
use Rattle.dist_controller.proofs.Counted.{read_count}
use Rattle.dist_controller.proofs.message.put_transfer_words.Goals as goal

pub returns-then-i-n : goal.returns-then-i-n
unfolding transfer_words_at message_read_of read_of
returns-then-i-n c =
    let a = c.args in
    let r = rw (c.from.ensures, c.from-then-i-n.ensures) at c.read_message.ensures in
    simp (
      lt-ltb _ _ c.if-i-n.true,
      ← c.messages-n.ensures,
      ← c.last-i.ensures,
    )
    (r.0 ∙ read_count _ a.store.now _ _ (omega arith), r.1)
