use Rattle.blockrun_text.proofs.Pages.{put_more}
use Rattle.blockrun_text.proofs.print.Page.put_each.Goals as goal

pub loop-item-preserved : goal.loop-item-preserved
loop-item-preserved g c =
    put_more g.T.Shown.text c.args.items.now c.loop-item.item-index c.item-item.result _ c.loop-item.self c.put_on.new.page c.loop-item-test.true c.item-item.is c.loop-item.invariant c.put_on.ensures
