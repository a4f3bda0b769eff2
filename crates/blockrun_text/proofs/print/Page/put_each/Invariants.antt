use Rattle.std.proofs.Common.{◌≡◌, take}
use Rattle.std.specs.List.{flat_map}
use Rattle.blockrun_text.specs.Pages.{put}
use Rattle.blockrun_text.proofs.print.Page.put_each.Given as goal

abbrev pub invariant-loop-item : goal.invariant-loop-item
invariant-loop-item g l = l.self ≡ put l.fn.self (flat_map g.T.Shown.text (take l.item-index l.items))
