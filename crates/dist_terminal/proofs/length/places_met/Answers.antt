use Rattle.std.proofs.Common.{rules, ◌∙◌, arith}
use borrow.Author.Tests.{tests}
use Rattle.std.proofs.lemmas.Iterator.{YieldsList-from_range}
use Rattle.std.proofs.lemmas.Iterator.Search.{all_from_yields_List}
use Rattle.dist_terminal.specs.Length.{place_met}
use Rattle.dist_terminal.proofs.Lengths.{each_met}
use Rattle.dist_terminal.proofs.length.places_met.Goals as goal

pub returns : goal.returns
returns c =
    let a = c.args in
    all_from_yields_List (λ x. place_met a.marks a.size x) _ _ c.all.result c.all.ensures.ran (YieldsList-from_range 0 a.n a.n (cc) (omega arith)) (λ x b q k. search (rules, tests))
    ∙ each_met a.marks a.size 0 a.n
