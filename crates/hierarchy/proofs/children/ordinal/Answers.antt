use Rattle.std.proofs.Common.{refl, sym, ◌∙◌, rules, arith}
use Rattle.std.proofs.lemmas.Iterator.{YieldsList-from_range}
use Rattle.std.proofs.lemmas.Iterator.Consumers.{YieldsList-at, YieldsList-from_filter, count_from_yields_List}
use borrow.Author.Tests.{tests}
use Rattle.hierarchy.specs.Conditions.{is_child}
use Rattle.hierarchy.proofs.ChildLaws.{ordinal_filtered}
use Rattle.hierarchy.proofs.children.ordinal.Goals as goal

pub returns : goal.returns
returns c =
    let a = c.args in
    count_from_yields_List _ c.count.result c.count.ensures.ran
    (YieldsList-from_filter _ (is_child a.card.now a.i) (YieldsList-at c.filter.ensures.source (YieldsList-from_range 0 a.j a.j refl (omega arith))) c.filter.ensures.closure (λ x b q k. search (rules, tests)))
    ∙ sym (ordinal_filtered a.card.now a.i a.j)
