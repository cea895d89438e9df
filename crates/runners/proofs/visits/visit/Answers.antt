-- `runners::visits::visit` meets its contract.
use Rattle.runners.proofs.SpanLaws.{visit_made}
use Rattle.runners.proofs.visits.visit.Goals as goal

pub returns : goal.returns
returns g c =
    let o = c.transitions_of.ensures in
    visit_made _ c.args.s _ _ c.args.card.now c.args.row.now c.args.work.now _ o.start o.end c.each.ensures
