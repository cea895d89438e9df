-- `runners::visits::visit_all` meets its contract.
use Rattle.runners.proofs.RoundLaws.{round_to_more}
use Rattle.runners.proofs.visits.visit_all.Goals as goal

pub loop-s-preserved : goal.loop-s-preserved
loop-s-preserved g c =
    let a = c.args in
    let z = c.loop-s in
    round_to_more g.R.Round.round a.card.now a.row.now a.order.now z.s-index a.work.now z.work _ c.loop-s-test.true z.invariant c.visit.ensures
