-- `runners::work::Work::all_allow` meets its contract.
use Rattle.std.proofs.Common.{rules}
use Rattle.card.specs.Card.{transition_at, arc_at}
use Rattle.card.proofs.RowListLaws.{arcs_yield}
use Rattle.hierarchy.proofs.AllBelow.{all_rows}
use Rattle.flattening.specs.Flattening.{flatten}
use Rattle.runners.specs.Step.{allows}
use Rattle.runners.specs.Columns.{posted}
use Rattle.runners.proofs.work.Work.all_allow.Goals as goal

pub returns : goal.returns
returns c =
    let a = c.args in
    let d = a.card.now in
    λ m. all_rows (transition_at d a.t).arcs (arc_at d a.t) (λ j. allows (flatten d) (posted a.self.now.standing) a.self.now.state.markings (arc_at (flatten d) a.t j)) _ _ c.all.result c.all.ensures.ran
    (arcs_yield d a.t _ c.arcs.ensures.rows)
    (λ x b q k. (search rules, λ j l z. search rules))
