use Rattle.std.proofs.Common.{eqb, rules}
use borrow.Author.Tests.{tests}
use Rattle.card.specs.Card.{transition_at, arc_at, place_of}
use Rattle.card.proofs.RowListLaws.{arcs_yield}
use Rattle.hierarchy.specs.Check.{has_unit}
use Rattle.hierarchy.proofs.AnyBelow.{any_row}
use Rattle.hierarchy.proofs.arcs.has_unit.Goals as goal

pub returns : goal.returns
unfolding has_unit
returns c =
    let d = c.args.card.now in
    let t = c.args.t in
    λ p. any_row (transition_at d t).arcs (arc_at d t) (λ j. eqb (place_of d (arc_at d t j)).capacity 1) _ _ c.any.result c.any.ensures.ran (arcs_yield d t _ c.arcs.ensures.rows)
    (λ x b q k. (search (rules, tests), λ j l z. search (rules, tests)))
