use Rattle.std.proofs.Common.{ap, refl, rules, sym, ◌∙◌, ◌≡◌}
use borrow.Author.Tests.{tests}
use Rattle.std.proofs.lemmas.Iterator.Consumers.{YieldsList-at}
use Rattle.card.specs.Card.{Transition, transition_at, arc_at}
use Rattle.card.proofs.RowListLaws.{arcs_yield}
use Rattle.hierarchy.specs.inner.Likeness.{arc_alike}
use Rattle.hierarchy.proofs.AllBelow.{all_row_pairs, as_many}
use Rattle.hierarchy.proofs.types.Pair.alike_arcs.Goals as goal

pub returns-then-transition : goal.returns-then-transition
returns-then-transition c =
    let a = c.args in
    let p = a.self.now in
    let d = p.card.now in
    let lower : c.transition.result.arcs ≡ (transition_at d a.t).arcs = ap (λ (x : Transition). x.arcs) c.transition.ensures in
    let upper : c.transition-2.result.arcs ≡ (transition_at d a.u).arcs = ap (λ (x : Transition). x.arcs) c.transition-2.ensures in
    let same : (transition_at d a.t).arcs ≡ (transition_at d a.u).arcs = sym lower ∙ c.if-transition.true ∙ upper in
    as_many (transition_at d a.t).arcs (transition_at d a.u).arcs (transition_at d a.t).arcs (transition_at d a.u).arcs (arc_alike d p.lower p.upper a.t a.u) c.all.result refl refl same
    (all_row_pairs (transition_at d a.t).arcs (transition_at d a.u).arcs (arc_at d a.t) (arc_at d a.u) (arc_alike d p.lower p.upper a.t a.u) _ _ c.all.result same
    c.all.ensures.ran
    (YieldsList-at c.zip.ensures.first (arcs_yield d a.t _ c.arcs.ensures.rows))
    (YieldsList-at c.zip.ensures.second (arcs_yield d a.u _ c.arcs-then-transition.ensures.rows))
    (λ x b q k. (search (rules, tests), λ n l y z. search (rules, tests))))
