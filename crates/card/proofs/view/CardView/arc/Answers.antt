-- An arc that the transition lists is held in the tables.
use Rattle.std.proofs.Common.{arith, refl, ap, ◌∙◌}
use Rattle.card.specs.View.{arc_in}
use Rattle.card.proofs.ViewLaws.{arc_held, arc_listed, arc_made}
use Rattle.card.proofs.view.CardView.arc.Goals as goal

pub slice_bounds-of-end : goal.slice_bounds-of-end
slice_bounds-of-end c =
    let x = c.self in
    let h = arc_listed _ _ _ x.invariant x.view_is c.args.t c.args.j _ _ c.transition.ensures c.if-transition-j.false refl in
    omega (arith, h.inside)

pub returns-clause-value : goal.returns-clause-value
returns-clause-value c =
    let x = c.self in
    λ m. ap arc_in c.of.ensures ∙ arc_made _ _ _ _ (omega arith) (arc_held _ _ _ x.invariant x.view_is c.args.t c.args.j _ m refl)
