-- A row that the subnet lists is held in the tables.
use Rattle.std.proofs.Common.{arith, refl, ap, ◌∙◌}
use Rattle.card.specs.View.{place_in}
use Rattle.card.proofs.ViewLaws.{place_held, place_listed, place_made}
use Rattle.card.proofs.view.CardView.place.Goals as goal

pub slice_bounds-of-end : goal.slice_bounds-of-end
slice_bounds-of-end c =
    let x = c.self in
    let h = place_listed _ _ _ x.invariant x.view_is c.args.s c.args.n _ _ c.subnet.ensures c.if-subnet-n.false refl in
    omega (arith, h.inside)

pub returns-clause-value : goal.returns-clause-value
returns-clause-value c =
    let x = c.self in
    λ m. ap place_in c.of.ensures ∙ place_made _ _ _ _ (omega arith) (place_held _ _ _ x.invariant x.view_is c.args.s c.args.n _ m refl)
