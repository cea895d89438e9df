-- The writer refuses no numbers of a view.
use Rattle.card.proofs.ViewLaws.{view_lines, view_spelt, view_unrefused}
use Rattle.card.proofs.view.CardView.encode.Goals as goal

pub unreachable-requires : goal.unreachable-requires
unreachable-requires c =
    let x = c.self in
    view_unrefused _ _ _ x.invariant x.view_is _ (c.in-Err.ensures _ (view_lines _ _ _ x.invariant x.view_is))

pub returns : goal.returns
returns c =
    let x = c.self in
    view_spelt _ _ _ x.invariant x.view_is _ (c.in-Ok.ensures _ (view_lines _ _ _ x.invariant x.view_is))
