-- The header's five numbers are there.
use Rattle.std.proofs.Common.{arith}
use Rattle.card.proofs.ViewLaws.{header_held}
use Rattle.card.proofs.view.CardView.scale.Goals as goal

pub bounds-self-inside-4 : goal.bounds-self-inside-4
bounds-self-inside-4 c = let x = c.self in omega (arith, header_held _ _ _ x.invariant x.view_is)
