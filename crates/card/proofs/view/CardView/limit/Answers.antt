-- The header's five numbers are there.
use Rattle.std.proofs.Common.{arith}
use Rattle.card.proofs.ViewLaws.{header_held}
use Rattle.card.proofs.view.CardView.limit.Goals as goal

pub bounds-self-inside-3 : goal.bounds-self-inside-3
bounds-self-inside-3 c = let x = c.self in omega (arith, header_held _ _ _ x.invariant x.view_is)
