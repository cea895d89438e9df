-- A transition of a subnet is counted.
use Rattle.std.proofs.Common.{arith}
use Rattle.card.proofs.ViewLaws.{transition_bit_held}
use Rattle.card.proofs.view.CardView.transition_bit.Goals as goal

pub returns-then-from-t-clause-value : goal.returns-then-from-t-clause-value
returns-then-from-t-clause-value c = let x = c.self in λ i l. absurd (omega (arith, c.from.ensures, c.if-from-t.true, (transition_bit_held _ _ _ x.invariant x.view_is i c.args.t l).0))
