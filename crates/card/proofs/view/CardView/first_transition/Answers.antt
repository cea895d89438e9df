-- Past the last subnet the number stays, since nothing more is listed.
use Rattle.std.proofs.Common.{arith}
use Rattle.card.proofs.ViewLaws.{first_transition_held}
use Rattle.card.proofs.view.CardView.first_transition.Goals as goal

pub overflow_cast-result-2 : goal.overflow_cast-result-2
overflow_cast-result-2 c = let x = c.self in let h = first_transition_held _ _ _ x.invariant x.view_is c.args.s c.min-k.result c.min-k.ensures in omega (arith, h.0, h.1)

pub returns-clause-value : goal.returns-clause-value
returns-clause-value c = let x = c.self in (first_transition_held _ _ _ x.invariant x.view_is c.args.s c.min-k.result c.min-k.ensures).0

pub returns-clause-few : goal.returns-clause-few
returns-clause-few c = let x = c.self in let h = first_transition_held _ _ _ x.invariant x.view_is c.args.s c.min-k.result c.min-k.ensures in omega (arith, h.0, h.1)
