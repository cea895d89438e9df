use Rattle.card.proofs.RunLaws.{Placing}
use Rattle.card.proofs.rows.Rows.push_transitions.Given as goal

abbrev pub invariant-loop-t : goal.invariant-loop-t
invariant-loop-t l = Placing l.self.transitions.now l.self.arcs.now l.initial.numbers l.fn.from.filled l.fn.first l.numbers l.c.filled l.c.arc l.t
