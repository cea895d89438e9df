use Rattle.card.proofs.RunLaws.{Laying}
use Rattle.card.proofs.rows.Rows.push_subnets.Given as goal

abbrev pub invariant-loop-s : goal.invariant-loop-s
invariant-loop-s l =
    Laying l.self.subnets.now l.self.places.now l.self.transitions.now l.self.arcs.now l.initial.numbers l.fn.n l.numbers l.m l.place l.transition l.arc l.s
