use Rattle.card.specs.Card.{transition_at}
use Rattle.card.specs.Finite.{first_of}
use Rattle.hierarchy.specs.Check.{arc_fault}
use Rattle.card.specs.Index.{Lists}
use Rattle.hierarchy.proofs.FirstLaws.{Walked}
use Rattle.hierarchy.proofs.arcs.transition_fault.Given as goal

abbrev pub invariant-loop-j : goal.invariant-loop-j
invariant-loop-j l = Lists l.card l.i l.t → Walked (first_of 0 (transition_at l.card l.t).arcs (arc_fault l.card l.i l.t)) (arc_fault l.card l.i l.t) (transition_at l.card l.t).arcs l.j
