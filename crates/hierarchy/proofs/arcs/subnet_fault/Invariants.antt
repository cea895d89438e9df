use Rattle.std.proofs.Common.{◌≡◌, ◌≤◌, suc}
use Rattle.card.specs.Card.{first_transition}
use Rattle.hierarchy.specs.Check.{transition_fault, subnet_fault}
use Rattle.hierarchy.proofs.FirstLaws.{Walked}
use Rattle.hierarchy.proofs.arcs.subnet_fault.Given as goal

abbrev pub invariant-loop-t : goal.invariant-loop-t
invariant-loop-t l = record {
  first : first_transition l.card l.i ≤ l.t-iterator.start;
  last : l.t-iterator.end ≡ first_transition l.card (suc l.i);
  walked : Walked (subnet_fault l.card l.i) (transition_fault l.card l.i) l.t-iterator.end l.t-iterator.start;
}
