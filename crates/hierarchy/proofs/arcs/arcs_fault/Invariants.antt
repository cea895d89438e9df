use Rattle.std.proofs.Common.{length}
use Rattle.card.specs.Finite.{first_of}
use Rattle.hierarchy.specs.Check.{subnet_fault}
use Rattle.hierarchy.proofs.FirstLaws.{Walked}
use Rattle.hierarchy.proofs.arcs.arcs_fault.Given as goal

abbrev pub invariant-loop-i : goal.invariant-loop-i
invariant-loop-i l = Walked (first_of 0 (length l.card.subnets) (subnet_fault l.card)) (subnet_fault l.card) (length l.card.subnets) l.i
