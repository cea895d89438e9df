use Rattle.std.proofs.Common.{true}
use Rattle.hierarchy.specs.Check.{like_lower}
use Rattle.hierarchy.proofs.WalkLaws.{Below}
use Rattle.hierarchy.proofs.types.types_fault.Given as goal

abbrev pub invariant-loop-s : goal.invariant-loop-s
invariant-loop-s l = Below l.s (like_lower l.card) true
