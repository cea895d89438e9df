use Rattle.std.proofs.Common.{◌≤◌, true}
use Rattle.hierarchy.proofs.WalkLaws.{Below}
use Rattle.hierarchy.proofs.TypeLaws.{interfaced}
use Rattle.hierarchy.proofs.interfaces.interfaces_fault.Given as goal

abbrev pub invariant-loop-i : goal.invariant-loop-i
invariant-loop-i l = (1 ≤ l.i) × Below l.i (interfaced l.card) true
