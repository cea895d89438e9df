use Rattle.std.proofs.Common.{◌≡◌, length}
use Rattle.hierarchy.proofs.ChildLaws.{OrdinalsTo}
use Rattle.hierarchy.proofs.types.Family.of.Given as goal

abbrev pub invariant-loop-j : goal.invariant-loop-j
invariant-loop-j l = (length l.ordinals ≡ 32) × OrdinalsTo l.card l.ordinals l.j
