-- The set has the subnets that the first i entries name.
use Rattle.std.proofs.Common.{◌≤◌, length}
use Rattle.runners.proofs.OrderLaws.{Gathered}
use Rattle.runners.proofs.order.each_once.Given as goal

abbrev pub invariant-loop-s : goal.invariant-loop-s
invariant-loop-s l = record { in_order : l.s-index ≤ length l.order; gathered : Gathered l.order l.subnets l.s-index l.set }
