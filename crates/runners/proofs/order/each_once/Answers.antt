-- `runners::order::each_once` meets its contract.
use Rattle.std.proofs.Common.{arith}
use Rattle.runners.proofs.OrderLaws.{gathered_start}
use Rattle.runners.proofs.order.each_once.Goals as goal

pub loop-s-init : goal.loop-s-init
loop-s-init c = record { in_order = omega arith; gathered = gathered_start c.args.order.now c.args.subnets }
