use Rattle.std.proofs.Common.{◌≡◌, ◌++◌, map, take, drop, replicate}
use Rattle.runners.specs.Columns.{transfer_of}
use Rattle.runners.specs.declared.Transfer.TheVariants.{Idle}
use Rattle.net_runner.proofs.lending.transfers_of.Given as goal

abbrev pub invariant-loop-i : goal.invariant-loop-i
invariant-loop-i l = l.all ≡ map transfer_of (take l.i l.codes) ++ drop l.i (replicate 255 Idle)
