use Rattle.std.proofs.Common.{◌≡◌, ◌++◌, map, take, drop}
use Rattle.runners.specs.Columns.{code_of}
use Rattle.net_runner.proofs.lending.put_codes.Given as goal

abbrev pub invariant-loop-i : goal.invariant-loop-i
invariant-loop-i l = l.out ≡ map code_of (take l.i l.transfers) ++ drop l.i l.initial.out
