use Rattle.std.proofs.Common.{◌<◌}
use Rattle.bench.proofs.rows.sum.Given as goal

abbrev pub invariant-loop-marking : goal.invariant-loop-marking
invariant-loop-marking l = l.n < 4294967291
