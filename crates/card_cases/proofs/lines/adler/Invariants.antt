use Rattle.std.proofs.Common.{◌<◌}
use Rattle.card_cases.proofs.lines.adler.Given as goal

abbrev pub invariant-loop-byte : goal.invariant-loop-byte
invariant-loop-byte l = (l.low < 65521) × (l.high < 65521)
