-- the first i numbers are there
use Rattle.console.specs.Cases.{IsNumbers}
use Rattle.console.proofs.cases.numbers_in.Given as goal

abbrev pub invariant-loop-i : goal.invariant-loop-i
invariant-loop-i l = IsNumbers l.bytes l.initial.table l.table l.i
