-- `runners::guards::row_test` meets its contract.
use Rattle.std.proofs.Common.{arith}
use Rattle.std.specs.Prelude.{Some, None}
use Rattle.flattening.specs.Flattening.{flatten}
use Rattle.runners.proofs.GuardLaws.{same_signals, row_high}
use Rattle.runners.proofs.guards.row_test.Goals as goal

pub returns-in-Some : goal.returns-in-Some
returns-in-Some c =
    let a = c.args in
    row_high (flatten a.card.now) a.row.now (omega (arith, c.if-row-signals.false, c.signals.ensures.value, same_signals a.card.now)) (Some c.in-Some.signal) c.in-Some.ensures

pub returns-in-None : goal.returns-in-None
returns-in-None c =
    let a = c.args in
    row_high (flatten a.card.now) a.row.now (omega (arith, c.if-row-signals.false, c.signals.ensures.value, same_signals a.card.now)) None c.in-None.ensures
