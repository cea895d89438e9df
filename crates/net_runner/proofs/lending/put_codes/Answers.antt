use Rattle.std.proofs.Common.{rules, ◌≡◌, arith}
use lib.ListN.{get_or}
use Rattle.runners.specs.Columns.{code_of}
use Rattle.runners.specs.declared.Transfer.TheVariants.{Idle}
use Rattle.net_runner.proofs.SliceLaws.{made_more}
use Rattle.net_runner.proofs.lending.put_codes.Goals as goal

pub loop-i-preserved : goal.loop-i-preserved
loop-i-preserved c =
    let a = c.args in
    let l = c.loop-i in
    let q : c.from.result ≡ code_of (get_or a.transfers.now l.i Idle) = search rules in
    made_more code_of Idle a.transfers.now a.out.now l.i (omega (arith, c.min-size.ensures, c.loop-i-test.true)) (omega (arith, c.min-size.ensures, c.loop-i-test.true)) l.out l.invariant _ q
