use Rattle.std.proofs.Common.{rules, ◌≡◌, arith, replicate}
use lib.ListN.{get_or}
use Rattle.runners.specs.Columns.{transfer_of}
use Rattle.runners.specs.declared.Transfer.TheVariants.{Idle}
use Rattle.net_runner.proofs.SliceLaws.{made_more}
use Rattle.net_runner.proofs.lending.transfers_of.Goals as goal

pub loop-i-preserved : goal.loop-i-preserved
loop-i-preserved c =
    let a = c.args in
    let l = c.loop-i in
    let q : c.from.result ≡ transfer_of (get_or a.codes.now l.i 0) = search rules in
    made_more transfer_of 0 a.codes.now (replicate 255 Idle) l.i (omega (arith, c.min-size.ensures, c.loop-i-test.true)) (omega (arith, c.min-size.ensures, c.loop-i-test.true)) l.all l.invariant _ q
