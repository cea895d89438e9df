use Rattle.std.proofs.Common.{arith}
use Rattle.net_runner.proofs.SliceLaws.{copied_more}
use Rattle.net_runner.proofs.lending.put.Goals as goal

pub loop-i-preserved : goal.loop-i-preserved
loop-i-preserved g c =
    let a = c.args in
    let l = c.loop-i in
    copied_more a.entries.now a.out.now l.i (omega (arith, c.min-size.ensures, c.loop-i-test.true)) (omega (arith, c.min-size.ensures, c.loop-i-test.true)) l.out l.invariant _ c.index-entries-i.is
