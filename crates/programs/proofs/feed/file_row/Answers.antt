use Rattle.std.proofs.Common.{sym}
use Rattle.programs.proofs.FeedLaws.{file_called}
use Rattle.programs.proofs.feed.file_row.Goals as goal

pub returns : goal.returns
returns c =
    let net = c.args.net.now in
    file_called net (rw c.signals.ensures.value at c.signals.ensures.few) c.args.state c.row.result c.args.bytes.now _
    (c.row_of-row.ensures.row net (sym c.signals.ensures.value) c.signals.ensures.few) _ c.degrees_of.ensures c.row.ensures
