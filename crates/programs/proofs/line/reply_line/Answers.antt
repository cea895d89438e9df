use Rattle.std.proofs.Common.{arith}
use Rattle.runners.specs.Calls.{view}
use Rattle.runners.specs.Numbers.{row_outcome}
use Rattle.programs.proofs.LineLaws.{reply_done}
use Rattle.programs.proofs.line.reply_line.Goals as goal

pub returns : goal.returns
returns c =
    reply_done (row_outcome c.args.reply) (view c.args.state.now) c.args.n _ _ _ _ (omega arith) (rw c.new-line.ensures at c.push_decimal.ensures) c.push.ensures
    c.put_reply.ensures.words c.put_reply.ensures.short c.push-2.ensures
