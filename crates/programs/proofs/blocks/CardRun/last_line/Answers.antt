use borrow.Author.Tests.{both_ways}
use Rattle.programs.specs.Runs.{run_in, call_in}
use Rattle.programs.proofs.BlockLaws.{last_none, last_row}
use Rattle.programs.proofs.blocks.CardRun.last_line.Goals as goal

pub returns-then-is_empty : goal.returns-then-is_empty
returns-then-is_empty c = last_none (call_in c.args.self.now) (run_in c.args.self.now) _ (c.is_empty.ensures.0 c.if-is_empty.true) c.new.ensures

pub returns : goal.returns
returns c =
    last_row (call_in c.args.self.now) (run_in c.args.self.now) c.file_row-answer.result _ (λ e. both_ways c.is_empty.result c.if-is_empty.false (c.is_empty.ensures.1 e))
    (rw c.as_slice.ensures.bytes at c.file_row-answer.ensures) c.reply_line.ensures
