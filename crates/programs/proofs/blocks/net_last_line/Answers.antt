-- `programs::blocks::net_last_line` meets its contract.
use borrow.Author.Tests.{both_ways}
use Rattle.programs.specs.Feeds.{file_call}
use Rattle.programs.specs.Runs.{progress_in}
use Rattle.programs.proofs.BlockLaws.{last_none, last_row}
use Rattle.programs.proofs.blocks.net_last_line.Goals as goal

pub returns-then-is_empty : goal.returns-then-is_empty
returns-then-is_empty c = λ j i. last_none (file_call j) (progress_in c.args.progress.now) _ (c.is_empty.ensures.0 c.if-is_empty.true) c.new.ensures

pub returns : goal.returns
returns c = λ j i.
    last_row (file_call j) (progress_in c.args.progress.now) c.net_file_row-answer.result _ (λ e. both_ways c.is_empty.result c.if-is_empty.false (c.is_empty.ensures.1 e))
    (rw c.as_slice.ensures.bytes at c.net_file_row-answer.ensures j i) c.reply_line.ensures
