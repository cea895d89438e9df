-- `programs::blocks::net_answer_block` meets its contract.
use Rattle.programs.specs.Runs.{progress_in}
use Rattle.programs.proofs.BlockLaws.{turn_on, turn_refused}
use Rattle.programs.proofs.blocks.net_answer_block.Goals as goal

pub returns-in-Ok-clause-turn : goal.returns-in-Ok-clause-turn
returns-in-Ok-clause-turn c = λ j e.
    turn_on j _ c.resumed-run.result (progress_in c.args.progress.now) c.args.block.now c.args.out.now _ c.answer_block-length.new.self _ _ (rw c.in-Ok.is at e) c.resumed-run.ensures.net c.resumed-run.ensures.run c.progress.ensures c.answer_block-length.ensures.turn

pub returns-in-Err-clause-turn : goal.returns-in-Err-clause-turn
returns-in-Err-clause-turn c = λ j e. turn_refused j _ _ (progress_in c.args.progress.now) c.args.block.now c.args.out.now (rw c.in-Err.is at e)
