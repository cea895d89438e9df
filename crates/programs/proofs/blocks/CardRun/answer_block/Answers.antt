use Rattle.std.proofs.Common.{arith}
use Rattle.programs.proofs.BlockLaws.{turn_tight, turn_over}
use Rattle.programs.proofs.blocks.CardRun.answer_block.Goals as goal

pub returns-then-out-block-clause-turn : goal.returns-then-out-block-clause-turn
returns-then-out-block-clause-turn c =
    turn_tight c.args.self.now c.args.block.now c.args.out.now _ _ c.signals.ensures.value c.row_bytes-size.ensures c.if-out-block.true

pub returns-then-size-len-clause-turn : goal.returns-then-size-len-clause-turn
returns-then-size-len-clause-turn c =
    turn_over c.args.self.now c.args.block.now c.args.out.now _ _ c.signals.ensures.value c.row_bytes-size.ensures
    (omega (arith, c.if-size-len.true, c.len.ensures.value))
