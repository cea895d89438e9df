use Rattle.std.proofs.Common.{refl, arith}
use Rattle.runners.specs.declared.Transfer.TheVariants.{Idle}
use Rattle.programs.specs.Lines.{longest, transfer_word}
use Rattle.programs.proofs.LineLaws.{words_none, word_more}
use Rattle.programs.proofs.line.put_transfers.Goals as goal

pub loop-transfer-init : goal.loop-transfer-init
loop-transfer-init c = record { words = words_none transfer_word c.transfers-transfer-items.result.now longest _ c.requires; short = omega arith }

pub loop-transfer-preserved : goal.loop-transfer-preserved
loop-transfer-preserved c = record {
  words =
      word_more transfer_word c.transfers-transfer-items.result.now longest c.args.line.now _ _ c.loop-transfer.transfer-index Idle _ c.loop-transfer.invariant.words
      c.loop-transfer-test.true refl c.put_transfer.ensures.word;
  short = omega (arith, c.put_transfer.ensures.short);
}
