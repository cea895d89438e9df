use Rattle.std.proofs.Common.{refl, arith}
use Rattle.card.specs.Text.{decimal}
use Rattle.programs.specs.Lines.{longest}
use Rattle.programs.proofs.LineLaws.{words_none, word_more}
use Rattle.programs.proofs.line.put_markings.Goals as goal

pub loop-marking-init : goal.loop-marking-init
loop-marking-init c = record { words = words_none decimal c.markings-marking-items.result.now longest _ c.requires; short = omega arith }

pub loop-marking-preserved : goal.loop-marking-preserved
loop-marking-preserved c = record {
  words =
      word_more decimal c.markings-marking-items.result.now longest c.args.line.now _ _ c.loop-marking.marking-index 0 _ c.loop-marking.invariant.words
      c.loop-marking-test.true refl c.put_marking.ensures.word;
  short = omega (arith, c.put_marking.ensures.short);
}
