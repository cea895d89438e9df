use Rattle.std.proofs.Common.{◌∷◌, arith}
use Rattle.card.specs.Text.{decimal}
use Rattle.programs.specs.Lines.{longest}
use Rattle.programs.proofs.LineLaws.{appended_few, decimal_long, value_words_is}
use Rattle.programs.proofs.line.put_refusal_at.Goals as goal

pub returns : goal.returns
returns c = record {
  words = value_words_is c.args.number c.args.value longest c.args.line.now _ _ c.put_refusal.ensures.words c.put_number.ensures;
  short = omega (
    arith,
    c.put_refusal.ensures.short,
    appended_few longest c.put_refusal.new.line (32 ∷ decimal c.args.value) _ c.put_number.ensures,
    decimal_long 19 c.args.value (omega arith),
  );
}
