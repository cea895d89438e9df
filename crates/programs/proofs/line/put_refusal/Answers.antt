use Rattle.std.proofs.Common.{[], ◌∷◌, arith}
use Rattle.card.specs.Text.{decimal}
use Rattle.programs.specs.Lines.{longest}
use Rattle.programs.proofs.LineLaws.{appended_few, decimal_long, refusal_words_is}
use Rattle.programs.proofs.line.put_refusal.Goals as goal

pub returns : goal.returns
returns c = record {
  words = refusal_words_is c.args.number longest c.args.line.now _ _ c.extend_from_slice.ensures c.put_number.ensures;
  short = omega (
    arith,
    appended_few longest c.args.line.now (110 ∷ 111 ∷ []) _ c.extend_from_slice.ensures,
    appended_few longest c.extend_from_slice.new.self (32 ∷ decimal c.args.number) _ c.put_number.ensures,
    decimal_long 19 c.args.number (omega arith),
  );
}
