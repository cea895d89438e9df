use Rattle.std.proofs.Common.{◌∷◌, arith}
use Rattle.card.specs.Text.{decimal}
use Rattle.programs.specs.Lines.{longest}
use Rattle.programs.proofs.LineLaws.{appended_few, decimal_long}
use Rattle.programs.proofs.line.put_marking.Goals as goal

pub returns-clause-short : goal.returns-clause-short
returns-clause-short c =
    omega (arith, appended_few longest c.args.line.now (32 ∷ decimal c.args.marking) _ c.put_number.ensures, decimal_long 9 c.args.marking (omega arith))
