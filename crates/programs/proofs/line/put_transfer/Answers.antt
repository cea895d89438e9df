use Rattle.std.proofs.Common.{[], ◌∷◌, arith}
use Rattle.card.specs.Text.{decimal}
use Rattle.programs.specs.Text.{ascii}
use Rattle.programs.specs.Lines.{longest}
use Rattle.programs.proofs.LineLaws.{appended_few, decimal_long}
use Rattle.programs.proofs.line.put_transfer.Goals as goal

pub returns-in-Idle-clause-word : goal.returns-in-Idle-clause-word
unfolding ascii
returns-in-Idle-clause-word c = rw c.in-Idle.is c.extend_from_slice.ensures

pub returns-in-Idle-clause-short : goal.returns-in-Idle-clause-short
returns-in-Idle-clause-short c = omega (arith, appended_few longest c.args.line.now (32 ∷ 45 ∷ []) _ c.extend_from_slice.ensures)

pub returns-in-Carrying-clause-short : goal.returns-in-Carrying-clause-short
returns-in-Carrying-clause-short c =
    let n = c.in-Carrying.progress in
    omega (arith, appended_few longest c.args.line.now (32 ∷ decimal n) _ c.put_number.ensures, decimal_long 4 n (omega arith))
