use Rattle.std.proofs.Common.{[], ◌∷◌}
use Rattle.card.specs.Text.{decimal}
use Rattle.programs.specs.Lines.{longest}
use Rattle.card.proofs.TextLaws.{append_twice}
use Rattle.programs.proofs.line.put_number.Goals as goal

pub returns : goal.returns
returns c = append_twice longest c.args.line.now (32 ∷ []) (decimal c.args.n) _ _ c.push.ensures c.push_decimal.ensures
