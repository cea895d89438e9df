use Rattle.std.proofs.Common.{length, ap, arith}
use Rattle.programs.proofs.LineLaws.{card_done}
use Rattle.programs.proofs.line.refusal_line.Goals as goal

pub returns : goal.returns
returns c =
    card_done c.args.number c.args.value _ _ (rw c.new-line.ensures at c.put_refusal_at.ensures.words)
    (omega (arith, ap length c.new-line.ensures, c.put_refusal_at.ensures.short)) c.push.ensures
