use Rattle.card.proofs.TextLaws.{filled_push}
use Rattle.card.proofs.text.Text.push.Goals as goal

pub invariant_of-self : goal.invariant_of-self
invariant_of-self g c = filled_push g.row.N _ _ c.args.byte c.self.invariant c.if-self.true
