use Rattle.std.proofs.Common.{◌+◌, ◌++◌, List, ℕ, take, ap, ◌∙◌, refl}
use Rattle.card.proofs.TextLaws.{filled_more, more_taken}
use Rattle.card.proofs.text.Text.extend_from_slice.Goals as goal

pub invariant_of-self : goal.invariant_of-self
invariant_of-self g c =
    filled_more g.row.N _ c.args.bytes.now _ c.self.inside.len _ _ c.self.invariant (ap (λ (k : ℕ). c.self.inside.len + k) c.min.ensures) refl c.copy_from_slice.ensures.after

pub returns : goal.returns
returns g c =
    more_taken g.row.N _ c.args.bytes.now _ c.self.inside.len _ _ c.self.invariant (ap (λ (k : ℕ). c.self.inside.len + k) c.min.ensures) refl c.copy_from_slice.ensures.after
    ∙ ap (λ (xs : List ℕ). take g.row.N (xs ++ c.args.bytes.now)) c.self.view_is
