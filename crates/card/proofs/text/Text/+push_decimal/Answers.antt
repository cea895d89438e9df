use Rattle.std.proofs.Common.{[], ◌∷◌, ◌++◌, ◌%◌, List, ℕ, take, ap, ◌∙◌}
use Rattle.card.specs.Text.{digit}
use Rattle.card.proofs.TextLaws.{append_twice, decimal_one, decimal_more}
use Rattle.card.proofs.text.Text.+push_decimal.Goals as goal
use Rattle.card.proofs.text.Text.+push_decimal.Goals.{then-number-ge10, else-number-ge10}

pub returns : goal.returns
returns g t c = elim c.if-number-ge10.branch [
  | then-number-ge10 w ↦ rw (decimal_more c.args.number w.if-number-ge10.true) (append_twice g.row.N _ _ _ _ _ (w.self-is ∙ w.push_decimal.ensures) c.push.ensures)
  | else-number-ge10 w ↦
      rw (decimal_one c.args.number w.if-number-ge10.false) (c.push.ensures ∙ ap (λ (xs : List ℕ). take g.row.N (xs ++ (digit (c.args.number % 10) ∷ []))) w.self-is)
]
