use Rattle.programs.proofs.AgreeLaws.{both_called}
use Rattle.programs.proofs.agree.both_calls.Goals as goal

pub returns : goal.returns
returns c = λ k eg en.
    let a = c.args in
    both_called a.card.now a.row.now a.order.now a.before k en c.order_of-numbers.result c.order_of-numbers.ensures c.both_rows.result c.row_of-row.result
    (c.row_of-row.ensures.row k eg c.requires.few_signals) _ c.degrees_of.ensures c.both_rows.ensures
