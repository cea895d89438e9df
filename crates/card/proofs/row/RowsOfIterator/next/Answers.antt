use Rattle.std.proofs.Common.{rules}
use Rattle.card.proofs.RowListLaws.{rows_none, rows_more}
use Rattle.card.proofs.row.RowsOfIterator.next.Goals as goal

pub returns-in_err-row-clause-steps : goal.returns-in_err-row-clause-steps
returns-in_err-row-clause-steps g c =
    let e = rows_none g.R.Row.FIELDS g.R.Row.made c.self.inside.numbers.now (search rules) in
    search (rules, e)

pub returns-clause-steps : goal.returns-clause-steps
returns-clause-steps g c =
    let e = rows_more g.R.Row.FIELDS g.R.Row.made c.self.inside.numbers.now g.met.R.Row.some (search rules) in
    search (rules, e)

pub returns-clause-goes : goal.returns-clause-goes
returns-clause-goes g c =
    let e = rows_more g.R.Row.FIELDS g.R.Row.made c.self.inside.numbers.now g.met.R.Row.some (search rules) in
    search (rules, e)
