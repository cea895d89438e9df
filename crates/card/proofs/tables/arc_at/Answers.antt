-- The four numbers from the arc's first on are its fields.
use Rattle.card.proofs.Positions.{arc_from}
use Rattle.card.proofs.tables.arc_at.Goals as goal

pub returns-then-i-numbers : goal.returns-then-i-numbers
returns-then-i-numbers c =
    let a = c.args in
    arc_from a.numbers.now a.row a.j c.arc_start-i.result c.arc_start-i.ensures.0
