use Rattle.std.proofs.Common.{◌≡◌}
use Rattle.card.proofs.RowLaws.{Unspent}
use Rattle.card.proofs.rows.adds_up.Given as goal

abbrev pub invariant-loop-row : goal.invariant-loop-row
invariant-loop-row l = Unspent l.rows l.width l.column l.fn.total l.row-iterator.rest.now l.left × (l.row-iterator.size ≡ l.width)
