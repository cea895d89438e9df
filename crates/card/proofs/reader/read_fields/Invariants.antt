-- Each turn reads an arc's first fields or one field, and what is left is read as before; see proofs/Turn.antt for a turn.
use Rattle.std.proofs.Common.{◌-◌, length}
use Rattle.card.specs.Tables.{table_size}
use Rattle.card.proofs.Turn.{Left}
use Rattle.card.proofs.reader.read_fields.Given as goal

abbrev pub invariant-loop-h : goal.invariant-loop-h
invariant-loop-h l = Left l.card (length l.initial.numbers) l.l l.at l.n l.numbers

abbrev pub decreases-loop-h : goal.decreases-loop-h
decreases-loop-h l = table_size - l.n
