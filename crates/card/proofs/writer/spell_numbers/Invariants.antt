-- The loop goes through the card's fields as the grammar has them; see proofs/WriteTurn.antt for a turn of it.
use Rattle.card.proofs.WriteTurn.{Behind}
use Rattle.card.proofs.writer.spell_numbers.Given as goal

abbrev pub invariant-loop-n : goal.invariant-loop-n
invariant-loop-n l = Behind l.numbers l.l l.at l.n l.bytes
