-- The column is filled up to the subnet's place n.
use Rattle.std.proofs.Common.{◌+◌, length}
use Rattle.card.specs.Card.{first_place}
use Rattle.runners.specs.inner.Markings.{FilledTo}
use Rattle.runners.proofs.places.fill_subnet.Given as goal

abbrev pub invariant-loop-n : goal.invariant-loop-n
invariant-loop-n g l = FilledTo g.N.PlaceNumber.number l.card (first_place l.card l.s + length l.yielded) l.column
