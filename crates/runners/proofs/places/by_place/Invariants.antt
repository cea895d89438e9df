-- The column is filled up to the first place of subnet s.
use Rattle.card.specs.Card.{first_place}
use Rattle.runners.specs.inner.Markings.{FilledTo}
use Rattle.runners.proofs.places.by_place.Given as goal

abbrev pub invariant-loop-s : goal.invariant-loop-s
invariant-loop-s g l = FilledTo g.N.PlaceNumber.number l.card (first_place l.card l.s) l.column
