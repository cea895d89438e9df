use Rattle.std.proofs.Common.{◌+◌, length}
use Rattle.card.specs.Card.{first_place}
use Rattle.flattening.specs.inner.FlatNumbers.{place_position, Fills}
use Rattle.flattening.proofs.tables.put_places.Given as goal

abbrev pub invariant-loop-n : goal.invariant-loop-n
invariant-loop-n l = Fills l.card (place_position 0) (place_position (first_place l.card l.s + length l.yielded)) l.fn.out l.out

abbrev pub invariant-loop-s : goal.invariant-loop-s
invariant-loop-s l = Fills l.card (place_position 0) (place_position (first_place l.card l.s)) l.fn.out l.out
