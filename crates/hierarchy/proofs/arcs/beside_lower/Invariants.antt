use Rattle.std.proofs.Common.{◌≡◌, length, not}
use Rattle.card.specs.Card.{arc_at, place_of}
use Rattle.card.specs.Finite.{every}
use Rattle.hierarchy.specs.Conditions.{IsPlace}
use Rattle.hierarchy.specs.Check.{repeats, loop_fits}
use Rattle.hierarchy.proofs.arcs.beside_lower.Given as goal

abbrev pub invariant-loop-lower : goal.invariant-loop-lower
invariant-loop-lower l = record {
  single : l.known.single ≡ every (length l.yielded) (λ h. not (repeats (arc_at l.card l.t h) (arc_at l.card l.t l.j)));
  fits : IsPlace l.card (arc_at l.card l.t l.j).subnet (arc_at l.card l.t l.j).place
      → l.known.fits ≡ every (length l.yielded) (λ h. loop_fits (place_of l.card (arc_at l.card l.t l.j)).capacity (arc_at l.card l.t h) (arc_at l.card l.t l.j));
}
