-- What pass two's functions take as given of the arcs that they look at.
use Rattle.std.specs.Prelude.{ℕ, ◌<◌}
use Rattle.card.specs.Card.{Card, transition_at, arc_at}
use Rattle.hierarchy.specs.Conditions.{IsPlace}

-- the places that its arcs name are there
abbrev pub PlacesThere : Card → (t : ℕ) → Type 0
PlacesThere c t = (j : ℕ) → j < (transition_at c t).arcs → IsPlace c (arc_at c t j).subnet (arc_at c t j).place
