-- The parts of alike (specs/Check.antt): what one function each compares of subnets r and s.
use Rattle.std.specs.Prelude.{ℕ, ◌+◌, Bool, ◌&&◌, length, eqb}
use Rattle.card.specs.Finite.{every, any}
use Rattle.card.specs.Card.{Card, subnet_at, place_at, arc_at, first_place, first_transition}
use Rattle.hierarchy.specs.Conditions.{children, child}
use Rattle.hierarchy.specs.Check.{alike_places, alike_arcs, alike_transitions, same_type}

-- place n of both; the k-th child of both; transition k of both
abbrev pub place_alike : Card → (r s n : ℕ) → Bool
place_alike c r s n = alike_places (place_at c (first_place c r + n)) (place_at c (first_place c s + n))

abbrev pub child_alike : Card → (r s k : ℕ) → Bool
child_alike c r s k = same_type c (child c r k) (child c s k)

abbrev pub transition_alike : Card → (r s k : ℕ) → Bool
transition_alike c r s k = alike_transitions c r s (first_transition c r + k) (first_transition c s + k)

-- as many, and each two alike
abbrev pub places_alike : Card → (r s : ℕ) → Bool
places_alike c r s = eqb (subnet_at c r).places (subnet_at c s).places && every (subnet_at c r).places (place_alike c r s)

abbrev pub children_alike : Card → (r s : ℕ) → Bool
children_alike c r s = eqb (length (children c r)) (length (children c s)) && every (length (children c r)) (child_alike c r s)

abbrev pub transitions_alike : Card → (r s : ℕ) → Bool
transitions_alike c r s = eqb (subnet_at c r).transitions (subnet_at c s).transitions && every (subnet_at c r).transitions (transition_alike c r s)

-- arc j of transitions t and u
abbrev pub arc_alike : Card → (r s t u j : ℕ) → Bool
arc_alike c r s t u j = alike_arcs c r s (arc_at c t j) (arc_at c u j)

-- a is the k-th child of r and b that of s, for one k
abbrev pub both_kth : Card → (r s a b : ℕ) → Bool
both_kth c r s a b = any (length (children c r)) (λ k. eqb a (child c r k) && eqb b (child c s k))
