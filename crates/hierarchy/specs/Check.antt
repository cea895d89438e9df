-- Pass two of 'Why a card is turned back': the first fault of a card's hierarchy, and its bit.
use Rattle.std.specs.Prelude.{ℕ, ◌+◌, Bool, not, ◌&&◌, ◌||◌, length, leb, ltb, eqb, Result, Ok, Err}
use Rattle.std.proofs.Math.Option.{Option, none, some}
use Rattle.card.specs.Finite.{every, any, some_unless, first_of, ◌otherwise◌}
use Rattle.card.specs.Card.{Arc, Place, Card, normal, input, output, in_out, draws, fills, subnet_at, place_at, transition_at, arc_at, first_place, first_transition, place_of}
use Rattle.card.specs.Writing.{subnet_bit, transition_bit, arc_bit}
use Rattle.hierarchy.specs.Conditions.{kind_of, is_child, children, child}
use Rattle.hierarchy.specs.declared.CardRefusal.{CardRefusal}
use Rattle.hierarchy.specs.declared.CardFault.{CardFault}
use Rattle.hierarchy.specs.declared.CardFault.TheVariants.{Unseen, Direction, Weight, Repeated, DeadLoop, NoUnit, NoInterface, Unlike}

-- the conditions of specs/Conditions.antt, as tests
unfoldable pub seen : Card → (i : ℕ) → Arc → Bool
seen c i a =
    ltb a.place (subnet_at c a.subnet).places
    && (eqb a.subnet i || is_child c i a.subnet && not (eqb (place_of c a).kind normal))

abbrev pub takes : (kind direction : ℕ) → Bool
takes kind direction =
    (not (eqb direction draws) || (eqb kind output || eqb kind in_out)) && (not (eqb direction fills) || (eqb kind input || eqb kind in_out))

unfoldable pub directed : Card → (i : ℕ) → Arc → Bool
directed c i a = eqb a.subnet i || takes (place_of c a).kind a.direction

unfoldable pub weighted : Card → Arc → Bool
weighted c a = leb 1 a.weight && leb a.weight (place_of c a).capacity

abbrev pub same_place : (a b : Arc) → Bool
same_place a b = eqb a.subnet b.subnet && eqb a.place b.place

abbrev pub repeats : (a b : Arc) → Bool
repeats a b = eqb a.direction b.direction && same_place a b

-- no lower arc of transition t has the place and the direction of arc j
unfoldable pub single : Card → (t j : ℕ) → Bool
single c t j = every j (λ h. not (repeats (arc_at c t h) (arc_at c t j)))

abbrev pub self_loop : (a b : Arc) → Bool
self_loop a b = not (eqb a.direction b.direction) && same_place a b

-- two arcs that are a self-loop at a place of this capacity have their weights within it together
abbrev pub loop_fits : (capacity : ℕ) → (a b : Arc) → Bool
loop_fits capacity a b = not (self_loop a b) || leb (a.weight + b.weight) capacity

-- so has arc j with each lower arc of transition t
unfoldable pub loops_fit : Card → (t j : ℕ) → Bool
loops_fit c t j = every j (λ h. loop_fits (place_of c (arc_at c t j)).capacity (arc_at c t h) (arc_at c t j))

unfoldable pub has_unit : Card → (t : ℕ) → Bool
has_unit c t = any (transition_at c t).arcs (λ j. eqb (place_of c (arc_at c t j)).capacity 1)

unfoldable pub has_interface : Card → (i : ℕ) → Bool
has_interface c i = any (subnet_at c i).places (λ n. not (eqb (kind_of c i n) normal))

abbrev pub alike_places : (p q : Place) → Bool
alike_places p q = eqb p.kind q.kind && eqb p.capacity q.capacity

abbrev pub alike_arcs : Card → (r s : ℕ) → (a b : Arc) → Bool
alike_arcs c r s a b =
    eqb a.direction b.direction && eqb a.weight b.weight && eqb a.place b.place
    && (eqb a.subnet r && eqb b.subnet s || any (length (children c r)) (λ k. eqb a.subnet (child c r k) && eqb b.subnet (child c s k)))

abbrev pub alike_transitions : Card → (r s t u : ℕ) → Bool
alike_transitions c r s t u =
    eqb (transition_at c t).arcs (transition_at c u).arcs && every (transition_at c t).arcs (λ j. alike_arcs c r s (arc_at c t j) (arc_at c u j))

abbrev pub same_type : Card → (r s : ℕ) → Bool
same_type c r s = eqb (subnet_at c r).type (subnet_at c s).type && not (eqb (subnet_at c s).type 0)

unfoldable pub alike : Card → (r s : ℕ) → Bool
alike c r s =
    eqb (subnet_at c r).places (subnet_at c s).places
    && every (subnet_at c r).places (λ n. alike_places (place_at c (first_place c r + n)) (place_at c (first_place c s + n)))
    && eqb (length (children c r)) (length (children c s))
    && every (length (children c r)) (λ k. same_type c (child c r k) (child c s k))
    && eqb (subnet_at c r).transitions (subnet_at c s).transitions
    && every (subnet_at c r).transitions (λ k. alike_transitions c r s (first_transition c r + k) (first_transition c s + k))

-- like each lower subnet of its type
unfoldable pub like_lower : Card → (s : ℕ) → Bool
like_lower c s = every s (λ r. not (same_type c r s) || alike c r s)

-- a fault, and its bit
pub record Found : Type 0 where
  pub why : CardFault
  pub bit : ℕ

abbrev pub fault_unless : (bit : ℕ) → Bool → CardFault → Option Found
fault_unless bit ok why = some_unless ok (record { why = why; bit = bit })

-- what a pass over the code's tables finds
abbrev pub finding_of : Result (Unit {0}) CardRefusal → Option Found
finding_of (Ok u) = none
finding_of (Err e) = some (record { why = e.fault; bit = e.bit })

-- 10 place not seen or not there; 11 direction; 12 weight; 13 repeated arc; 26 (CR 2), straight after 13, a loop that can never start: the arc's
-- first bit, of the second arc of the pair
unfoldable pub arc_fault : Card → (i t j : ℕ) → Option Found
arc_fault c i t j =
    fault_unless (arc_bit c i t j) (seen c i (arc_at c t j)) Unseen
    otherwise fault_unless (arc_bit c i t j) (directed c i (arc_at c t j)) Direction
    otherwise fault_unless (arc_bit c i t j) (weighted c (arc_at c t j)) Weight
    otherwise fault_unless (arc_bit c i t j) (single c t j) Repeated
    otherwise fault_unless (arc_bit c i t j) (loops_fit c t j) DeadLoop

-- 14, after a transition's arcs, no place of capacity 1: the transition's first bit
unfoldable pub transition_fault : Card → (i t : ℕ) → Option Found
transition_fault c i t =
    first_of 0 (transition_at c t).arcs (arc_fault c i t)
    otherwise fault_unless (transition_bit c i t) (has_unit c t) NoUnit

unfoldable pub subnet_fault : Card → (i : ℕ) → Option Found
subnet_fault c i = first_of (first_transition c i) (subnet_at c i).transitions (transition_fault c i)

-- by subnet, transition, arc 10 to 13 and 26, with 14 after a transition's arcs; then by subnet 15, no interface place; then by subnet 16, unlike
-- a lower subnet of its type (both: the subnet's first bit)
unfoldable pub check : Card → Option Found
check c =
    first_of 0 (length c.subnets) (subnet_fault c)
    otherwise first_of 0 (length c.subnets) (λ i. fault_unless (subnet_bit c i) (eqb i 0 || has_interface c i) NoInterface)
    otherwise first_of 0 (length c.subnets) (λ s. fault_unless (subnet_bit c s) (like_lower c s) Unlike)
