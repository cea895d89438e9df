-- The check is the conditions: pass two finds no fault where the conditions hold, and nowhere else. Assumes nothing.
use Prim.Native.Nat.{ℕ, suc, ◌+◌, ◌≤◌, ◌<◌}
use mathlib.Core.Path.{◌≡◌}
use mathlib.Core.Logic.Iff
use mathlib.Core.Logic.{◌↔◌, ◌≢◌, ◌⊎◌, inl, inr}
use mathlib.Core.Option.{none}
use native.Mathlib.Omega.{arith}
use lib.ListN.{length}
use Rattle.std.proofs.lemmas.Bool.Decides.{Decides-eqb, Decides-ltb, Decides-not, Decides-and, Decides-or}
use Rattle.std.specs.Bool.{Decides}
use Rattle.card.specs.Finite.{sum_to}
use Rattle.card.proofs.Decides.{Clears, Some, le_is, implies_is, except_is, every_is, any_is, some_unless_is, otherwise_is, otherwise_given, first_of_is}
use Rattle.card.specs.Card.{Arc, Place, Card, normal, input, output, in_out, draws, fills, subnet_at, place_at, transition_at, arc_at, first_place, first_transition, place_of}
use Rattle.hierarchy.specs.Conditions.{kind_of, IsPlace, is_child, Child, children, child, Own, OfKind, Sees, Incident, Weighted, Repeats, SelfLoop, TransitionConditions, HasInterface, AlikePlaces, AlikeArcs, AlikeTransitions, SameType, Alike, Conditions}
use Rattle.hierarchy.specs.Check.{seen, takes, directed, weighted, same_place, repeats, single, self_loop, loops_fit, has_unit, has_interface, alike_places, alike_arcs, alike_transitions, same_type, alike, like_lower, arc_fault, transition_fault, subnet_fault, check}

-- each condition
child_is : (c : Card) (i j : ℕ) → Decides (is_child c i j) (Child c i j)
child_is c i j =
    Iff.trans (Decides-and _ _ (Decides-and _ _ (Decides-not _ (Decides-eqb j i)) (Decides-ltb j (length c.subnets))) (Decides-eqb (subnet_at c j).parent i))
    (λ h. (h.0.0, h.0.1, h.1), λ h. ((h.0, h.1), h.2))

seen_is : (c : Card) (i : ℕ) (a : Arc) → Decides (seen c i a) (Sees c i a.subnet a.place)
unfolding seen
seen_is c i a =
    Iff.trans (Decides-and _ _ (Decides-ltb a.place (subnet_at c a.subnet).places)
    (Decides-or _ _ (Decides-eqb a.subnet i) (Decides-and _ _ (child_is c i a.subnet) (Decides-not _ (Decides-eqb (place_of c a).kind normal)))))
    (λ h. forth h.0 h.1, back)
  where
    Kept : Type 0
    Kept = (a.subnet ≡ i) ⊎ (Child c i a.subnet × ((place_of c a).kind ≢ normal))

    forth : IsPlace c a.subnet a.place → Kept → Sees c i a.subnet a.place
    forth p (inl e) = inl (e, p)
    forth p (inr h) = inr (h.0, (p, h.1))

    back : Sees c i a.subnet a.place → IsPlace c a.subnet a.place × Kept
    back (inl h) = (h.1, inl h.0)
    back (inr h) = (h.1.0, inr (h.0, h.1.1))

weighted_is : (c : Card) (a : Arc) → Decides (weighted c a) (Weighted c a)
unfolding weighted
weighted_is c a =
    Iff.trans (Decides-and _ _ (le_is 1 a.weight) (le_is a.weight (place_of c a).capacity))
    (λ h. record { positive = h.0; fits = h.1 }, λ h. (h.positive, h.fits))

same_place_is : (a b : Arc) → Decides (same_place a b) ((a.subnet ≡ b.subnet) × (a.place ≡ b.place))
same_place_is a b = Decides-and _ _ (Decides-eqb a.subnet b.subnet) (Decides-eqb a.place b.place)

repeats_is : (a b : Arc) → Decides (repeats a b) (Repeats a b)
repeats_is a b =
    Iff.trans (Decides-and _ _ (Decides-eqb a.direction b.direction) (same_place_is a b))
    (λ h. record { direction = h.0; subnet = h.1.0; place = h.1.1 }, λ h. (h.direction, (h.subnet, h.place)))

single_is : (c : Card) (t j : ℕ) → Decides (single c t j) ((i : ℕ) → i < j → ¬ Repeats (arc_at c t i) (arc_at c t j))
unfolding single
single_is c t j = every_is j _ _ (λ i. Decides-not _ (repeats_is (arc_at c t i) (arc_at c t j)))

self_loop_is : (a b : Arc) → Decides (self_loop a b) (SelfLoop a b)
self_loop_is a b =
    Iff.trans (Decides-and _ _ (Decides-not _ (Decides-eqb a.direction b.direction)) (same_place_is a b))
    (λ h. record { directions = h.0; subnet = h.1.0; place = h.1.1 }, λ h. (h.directions, (h.subnet, h.place)))

-- arc j is within the capacity together with each lower arc that is a self-loop with it
abbrev Within : Card → (t j : ℕ) → Type 0
Within c t j = (h : ℕ) → h < j → SelfLoop (arc_at c t h) (arc_at c t j) → (arc_at c t h).weight + (arc_at c t j).weight ≤ (place_of c (arc_at c t j)).capacity

pub loops_fit_is : (c : Card) (t j : ℕ) → Decides (loops_fit c t j) (Within c t j)
unfolding loops_fit
loops_fit_is c t j =
    every_is j _ _ (λ h. implies_is _ _ _ _ (self_loop_is (arc_at c t h) (arc_at c t j)) (le_is ((arc_at c t h).weight + (arc_at c t j).weight) (place_of c (arc_at c t j)).capacity))

unit_is : (c : Card) (t : ℕ) → Decides (has_unit c t) (Some (transition_at c t).arcs (λ j. (place_of c (arc_at c t j)).capacity ≡ 1))
unfolding has_unit
unit_is c t = any_is _ _ _ (λ j. Decides-eqb (place_of c (arc_at c t j)).capacity 1)

interface_is : (c : Card) (i : ℕ) → Decides (has_interface c i) (HasInterface c i)
unfolding has_interface
interface_is c i =
    Iff.trans (any_is _ _ _ (λ n. Decides-not _ (Decides-eqb (kind_of c i n) normal))) (λ h. (h.0, (h.1, h.2)), λ h. (h.0, h.1.0, h.1.1))

-- what a place of a child takes
Takes : (kind direction : ℕ) → Type 0
Takes kind direction = (direction ≡ draws → (kind ≡ output) ⊎ (kind ≡ in_out)) × (direction ≡ fills → (kind ≡ input) ⊎ (kind ≡ in_out))

takes_is : (kind direction : ℕ) → Decides (takes kind direction) (Takes kind direction)
unfolding Takes
takes_is kind direction =
    Decides-and _ _ (implies_is _ _ _ _ (Decides-eqb direction draws) (Decides-or _ _ (Decides-eqb kind output) (Decides-eqb kind in_out)))
    (implies_is _ _ _ _ (Decides-eqb direction fills) (Decides-or _ _ (Decides-eqb kind input) (Decides-eqb kind in_out)))

-- of an arc at a place that is seen
directed_is : (c : Card) (i : ℕ) (a : Arc) → Sees c i a.subnet a.place → Decides (directed c i a) (Incident c i a)
unfolding directed Takes
directed_is c i a h = Iff.trans (except_is _ _ _ _ (Decides-eqb a.subnet i) (takes_is (place_of c a).kind a.direction)) (forth h, back h)
  where
    at : (k : ℕ) → Child c i a.subnet → IsPlace c a.subnet a.place → (place_of c a).kind ≡ k → OfKind c k i a.subnet a.place
    at k s p e = (s, p, e)

    either : (k l : ℕ) → Child c i a.subnet → IsPlace c a.subnet a.place → ((place_of c a).kind ≡ k) ⊎ ((place_of c a).kind ≡ l)
        → Own c i a.subnet a.place ⊎ (OfKind c k i a.subnet a.place ⊎ OfKind c l i a.subnet a.place)
    either k l s p (inl e) = inr (inl (at k s p e))
    either k l s p (inr e) = inr (inr (at l s p e))

    kinds : (k l : ℕ) → ¬ (a.subnet ≡ i) → Own c i a.subnet a.place ⊎ (OfKind c k i a.subnet a.place ⊎ OfKind c l i a.subnet a.place)
        → ((place_of c a).kind ≡ k) ⊎ ((place_of c a).kind ≡ l)
    kinds k l n (inl o) = absurd (n o.0)
    kinds k l n (inr (inl o)) = inl o.2
    kinds k l n (inr (inr o)) = inr o.2

    forth : Sees c i a.subnet a.place → (¬ (a.subnet ≡ i) → Takes (place_of c a).kind a.direction) → Incident c i a
    forth (inl o) f = record { from = λ e. inl o; to = λ e. inl o }
    forth (inr o) f =
        record {
          from = λ e. either output in_out o.0 o.1.0 ((f o.0.0).0 e);
          to = λ e. either input in_out o.0 o.1.0 ((f o.0.0).1 e);
        }

    back : Sees c i a.subnet a.place → Incident c i a → ¬ (a.subnet ≡ i) → Takes (place_of c a).kind a.direction
    back o h n = (λ e. kinds output in_out n (h.from e), λ e. kinds input in_out n (h.to e))

alike_places_is : (p q : Place) → Decides (alike_places p q) (AlikePlaces p q)
alike_places_is p q =
    Iff.trans (Decides-and _ _ (Decides-eqb p.kind q.kind) (Decides-eqb p.capacity q.capacity))
    (λ h. record { kind = h.0; capacity = h.1 }, λ h. (h.kind, h.capacity))

alike_arcs_is : (c : Card) (r s : ℕ) (a b : Arc) → Decides (alike_arcs c r s a b) (AlikeArcs c r s a b)
alike_arcs_is c r s a b =
    Iff.trans (Decides-and _ _ (Decides-and _ _ (Decides-and _ _ (Decides-eqb a.direction b.direction) (Decides-eqb a.weight b.weight)) (Decides-eqb a.place b.place))
    (Decides-or _ _ (Decides-and _ _ (Decides-eqb a.subnet r) (Decides-eqb b.subnet s))
    (any_is (length (children c r)) _ _ (λ k. Decides-and _ _ (Decides-eqb a.subnet (child c r k)) (Decides-eqb b.subnet (child c s k)))))) (
      λ h. record { direction = h.0.0.0; weight = h.0.0.1; place = h.0.1; subnet = h.1 },
      λ h. (((h.direction, h.weight), h.place), h.subnet),
    )

alike_transitions_is : (c : Card) (r s t u : ℕ) → Decides (alike_transitions c r s t u) (AlikeTransitions c r s t u)
alike_transitions_is c r s t u =
    Iff.trans (Decides-and _ _ (Decides-eqb (transition_at c t).arcs (transition_at c u).arcs) (every_is _ _ _ (λ j. alike_arcs_is c r s (arc_at c t j) (arc_at c u j))))
    (λ h. record { arc_count = h.0; arcs = h.1 }, λ h. (h.arc_count, h.arcs))

pub same_type_is : (c : Card) (r s : ℕ) → Decides (same_type c r s) (SameType c r s)
same_type_is c r s =
    Iff.trans (Decides-and _ _ (Decides-eqb (subnet_at c r).type (subnet_at c s).type) (Decides-not _ (Decides-eqb (subnet_at c s).type 0)))
    (λ h. record { type = h.0; typed = h.1 }, λ h. (h.type, h.typed))

pub alike_is : (c : Card) (r s : ℕ) → Decides (alike c r s) (Alike c r s)
unfolding alike
alike_is c r s =
    Iff.trans (Decides-and _ _ (Decides-and _ _ (Decides-and _ _ (Decides-and _ _ (Decides-and _ _
    (Decides-eqb (subnet_at c r).places (subnet_at c s).places)
    (every_is _ _ _ (λ i. alike_places_is (place_at c (first_place c r + i)) (place_at c (first_place c s + i)))))
    (Decides-eqb (length (children c r)) (length (children c s))))
    (every_is _ _ _ (λ k. same_type_is c (child c r k) (child c s k))))
    (Decides-eqb (subnet_at c r).transitions (subnet_at c s).transitions))
    (every_is _ _ _ (λ k. alike_transitions_is c r s (first_transition c r + k) (first_transition c s + k)))) (
      λ h. record { place_count = h.0.0.0.0.0; places = h.0.0.0.0.1; child_count = h.0.0.0.1; children = h.0.0.1; transition_count = h.0.1; transitions = h.1 },
      λ h. (((((h.place_count, h.places), h.child_count), h.children), h.transition_count), h.transitions),
    )

pub like_lower_is : (c : Card) (s : ℕ) → Decides (like_lower c s) ((r : ℕ) → r < s → SameType c r s → Alike c r s)
unfolding like_lower
like_lower_is c s = every_is s _ _ (λ r. implies_is _ _ _ _ (same_type_is c r s) (alike_is c r s))

-- each search
arc_fault_is : (c : Card) (i t j : ℕ)
    → Clears (arc_fault c i t j) (Sees c i (arc_at c t j).subnet (arc_at c t j).place
    × (Incident c i (arc_at c t j) × (Weighted c (arc_at c t j) × (((h : ℕ) → h < j → ¬ Repeats (arc_at c t h) (arc_at c t j)) × Within c t j))))
unfolding arc_fault
arc_fault_is c i t j =
    otherwise_given _ _ _ _ (some_unless_is _ _ _ (seen_is c i (arc_at c t j)))
    (λ seen. otherwise_is _ _ _ _ (some_unless_is _ _ _ (directed_is c i (arc_at c t j) seen))
    (otherwise_is _ _ _ _ (some_unless_is _ _ _ (weighted_is c (arc_at c t j)))
    (otherwise_is _ _ _ _ (some_unless_is _ _ _ (single_is c t j)) (some_unless_is _ _ _ (loops_fit_is c t j)))))

transition_fault_is : (c : Card) (i t : ℕ) → Clears (transition_fault c i t) (TransitionConditions c i t)
unfolding transition_fault
transition_fault_is c i t =
    Iff.trans (otherwise_is _ _ _ _ (first_of_is 0 (transition_at c t).arcs (arc_fault c i t) _ (arc_fault_is c i t)) (some_unless_is _ _ _ (unit_is c t))) (
      λ h. record {
        sees = λ j l. (h.0 j (omega arith) (omega arith)).0;
        incident = λ j l. (h.0 j (omega arith) (omega arith)).1.0;
        weighted = λ j l. (h.0 j (omega arith) (omega arith)).1.1.0;
        single = λ g j l m. (h.0 j (omega arith) (omega arith)).1.1.1.0 g l;
        loops = λ g j l m. (h.0 j (omega arith) (omega arith)).1.1.1.1 g l;
        unit = h.1;
      },
      λ h. (λ j a b. (h.sees j (omega arith), (h.incident j (omega arith), (h.weighted j (omega arith), (λ g l. h.single g j l (omega arith), λ g l. h.loops g j l (omega arith))))), h.unit),
    )

subnet_fault_is : (c : Card) (s : ℕ) → Clears (subnet_fault c s) ((t : ℕ) → first_transition c s ≤ t → t < first_transition c (suc s) → TransitionConditions c s t)
unfolding subnet_fault first_transition sum_to
subnet_fault_is c s = first_of_is (first_transition c s) (subnet_at c s).transitions (transition_fault c s) (TransitionConditions c s) (transition_fault_is c s)

-- THE CHECK FINDS NO FAULT JUST WHERE THE CONDITIONS HOLD
pub check_is : (c : Card) → (check c ≡ none) ↔ Conditions c
unfolding check
check_is c =
    Iff.trans (otherwise_is _ _ _ _ (first_of_is 0 (length c.subnets) (subnet_fault c) _ (subnet_fault_is c))
    (otherwise_is _ _ _ _
    (first_of_is 0 (length c.subnets) _ _ (λ s. some_unless_is _ _ _ (except_is _ _ _ _ (Decides-eqb s 0) (interface_is c s))))
    (first_of_is 0 (length c.subnets) _ _ (λ s. some_unless_is _ _ _ (like_lower_is c s))))) (
      λ h. record {
        transitions = λ s t l. h.0 s (omega arith) (omega arith) t;
        interfaces = λ s l. h.1.0 s (omega arith) (omega arith);
        types = λ r s l m e. h.1.1 s (omega arith) (omega arith) r l e;
      },
      λ h. (λ s a b t. h.transitions s t (omega arith), (λ s a b. h.interfaces s (omega arith), λ s a b r l e. h.types r s l (omega arith) e)),
    )
