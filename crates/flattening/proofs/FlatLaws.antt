-- The flat card of a card that meets the conditions meets them, and flattening it changes nothing. Assumes nothing.
use Prim.Native.Nat.{ℕ, suc, ◌+◌, ◌-◌, ◌≤◌, ◌<◌}
use mathlib.Core.Path.{◌≡◌, refl, sym, ap, ◌∙◌}
use mathlib.Core.Logic.{◌≢◌, inl, inr}
use mathlib.Core.List.{List, [], ◌∷◌, map}
use native.Mathlib.Omega.{arith}
use native.Mathlib.Nat.{zero-add}
use lib.ListN.{length, get_or, get_or-map}
use Rattle.std.proofs.lemmas.List.{length-map}
use Rattle.card.specs.Finite.{sum_to}
use Rattle.card.specs.Card.{Place, Arc, Card, subnet_at, place_at, transition_at, arc_at, first_place, first_transition, first_arc, flat_place, place_of, no_place, no_arc}
use Rattle.card.specs.Writing.{encode}
use Rattle.card.specs.Wellformed.{SubnetRow, PlaceRow, ArcRow, Rows}
use Rattle.card.proofs.Sums.{sum_owner, sum_below, sum_unique, all_map, all_of, all_at}
use Rattle.hierarchy.specs.Conditions.{IsPlace, Sees, Weighted, Repeats, SelfLoop, TransitionConditions, Conditions, Meets}
use Rattle.hierarchy.specs.Judgement.{accepted, judge, judge_tables}
use Rattle.hierarchy.proofs.Accepted.{accepted_meets, meets_accepted, meets_written}
use Rattle.flattening.specs.Flattening.{flat_place_row, flat_arc, flatten, SameNet}

-- the rows of the flat card
pub place_flat : (c : Card) (p : ℕ) → place_at (flatten c) p ≡ flat_place_row (place_at c p)
unfolding flatten
place_flat c p = get_or-map flat_place_row c.places p no_place

pub arc_flat : (c : Card) (t j : ℕ) → arc_at (flatten c) t j ≡ flat_arc c (arc_at c t j)
unfolding flatten first_arc first_place sum_to
arc_flat c t j = get_or-map (flat_arc c) c.arcs (first_arc c t + j) no_arc

pub transition_flat : (c : Card) (t : ℕ) → transition_at (flatten c) t ≡ transition_at c t
unfolding flatten
transition_flat c t = refl

-- THE FLAT CARD'S NET IS THE CARD'S
pub net_flat : (c : Card) → SameNet c (flatten c)
net_flat c =
    record {
      version = unfold flatten in refl;
      signals = unfold flatten in refl;
      limit = unfold flatten in refl;
      scale = unfold flatten in refl;
      capacities = λ p. ap (λ (r : Place). r.capacity) (place_flat c p);
      tokens = λ p. ap (λ (r : Place). r.tokens) (place_flat c p);
      transitions = transition_flat c;
      directions = λ t j. ap (λ (a : Arc). a.direction) (arc_flat c t j);
      places = λ t j. ap (λ (a : Arc). a.place) (arc_flat c t j);
      weights = λ t j. ap (λ (a : Arc). a.weight) (arc_flat c t j);
    }

-- the place that an arc of the flat card names
pub place_of_flat : (c : Card) (a : Arc) → place_of (flatten c) (flat_arc c a) ≡ flat_place_row (place_of c a)
unfolding first_place sum_to
place_of_flat c a = rw zero-add (place_flat c (flat_place c a))

-- FLATTENING A FLAT CARD CHANGES NOTHING
places_again : (ps : List Place) → map flat_place_row (map flat_place_row ps) ≡ map flat_place_row ps
places_again [] = refl
places_again (p ∷ ps) = rw (places_again ps)

arcs_again : (c d : Card) (xs : List Arc) → map (flat_arc d) (map (flat_arc c) xs) ≡ map (flat_arc c) xs
unfolding first_place sum_to
arcs_again c d [] = refl
arcs_again c d (a ∷ xs) = rw (zero-add, arcs_again c d xs)

pub flatten_again : (c : Card) → flatten (flatten c) ≡ flatten c
unfolding flatten
flatten_again c = rw (length-map c.places flat_place_row, places_again c.places, arcs_again c (flatten c) c.arcs)

pub flatten_bytes : (c : Card) → encode (flatten (flatten c)) ≡ encode (flatten c)
flatten_bytes c = ap encode (flatten_again c)

within : (c : Card) (t k : ℕ) → first_arc c t ≤ k → k < first_arc c (suc t) → k - first_arc c t < (transition_at c t).arcs
unfolding first_arc sum_to
within c t k a b = omega arith

module _ (c : Card) (m : Meets c) where
  abbrev rows : Rows c
  rows = m.wellformed.rows

  abbrev S : ℕ
  S = length c.subnets

  -- a seen place has a flat number below the total
  pub there : (i j n : ℕ) → i < S → Sees c i j n → (j < S) × IsPlace c j n
  there i j n l (inl o) = (omega (arith, o.0), o.1)
  there i j n l (inr o) = (o.0.1, o.1.0)

  pub flat_below : (i j n : ℕ) → i < S → Sees c i j n → first_place c j + n < length c.places
  unfolding first_place
  flat_below i j n l h =
      let t = there i j n l h in
      omega (arith, rows.place_count, sum_below S (λ r. (subnet_at c r).places) j n t.0 t.1)

  -- a transition of the flat net is one of a subnet
  pub record Home (t : ℕ) : Type 0 where
    pub subnet : ℕ
    pub below : subnet < S
    pub sound : TransitionConditions c subnet t

  pub home : (t : ℕ) → t < length c.transitions → Home t
  unfolding first_transition
  home t l =
      let o = sum_owner S (λ r. (subnet_at c r).transitions) t (omega (arith, rows.transition_count)) in
      record { subnet = o.range; below = o.below; sound = m.conditions.transitions o.range t o.below o.low o.high }

  module _ (t : ℕ) (h : Home t) where
    pub arc_below : (j : ℕ) → j < (transition_at c t).arcs → flat_place c (arc_at c t j) < length c.places
    arc_below j l = flat_below h.subnet _ _ h.below (h.sound.sees j l)

    flat_own : (j : ℕ) → j < (transition_at c t).arcs → ((arc_at (flatten c) t j).subnet ≡ 0) × IsPlace (flatten c) (arc_at (flatten c) t j).subnet (arc_at (flatten c) t j).place
    unfolding flatten
    flat_own j l = rw (arc_flat c t j) (refl, arc_below j l)

    flat_capacity : (j : ℕ) → (place_of (flatten c) (arc_at (flatten c) t j)).capacity ≡ (place_of c (arc_at c t j)).capacity
    flat_capacity j = rw (arc_flat c t j, place_of_flat c (arc_at c t j))

    flat_weighted : (j : ℕ) → j < (transition_at c t).arcs → Weighted (flatten c) (arc_at (flatten c) t j)
    flat_weighted j l =
        let w = h.sound.weighted j l in
        record { positive = omega (arith, w.positive, (net_flat c).weights t j); fits = omega (arith, w.fits, flat_capacity j, (net_flat c).weights t j) }

    -- two arcs at one place of the flat card are at one place of the card
    flat_met : (g j : ℕ) → g < (transition_at c t).arcs → j < (transition_at c t).arcs → (arc_at (flatten c) t g).place ≡ (arc_at (flatten c) t j).place
        → ((arc_at c t g).subnet ≡ (arc_at c t j).subnet) × ((arc_at c t g).place ≡ (arc_at c t j).place)
    unfolding first_place
    flat_met g j l k e =
        let a = there h.subnet _ _ h.below (h.sound.sees g l) in
        let b = there h.subnet _ _ h.below (h.sound.sees j k) in
        let p : flat_place c (arc_at c t g) ≡ flat_place c (arc_at c t j) = rw (arc_flat c t g, arc_flat c t j) at e in
        sum_unique (λ s. (subnet_at c s).places) (arc_at c t g).subnet (arc_at c t j).subnet (arc_at c t g).place (arc_at c t j).place a.1 b.1 p

    flat_single : (g j : ℕ) → g < j → j < (transition_at c t).arcs → ¬ Repeats (arc_at (flatten c) t g) (arc_at (flatten c) t j)
    flat_single g j l k r =
        let u = flat_met g j (omega arith) k r.place in
        let d : (arc_at c t g).direction ≡ (arc_at c t j).direction = rw (arc_flat c t g, arc_flat c t j) at r.direction in
        h.sound.single g j l k (record { direction = d; subnet = u.0; place = u.1 })

    flat_loops : (g j : ℕ) → g < j → j < (transition_at c t).arcs → SelfLoop (arc_at (flatten c) t g) (arc_at (flatten c) t j)
        → (arc_at (flatten c) t g).weight + (arc_at (flatten c) t j).weight ≤ (place_of (flatten c) (arc_at (flatten c) t j)).capacity
    flat_loops g j l k r =
        let u = flat_met g j (omega arith) k r.place in
        let d : (arc_at c t g).direction ≢ (arc_at c t j).direction = rw (arc_flat c t g, arc_flat c t j) at r.directions in
        let w = h.sound.loops g j l k (record { directions = d; subnet = u.0; place = u.1 }) in
        omega (arith, w, flat_capacity j, (net_flat c).weights t g, (net_flat c).weights t j)

    flat_sound : TransitionConditions (flatten c) 0 t
    unfolding flatten
    flat_sound =
        record {
          sees = λ j l. inl (flat_own j l);
          incident = λ j l. record { from = λ e. inl (flat_own j l); to = λ e. inl (flat_own j l) };
          weighted = flat_weighted;
          single = flat_single;
          loops = flat_loops;
          unit = (h.sound.unit.0, h.sound.unit.1, flat_capacity h.sound.unit.0 ∙ h.sound.unit.2);
        }

  flat_conditions : Conditions (flatten c)
  unfolding flatten first_transition sum_to
  flat_conditions =
      record {
        transitions = λ i t l a b.
            let e : i ≡ 0 = omega arith in
            rw e (flat_sound t (home t (rw (e, zero-add) at b)));
        interfaces = λ i l n. absurd (n (omega arith));
        types = λ r s l k e. absurd (omega arith);
      }

  some_places : 1 ≤ length c.places
  unfolding first_place
  some_places =
      let z : 0 < S = omega (arith, m.wellformed.some_subnets) in
      omega (arith, rows.place_count, (rows.subnet 0 z).places, sum_below S (λ r. (subnet_at c r).places) 0 0 z (rows.subnet 0 z).places)

  some_transitions : 1 ≤ length c.transitions
  unfolding first_transition
  some_transitions =
      let z : 0 < S = omega (arith, m.wellformed.some_subnets) in
      omega (arith, rows.transition_count, sum_below S (λ r. (subnet_at c r).transitions) 0 0 z (rows.subnet 0 z).transitions)

  flat_subnet : SubnetRow 0 (subnet_at (flatten c) 0)
  unfolding flatten
  flat_subnet =
      record { main = λ e. (refl, refl); parent = λ n. absurd (n refl); type = omega arith; places = some_places; transitions = some_transitions }

  pub flat_place_fits : (p : ℕ) → p < length c.places → PlaceRow 0 (place_at (flatten c) p)
  unfolding first_place
  flat_place_fits p l =
      let o = sum_owner S (λ r. (subnet_at c r).places) p (omega (arith, rows.place_count)) in
      let k = rows.place o.range p o.below o.low o.high in
      rw (place_flat c p) (record { main = λ e. refl; kind = omega arith; positive = k.positive; capacity = k.capacity; tokens = k.tokens })

  flat_arc_fits : (k : ℕ) → k < length c.arcs → ArcRow (flat_arc c (get_or c.arcs k no_arc))
  unfolding first_arc
  flat_arc_fits k l =
      let o = sum_owner (length c.transitions) (λ t. (transition_at c t).arcs) k (omega (arith, rows.arc_count)) in
      let e : sum_to o.range (λ t. (transition_at c t).arcs) + (k - sum_to o.range (λ t. (transition_at c t).arcs)) ≡ k = omega (arith, o.low) in
      let b = arc_below o.range (home o.range o.below) (k - first_arc c o.range) (within c o.range k o.low o.high) in
      let d : flat_place c (get_or c.arcs k no_arc) < length c.places = rw e at b in
      let a = all_at ArcRow c.arcs no_arc rows.arcs k l in
      record { direction = a.direction; subnet = omega arith; place = omega (arith, rows.few_places); weight = a.weight }

  flat_rows : Rows (flatten c)
  unfolding flatten first_place first_transition first_arc sum_to
  flat_rows =
      record {
        place_count = length-map c.places flat_place_row ∙ sym (zero-add (length c.places));
        transition_count = sym (zero-add (length c.transitions));
        arc_count = length-map c.arcs (flat_arc c) ∙ rows.arc_count;
        few_places = omega (arith, length-map c.places flat_place_row, rows.few_places);
        few_transitions = rows.few_transitions;
        subnet = λ s l. let e : s ≡ 0 = omega arith in rw e flat_subnet;
        place = λ s p l a b. let e : s ≡ 0 = omega arith in rw e (flat_place_fits p (rw (e, zero-add) at b));
        transitions = rows.transitions;
        arcs = all_map ArcRow (flat_arc c) c.arcs (all_of (λ a. ArcRow (flat_arc c a)) c.arcs no_arc flat_arc_fits);
      }

-- THE FLAT CARD OF A CARD THAT MEETS THE CONDITIONS MEETS THEM
pub flat_meets : (c : Card) → Meets c → Meets (flatten c)
unfolding flatten
flat_meets c m =
    record {
      wellformed = record {
        version = m.wellformed.version;
        some_subnets = omega arith;
        few_subnets = omega arith;
        some_signals = m.wellformed.some_signals;
        few_signals = m.wellformed.few_signals;
        limit = m.wellformed.limit;
        scale = m.wellformed.scale;
        rows = flat_rows c m;
      };
      conditions = flat_conditions c m;
    }

-- THE FLAT CARD IS ACCEPTED
pub flat_accepted : (card : List ℕ) (c : Card) → judge card ≡ accepted c → judge (encode (flatten c)) ≡ accepted (flatten c)
flat_accepted card c e = meets_accepted (flatten c) (flat_meets c (accepted_meets card c e))

-- THE WRITER TAKES THE FLAT CARD'S TABLES
pub flat_taken : (c : Card) → Meets c → judge_tables (flatten c) ≡ accepted (flatten c)
flat_taken c m = meets_written (flatten c) (flat_meets c m)
