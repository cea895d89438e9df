-- The rows of a card's first subnets, and that the grammar rebuilds a card from its own numbers. Assumes nothing.
use Prim.Native.Nat.{ℕ, zero, suc, ◌+◌, ◌≤◌, ◌<◌}
use mathlib.Core.Path.{◌≡◌, refl, sym, ap, ap₂, ◌∙◌}
use mathlib.Core.List.{List, [], ◌∷◌, ◌++◌, map, flatten, append_assoc}
use native.Mathlib.Omega.{arith}
use native.Mathlib.Nat.{zero-add, add-zero, add-suc}
use lib.ListN.{length, get_or, take, drop}
use lib.Seq.{take-suc, take-add, take_all, drop-cons, length-take-le}
use Rattle.card.specs.Finite.{sum_to, table}
use Rattle.card.specs.Card.{Header, Subnet, Place, Transition, Arc, Card, header_of, subnet_at, place_at, transition_at, arc_at, first_place, first_transition, first_arc, no_subnet, no_place, no_transition, no_arc}
use Rattle.card.specs.Format.{of, each, grow}
use Rattle.card.specs.Grammar.{header, subnet, place, transition, arc, whole_transition, with, whole_subnet, card, header_alone}
use Rattle.card.proofs.Sums.{sum_mono}
use Rattle.card.proofs.Walk.{built, built_then, built_of, built_each}

-- there are as many rows as the counts say
pub record Counted (c : Card) : Type 0 where
  pub places : length c.places ≡ first_place c (length c.subnets)
  pub transitions : length c.transitions ≡ first_transition c (length c.subnets)
  pub arcs : length c.arcs ≡ first_arc c (length c.transitions)

-- the rows of the first i subnets
unfoldable pub prefix : Card → ℕ → Card
prefix c i =
    record {
      version = c.version;
      signals = c.signals;
      limit = c.limit;
      scale = c.scale;
      subnets = take i c.subnets;
      places = take (first_place c i) c.places;
      transitions = take (first_transition c i) c.transitions;
      arcs = take (first_arc c (first_transition c i)) c.arcs;
    }

-- a part of a list is the table of its entries
pub table_part : {A : Type 0} (xs : List A) (d : A) (from n : ℕ) → from + n ≤ length xs → table from n (λ i. get_or xs i d) ≡ take n (drop from xs)
unfolding table
table_part xs d from zero h = refl
table_part xs d from (suc n) h = rw (drop-cons xs from d (omega arith)) (ap (λ ys. get_or xs from d ∷ ys) (table_part xs d (suc from) n (omega arith)))

pub take_more : {A : Type 0} (xs : List A) (d : A) (from n : ℕ) → from + n ≤ length xs → take from xs ++ table from n (λ i. get_or xs i d) ≡ take (from + n) xs
take_more xs d from n h = rw (table_part xs d from n h) (sym (take-add from n xs))

-- the arcs of consecutive transitions are a part of all arcs
pub table_shift : {A : Type 0} (from n k : ℕ) (f : ℕ → A) → table from n (λ i. f (k + i)) ≡ table (k + from) n f
unfolding table
table_shift from zero k f = refl
table_shift from (suc n) k f = ap (λ xs. f (k + from) ∷ xs) (table_shift (suc from) n k f ∙ ap (λ (m : ℕ). table m n f) (add-suc k from))

unfoldable pub arcs_of : Card → ℕ → List Arc
arcs_of c t = table 0 (transition_at c t).arcs (λ j. arc_at c t j)

module _ (c : Card) (n : Counted c) where
  pub arcs_below : (t : ℕ) → t ≤ length c.transitions → first_arc c t ≤ length c.arcs
  unfolding first_arc
  arcs_below t l = omega (arith, n.arcs, sum_mono t (length c.transitions) (λ u. (transition_at c u).arcs) l)

  arcs_more : (t : ℕ) → t < length c.transitions → take (first_arc c t) c.arcs ++ arcs_of c t ≡ take (first_arc c (suc t)) c.arcs
  unfolding arcs_of first_arc sum_to
  arcs_more t l =
      rw (table_shift 0 (transition_at c t).arcs (first_arc c t) (λ k. get_or c.arcs k no_arc), add-zero)
      (take_more c.arcs _ (first_arc c t) (transition_at c t).arcs (omega (arith, arcs_below (suc t) (omega arith))))

  arcs_several : (t m : ℕ) → t + m ≤ length c.transitions
      → take (first_arc c t) c.arcs ++ flatten (map {A = Transition × List Arc} (λ x. x.1) (table t m (λ u. (transition_at c u, arcs_of c u)))) ≡ take (first_arc c (t + m)) c.arcs
  unfolding table flatten
  arcs_several t zero h = rw add-zero (mathlib.Core.List.append-nil (take (first_arc c t) c.arcs))
  arcs_several t (suc m) h =
      sym (append_assoc (take (first_arc c t) c.arcs) (arcs_of c t) _)
      ∙ rw (arcs_more t (omega arith)) (arcs_several (suc t) m (omega arith) ∙ ap (λ (k : ℕ). take (first_arc c k) c.arcs) (let e : suc t + m ≡ t + suc m = omega arith in e))

firsts : {A B : Type 0} (from n : ℕ) (f : ℕ → A) (g : ℕ → B) → map {A = A × B} (λ x. x.0) (table from n (λ i. (f i, g i))) ≡ table from n f
unfolding table
firsts from zero f g = refl
firsts from (suc n) f g = ap (λ xs. f from ∷ xs) (firsts (suc from) n f g)

-- the numbers of one row
pub built_transition : (v g : ℕ) (r : Transition) → built (transition v g) r ≡ r
unfolding transition
built_transition v g r = refl

pub built_arc : (a : Arc) → built arc a ≡ a
unfolding arc
built_arc a = refl

pub built_place : (s : ℕ) (p : Place) → built (place s) p ≡ p
unfolding place
built_place s p = refl

pub built_subnet : (s p t : ℕ) (r : Subnet) → built (subnet s p t) r ≡ r
unfolding subnet
built_subnet s p t r = refl

pub built_header : (h : Header) → built header h ≡ h
unfolding header
built_header h = refl

-- tables of equal entries
pub table_same : {A : Type 0} (from n : ℕ) (f g : ℕ → A) → ((i : ℕ) → f i ≡ g i) → table from n f ≡ table from n g
unfolding table
table_same from zero f g h = refl
table_same from (suc n) f g h = ap₂ (λ x xs. x ∷ xs) (h from) (table_same (suc from) n f g h)

module _ (c : Card) where
  pub built_whole_transition : (v g t : ℕ) → built (whole_transition v g t) c ≡ (transition_at c t, arcs_of c t)
  unfolding whole_transition arcs_of
  built_whole_transition v g t =
      built_then (of (λ d. transition_at d t) (transition v g)) _ c
      ∙ rw (built_of (λ d. transition_at d t) (transition v g) c, built_transition v g (transition_at c t)) (
      built_then (each 0 (transition_at c t).arcs (λ j. of (λ (d : Card). arc_at d t j) arc)) _ c
      ∙ ap (λ xs. (transition_at c t, xs)) (built_each 0 (transition_at c t).arcs _ c ∙ table_same 0 _ _ _ (λ j. built_of (λ (d : Card). arc_at d t j) arc c ∙ built_arc (arc_at c t j))))

module _ (c : Card) (n : Counted c) where
  -- how long the prefixes are
  pub prefix_subnets : (i : ℕ) → i ≤ length c.subnets → length (prefix c i).subnets ≡ i
  unfolding prefix
  prefix_subnets i l = length-take-le i c.subnets l

  pub places_below : (i : ℕ) → i ≤ length c.subnets → first_place c i ≤ length c.places
  unfolding first_place
  places_below i l = omega (arith, n.places, sum_mono i (length c.subnets) (λ r. (subnet_at c r).places) l)

  pub transitions_below : (i : ℕ) → i ≤ length c.subnets → first_transition c i ≤ length c.transitions
  unfolding first_transition
  transitions_below i l = omega (arith, n.transitions, sum_mono i (length c.subnets) (λ r. (subnet_at c r).transitions) l)

  pub prefix_places : (i : ℕ) → i ≤ length c.subnets → length (prefix c i).places ≡ first_place c i
  unfolding prefix
  prefix_places i l = length-take-le (first_place c i) c.places (places_below i l)

  pub prefix_transitions : (i : ℕ) → i ≤ length c.subnets → length (prefix c i).transitions ≡ first_transition c i
  unfolding prefix
  prefix_transitions i l = length-take-le (first_transition c i) c.transitions (transitions_below i l)

  -- one subnet more
  pub places_of : ℕ → List Place
  places_of i = table (first_place c i) (subnet_at c i).places (place_at c)

  pub transitions_of : ℕ → List (Transition × List Arc)
  transitions_of i = table (first_transition c i) (subnet_at c i).transitions (λ t. (transition_at c t, arcs_of c t))

  pub first_place_suc : (i : ℕ) → first_place c (suc i) ≡ first_place c i + (subnet_at c i).places
  unfolding first_place sum_to
  first_place_suc i = refl

  pub first_transition_suc : (i : ℕ) → first_transition c (suc i) ≡ first_transition c i + (subnet_at c i).transitions
  unfolding first_transition sum_to
  first_transition_suc i = refl

  pub prefix_more : (i : ℕ) → i < length c.subnets → with (prefix c i) (subnet_at c i) (places_of i) (transitions_of i) ≡ prefix c (suc i)
  unfolding prefix places_of transitions_of
  prefix_more i l =
      let fits : first_transition c i + (subnet_at c i).transitions ≤ length c.transitions = omega (arith, first_transition_suc i, transitions_below (suc i) (omega arith)) in
      rw (
        sym (take-suc c.subnets i no_subnet l),
        take_more c.places no_place (first_place c i) (subnet_at c i).places (omega (arith, first_place_suc i, places_below (suc i) (omega arith))),
        firsts (first_transition c i) (subnet_at c i).transitions (transition_at c) (arcs_of c),
        take_more c.transitions no_transition (first_transition c i) (subnet_at c i).transitions fits,
        arcs_several c n (first_transition c i) (subnet_at c i).transitions fits,
        first_place_suc i,
        first_transition_suc i,
      )

pub built_whole_subnet : (c sofar : Card)
    → built (whole_subnet sofar) c
    ≡ with sofar (subnet_at c (length sofar.subnets)) (table (length sofar.places) (subnet_at c (length sofar.subnets)).places (place_at c))
    (table (length sofar.transitions) (subnet_at c (length sofar.subnets)).transitions (λ t. (transition_at c t, arcs_of c t)))
unfolding whole_subnet
built_whole_subnet c sofar =
    built_then (of (λ (d : Card). subnet_at d s) (subnet s p t)) _ c
    ∙ rw (built_of (λ (d : Card). subnet_at d s) (subnet s p t) c, built_subnet s p t (subnet_at c s)) (
    built_then (each p (subnet_at c s).places (λ i. of (λ (d : Card). place_at d i) (place s))) _ c
    ∙ rw (
      built_each p (subnet_at c s).places (λ i. of (λ (d : Card). place_at d i) (place s)) c,
      table_same p (subnet_at c s).places _ (place_at c) (λ i. built_of (λ (d : Card). place_at d i) (place s) c ∙ built_place s (place_at c i)),
    ) (
    built_then (each t (subnet_at c s).transitions (whole_transition sofar.version sofar.signals)) _ c
    ∙ ap (with sofar (subnet_at c s) (table p (subnet_at c s).places (place_at c))) (built_each t (subnet_at c s).transitions (whole_transition sofar.version sofar.signals) c
    ∙ table_same t (subnet_at c s).transitions _ _ (λ u. built_whole_transition c sofar.version sofar.signals u))))
  where
    s : ℕ
    s = length sofar.subnets

    p : ℕ
    p = length sofar.places

    t : ℕ
    t = length sofar.transitions

module _ (c : Card) (n : Counted c) where
  pub built_more : (i : ℕ) → i < length c.subnets → built (whole_subnet (prefix c i)) c ≡ prefix c (suc i)
  unfolding places_of transitions_of
  built_more i l =
      built_whole_subnet c (prefix c i)
      ∙ rw (prefix_subnets c n i (omega arith), prefix_places c n i (omega arith), prefix_transitions c n i (omega arith)) (prefix_more c n i l)

  built_grow : (k i : ℕ) → i + k ≤ length c.subnets → built (grow k whole_subnet (prefix c i)) c ≡ prefix c (i + k)
  unfolding grow
  built_grow zero i h = rw add-zero
  built_grow (suc k) i h =
      built_then (whole_subnet (prefix c i)) _ c
      ∙ rw (built_more i (omega arith)) (built_grow k (suc i) (omega arith) ∙ ap (prefix c) (let e : suc i + k ≡ i + suc k = omega arith in e))

  pub prefix_none : prefix c 0 ≡ header_alone (header_of c)
  unfolding prefix first_place first_transition first_arc sum_to
  prefix_none = refl

  pub prefix_all : prefix c (length c.subnets) ≡ c
  unfolding prefix
  prefix_all =
      rw (
        ← n.places,
        ← n.transitions,
        ← n.arcs,
        take_all (length c.subnets) c.subnets (omega arith),
        take_all (length c.places) c.places (omega arith),
        take_all (length c.transitions) c.transitions (omega arith),
        take_all (length c.arcs) c.arcs (omega arith),
      )

  -- THE GRAMMAR REBUILDS A CARD FROM ITS OWN NUMBERS
  pub built_card : built card c ≡ c
  unfolding card
  built_card =
      built_then (of header_of header) _ c
      ∙ rw (built_of header_of header c, built_header (header_of c), ← prefix_none) (built_grow (length c.subnets) 0 (omega arith) ∙ rw zero-add prefix_all)
