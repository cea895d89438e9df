-- The numbers of a card, row after row. Assumes nothing.
use Prim.Native.Nat.{ℕ, zero, suc, ◌+◌, ◌≤◌, ◌<◌}
use mathlib.Core.Path.{◌≡◌, refl, ap, ap₂, ◌∙◌}
use mathlib.Core.List.{List, [], ◌∷◌, ◌++◌, map, append-nil, flatten}
use native.Mathlib.Omega.{arith}
use lib.ListN.{length}
use Rattle.card.specs.Finite.{table}
use Rattle.card.specs.Card.{Place, Arc, Card, header_of, subnet_at, place_at, transition_at, arc_at, first_place, first_transition}
use Rattle.card.specs.Format.{Format, done, get, of, each, grow, ◌>>=◌}
use Rattle.card.specs.Grammar.{header, subnet, place, transition, arc, whole_transition, whole_subnet, card}
use Rattle.card.specs.Writing.{fields}
use Rattle.card.specs.Tables.{numbers_of}
use Rattle.card.specs.inner.Runs.{runs}
use Rattle.card.proofs.Walk.{built, built_of}
use Rattle.card.proofs.Prefix.{Counted, prefix, table_shift, built_header, built_subnet, built_transition, prefix_none, prefix_subnets, prefix_places, prefix_transitions, built_more}

-- the numbers that spell u by a format
abbrev values : {U A : Type 0} → Format U A → U → List ℕ
values (done a) u = []
values (get w value fault next) u = value u ∷ values (next (value u)) u

values_fields : {U A : Type 0} (m : Format U A) (u : U) → map (λ f. f.value) (fields m u) ≡ values m u
unfolding fields
values_fields (done a) u = refl
values_fields (get w value fault next) u = ap (λ xs. value u ∷ xs) (values_fields (next (value u)) u)

values_then : {U A B : Type 0} (m : Format U A) (k : A → Format U B) (u : U) → values (m >>= k) u ≡ values m u ++ values (k (built m u)) u
values_then (done a) k u = refl
values_then (get w value fault next) k u = ap (λ xs. value u ∷ xs) (values_then (next (value u)) k u)

values_of : {U W A : Type 0} (part : W → U) (m : Format U A) (x : W) → values (of part m) x ≡ values m (part x)
values_of part (done a) x = refl
values_of part (get w value fault next) x = ap (λ xs. value (part x) ∷ xs) (values_of part (next (value (part x))) x)

values_each : {U A : Type 0} (from n : ℕ) (one : ℕ → Format U A) (u : U) → values (each from n one) u ≡ runs from n (λ i. values (one i) u)
unfolding each runs table flatten
values_each from zero one u = refl
values_each from (suc n) one u =
    values_then (one from) _ u
    ∙ ap (λ xs. values (one from) u ++ xs) (values_then (each (suc from) n one) _ u ∙ append-nil (values (each (suc from) n one) u) ∙ (unfold runs in values_each (suc from) n one u))

pub runs_same : (from n : ℕ) (f g : ℕ → List ℕ) → ((i : ℕ) → from ≤ i → i < from + n → f i ≡ g i) → runs from n f ≡ runs from n g
unfolding runs table flatten
runs_same from zero f g h = refl
runs_same from (suc n) f g h = ap₂ (λ xs ys. xs ++ ys) (h from (omega arith) (omega arith)) (unfold runs in runs_same (suc from) n f g (λ i a b. h i (omega arith) (omega arith)))

pub runs_shift : (from n k : ℕ) (f : ℕ → List ℕ) → runs from n (λ i. f (k + i)) ≡ runs (k + from) n f
unfolding runs
runs_shift from n k f = ap flatten (table_shift from n k f)

-- the numbers of a row, and of all rows that belong to it
abbrev pub place_numbers : Place → List ℕ
place_numbers p = p.kind ∷ p.capacity ∷ p.tokens ∷ []

abbrev pub arc_numbers : Arc → List ℕ
arc_numbers a = a.direction ∷ a.subnet ∷ a.place ∷ a.weight ∷ []

module _ (c : Card) where
  unfoldable pub transition_numbers : ℕ → List ℕ
  transition_numbers t = (transition_at c t).signal ∷ (transition_at c t).arcs ∷ (transition_at c t).rank ∷ runs 0 (transition_at c t).arcs (λ j. arc_numbers (arc_at c t j))

  unfoldable pub subnet_numbers : ℕ → List ℕ
  subnet_numbers s =
      (subnet_at c s).parent ∷ (subnet_at c s).type ∷ (subnet_at c s).places ∷ (subnet_at c s).transitions
      ∷ (runs (first_place c s) (subnet_at c s).places (λ p. place_numbers (place_at c p)) ++ runs (first_transition c s) (subnet_at c s).transitions transition_numbers)

  one_arc : (t j : ℕ) → values (of (λ (d : Card). arc_at d t j) arc) c ≡ arc_numbers (arc_at c t j)
  unfolding arc
  one_arc t j = refl

  one_transition : (v g t : ℕ) → values (of (λ (d : Card). transition_at d t) (transition v g)) c ≡ (transition_at c t).signal ∷ (transition_at c t).arcs ∷ (transition_at c t).rank ∷ []
  unfolding transition
  one_transition v g t = refl

  one_place : (s p : ℕ) → values (of (λ (d : Card). place_at d p) (place s)) c ≡ place_numbers (place_at c p)
  unfolding place
  one_place s p = refl

  one_subnet : (s p t : ℕ) → values (of (λ (d : Card). subnet_at d s) (subnet s p t)) c ≡ (subnet_at c s).parent ∷ (subnet_at c s).type ∷ (subnet_at c s).places ∷ (subnet_at c s).transitions ∷ []
  unfolding subnet
  one_subnet s p t = refl

  transition_values : (v g t : ℕ) → values (whole_transition v g t) c ≡ transition_numbers t
  unfolding whole_transition transition_numbers
  transition_values v g t =
      values_then (of (λ (d : Card). transition_at d t) (transition v g)) _ c
      ∙ ap₂ (λ xs ys. xs ++ ys) (one_transition v g t)
      (rw (built_of (λ (d : Card). transition_at d t) (transition v g) c, built_transition v g (transition_at c t))
      (values_then (each 0 (transition_at c t).arcs (λ j. of (λ (d : Card). arc_at d t j) arc)) _ c
      ∙ append-nil _
      ∙ values_each 0 (transition_at c t).arcs _ c
      ∙ runs_same 0 (transition_at c t).arcs _ (λ j. arc_numbers (arc_at c t j)) (λ j a b. one_arc t j)))

  places_values : (s p k : ℕ) → values (each p k (λ i. of (λ (d : Card). place_at d i) (place s))) c ≡ runs p k (λ i. place_numbers (place_at c i))
  places_values s p k = values_each p k _ c ∙ runs_same p k _ (λ i. place_numbers (place_at c i)) (λ i a b. one_place s i)

  transitions_values : (v g t k : ℕ) → values (each t k (whole_transition v g)) c ≡ runs t k transition_numbers
  transitions_values v g t k = values_each t k (whole_transition v g) c ∙ runs_same t k _ transition_numbers (λ i a b. transition_values v g i)

  subnet_values : (sofar : Card) (i : ℕ) → length sofar.subnets ≡ i → length sofar.places ≡ first_place c i → length sofar.transitions ≡ first_transition c i
      → values (whole_subnet sofar) c ≡ subnet_numbers i
  unfolding whole_subnet subnet_numbers
  subnet_values sofar i es ep et =
      rw (es, ep, et)
      (values_then (of (λ (d : Card). subnet_at d i) (subnet i (first_place c i) (first_transition c i))) _ c
      ∙ ap₂ (λ xs ys. xs ++ ys) (one_subnet i (first_place c i) (first_transition c i))
      (rw (built_of (λ (d : Card). subnet_at d i) (subnet i (first_place c i) (first_transition c i)) c, built_subnet i (first_place c i) (first_transition c i) (subnet_at c i))
      (values_then (each (first_place c i) (subnet_at c i).places (λ k. of (λ (d : Card). place_at d k) (place i))) _ c
      ∙ ap₂ (λ xs ys. xs ++ ys) (places_values i (first_place c i) (subnet_at c i).places)
      (values_then (each (first_transition c i) (subnet_at c i).transitions (whole_transition sofar.version sofar.signals)) _ c
      ∙ append-nil _
      ∙ transitions_values sofar.version sofar.signals (first_transition c i) (subnet_at c i).transitions))))

module _ (c : Card) (n : Counted c) where
  grow_values : (k i : ℕ) → i + k ≤ length c.subnets → values (grow k whole_subnet (prefix c i)) c ≡ runs i k (subnet_numbers c)
  unfolding grow runs table flatten
  grow_values zero i h = refl
  grow_values (suc k) i h =
      values_then (whole_subnet (prefix c i)) _ c
      ∙ ap₂ (λ xs ys. xs ++ ys)
      (subnet_values c (prefix c i) i (prefix_subnets c n i (omega arith)) (prefix_places c n i (omega arith)) (prefix_transitions c n i (omega arith)))
      (rw (built_more c n i (omega arith)) (unfold runs in grow_values k (suc i) (omega arith)))

  header_numbers : values (of header_of header) c ≡ c.version ∷ length c.subnets ∷ c.signals ∷ c.limit ∷ c.scale ∷ []
  unfolding header
  header_numbers = refl

  -- THE NUMBERS OF A CARD ARE THOSE OF ITS ROWS
  pub numbers_rows : numbers_of c ≡ c.version ∷ length c.subnets ∷ c.signals ∷ c.limit ∷ c.scale ∷ runs 0 (length c.subnets) (subnet_numbers c)
  unfolding numbers_of card
  numbers_rows =
      values_fields card c
      ∙ values_then (of header_of header) _ c
      ∙ ap₂ (λ xs ys. xs ++ ys) header_numbers (rw (built_of header_of header c, built_header (header_of c), ← prefix_none c n) (grow_values (length c.subnets) 0 (omega arith)))
