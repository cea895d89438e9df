-- What the numbers of the flat card are, position by position, and one more row of them stored. Assumes nothing.
use Prim.Native.Nat.{ℕ, zero, suc, ◌+◌, ◌-◌, ◌≤◌, ◌<◌}
use mathlib.Core.Path.{◌≡◌, refl, sym, ap, subst, ◌∙◌}
use mathlib.Core.Logic.{◌⊎◌, inl, inr}
use mathlib.Core.List.{List, [], ◌∷◌, ◌++◌}
use native.Mathlib.Omega.{arith}
use native.Mathlib.Nat.{zero-add}
use lib.ListN.{length, get_or, set, take, drop, length-append, length-drop, length-set, get_or-eq_default}
use lib.Seq.{get_or-take, get_or-drop, get_or-set_same, get_or-set_other, length-take-le}
use Rattle.std.proofs.lemmas.List.{get_or_append_left, get_or-append_right, length-map}
use Rattle.std.proofs.lemmas.Bool.{cases_lt}
use Rattle.card.specs.Finite.{sum_to}
use Rattle.card.specs.Card.{Card, place_at, transition_at, arc_at, first_place, first_transition, first_arc, flat_place}
use Rattle.card.specs.Format.{count}
use Rattle.card.specs.Grammar.{header, subnet, place, transition, arc}
use Rattle.card.specs.Index.{subnet_row, transition_row, place_field, arc_field, first_place_start, PlaceThere, TransitionThere, ArcThere, Lists, Laid, Loaded}
use Rattle.card.specs.Tables.{numbers_of}
use Rattle.card.specs.Wellformed.{Wellformed}
use Rattle.card.proofs.RowNumbers.{numbers_rows}
use Rattle.card.proofs.Positions.{counted, laid, numbers_long}
use Rattle.hierarchy.specs.Conditions.{Meets}
use Rattle.flattening.specs.Flattening.{flat_place_row, flat_arc, flatten}
use Rattle.flattening.specs.inner.FlatNumbers.{flat_number, place_position, transition_position, arc_position, stored, Filled}
use Rattle.flattening.proofs.FlatLaws.{place_flat, arc_flat, transition_flat, there, flat_below, flat_meets}

-- ONE MORE NUMBER IS STORED; past the table's end none is, and none is owed
pub fill : (c : Card) (n k : ℕ) (out : List ℕ) (v : ℕ) → Filled c n out → k ≡ n + 1 → v ≡ flat_number c n → Filled c k (set out n v)
fill c n k out v h ek ev =
    record {
      room = omega (arith, h.room, length-set out n v);
      stored = λ i l. at i (omega arith) (cases_lt i n);
      empty = λ i l. get_or-set_other out n i v 0 (λ e. omega arith) ∙ h.empty i (omega arith);
    }
  where
    there : (n < length out) ⊎ (length out ≤ n) → get_or (set out n v) n 0 ≡ flat_number c n
    there (inl l) = get_or-set_same out n v 0 l ∙ ev
    there (inr l) = get_or-eq_default (set out n v) 0 (omega (arith, length-set out n v)) ∙ sym (get_or-eq_default (numbers_of (flatten c)) 0 (omega (arith, h.room)))

    at : (i : ℕ) → i < n + 1 → (i < n) ⊎ (n ≤ i) → get_or (set out n v) i 0 ≡ flat_number c i
    at i l (inl b) = get_or-set_other out n i v 0 (λ e. omega arith) ∙ h.stored i b
    at i l (inr b) = let e : n ≡ i = omega arith in subst (λ (j : ℕ). get_or (set out n v) j 0 ≡ flat_number c j) e (there (cases_lt n (length out)))

-- a row's numbers, from its number i on, are those of the flat card from position n + i on
abbrev pub Row : (c : Card) → (n i : ℕ) → (row : List ℕ) → Type 0
Row c n i [] = Unit {0}
Row c n i (v ∷ vs) = (v ≡ flat_number c (n + i)) × Row c n (suc i) vs

row_at : (c : Card) (n i : ℕ) (row : List ℕ) → Row c n i row → (k : ℕ) → k < length row → get_or row k 0 ≡ flat_number c (n + i + k)
row_at c n i [] h k l = absurd (omega arith)
row_at c n i (v ∷ vs) h zero l = h.0 ∙ ap (flat_number c) (let e : n + i ≡ n + i + 0 = omega arith in e)
row_at c n i (v ∷ vs) h (suc k) l = row_at c n (suc i) vs h.1 k (omega arith) ∙ ap (flat_number c) (let e : n + suc i + k ≡ n + i + suc k = omega arith in e)

-- ONE MORE ROW IS STORED
module _ (c : Card) (n k : ℕ) (row out : List ℕ) (h : Filled c n out) (r : Row c n 0 row) (q : k ≡ n + length row) (few : k ≤ length (numbers_of (flatten c))) where
  room : k ≤ length out
  room = omega (arith, few, h.room)

  front : length (take n out) ≡ n
  front = length-take-le n out (omega (arith, room))

  as_long : length (stored row n out) ≡ length out
  as_long = omega (arith, room, front, length-append (take n out) (row ++ drop (n + length row) out), length-append row (drop (n + length row) out), length-drop (n + length row) out)

  below : (i : ℕ) → i < n → get_or (stored row n out) i 0 ≡ flat_number c i
  below i l = get_or_append_left (take n out) _ 0 i (omega (arith, front)) ∙ get_or-take n out i 0 l ∙ h.stored i l

  inside : (i : ℕ) → n ≤ i → i < k → get_or (stored row n out) i 0 ≡ flat_number c i
  inside i a b =
      get_or-append_right (take n out) _ n i 0 front a ∙ get_or_append_left row _ 0 (i - n) (omega arith)
      ∙ row_at c n 0 row r (i - n) (omega arith) ∙ ap (flat_number c) (let e : n + 0 + (i - n) ≡ i = omega arith in e)

  behind : (i : ℕ) → k ≤ i → get_or (stored row n out) i 0 ≡ 0
  behind i l =
      get_or-append_right (take n out) _ n i 0 front (omega arith) ∙ get_or-append_right row _ (length row) (i - n) 0 refl (omega arith)
      ∙ get_or-drop (n + length row) out (i - n - length row) 0 ∙ ap (λ (j : ℕ). get_or out j 0) (let e : n + length row + (i - n - length row) ≡ i = omega arith in e)
      ∙ h.empty i (omega arith)

  pub fill_row : (after : List ℕ) → (n + length row ≤ length out → after ≡ stored row n out) → Filled c k after
  fill_row after e = rw (e (omega (arith, room))) (record { room = omega (arith, h.room, as_long); stored = λ i l. at i l (cases_lt i n); empty = behind })
    where
      at : (i : ℕ) → i < k → (i < n) ⊎ (n ≤ i) → get_or (stored row n out) i 0 ≡ flat_number c i
      at i l (inl b) = below i b
      at i l (inr b) = inside i b l

-- where the rows of the flat card stand
main_row : (c : Card) → subnet_row (flatten c) 0 ≡ 5
unfolding subnet_row first_place first_transition first_arc sum_to count header subnet place transition arc
main_row c = refl

place_field_is : (c : Card) (p k : ℕ) → place_field (subnet_row (flatten c) 0) p k ≡ place_position p + k
unfolding place_field count subnet place
place_field_is c p k = omega (arith, main_row c)

main_places : (c : Card) → first_place (flatten c) 1 ≡ length c.places
unfolding flatten first_place sum_to
main_places c = zero-add (length c.places)

main_transitions : (c : Card) → first_transition (flatten c) 1 ≡ length c.transitions
unfolding flatten first_transition sum_to
main_transitions c = zero-add (length c.transitions)

main_arcs : (c : Card) (t : ℕ) → first_arc (flatten c) t ≡ first_arc c t
unfolding flatten first_arc sum_to
main_arcs c t = refl

transition_row_is : (c : Card) (t : ℕ) → transition_row (flatten c) 0 t ≡ transition_position c t
unfolding transition_row count header subnet place transition arc
transition_row_is c t = omega (arith, main_places c, main_arcs c t)

arc_field_is : (c : Card) (t j k : ℕ) → arc_field (transition_row (flatten c) 0 t) j k ≡ arc_position c t j + k
unfolding arc_field count transition arc
arc_field_is c t j k = omega (arith, transition_row_is c t)

module _ (c : Card) (m : Meets c) where
  whole : Wellformed (flatten c)
  whole = (flat_meets c m).wellformed

  number_at : (i j v : ℕ) → get_or (numbers_of (flatten c)) i 0 ≡ v → i ≡ j → v ≡ flat_number c j
  number_at i j v e q = sym e ∙ ap (flat_number c) q

  laid_flat : Laid (flatten c) (numbers_of (flatten c))
  laid_flat = laid (flatten c) whole (numbers_of (flatten c)) (λ i. refl)

  -- WHAT THE NUMBERS OF THE FLAT CARD ARE: the header, and the row of the one subnet
  pub header_row : Row c 0 0 (c.version ∷ 1 ∷ c.signals ∷ c.limit ∷ c.scale ∷ [])
  unfolding flatten
  header_row = (
    number_at 0 0 c.version laid_flat.version refl,
    (
      sym (ap (λ xs. get_or xs 1 0) (numbers_rows (flatten c) (counted (flatten c) whole))),
      (number_at 2 2 c.signals laid_flat.signals refl, (number_at 3 3 c.limit laid_flat.limit refl, (number_at 4 4 c.scale laid_flat.scale refl, tt))),
    ),
  )

  pub main_numbers : Row c 5 0 (0 ∷ 0 ∷ length c.places ∷ length c.transitions ∷ [])
  unfolding flatten
  main_numbers =
      let r = laid_flat.subnet 0 (omega arith) in
      let e = main_row c in (
        number_at (subnet_row (flatten c) 0) 5 0 r.parent e,
        (
          number_at (subnet_row (flatten c) 0 + 1) 6 0 r.type (omega (arith, e)),
          (
            number_at (subnet_row (flatten c) 0 + 2) 7 (length c.places) r.places (omega (arith, e)),
            (number_at (subnet_row (flatten c) 0 + 3) 8 (length c.transitions) r.transitions (omega (arith, e)), tt),
          ),
        ),
      )

  pub record HeadNumbers : Type 0 where
    pub version : c.version ≡ flat_number c 0
    pub subnets : 1 ≡ flat_number c 1
    pub signals : c.signals ≡ flat_number c 2
    pub limit : c.limit ≡ flat_number c 3
    pub scale : c.scale ≡ flat_number c 4
    pub parent : 0 ≡ flat_number c 5
    pub type : 0 ≡ flat_number c 6
    pub places : length c.places ≡ flat_number c 7
    pub transitions : length c.transitions ≡ flat_number c 8

  pub head_numbers : HeadNumbers
  head_numbers =
      let h = header_row in
      let r = main_numbers in
      record { version = h.0; subnets = h.1.0; signals = h.1.1.0; limit = h.1.1.1.0; scale = h.1.1.1.1.0; parent = r.0; type = r.1.0; places = r.1.1.0; transitions = r.1.1.1.0 }

  -- a place
  module _ (p : ℕ) (l : p < length c.places) where
    place_there : PlaceThere (numbers_of (flatten c)) (subnet_row (flatten c) 0) p (flat_place_row (place_at c p))
    place_there =
        let z : first_place (flatten c) 0 + p ≡ p = (unfold first_place sum_to in zero-add p) in
        rw (z, place_flat c p) at (laid_flat.place 0 p (unfold flatten in omega arith) (unfold flatten in l))

    place_number : (k v : ℕ) → get_or (numbers_of (flatten c)) (place_field (subnet_row (flatten c) 0) p k) 0 ≡ v → v ≡ flat_number c (place_position p + k)
    place_number k v e = number_at _ _ v e (place_field_is c p k)

    pub place_numbers : Row c (place_position p) 0 (0 ∷ (place_at c p).capacity ∷ (place_at c p).tokens ∷ [])
    place_numbers = (place_number 0 0 place_there.kind, (place_number 1 _ place_there.capacity, (place_number 2 _ place_there.tokens, tt)))

  -- a transition
  module _ (t : ℕ) (l : t < length c.transitions) where
    lists_flat : Lists (flatten c) 0 t
    lists_flat = record { subnet = (unfold flatten in omega arith); first = (unfold first_transition sum_to in omega arith); last = omega (arith, main_transitions c) }

    transition_there : TransitionThere (numbers_of (flatten c)) (transition_row (flatten c) 0 t) (transition_at c t)
    transition_there = rw (transition_flat c t) at (laid_flat.transition 0 t lists_flat)

    pub transition_numbers : Row c (transition_position c t) 0 ((transition_at c t).signal ∷ (transition_at c t).arcs ∷ (transition_at c t).rank ∷ [])
    transition_numbers =
        let e = transition_row_is c t in (
          number_at _ _ (transition_at c t).signal transition_there.signal (omega (arith, e)),
          (number_at _ _ (transition_at c t).arcs transition_there.arcs (omega (arith, e)), (number_at _ _ (transition_at c t).rank transition_there.rank (omega (arith, e)), tt)),
        )

    -- an arc
    module _ (j : ℕ) (b : j < (transition_at c t).arcs) where
      arc_there : ArcThere (numbers_of (flatten c)) (transition_row (flatten c) 0 t) j (flat_arc c (arc_at c t j))
      arc_there = rw (arc_flat c t j) at (laid_flat.arc 0 t j lists_flat (unfold flatten in b))

      arc_number : (k v : ℕ) → get_or (numbers_of (flatten c)) (arc_field (transition_row (flatten c) 0 t) j k) 0 ≡ v → v ≡ flat_number c (arc_position c t j + k)
      arc_number k v e = number_at _ _ v e (arc_field_is c t j k)

      pub arc_numbers : Row c (arc_position c t j) 0 ((arc_at c t j).direction ∷ 0 ∷ flat_place c (arc_at c t j) ∷ (arc_at c t j).weight ∷ [])
      arc_numbers = (arc_number 0 _ arc_there.direction, (arc_number 1 0 arc_there.subnet, (arc_number 2 _ arc_there.place, (arc_number 3 _ arc_there.weight, tt))))

  -- how many numbers there are
  pub flat_long : transition_position c (length c.transitions) ≡ length (numbers_of (flatten c))
  flat_long =
      let e = numbers_long (flatten c) (counted (flatten c) whole) in
      let s : length (flatten c).subnets ≡ 1 = (unfold flatten in refl) in
      let p : length (flatten c).places ≡ length c.places = (unfold flatten in length-map c.places flat_place_row) in
      let t : length (flatten c).transitions ≡ length c.transitions = (unfold flatten in refl) in
      let a : length (flatten c).arcs ≡ length c.arcs = (unfold flatten in length-map c.arcs (flat_arc c)) in
      omega (arith, e, s, p, t, a, m.wellformed.rows.arc_count)

-- the flat number of an arc's place, out of the card's two tables
pub flat_number_is : (c : Card) → Meets c → (numbers starts : List ℕ) → Loaded c numbers starts → (i t row j : ℕ) → Lists c i t → row ≡ transition_row c i t → j < (transition_at c t).arcs
    → (a f q r : ℕ) → a ≡ get_or numbers (arc_field row j 1) 0 → f ≡ get_or starts (first_place_start a) 0 → q ≡ get_or numbers (arc_field row j 2) 0 → (f + q < 65536 → r ≡ f + q)
    → r ≡ flat_place c (arc_at c t j)
flat_number_is c m numbers starts h i t row j l er b a f q r ea ef eq e =
    let sees = (m.conditions.transitions i t l.subnet l.first l.last).sees j b in
    let y = h.laid.arc i t j l b in
    let x : a ≡ (arc_at c t j).subnet = ea ∙ rw er y.subnet in
    let z : q ≡ (arc_at c t j).place = eq ∙ rw er y.place in
    let w : f ≡ first_place c (arc_at c t j).subnet = ef ∙ rw x (h.indexed.first_place (arc_at c t j).subnet (omega (arith, (there c m i _ _ l.subnet sees).0))) in
    let n : f + q ≡ flat_place c (arc_at c t j) = rw (w, z) in
    e (omega (arith, n, flat_below c m i _ _ l.subnet sees, m.wellformed.rows.few_places)) ∙ n

-- the flat card has no more numbers than the card
pub flat_few : (c : Card) → Meets c → length (numbers_of (flatten c)) ≤ length (numbers_of c)
flat_few c m =
    omega (arith, flat_long c m, numbers_long c (counted c m.wellformed), m.wellformed.rows.arc_count, m.wellformed.some_subnets)
