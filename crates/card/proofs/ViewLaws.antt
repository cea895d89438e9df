-- A table of a card's numbers holds that card. Assumes nothing.
use Prim.Native.Nat.{ℕ, zero, suc, ◌+◌, ◌-◌, ◌*◌, ◌≤◌, ◌<◌, min}
use mathlib.Core.Path.{◌≡◌, refl, sym, ap, subst, ◌∙◌}
use mathlib.Core.Logic.{◌⊎◌, inl, inr}
use native.Mathlib.Nat.{add-zero, add-suc}
use mathlib.Core.List.{List, [], map}
use native.Mathlib.Omega.{arith}
use lib.ListN.{length, get_or, take, drop, get_or-eq_default}
use Rattle.std.proofs.lemmas.List.{get_or-take, get_or-drop, length-map}
use Rattle.card.specs.Finite.{sum_to, table}
use Rattle.card.specs.Card.{Subnet, Place, Transition, Arc, Card, no_subnet, no_transition, no_arc, subnet_at, place_at, transition_at, arc_at, first_place, first_transition, first_arc, header_fields, subnet_fields, place_fields, transition_fields, arc_fields}
use Rattle.card.specs.Format.{Format, done, get, count}
use Rattle.card.specs.Grammar.{header, subnet, place, transition, arc, card}
use Rattle.card.specs.Parsing.{Parsing, refused, whole, read_card}
use Rattle.card.specs.Tables.{numbers_of, numbers_table, table_of, read_outcome, outcome_of, IsRead, IsTable}
use Rattle.card.specs.Writing.{fields, transition_bit}
use Rattle.card.specs.Wellformed.{TransitionRow, ArcRow, Wellformed}
use Rattle.card.specs.Index.{starts_of, subnet_row, transition_row, transition_row_start, transition_bit_start, first_place_start, first_transition_start, place_field, arc_field, Lists}
use Rattle.card.specs.View.{made, card_in, IsCounted, Holds, kind_number, direction_number, kind_from, direction_from, subnet_in, place_in, transition_in, arc_in, place_from, arc_from, places_of, arcs_of}
use Rattle.card.specs.RowList.{rows_in}
use Rattle.card.specs.declared.view.Subnet.{Subnet as HeldSubnet}
use Rattle.card.specs.declared.view.Place.{Place as HeldPlace}
use Rattle.card.specs.declared.view.Transition.{Transition as HeldTransition}
use Rattle.card.specs.declared.view.Arc.{Arc as HeldArc}
use Rattle.card.specs.declared.Counts.{Counts}
use Rattle.card.specs.declared.FormatRefusal.{FormatRefusal}
use Rattle.card.specs.declared.index.CardIndex.{CardIndex}
use Rattle.card.specs.Writing.{encode}
use Rattle.card.specs.Spelling.{Lines, IsSpelt}
use Rattle.std.specs.Prelude.{Result, Ok, Err, IfOk}
use Rattle.std.proofs.lemmas.Bool.{cases_lt}
use Rattle.card.proofs.RoundTrip.{counted_is, wellformed_fits, wellformed_reads}
use Rattle.card.proofs.Walk.{built, bits}
use Rattle.card.proofs.Ranges.{read_wellformed}
use Rattle.card.proofs.Prefix.{built_card, places_below, transitions_below}
use Rattle.card.proofs.Positions.{counted, numbers_long, arc_order}
use Rattle.card.proofs.Sound.{rows_counted}
use Rattle.card.proofs.ReadLaws.{entered, tables_loaded}
use Rattle.card.proofs.RowListLaws.{rows_none, rows_are}
use Rattle.card.proofs.Sums.{table_length, all_at}

-- the numbers of u stand from entry i on
pub record From (numbers : List ℕ) (i : ℕ) (values : List ℕ) : Type 0 where
  pub same : (k : ℕ) → k < length values → get_or numbers (i + k) 0 ≡ get_or values k 0

made_built : {U A : Type 0} (m : Format U A) (u : U) (numbers : List ℕ) (i : ℕ) → From numbers i (map (λ f. f.value) (fields m u)) → made m numbers i ≡ built m u
unfolding made fields
made_built (done a) u numbers i h = refl
made_built (get w value fault next) u numbers i h =
    let e : get_or numbers i 0 ≡ value u = ap (λ (j : ℕ). get_or numbers j 0) (let q : i ≡ i + 0 = omega arith in q) ∙ h.same 0 (omega arith) in
    rw e (made_built (next (value u)) u numbers (suc i) (record {
      same = λ k l. ap (λ (j : ℕ). get_or numbers j 0) (let q : suc i + k ≡ i + suc k = omega arith in q) ∙ h.same (suc k) (omega arith);
    }))

-- `card_in_table`: THE CARD WHOSE NUMBERS A TABLE HOLDS IS THE ONE THEY ARE OF
pub card_in_table : (size : ℕ) (c : Card) → Wellformed c → length (numbers_of c) ≤ size → card_in (numbers_table size c) ≡ c
unfolding card_in numbers_of
card_in_table size c w few =
    made_built card c (numbers_table size c) 0 (record { same = λ k l. ap (λ (j : ℕ). get_or (numbers_table size c) j 0) (let q : 0 + k ≡ k = omega arith in q) ∙ (unfold numbers_of in entered size c few k) })
    ∙ built_card c (rows_counted c w.rows)

pub table_holds : (size : ℕ) (c : Card) (k : Counts) → Wellformed c → length (numbers_of c) ≤ size → IsCounted c k → Holds c (numbers_table size c) (record { counts = k; starts = starts_of c })
table_holds size c k w few n =
    record { wellformed = w; fits = (unfold numbers_table in omega (arith, few, table_length 0 size (λ i. get_or (numbers_of c) i 0))); entries = entered size c few; loaded = tables_loaded size c w few; counts = n }

-- a transition is one of a subnet's
pub record Listed (c : Card) (t : ℕ) : Type 0 where
  pub subnet : ℕ
  pub lists : Lists c subnet t

listed_below : (c : Card) (t n : ℕ) → n ≤ length c.subnets → t < first_transition c n → Listed c t
unfolding first_transition sum_to
listed_below c t zero l h = absurd (omega arith)
listed_below c t (suc n) l h = go (cases_lt t (first_transition c n)) (λ m. unfold first_transition in listed_below c t n (omega arith) m)
  where
    go : (t < first_transition c n) ⊎ (first_transition c n ≤ t) → (t < first_transition c n → Listed c t) → Listed c t
    go (inl m) ih = ih m
    go (inr m) ih = record { subnet = n; lists = record { subnet = omega arith; first = m; last = unfold first_transition sum_to in h } }

pub listed_in : (c : Card) (t : ℕ) → Wellformed c → t < length c.transitions → Listed c t
listed_in c t w l = listed_below c t (length c.subnets) (omega arith) (omega (arith, w.rows.transition_count))

-- subnets past the last list nothing
first_past : (c : Card) (f : Subnet → ℕ) (s n : ℕ) → f no_subnet ≡ 0 → length c.subnets ≡ s → sum_to (s + n) (λ r. f (subnet_at c r)) ≡ sum_to s (λ r. f (subnet_at c r))
unfolding sum_to
first_past c f s zero e l = rw add-zero refl
first_past c f s (suc n) e l =
    let z : subnet_at c (s + n) ≡ no_subnet = get_or-eq_default c.subnets no_subnet (omega arith) in
    rw add-suc (unfold sum_to in rw z (omega (arith, first_past c f s n e l, e)))

pub first_place_past : (c : Card) (s : ℕ) → length c.subnets ≤ s → first_place c s ≡ first_place c (length c.subnets)
unfolding first_place
first_place_past c s l = let q : length c.subnets + (s - length c.subnets) ≡ s = omega arith in rw q at (first_past c (λ r. r.places) (length c.subnets) (s - length c.subnets) refl refl)

pub first_transition_past : (c : Card) (s : ℕ) → length c.subnets ≤ s → first_transition c s ≡ first_transition c (length c.subnets)
unfolding first_transition
first_transition_past c s l = let q : length c.subnets + (s - length c.subnets) ≡ s = omega arith in rw q at (first_past c (λ r. r.transitions) (length c.subnets) (s - length c.subnets) refl refl)

pub first_transition_more : (c : Card) (s : ℕ) → length c.subnets ≤ s → first_transition c (suc s) ≡ first_transition c s
first_transition_more c s l = first_transition_past c (suc s) (omega arith) ∙ sym (first_transition_past c s l)

-- rows that stand from entry i on
pub record PlaceHeld (numbers : List ℕ) (i : ℕ) (p : Place) : Type 0 where
  pub kind : get_or numbers i 0 ≡ p.kind
  pub capacity : get_or numbers (i + 1) 0 ≡ p.capacity
  pub tokens : get_or numbers (i + 2) 0 ≡ p.tokens
  pub known : p.kind ≤ 3
  pub inside : i + 2 < length numbers

pub record TransitionHeld (numbers : List ℕ) (i : ℕ) (t : Transition) : Type 0 where
  pub signal : get_or numbers i 0 ≡ t.signal
  pub arcs : get_or numbers (i + 1) 0 ≡ t.arcs
  pub rank : get_or numbers (i + 2) 0 ≡ t.rank
  pub inside : i + 2 < length numbers

pub record ArcHeld (numbers : List ℕ) (i : ℕ) (a : Arc) : Type 0 where
  pub direction : get_or numbers i 0 ≡ a.direction
  pub subnet : get_or numbers (i + 1) 0 ≡ a.subnet
  pub place : get_or numbers (i + 2) 0 ≡ a.place
  pub weight : get_or numbers (i + 3) 0 ≡ a.weight
  pub known : a.direction ≤ 1
  pub inside : i + 3 < length numbers

-- the code makes these rows of their numbers
number_at : (n i k : ℕ) (numbers : List ℕ) → k < n → get_or (take n (drop i numbers)) k 0 ≡ get_or numbers (i + k) 0
number_at n i k numbers l = get_or-take n (drop i numbers) k 0 l ∙ get_or-drop i numbers k 0

kind_back : (n : ℕ) → n ≤ 3 → kind_number (kind_from n) ≡ n
kind_back zero l = refl
kind_back (suc zero) l = refl
kind_back (suc (suc zero)) l = refl
kind_back (suc (suc (suc n))) l = omega arith

direction_back : (n : ℕ) → n ≤ 1 → direction_number (direction_from n) ≡ n
direction_back zero l = refl
direction_back (suc n) l = omega arith

pub place_made : (n i : ℕ) (numbers : List ℕ) (p : Place) → n ≡ 3 → PlaceHeld numbers i p → place_in (place_from (take n (drop i numbers))) ≡ p
place_made n i numbers p q h =
    let e : get_or (take 3 (drop i numbers)) 0 0 ≡ p.kind = number_at 3 i 0 numbers (omega arith) ∙ ap (λ (j : ℕ). get_or numbers j 0) (add-zero i) ∙ h.kind in
    rw (q, e, number_at 3 i 1 numbers (omega arith), number_at 3 i 2 numbers (omega arith), h.capacity, h.tokens, kind_back p.kind h.known) refl

pub arc_made : (n i : ℕ) (numbers : List ℕ) (a : Arc) → n ≡ 4 → ArcHeld numbers i a → arc_in (arc_from (take n (drop i numbers))) ≡ a
arc_made n i numbers a q h =
    let e : get_or (take 4 (drop i numbers)) 0 0 ≡ a.direction = number_at 4 i 0 numbers (omega arith) ∙ ap (λ (j : ℕ). get_or numbers j 0) (add-zero i) ∙ h.direction in
    rw (q, e, number_at 4 i 1 numbers (omega arith), number_at 4 i 2 numbers (omega arith), number_at 4 i 3 numbers (omega arith), h.subnet, h.place, h.weight, direction_back a.direction h.known) refl

-- a subnet that lists something is there
lists_there : (c : Card) (s n : ℕ) → n < (subnet_at c s).places → s < length c.subnets
lists_there c s n l = go (cases_lt s (length c.subnets))
  where
    go : (s < length c.subnets) ⊎ (length c.subnets ≤ s) → s < length c.subnets
    go (inl m) = m
    go (inr m) =
        let z : subnet_at c s ≡ no_subnet = get_or-eq_default c.subnets no_subnet m in
        absurd (omega (arith, ap (λ (r : Subnet). r.places) z, l))

transition_there : (c : Card) (t j : ℕ) → j < (transition_at c t).arcs → t < length c.transitions
transition_there c t j l = go (cases_lt t (length c.transitions))
  where
    go : (t < length c.transitions) ⊎ (length c.transitions ≤ t) → t < length c.transitions
    go (inl m) = m
    go (inr m) =
        let z : transition_at c t ≡ no_transition = get_or-eq_default c.transitions no_transition m in
        absurd (omega (arith, ap (λ (r : Transition). r.arcs) z, l))

place_at_field : (row n j : ℕ) → place_field row n j ≡ row + 4 + 3 * n + j
unfolding place_field count subnet place
place_at_field row n j = omega arith

arc_at_field : (row j i : ℕ) → arc_field row j i ≡ row + 3 + 4 * j + i
unfolding arc_field count transition arc
arc_at_field row j i = omega arith

-- what the tables behind a view of the card hold
module _ (c : Card) (numbers : List ℕ) (index : CardIndex) (inside : Holds (card_in numbers) numbers index) (view : card_in numbers ≡ c) where
  h : Holds c numbers index
  h = subst (λ (d : Card). Holds d numbers index) view inside

  numbers_inside : header_fields + subnet_fields * length c.subnets + place_fields * length c.places + transition_fields * length c.transitions + arc_fields * length c.arcs ≤ length numbers
  numbers_inside = omega (arith, h.fits, numbers_long c (counted c h.wellformed))

  pub header_held : 5 ≤ length numbers
  header_held = omega (arith, numbers_inside)

  pub place_held : (s n row : ℕ) → n < (subnet_at c s).places → row ≡ get_or index.starts s 0 → PlaceHeld numbers (row + 4 + 3 * n) (place_at c (first_place c s + n))
  unfolding subnet_row count header subnet place transition arc
  place_held s n row m e =
      let l = lists_there c s n m in
      let q : row ≡ subnet_row c s = e ∙ h.loaded.indexed.subnet_row s l in
      let there = h.loaded.laid.place s n l m in
      let z : first_place c (suc s) ≡ first_place c s + (subnet_at c s).places = (unfold first_place sum_to in refl) in
      let few = places_below c (counted c h.wellformed) (suc s) (omega arith) in
      let many = transitions_below c (counted c h.wellformed) s (omega arith) in
      let arcs = arc_order c (first_transition c s) (length c.transitions) many in
      record {
        kind = ap (λ (i : ℕ). get_or numbers i 0) (let f : row + 4 + 3 * n ≡ place_field (subnet_row c s) n 0 = omega (arith, q, place_at_field (subnet_row c s) n 0) in f) ∙ there.kind;
        capacity = ap (λ (i : ℕ). get_or numbers i 0) (let f : row + 4 + 3 * n + 1 ≡ place_field (subnet_row c s) n 1 = omega (arith, q, place_at_field (subnet_row c s) n 1) in f) ∙ there.capacity;
        tokens = ap (λ (i : ℕ). get_or numbers i 0) (let f : row + 4 + 3 * n + 2 ≡ place_field (subnet_row c s) n 2 = omega (arith, q, place_at_field (subnet_row c s) n 2) in f) ∙ there.tokens;
        known = (h.wellformed.rows.place s (first_place c s + n) l (omega arith) (omega (arith, z))).kind;
        inside = omega (arith, numbers_inside, q, few, z, many, arcs, h.wellformed.rows.arc_count);
      }

  pub transition_held : (t row : ℕ) → t < length c.transitions → row ≡ get_or index.starts (transition_row_start t) 0 → TransitionHeld numbers row (transition_at c t)
  unfolding transition_row count header subnet place transition arc
  transition_held t row l e =
      let s = listed_in c t h.wellformed l in
      let q : row ≡ transition_row c s.subnet t = e ∙ h.loaded.indexed.transition_row s.subnet t s.lists in
      let there = h.loaded.laid.transition s.subnet t s.lists in
      let few = places_below c (counted c h.wellformed) (suc s.subnet) s.lists.subnet in
      let arcs = arc_order c t (length c.transitions) (omega arith) in
      record {
        signal = ap (λ (i : ℕ). get_or numbers i 0) q ∙ there.signal;
        arcs = ap (λ (i : ℕ). get_or numbers (i + 1) 0) q ∙ there.arcs;
        rank = ap (λ (i : ℕ). get_or numbers (i + 2) 0) q ∙ there.rank;
        inside = omega (arith, numbers_inside, q, few, arcs, s.lists.subnet, h.wellformed.rows.arc_count);
      }

  pub arc_held : (t j row : ℕ) → j < (transition_at c t).arcs → row ≡ get_or index.starts (transition_row_start t) 0 → ArcHeld numbers (row + 3 + 4 * j) (arc_at c t j)
  unfolding transition_row count header subnet place transition arc
  arc_held t j row m e =
      let l = transition_there c t j m in
      let s = listed_in c t h.wellformed l in
      let q : row ≡ transition_row c s.subnet t = e ∙ h.loaded.indexed.transition_row s.subnet t s.lists in
      let there = h.loaded.laid.arc s.subnet t j s.lists m in
      let few = places_below c (counted c h.wellformed) (suc s.subnet) s.lists.subnet in
      let z : first_arc c (suc t) ≡ first_arc c t + (transition_at c t).arcs = (unfold first_arc sum_to in refl) in
      let arcs = arc_order c (suc t) (length c.transitions) (omega arith) in
      let at : (i : ℕ) → row + 3 + 4 * j + i ≡ arc_field (transition_row c s.subnet t) j i = λ i. omega (arith, q, arc_at_field (transition_row c s.subnet t) j i) in
      record {
        direction = ap (λ (i : ℕ). get_or numbers i 0) (let f : row + 3 + 4 * j ≡ arc_field (transition_row c s.subnet t) j 0 = omega (arith, at 0) in f) ∙ there.direction;
        subnet = ap (λ (i : ℕ). get_or numbers i 0) (at 1) ∙ there.subnet;
        place = ap (λ (i : ℕ). get_or numbers i 0) (at 2) ∙ there.place;
        weight = ap (λ (i : ℕ). get_or numbers i 0) (at 3) ∙ there.weight;
        known = (all_at ArcRow c.arcs no_arc h.wellformed.rows.arcs (first_arc c t + j) (omega (arith, arcs, z, h.wellformed.rows.arc_count))).direction;
        inside = omega (arith, numbers_inside, q, few, z, arcs, s.lists.subnet, h.wellformed.rows.arc_count);
      }

  -- the same for a place of a subnet's row that the code holds
  pub place_listed : (s n row : ℕ) (x : HeldSubnet) → subnet_in x ≡ subnet_at c s → n < x.places → row ≡ get_or index.starts s 0 → PlaceHeld numbers (row + 4 + 3 * n) (place_at c (first_place c s + n))
  place_listed s n row x e l q = place_held s n row (omega (arith, ap (λ (r : Subnet). r.places) e)) q

  pub transition_counted : (t row : ℕ) → t < index.counts.transitions → row ≡ get_or index.starts (transition_row_start t) 0 → TransitionHeld numbers row (transition_at c t)
  transition_counted t row l e = transition_held t row (omega (arith, h.counts.transitions, l)) e

  pub arc_listed : (t j row : ℕ) (x : HeldTransition) → transition_in x ≡ transition_at c t → j < x.arcs → row ≡ get_or index.starts (transition_row_start t) 0
      → ArcHeld numbers (row + 3 + 4 * j) (arc_at c t j)
  arc_listed t j row x e l q = arc_held t j row (omega (arith, ap (λ (r : Transition). r.arcs) e)) q

  -- a transition's arcs, one behind the other
  pub arcs_inside : (t row : ℕ) (x : HeldTransition) → transition_in x ≡ transition_at c t → t < index.counts.transitions → row ≡ get_or index.starts (transition_row_start t) 0
      → row + 3 + 4 * x.arcs ≤ length numbers
  arcs_inside t row x e l q = go x.arcs refl
    where
      same : x.arcs ≡ (transition_at c t).arcs
      same = ap (λ (r : Transition). r.arcs) e

      go : (n : ℕ) → x.arcs ≡ n → row + 3 + 4 * x.arcs ≤ length numbers
      go zero z = omega (arith, z, (transition_counted t row l q).inside)
      go (suc n) z = omega (arith, z, (arc_held t n row (omega (arith, same, z)) q).inside)

  pub arcs_held : (t row n : ℕ) (x : HeldTransition) → transition_in x ≡ transition_at c t → t < index.counts.transitions → row ≡ get_or index.starts (transition_row_start t) 0 → n ≡ 4 * x.arcs
      → map arc_in (rows_in 4 arc_from (take n (drop (row + 3) numbers))) ≡ arcs_of c t
  unfolding arcs_of
  arcs_held t row n x e l q z =
      rows_are 4 (transition_at c t).arcs (row + 3) n arc_from arc_in (arc_at c t) numbers (omega arith) (omega (arith, z, same)) (omega (arith, z, arcs_inside t row x e l q))
      (λ j m. arc_made 4 (row + 3 + 4 * j) numbers _ refl (arc_held t j row m q))
    where
      same : x.arcs ≡ (transition_at c t).arcs
      same = ap (λ (r : Transition). r.arcs) e

  pub no_arcs : (t : ℕ) → index.counts.transitions ≤ t → map arc_in (rows_in 4 arc_from []) ≡ arcs_of c t
  unfolding arcs_of
  no_arcs t l =
      let z : transition_at c t ≡ no_transition = get_or-eq_default c.transitions no_transition (omega (arith, h.counts.transitions, l)) in
      rw (z, rows_none 4 arc_from [] (omega arith)) (unfold table in refl)

  -- a subnet's places
  pub places_inside : (s row : ℕ) (x : HeldSubnet) → subnet_in x ≡ subnet_at c s → s < index.counts.subnets → row ≡ get_or index.starts s 0 → row + 4 + 3 * x.places ≤ length numbers
  unfolding subnet_row count header subnet place transition arc
  places_inside s row x e l q =
      let m : s < length c.subnets = omega (arith, h.counts.subnets, l) in
      let r : row ≡ subnet_row c s = q ∙ h.loaded.indexed.subnet_row s m in
      let z : first_place c (suc s) ≡ first_place c s + (subnet_at c s).places = (unfold first_place sum_to in refl) in
      let few = places_below c (counted c h.wellformed) (suc s) (omega arith) in
      let many = transitions_below c (counted c h.wellformed) s (omega arith) in
      let arcs = arc_order c (first_transition c s) (length c.transitions) many in
      omega (arith, numbers_inside, r, few, z, many, arcs, h.wellformed.rows.arc_count, ap (λ (y : Subnet). y.places) e)

  pub places_held : (s row n : ℕ) (x : HeldSubnet) → subnet_in x ≡ subnet_at c s → s < index.counts.subnets → row ≡ get_or index.starts s 0 → n ≡ 3 * x.places
      → map place_in (rows_in 3 place_from (take n (drop (row + 4) numbers))) ≡ places_of c s
  unfolding places_of
  places_held s row n x e l q z =
      rows_are 3 (subnet_at c s).places (row + 4) n place_from place_in (λ i. place_at c (first_place c s + i)) numbers (omega arith) (omega (arith, z, same)) (omega (arith, z, places_inside s row x e l q))
      (λ j m. place_made 3 (row + 4 + 3 * j) numbers _ refl (place_held s j row m q))
    where
      same : x.places ≡ (subnet_at c s).places
      same = ap (λ (r : Subnet). r.places) e

  pub no_places : (s : ℕ) → index.counts.subnets ≤ s → map place_in (rows_in 3 place_from []) ≡ places_of c s
  unfolding places_of
  no_places s l =
      let z : subnet_at c s ≡ no_subnet = get_or-eq_default c.subnets no_subnet (omega (arith, h.counts.subnets, l)) in
      rw (z, rows_none 3 place_from [] (omega arith)) (unfold table in refl)

  -- how many they are at most
  pub arcs_few : (t : ℕ) (rows : List HeldArc) → map arc_in rows ≡ arcs_of c t → length rows ≤ 31
  unfolding arcs_of
  arcs_few t rows e =
      omega (arith, length-map rows arc_in, ap length e, table_length 0 (transition_at c t).arcs (arc_at c t), go (cases_lt t (length c.transitions)))
    where
      go : (t < length c.transitions) ⊎ (length c.transitions ≤ t) → (transition_at c t).arcs ≤ 31
      go (inl m) = (all_at (TransitionRow c.version c.signals) c.transitions no_transition h.wellformed.rows.transitions t m).arcs
      go (inr m) = omega (arith, ap (λ (r : Transition). r.arcs) (get_or-eq_default c.transitions no_transition m))

  pub places_few : (s : ℕ) (rows : List HeldPlace) → map place_in rows ≡ places_of c s → length rows ≤ 255
  unfolding places_of
  places_few s rows e =
      omega (arith, length-map rows place_in, ap length e, table_length 0 (subnet_at c s).places (λ i. place_at c (first_place c s + i)), go (cases_lt s (length c.subnets)))
    where
      go : (s < length c.subnets) ⊎ (length c.subnets ≤ s) → (subnet_at c s).places ≤ 255
      go (inl m) =
          let z : first_place c (suc s) ≡ first_place c s + (subnet_at c s).places = (unfold first_place sum_to in refl) in
          omega (arith, z, places_below c (counted c h.wellformed) (suc s) m, h.wellformed.rows.few_places)
      go (inr m) = omega (arith, ap (λ (r : Subnet). r.places) (get_or-eq_default c.subnets no_subnet m))

  -- numbers and first bits of rows
  pub first_place_held : (s i : ℕ) → i ≡ min s index.counts.subnets → (get_or index.starts (first_place_start i) 0 ≡ first_place c s) × (first_place c s ≤ 255)
  first_place_held s i e = go (cases_lt s (length c.subnets))
    where
      few : first_place c (length c.subnets) ≤ 255
      few = omega (arith, h.wellformed.rows.place_count, h.wellformed.rows.few_places)

      go : (s < length c.subnets) ⊎ (length c.subnets ≤ s) → (get_or index.starts (first_place_start i) 0 ≡ first_place c s) × (first_place c s ≤ 255)
      go (inl m) =
          let q : i ≡ s = omega (arith, e, h.counts.subnets) in
          (ap (λ (j : ℕ). get_or index.starts (first_place_start j) 0) q ∙ h.loaded.indexed.first_place s (omega arith), omega (arith, places_below c (counted c h.wellformed) s (omega arith), h.wellformed.rows.few_places))
      go (inr m) =
          let q : i ≡ length c.subnets = omega (arith, e, h.counts.subnets) in
          rw (first_place_past c s m) (ap (λ (j : ℕ). get_or index.starts (first_place_start j) 0) q ∙ h.loaded.indexed.first_place (length c.subnets) (omega arith), few)

  pub first_transition_held : (s i : ℕ) → i ≡ min s index.counts.subnets → (get_or index.starts (first_transition_start i) 0 ≡ first_transition c s) × (first_transition c s ≤ 255)
  first_transition_held s i e = go (cases_lt s (length c.subnets))
    where
      few : first_transition c (length c.subnets) ≤ 255
      few = omega (arith, h.wellformed.rows.transition_count, h.wellformed.rows.few_transitions)

      go : (s < length c.subnets) ⊎ (length c.subnets ≤ s) → (get_or index.starts (first_transition_start i) 0 ≡ first_transition c s) × (first_transition c s ≤ 255)
      go (inl m) =
          let q : i ≡ s = omega (arith, e, h.counts.subnets) in
          (ap (λ (j : ℕ). get_or index.starts (first_transition_start j) 0) q ∙ h.loaded.indexed.first_transition s (omega arith), omega (arith, transitions_below c (counted c h.wellformed) s (omega arith), h.wellformed.rows.few_transitions))
      go (inr m) =
          let q : i ≡ length c.subnets = omega (arith, e, h.counts.subnets) in
          rw (first_transition_past c s m) (ap (λ (j : ℕ). get_or index.starts (first_transition_start j) 0) q ∙ h.loaded.indexed.first_transition (length c.subnets) (omega arith), few)

  pub transition_bit_held : (i t : ℕ) → Lists c i t → (t < index.counts.transitions) × (get_or index.starts (transition_bit_start t) 0 ≡ transition_bit c i t)
  transition_bit_held i t l =
      (omega (arith, h.counts.transitions, l.last, transitions_below c (counted c h.wellformed) (suc i) l.subnet), h.loaded.indexed.transition_bit i t l)

  -- the writer takes the numbers of a view, and refuses none
  pub view_lines : Lines c numbers
  view_lines =
      record {
        counts = (counted_is c).1 (rows_counted c h.wellformed.rows);
        fit = wellformed_fits c h.wellformed;
        entries = λ i l m. h.entries i;
      }

  pub view_spelt : (s : List ℕ) → IsSpelt (read_card (encode c)) (Ok s) → s ≡ encode c
  view_spelt s x =
      let y : IsSpelt (whole c (bits (fields card c))) (Ok s) = subst (λ (z : Parsing Card). IsSpelt z (Ok s)) (wellformed_reads c h.wellformed) x in
      cc

  pub view_unrefused : (e : FormatRefusal) → IsSpelt (read_card (encode c)) (Err e) → ⊥
  view_unrefused e x =
      let y : IsSpelt (whole c (bits (fields card c))) (Err e) = subst (λ (z : Parsing Card). IsSpelt z (Err e)) (wellformed_reads c h.wellformed) x in
      let z : ◌≡◌ {A = ℕ} 0 1 = cc in
      omega arith

-- `read_holds`: WHAT THE READER LEAVES IN A TABLE THAT HAS ROOM IS A VIEW OF THE CARD THAT IT READ
pub record View (bytes : List ℕ) (numbers : List ℕ) (r : CardIndex) : Type 0 where
  pub end : ℕ
  pub read : read_card bytes ≡ whole (card_in numbers) end
  pub holds : Holds (card_in numbers) numbers r

pub read_holds : (bytes : List ℕ) (a : Result CardIndex FormatRefusal) (r : CardIndex) (size : ℕ) (numbers : List ℕ) → IsRead (read_card bytes) a → a ≡ Ok r
    → IsTable (read_card bytes) size numbers → View bytes numbers r
read_holds bytes a r size numbers h e t = go (read_card bytes) refl (sym (ap read_outcome e) ∙ h.answer)
  where
    go : (x : Parsing Card) → read_card bytes ≡ x → read_outcome (Ok r) ≡ outcome_of x → View bytes numbers r
    go (refused n i) p q = absurd (let z : ◌≡◌ {A = ℕ} 0 1 = cc in omega arith)
    go (whole c end) p q =
        let w = read_wellformed bytes c end p in
        let few = t.fits c end p in
        let is : numbers ≡ numbers_table size c = t.is ∙ ap (table_of size) p in
        let v : card_in numbers ≡ c = ap card_in is ∙ card_in_table size c w few in
        let s : r.starts ≡ starts_of c = subst (λ (y : Result CardIndex FormatRefusal). IfOk y (λ k. k.starts ≡ starts_of c)) e (h.starts c end p) in
        let n : IsCounted c r.counts = record { subnets = cc; places = cc; transitions = cc } in
        record {
          end = end;
          read = p ∙ ap (λ (d : Card). whole d end) (sym v);
          holds = rw v (rw (is, s) (table_holds size c r.counts w few n));
        }
