-- Where the rows of a card stand among its numbers. Assumes nothing.
use Prim.Native.Nat.{ℕ, zero, suc, ◌+◌, ◌-◌, ◌*◌, ◌≤◌, ◌<◌}
use mathlib.Core.Path.{◌≡◌, refl, sym, ap, ◌∙◌}
use mathlib.Core.Logic.{◌⊎◌, inl, inr}
use mathlib.Core.List.{List, [], ◌∷◌, ◌++◌, flatten}
use native.Mathlib.Omega.{arith}
use native.Mathlib.Nat.{zero-add, add-zero, add-suc}
use lib.ListN.{length, get_or, length-append, get_or-append}
use lib.Seq.{get_or-append-add}
use Rattle.std.proofs.lemmas.Bool.{cases_lt}
use Rattle.card.specs.Finite.{sum_to, table, All}
use Rattle.card.specs.Card.{Card, subnet_at, place_at, transition_at, arc_at, first_place, first_transition, first_arc, no_transition, header_fields, subnet_fields, place_fields, transition_fields, arc_fields}
use Rattle.card.specs.Format.{count}
use Rattle.card.specs.Grammar.{header, subnet, place, transition, arc, max_arcs}
use Rattle.card.specs.Tables.{numbers_of}
use Rattle.card.specs.inner.Runs.{runs}
use Rattle.card.specs.Index.{subnet_row, transition_row, place_field, arc_field, SubnetThere, PlaceThere, TransitionThere, ArcThere, Lists, Laid}
use Rattle.card.specs.Wellformed.{Wellformed, TransitionRow}
use Rattle.card.proofs.Sums.{sum_mono, all_at}
use Rattle.card.proofs.Prefix.{Counted}
use Rattle.card.proofs.RunLaws.{runs_suc}
use Rattle.card.proofs.RowNumbers.{place_numbers, arc_numbers, transition_numbers, subnet_numbers, numbers_rows}

-- a number of run i among runs
module _ (from : ℕ) (run : ℕ → List ℕ) where
  abbrev before : ℕ → ℕ
  before i = sum_to i (λ j. length (run (from + j)))

  runs_length : (n : ℕ) → length (runs from n run) ≡ before n
  unfolding runs sum_to table flatten
  runs_length zero = refl
  runs_length (suc n) = ap length (runs_suc from n run) ∙ length-append (runs from n run) (run (from + n)) ∙ ap (λ (k : ℕ). k + length (run (from + n))) (runs_length n)

  run_at : (n i k : ℕ) → i < n → k < length (run (from + i)) → get_or (runs from n run) (before i + k) 0 ≡ get_or (run (from + i)) k 0
  unfolding sum_to
  run_at zero i k h l = absurd (omega arith)
  run_at (suc n) i k h l = ap (λ xs. get_or xs (before i + k) 0) (runs_suc from n run) ∙ go (cases_lt i n) (run_at n i k)
    where
      go : (i < n) ⊎ (n ≤ i) → (i < n → k < length (run (from + i)) → get_or (runs from n run) (before i + k) 0 ≡ get_or (run (from + i)) k 0)
          → get_or (runs from n run ++ run (from + n)) (before i + k) 0 ≡ get_or (run (from + i)) k 0
      go (inl m) ih = get_or-append (runs from n run) (run (from + n)) 0 (before i + k) (omega (arith, runs_length n, sum_mono (suc i) n (λ j. length (run (from + j))) m)) ∙ ih m l
      go (inr m) ih =
          let e : i ≡ n = omega arith in
          rw e (ap (λ (j : ℕ). get_or (runs from n run ++ run (from + n)) (j + k) 0) (sym (runs_length n)) ∙ get_or-append-add (runs from n run) (run (from + n)) k 0)

-- a number behind the first numbers of a list
behind : (xs ys : List ℕ) (n k : ℕ) → length xs ≡ n → get_or (xs ++ ys) (n + k) 0 ≡ get_or ys k 0
behind xs ys n k e = ap (λ (j : ℕ). get_or (xs ++ ys) (j + k) 0) (sym e) ∙ get_or-append-add xs ys k 0

sum_times : (n w : ℕ) (f : ℕ → ℕ) → ((i : ℕ) → f i ≡ w) → sum_to n f ≡ w * n
unfolding sum_to
sum_times zero w f h = omega arith
sum_times (suc n) w f h = omega (arith, sum_times n w f h, h n)

module _ (c : Card) where
  pub arc_order : (t u : ℕ) → t ≤ u → first_arc c t ≤ first_arc c u
  unfolding first_arc
  arc_order t u = sum_mono t u (λ v. (transition_at c v).arcs)

  pub transition_order : (r s : ℕ) → r ≤ s → first_transition c r ≤ first_transition c s
  unfolding first_transition
  transition_order r s = sum_mono r s (λ v. (subnet_at c v).transitions)

  transition_long : (t : ℕ) → length (transition_numbers c t) ≡ transition_fields + arc_fields * (transition_at c t).arcs
  unfolding transition_numbers
  transition_long t =
      omega (arith, runs_length 0 (λ j. arc_numbers (arc_at c t j)) (transition_at c t).arcs, sum_times (transition_at c t).arcs arc_fields (λ j. length (arc_numbers (arc_at c t (0 + j)))) (λ i. refl))

  -- the numbers of k transitions from t on
  transitions_long : (t k : ℕ) → sum_to k (λ u. length (transition_numbers c (t + u))) + arc_fields * first_arc c t ≡ transition_fields * k + arc_fields * first_arc c (t + k)
  unfolding sum_to
  transitions_long t zero = rw add-zero (omega arith)
  transitions_long t (suc k) =
      let z : first_arc c (suc (t + k)) ≡ first_arc c (t + k) + (transition_at c (t + k)).arcs = (unfold first_arc sum_to in refl) in
      rw add-suc (omega (arith, transitions_long t k, transition_long (t + k), z))

  places_long : (p k : ℕ) → length (runs p k (λ i. place_numbers (place_at c i))) ≡ place_fields * k
  places_long p k = runs_length p (λ i. place_numbers (place_at c i)) k ∙ sum_times k place_fields (λ j. length (place_numbers (place_at c (p + j)))) (λ i. refl)

  subnet_long : (s : ℕ) → length (subnet_numbers c s) + arc_fields * first_arc c (first_transition c s) ≡ subnet_fields + place_fields * (subnet_at c s).places + transition_fields * (subnet_at c s).transitions + arc_fields * first_arc c (first_transition c (suc s))
  unfolding subnet_numbers
  subnet_long s =
      let t = first_transition c s in
      let k = (subnet_at c s).transitions in
      let z : first_transition c (suc s) ≡ t + k = (unfold first_transition sum_to in refl) in
      let e = length-append (runs (first_place c s) (subnet_at c s).places (λ i. place_numbers (place_at c i))) (runs t k (transition_numbers c)) in
      rw z (omega (arith, e, places_long (first_place c s) (subnet_at c s).places, runs_length t (transition_numbers c) k, transitions_long t k))

  -- the numbers of the subnets before s
  subnets_long : (s : ℕ) → sum_to s (λ r. length (subnet_numbers c (0 + r))) ≡ subnet_fields * s + place_fields * first_place c s + transition_fields * first_transition c s + arc_fields * first_arc c (first_transition c s)
  unfolding sum_to
  subnets_long zero = (unfold first_place first_transition first_arc sum_to in refl)
  subnets_long (suc s) =
      let p : first_place c (suc s) ≡ first_place c s + (subnet_at c s).places = (unfold first_place sum_to in refl) in
      let t : first_transition c (suc s) ≡ first_transition c s + (subnet_at c s).transitions = (unfold first_transition sum_to in refl) in
      omega (arith, subnets_long s, subnet_long s, p, t, ap (λ (i : ℕ). length (subnet_numbers c i)) (zero-add s))

module _ (c : Card) (n : Counted c) where
  in_subnet : (s k : ℕ) → s < length c.subnets → k < length (subnet_numbers c s) → get_or (numbers_of c) (subnet_row c s + k) 0 ≡ get_or (subnet_numbers c s) k 0
  unfolding subnet_row count header subnet place transition arc
  in_subnet s k l h =
      let e : subnet_row c s + k ≡ header_fields + (sum_to s (λ r. length (subnet_numbers c (0 + r))) + k) = omega (arith, subnets_long c s) in
      rw e (ap (λ xs. get_or xs (header_fields + (sum_to s (λ r. length (subnet_numbers c (0 + r))) + k)) 0) (numbers_rows c n)
      ∙ behind (c.version ∷ length c.subnets ∷ c.signals ∷ c.limit ∷ c.scale ∷ []) (runs 0 (length c.subnets) (subnet_numbers c)) header_fields _ refl
      ∙ run_at 0 (subnet_numbers c) (length c.subnets) s k l (rw (zero-add s) h)
      ∙ ap (λ (i : ℕ). get_or (subnet_numbers c i) k 0) (zero-add s))

  -- behind a subnet's own row: its places, then its transitions
  tail : (s k : ℕ) → get_or (subnet_numbers c s) (4 + k) 0 ≡ get_or (runs (first_place c s) (subnet_at c s).places (λ p. place_numbers (place_at c p)) ++ runs (first_transition c s) (subnet_at c s).transitions (transition_numbers c)) k 0
  unfolding subnet_numbers
  tail s k = behind ((subnet_at c s).parent ∷ (subnet_at c s).type ∷ (subnet_at c s).places ∷ (subnet_at c s).transitions ∷ [])
      (runs (first_place c s) (subnet_at c s).places (λ p. place_numbers (place_at c p)) ++ runs (first_transition c s) (subnet_at c s).transitions (transition_numbers c)) 4 k refl

  in_place : (s m k : ℕ) → s < length c.subnets → m < (subnet_at c s).places → k < 3
      → get_or (numbers_of c) (place_field (subnet_row c s) m k) 0 ≡ get_or (place_numbers (place_at c (first_place c s + m))) k 0
  unfolding place_field count subnet place
  in_place s m k l h lk =
      let ps = runs (first_place c s) (subnet_at c s).places (λ p. place_numbers (place_at c p)) in
      let ts = runs (first_transition c s) (subnet_at c s).transitions (transition_numbers c) in
      let b : sum_to m (λ j. length (place_numbers (place_at c (first_place c s + j)))) ≡ 3 * m = sum_times m 3 (λ j. length (place_numbers (place_at c (first_place c s + j)))) (λ i. refl) in
      let e : subnet_row c s + 4 + 3 * m + k ≡ subnet_row c s + (4 + (3 * m + k)) = omega arith in
      let r : 3 * m + k ≡ sum_to m (λ j. length (place_numbers (place_at c (first_place c s + j)))) + k = omega (arith, b) in
      ap (λ (i : ℕ). get_or (numbers_of c) i 0) e
      ∙ in_subnet s (4 + (3 * m + k)) l (omega (arith, subnet_long c s, arc_order c (first_transition c s) (first_transition c (suc s)) (transition_order c s (suc s) (omega arith))))
      ∙ tail s (3 * m + k)
      ∙ get_or-append ps ts 0 (3 * m + k) (omega (arith, places_long c (first_place c s) (subnet_at c s).places))
      ∙ ap (λ (i : ℕ). get_or ps i 0) r
      ∙ run_at (first_place c s) (λ p. place_numbers (place_at c p)) (subnet_at c s).places m k h lk

  in_transition : (s t k : ℕ) → Lists c s t → k < length (transition_numbers c t) → get_or (numbers_of c) (transition_row c s t + k) 0 ≡ get_or (transition_numbers c t) k 0
  unfolding subnet_row transition_row count header subnet place transition arc
  in_transition s t k l h =
      let p = first_place c s in
      let v = first_transition c s in
      let u = t - v in
      let ps = runs p (subnet_at c s).places (λ i. place_numbers (place_at c i)) in
      let ts = runs v (subnet_at c s).transitions (transition_numbers c) in
      let d : v + u ≡ t = omega (arith, l.first) in
      let zp : first_place c (suc s) ≡ p + (subnet_at c s).places = (unfold first_place sum_to in refl) in
      let zt : first_transition c (suc s) ≡ v + (subnet_at c s).transitions = (unfold first_transition sum_to in refl) in
      let za : first_arc c (suc t) ≡ first_arc c t + (transition_at c t).arcs = (unfold first_arc sum_to in refl) in
      let b : sum_to u (λ i. length (transition_numbers c (v + i))) + arc_fields * first_arc c v ≡ transition_fields * u + arc_fields * first_arc c t = rw d at (transitions_long c v u) in
      let x = sum_to u (λ i. length (transition_numbers c (v + i))) + k in
      let y = 3 * (subnet_at c s).places in
      let e : transition_row c s t + k ≡ subnet_row c s + (4 + (y + x)) = omega (arith, b, zp, d, arc_order c v t l.first) in
      let i : u < (subnet_at c s).transitions = omega (arith, l.last, zt, d) in
      ap (λ (j : ℕ). get_or (numbers_of c) j 0) e
      ∙ in_subnet s (4 + (y + x)) l.subnet (omega (arith, b, h, transition_long c t, za, subnet_long c s, zt, arc_order c (suc t) (first_transition c (suc s)) l.last, d))
      ∙ tail s (y + x)
      ∙ behind ps ts y x (places_long c p (subnet_at c s).places)
      ∙ run_at v (transition_numbers c) (subnet_at c s).transitions u k i (rw d h)
      ∙ ap (λ (j : ℕ). get_or (transition_numbers c j) k 0) d

  -- behind a transition's own row: its arcs
  arcs_tail : (t k : ℕ) → get_or (transition_numbers c t) (transition_fields + k) 0 ≡ get_or (runs 0 (transition_at c t).arcs (λ i. arc_numbers (arc_at c t i))) k 0
  unfolding transition_numbers
  arcs_tail t k = behind ((transition_at c t).signal ∷ (transition_at c t).arcs ∷ (transition_at c t).rank ∷ []) (runs 0 (transition_at c t).arcs (λ i. arc_numbers (arc_at c t i))) transition_fields k refl

  in_arc : (s t j k : ℕ) → Lists c s t → j < (transition_at c t).arcs → k < 4 → get_or (numbers_of c) (arc_field (transition_row c s t) j k) 0 ≡ get_or (arc_numbers (arc_at c t j)) k 0
  unfolding arc_field count transition arc
  in_arc s t j k l h lk =
      let x = sum_to j (λ i. length (arc_numbers (arc_at c t (0 + i)))) + k in
      let b : sum_to j (λ i. length (arc_numbers (arc_at c t (0 + i)))) ≡ arc_fields * j = sum_times j arc_fields (λ i. length (arc_numbers (arc_at c t (0 + i)))) (λ i. refl) in
      let e : transition_row c s t + transition_fields + arc_fields * j + k ≡ transition_row c s t + (transition_fields + x) = omega (arith, b) in
      ap (λ (i : ℕ). get_or (numbers_of c) i 0) e
      ∙ in_transition s t (transition_fields + x) l (omega (arith, transition_long c t, b))
      ∙ arcs_tail t x
      ∙ run_at 0 (λ i. arc_numbers (arc_at c t i)) (transition_at c t).arcs j k h lk
      ∙ ap (λ (i : ℕ). get_or (arc_numbers (arc_at c t i)) k 0) (zero-add j)

  pub numbers_long : length (numbers_of c) ≡ header_fields + subnet_fields * length c.subnets + place_fields * length c.places + transition_fields * length c.transitions + arc_fields * length c.arcs
  numbers_long =
      let e = ap length (numbers_rows c n) in
      let f = runs_length 0 (subnet_numbers c) (length c.subnets) in
      rw (n.arcs, n.places, n.transitions) (omega (arith, e, f, subnets_long c (length c.subnets)))

-- a card that is well formed has no more numbers than the table has entries
pub arcs_few : (c : Card) (k : ℕ) → All (TransitionRow c.version c.signals) c.transitions → k ≤ length c.transitions → first_arc c k ≤ max_arcs * k
unfolding first_arc sum_to
arcs_few c zero h l = omega arith
arcs_few c (suc k) h l =
    let ih : first_arc c k ≤ max_arcs * k = unfold first_arc in arcs_few c k h (omega arith) in
    omega (arith, ih, (all_at (TransitionRow c.version c.signals) c.transitions no_transition h k l).arcs)

module _ (c : Card) (w : Wellformed c) where
  pub counted : Counted c
  counted = record { places = w.rows.place_count; transitions = w.rows.transition_count; arcs = w.rows.arc_count }

module _ (c : Card) (w : Wellformed c) (numbers : List ℕ) (entered : (i : ℕ) → get_or numbers i 0 ≡ get_or (numbers_of c) i 0) where
  there_subnet : (s : ℕ) → s < length c.subnets → SubnetThere numbers (subnet_row c s) (subnet_at c s)
  unfolding subnet_numbers
  there_subnet s l =
      record {
        parent = ap (λ (i : ℕ). get_or numbers i 0) (sym (add-zero (subnet_row c s))) ∙ at 0 (omega arith);
        type = at 1 (omega arith);
        places = at 2 (omega arith);
        transitions = at 3 (omega arith);
      }
    where
      at : (k : ℕ) → k < 4 → get_or numbers (subnet_row c s + k) 0 ≡ get_or (subnet_numbers c s) k 0
      at k h = entered (subnet_row c s + k) ∙ in_subnet c (counted c w) s k l (omega arith)

  there_place : (s m : ℕ) → s < length c.subnets → m < (subnet_at c s).places → PlaceThere numbers (subnet_row c s) m (place_at c (first_place c s + m))
  there_place s m l h = record { kind = at 0 (omega arith); capacity = at 1 (omega arith); tokens = at 2 (omega arith) }
    where
      at : (k : ℕ) → k < 3 → get_or numbers (place_field (subnet_row c s) m k) 0 ≡ get_or (place_numbers (place_at c (first_place c s + m))) k 0
      at k b = entered (place_field (subnet_row c s) m k) ∙ in_place c (counted c w) s m k l h b

  there_transition : (s t : ℕ) → Lists c s t → TransitionThere numbers (transition_row c s t) (transition_at c t)
  unfolding transition_numbers
  there_transition s t l = record { signal = ap (λ (i : ℕ). get_or numbers i 0) (sym (add-zero (transition_row c s t))) ∙ at 0 (omega arith); arcs = at 1 (omega arith); rank = at 2 (omega arith) }
    where
      at : (k : ℕ) → k < transition_fields → get_or numbers (transition_row c s t + k) 0 ≡ get_or (transition_numbers c t) k 0
      at k b = entered (transition_row c s t + k) ∙ in_transition c (counted c w) s t k l (omega arith)

  there_arc : (s t j : ℕ) → Lists c s t → j < (transition_at c t).arcs → ArcThere numbers (transition_row c s t) j (arc_at c t j)
  there_arc s t j l h = record { direction = at 0 (omega arith); subnet = at 1 (omega arith); place = at 2 (omega arith); weight = at 3 (omega arith) }
    where
      at : (k : ℕ) → k < 4 → get_or numbers (arc_field (transition_row c s t) j k) 0 ≡ get_or (arc_numbers (arc_at c t j)) k 0
      at k b = entered (arc_field (transition_row c s t) j k) ∙ in_arc c (counted c w) s t j k l h b

  -- A TABLE THAT HOLDS A CARD'S NUMBERS HOLDS ITS ROWS
  pub laid : Laid c numbers
  laid = record {
    version = entered 0 ∙ ap (λ xs. get_or xs 0 0) (numbers_rows c (counted c w));
    signals = entered 2 ∙ ap (λ xs. get_or xs 2 0) (numbers_rows c (counted c w));
    limit = entered 3 ∙ ap (λ xs. get_or xs 3 0) (numbers_rows c (counted c w));
    scale = entered 4 ∙ ap (λ xs. get_or xs 4 0) (numbers_rows c (counted c w));
    subnet = there_subnet;
    place = there_place;
    transition = there_transition;
    arc = there_arc;
  }

-- the numbers of an arc, one behind the other
field_on : (row j i k : ℕ) → i ≡ arc_field row j 0 → i + k ≡ arc_field row j k
unfolding arc_field
field_on row j i k e = omega (arith, e)

pub arc_from : (numbers : List ℕ) (row j i : ℕ) → i ≡ arc_field row j 0
    → ArcThere numbers row j (record { direction = get_or numbers i 0; subnet = get_or numbers (i + 1) 0; place = get_or numbers (i + 2) 0; weight = get_or numbers (i + 3) 0 })
arc_from numbers row j i e =
    record {
      direction = rw e;
      subnet = rw (field_on row j i 1 e);
      place = rw (field_on row j i 2 e);
      weight = rw (field_on row j i 3 e);
    }
