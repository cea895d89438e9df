-- The numbers of tables in the order of the card are runs of the slices. Assumes nothing.
use Prim.Native.Nat.{ℕ, zero, suc, ◌+◌, ◌*◌, ◌/◌, ◌≤◌, ◌<◌}
use mathlib.Core.Path.{◌≡◌, refl, sym, ap, ap₂, ◌∙◌}
use mathlib.Core.List.{List, [], ◌∷◌, ◌++◌, flatten}
use native.Mathlib.Omega.{arith}
use native.Mathlib.Nat.{add-zero, mul-suc, mul-zero}
use lib.ListN.{length, get_or, take, drop}
use lib.Seq.{take-add, drop-drop}
use Rattle.card.specs.Finite.{table}
use Rattle.card.specs.Card.{Subnet, Transition, Card, subnet_at, place_at, transition_at, first_place, first_transition, first_arc, subnet_fields, place_fields, transition_fields, arc_fields}
use Rattle.card.specs.Tables.{numbers_of}
use Rattle.card.specs.Rows.{entry, tables_in}
use Rattle.card.specs.inner.Runs.{arcs_before, places_before, transitions_before, transition_run, subnet_run, runs, in_order}
use Rattle.card.specs.declared.Head.{Head}
use Rattle.card.proofs.Prefix.{Counted, table_part, table_shift, places_below, transitions_below, first_place_suc, first_transition_suc, arcs_below}
use Rattle.card.proofs.RowNumbers.{runs_same, runs_shift, place_numbers, arc_numbers, transition_numbers, subnet_numbers, numbers_rows}
use Rattle.card.proofs.TableLaws.{subnet_row, place_row, transition_row_is, arc_row, subnet_count, place_count, transition_count, arc_count, place_sum, transition_sum, arc_sum}

-- rows as parts of a slice
row_part : (xs : List ℕ) (w s : ℕ) → w * s + w ≤ length xs → table 0 w (entry xs w s) ≡ take w (drop (w * s) xs)
row_part xs w s h = table_shift 0 w (w * s) (λ i. get_or xs i 0) ∙ ap (λ (i : ℕ). table i w (λ j. get_or xs j 0)) (add-zero (w * s)) ∙ table_part xs 0 (w * s) w h

pub rows_part : (xs : List ℕ) (w p n : ℕ) → w * p + w * n ≤ length xs → runs p n (λ i. table 0 w (entry xs w i)) ≡ take (w * n) (drop (w * p) xs)
unfolding runs table flatten
rows_part xs w p zero h = ap (λ (k : ℕ). take k (drop (w * p) xs)) (sym (mul-zero w))
rows_part xs w p (suc n) h =
    let e : w * suc n ≡ w + w * n = mul-suc w n ∙ omega arith in
    let d : w * suc p ≡ w * p + w = mul-suc w p in
    ap₂ (λ ys zs. ys ++ zs) (row_part xs w p (omega arith)) (unfold runs in rows_part xs w (suc p) n (omega arith) ∙ ap (λ (k : ℕ). take (w * n) (drop k xs)) d ∙ ap (take (w * n)) (sym (drop-drop w (w * p) xs)))
    ∙ sym (take-add w (w * n) (drop (w * p) xs))
    ∙ ap (λ (k : ℕ). take k (drop (w * p) xs)) (sym e)

module _ (head : Head) (subnets places transitions arcs : List ℕ) (n : Counted (tables_in head subnets places transitions arcs)) where
  abbrev c : Card
  c = tables_in head subnets places transitions arcs

  transition_run_is : (t : ℕ) → t < length c.transitions → transition_numbers c t ≡ transition_run transitions arcs t
  unfolding transition_numbers transition_run table
  transition_run_is t l =
      let m : t < length transitions / transition_fields = omega (arith, transition_count head subnets places transitions arcs) in
      let q = transition_row_is head subnets places transitions arcs t m in
      let a : (transition_at c t).arcs ≡ entry transitions transition_fields t 1 = ap (λ x. x.arcs) q in
      let f : first_arc c t ≡ arcs_before transitions t = arc_sum head subnets places transitions arcs t (omega arith) in
      let z : first_arc c (suc t) ≡ first_arc c t + (transition_at c t).arcs = (unfold first_arc Rattle.card.specs.Finite.sum_to in refl) in
      let i : arc_fields * arcs_before transitions t + arc_fields * entry transitions transition_fields t 1 ≤ length arcs = omega (arith, arcs_below c n (suc t) l, arc_count head subnets places transitions arcs, z, a, f) in
      ap₂ (λ xs ys. xs ++ ys) (ap (λ (x : Transition). x.signal ∷ x.arcs ∷ x.rank ∷ []) q ∙ row_part transitions transition_fields t (omega arith))
      (runs_same 0 (transition_at c t).arcs _ (λ j. table 0 arc_fields (entry arcs arc_fields (first_arc c t + j)))
      (λ j _ b. ap arc_numbers (arc_row head subnets places transitions arcs (first_arc c t + j) (omega (arith, z, arcs_below c n (suc t) l, arc_count head subnets places transitions arcs))))
      ∙ runs_shift 0 (transition_at c t).arcs (first_arc c t) (λ j. table 0 arc_fields (entry arcs arc_fields j))
      ∙ rw (add-zero (first_arc c t), a, f) (rows_part arcs arc_fields (arcs_before transitions t) (entry transitions transition_fields t 1) i))

  places_run : (p k : ℕ) → p + k ≤ length c.places → runs p k (λ i. place_numbers (place_at c i)) ≡ take (place_fields * k) (drop (place_fields * p) places)
  unfolding table
  places_run p k l =
      let q = place_count head subnets places transitions arcs in
      runs_same p k _ (λ i. table 0 place_fields (entry places place_fields i)) (λ i a b. ap place_numbers (place_row head subnets places transitions arcs i (omega (arith, q)))) ∙ rows_part places place_fields p k (omega (arith, q))

  subnet_run_is : (i : ℕ) → i < length c.subnets → subnet_numbers c i ≡ subnet_run subnets places transitions arcs i
  unfolding subnet_numbers subnet_run table
  subnet_run_is i l =
      let m : i < length subnets / subnet_fields = omega (arith, subnet_count head subnets places transitions arcs) in
      let r = subnet_row head subnets places transitions arcs i m in
      let a : (subnet_at c i).places ≡ entry subnets subnet_fields i 2 = ap (λ x. x.places) r in
      let b : (subnet_at c i).transitions ≡ entry subnets subnet_fields i 3 = ap (λ x. x.transitions) r in
      let x : first_place c i ≡ places_before subnets i = place_sum head subnets places transitions arcs i (omega arith) in
      let y : first_transition c i ≡ transitions_before subnets i = transition_sum head subnets places transitions arcs i (omega arith) in
      ap₂ (λ xs ys. xs ++ ys) (ap (λ (z : Subnet). z.parent ∷ z.type ∷ z.places ∷ z.transitions ∷ []) r ∙ row_part subnets subnet_fields i (omega arith))
      (ap₂ (λ xs ys. xs ++ ys)
      (places_run (first_place c i) (subnet_at c i).places (omega (arith, first_place_suc c n i, places_below c n (suc i) l)) ∙ ap₂ (λ (p k : ℕ). take (place_fields * k) (drop (place_fields * p) places)) x a)
      (runs_same (first_transition c i) (subnet_at c i).transitions _ _ (λ t _ h. transition_run_is t (omega (arith, first_transition_suc c n i, transitions_below c n (suc i) l)))
      ∙ ap₂ (λ (t k : ℕ). runs t k (transition_run transitions arcs)) y b))

  -- THE NUMBERS OF TABLES IN THE ORDER OF THE CARD
  pub numbers_runs : numbers_of c ≡ in_order head subnets places transitions arcs
  unfolding in_order tables_in
  numbers_runs =
      numbers_rows c n
      ∙ ap (λ xs. head.version ∷ length c.subnets ∷ head.signals ∷ head.limit ∷ head.scale ∷ xs) (runs_same 0 (length c.subnets) _ _ (λ i _ h. subnet_run_is i (omega arith)))
      ∙ ap (λ (x : ℕ). head.version ∷ x ∷ head.signals ∷ head.limit ∷ head.scale ∷ runs 0 x (subnet_run subnets places transitions arcs)) (subnet_count head subnets places transitions arcs)
