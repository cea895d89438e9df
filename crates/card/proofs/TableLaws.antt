-- What the slices of tables hold: the rows by number, and their counts. Assumes nothing.
use Prim.Native.Nat.{ℕ, ◌/◌, ◌≤◌, ◌<◌}
use mathlib.Core.Path.{◌≡◌, ap}
use mathlib.Core.Bool.{◌&&◌}
use mathlib.Core.List.{List}
use native.Mathlib.Omega.{arith}
use lib.ListN.{length, get_or}
use lib.Dec.{eqb}
use Rattle.card.specs.Finite.{sum_to}
use Rattle.card.specs.Card.{Card, Subnet, Transition, subnet_at, place_at, transition_at, first_place, first_transition, first_arc, no_arc, subnet_fields, place_fields, transition_fields, arc_fields}
use Rattle.card.specs.Writing.{counted}
use Rattle.card.specs.Rows.{entry, subnet_in, place_in, transition_in, arc_in, tables_in}
use Rattle.card.specs.inner.Runs.{column_sum}
use Rattle.card.specs.declared.Head.{Head}
use Rattle.card.proofs.Sums.{table_length, table_at, sum_same}

module _ (head : Head) (subnets places transitions arcs : List ℕ) where
  abbrev c : Card
  c = tables_in head subnets places transitions arcs

  pub subnet_row : (s : ℕ) → s < length subnets / subnet_fields → subnet_at c s ≡ subnet_in subnets s
  unfolding tables_in
  subnet_row s l = table_at (length subnets / subnet_fields) _ _ s l

  pub place_row : (p : ℕ) → p < length places / place_fields → place_at c p ≡ place_in places p
  unfolding tables_in
  place_row p l = table_at (length places / place_fields) _ _ p l

  pub transition_row_is : (t : ℕ) → t < length transitions / transition_fields → transition_at c t ≡ transition_in transitions t
  unfolding tables_in
  transition_row_is t l = table_at (length transitions / transition_fields) _ _ t l

  pub arc_row : (a : ℕ) → a < length arcs / arc_fields → get_or c.arcs a no_arc ≡ arc_in arcs a
  unfolding tables_in
  arc_row a l = table_at (length arcs / arc_fields) _ _ a l

  pub subnet_count : length c.subnets ≡ length subnets / subnet_fields
  unfolding tables_in
  subnet_count = table_length 0 (length subnets / subnet_fields) _

  pub place_count : length c.places ≡ length places / place_fields
  unfolding tables_in
  place_count = table_length 0 (length places / place_fields) _

  pub transition_count : length c.transitions ≡ length transitions / transition_fields
  unfolding tables_in
  transition_count = table_length 0 (length transitions / transition_fields) _

  pub arc_count : length c.arcs ≡ length arcs / arc_fields
  unfolding tables_in
  arc_count = table_length 0 (length arcs / arc_fields) _

  -- the first numbers are sums of columns
  pub place_sum : (s : ℕ) → s ≤ length subnets / subnet_fields → first_place c s ≡ sum_to s (λ i. entry subnets subnet_fields i 2)
  unfolding first_place
  place_sum s l = sum_same s _ _ (λ i m. ap (λ (r : Subnet). r.places) (subnet_row i (omega arith)))

  pub transition_sum : (s : ℕ) → s ≤ length subnets / subnet_fields → first_transition c s ≡ sum_to s (λ i. entry subnets subnet_fields i 3)
  unfolding first_transition
  transition_sum s l = sum_same s _ _ (λ i m. ap (λ (r : Subnet). r.transitions) (subnet_row i (omega arith)))

  pub arc_sum : (t : ℕ) → t ≤ length transitions / transition_fields → first_arc c t ≡ sum_to t (λ i. entry transitions transition_fields i 1)
  unfolding first_arc
  arc_sum t l = sum_same t _ _ (λ i m. ap (λ (r : Transition). r.arcs) (transition_row_is i (omega arith)))

  pub counted_sums : counted c ≡ eqb (length places / place_fields) (column_sum subnets subnet_fields 2) && eqb (length transitions / transition_fields) (column_sum subnets subnet_fields 3) && eqb (length arcs / arc_fields) (column_sum transitions transition_fields 1)
  unfolding counted
  counted_sums =
      rw (place_count, transition_count, arc_count, subnet_count, place_sum (length subnets / subnet_fields) (omega arith), transition_sum (length subnets / subnet_fields) (omega arith), arc_sum (length transitions / transition_fields) (omega arith))
