-- A card and the slices that hold its rows. Assumes nothing.
use Prim.Native.Nat.{ℕ, zero, suc, ◌*◌, ◌/◌, ◌%◌, ◌<◌}
use mathlib.Core.Path.{◌≡◌, refl, sym, ap, ap₂, ◌∙◌}
use mathlib.Core.Bool.{true}
use mathlib.Core.List.{List, [], ◌∷◌, ◌++◌, flat_map, flatten}
use native.Mathlib.Omega.{arith}
use native.Mathlib.Nat.{mul-zero, zero-mod, add-mod_left, div-add-mod}
use lib.ListN.{length, take, drop, length-append}
use lib.Seq.{take-length, take_at, drop_at}
use Rattle.card.specs.Finite.{table}
use Rattle.card.specs.Card.{Card, subnet_fields, place_fields, transition_fields, arc_fields}
use Rattle.card.specs.Writing.{read_tables}
use Rattle.card.specs.Rows.{entry, subnet_in, place_in, transition_in, arc_in, tables_in, CardSlices, on_slices, rows_of, whole_rows, read_rows}
use Rattle.card.specs.inner.Runs.{runs}
use Rattle.card.proofs.Sums.{table_length}
use Rattle.card.proofs.RowNumbers.{runs_same}
use Rattle.card.proofs.NumberLaws.{rows_part}
use Rattle.card.proofs.TableSpell.{whole_is}

flat_map_table : {A : Type 0} (row : A → List ℕ) (from n : ℕ) (f : ℕ → A) → flat_map row (table from n f) ≡ runs from n (λ i. row (f i))
unfolding flat_map runs table flatten
flat_map_table row from zero f = refl
flat_map_table row from (suc n) f = ap (λ xs. row (f from) ++ xs) (unfold runs in flat_map_table row (suc from) n f)

-- rows of w numbers: `row` lists them, and `at` reads them from a slice
module _ {A : Type 0} (w : ℕ) (row : A → List ℕ) (at : List ℕ → ℕ → A) (pos : 0 < w) (lists : (s : List ℕ) (i : ℕ) → row (at s i) ≡ table 0 w (entry s w i))
    (back : (a : A) → at (row a) 0 ≡ a) where
  wide : (a : A) → length (row a) ≡ w
  wide a = ap (λ x. length (row x)) (sym (back a)) ∙ ap length (lists (row a) 0) ∙ table_length 0 w (entry (row a) w 0)

  flat_whole : (xs : List A) → length (flat_map row xs) % w ≡ 0
  unfolding flat_map
  flat_whole [] = zero-mod w
  flat_whole (x ∷ xs) = rw (length-append (row x) (flat_map row xs), wide x, add-mod_left w (length (flat_map row xs))) (flat_whole xs)

  -- a list is known by the numbers of its rows
  flat_same : (xs ys : List A) → flat_map row xs ≡ flat_map row ys → xs ≡ ys
  unfolding flat_map
  flat_same [] [] e = refl
  flat_same [] (y ∷ ys) e = absurd (omega (arith, ap length e, length-append (row y) (flat_map row ys), wide y))
  flat_same (x ∷ xs) [] e = absurd (omega (arith, ap length e, length-append (row x) (flat_map row xs), wide x))
  flat_same (x ∷ xs) (y ∷ ys) e =
      let r : row x ≡ row y = sym (take_at (row x) _ w (wide x)) ∙ ap (take w) e ∙ take_at (row y) _ w (wide y) in
      ap₂ (λ z zs. z ∷ zs) (sym (back x) ∙ ap (λ s. at s 0) r ∙ back y)
      (flat_same xs ys (sym (drop_at (row x) _ w (wide x)) ∙ ap (drop w) e ∙ drop_at (row y) _ w (wide y)))

  -- the rows of a slice list it, and the rows that are listed are those of the slice
  table_rows : (s : List ℕ) → length s % w ≡ 0 → flat_map row (table 0 (length s / w) (at s)) ≡ s
  table_rows s e =
      let n = length s / w in
      let k : w * n ≡ length s = omega (arith, div-add-mod (length s) w) in
      flat_map_table row 0 n (at s)
      ∙ runs_same 0 n _ (λ i. table 0 w (entry s w i)) (λ i a b. lists s i)
      ∙ rows_part s w 0 n (omega (arith, mul-zero w))
      ∙ rw (mul-zero w, k) (take-length s)

  rows_table : (xs : List A) → table 0 (length (flat_map row xs) / w) (at (flat_map row xs)) ≡ xs
  rows_table xs = flat_same (table 0 (length (flat_map row xs) / w) (at (flat_map row xs))) xs (table_rows (flat_map row xs) (flat_whole xs))

-- A CARD'S SLICES ARE WHOLE ROWS, AND HOLD ITS TABLES
pub rows_whole : (c : Card) → whole_rows (rows_of c).subnets (rows_of c).places (rows_of c).transitions (rows_of c).arcs ≡ true
unfolding rows_of whole_rows table
rows_whole c =
    rw (
      flat_whole subnet_fields _ subnet_in (omega arith) (λ s i. refl) (λ a. refl) c.subnets,
      flat_whole place_fields _ place_in (omega arith) (λ s i. refl) (λ a. refl) c.places,
      flat_whole transition_fields _ transition_in (omega arith) (λ s i. refl) (λ a. refl) c.transitions,
      flat_whole arc_fields _ arc_in (omega arith) (λ s i. refl) (λ a. refl) c.arcs,
    )

pub rows_tables : (c : Card) → on_slices tables_in (rows_of c) ≡ c
unfolding rows_of tables_in table
rows_tables c =
    rw (
      rows_table subnet_fields _ subnet_in (omega arith) (λ s i. refl) (λ a. refl) c.subnets,
      rows_table place_fields _ place_in (omega arith) (λ s i. refl) (λ a. refl) c.places,
      rows_table transition_fields _ transition_in (omega arith) (λ s i. refl) (λ a. refl) c.transitions,
      rows_table arc_fields _ arc_in (omega arith) (λ s i. refl) (λ a. refl) c.arcs,
    )

-- SLICES OF WHOLE ROWS ARE THOSE OF THE TABLES THAT THEY HOLD
pub tables_rows : (x : CardSlices) → whole_rows x.subnets x.places x.transitions x.arcs ≡ true → rows_of (on_slices tables_in x) ≡ x
unfolding rows_of tables_in table
tables_rows x e =
    let h = whole_is x.head x.subnets x.places x.transitions x.arcs e in
    rw (
      table_rows subnet_fields _ subnet_in (omega arith) (λ s i. refl) (λ a. refl) x.subnets h.subnets_end,
      table_rows place_fields _ place_in (omega arith) (λ s i. refl) (λ a. refl) x.places h.places_end,
      table_rows transition_fields _ transition_in (omega arith) (λ s i. refl) (λ a. refl) x.transitions h.transitions_end,
      table_rows arc_fields _ arc_in (omega arith) (λ s i. refl) (λ a. refl) x.arcs h.arcs_end,
    )

-- so the writer reads them as these tables
pub read_rows_is : (c : Card) → on_slices read_rows (rows_of c) ≡ read_tables c
unfolding read_rows
read_rows_is c = rw (rows_whole c, rows_tables c)
