-- What the writer makes of tables in slices. Assumes nothing.
use Prim.Native.Nat.{ℕ, ◌/◌, ◌%◌, ◌≤◌, ◌<◌}
use mathlib.Core.Path.{◌≡◌, refl, sym, ap, ◌∙◌}
use mathlib.Core.Logic.{◌⊎◌, inl, inr}
use mathlib.Core.Bool.{Bool, true, false, ◌&&◌, cond}
use mathlib.Core.List.{List, []}
use native.Mathlib.Omega.{arith}
use lib.ListN.{length, get_or}
use Rattle.card.specs.Numbers.{number}
use Rattle.card.specs.Card.{Card, subnet_fields, place_fields, transition_fields, arc_fields}
use Rattle.card.specs.Grammar.{card}
use Rattle.card.specs.Parsing.{read_card}
use Rattle.card.specs.Writing.{fields, encode, all_fit, counted, read_tables}
use Rattle.card.specs.Rows.{tables_in, whole_rows, read_rows}
use Rattle.card.specs.inner.Runs.{Tells, ValuesFit, Leads, TablesInside, Gathered, in_order}
use Rattle.card.specs.Spelling.{Lines, IsSpelt}
use Rattle.card.specs.declared.FormatFault.TheVariants.{BadTable}
use Rattle.card.specs.declared.FormatRefusal.{FormatRefusal}
use Rattle.std.specs.Prelude.{Result, Err}
use Rattle.std.proofs.lemmas.Bool.{cases_lt}
use Rattle.std.proofs.lemmas.Bool.Decides.{Decides-eqb, Decides-and}
use Rattle.card.specs.declared.Head.{Head}
use Rattle.card.specs.Tables.{table_size}
use Rattle.card.proofs.RoundTrip.{counted_is}
use Rattle.card.proofs.Prefix.{Counted}
use Rattle.card.proofs.TableLaws.{subnet_count, place_count, transition_count, arc_count, place_sum, transition_sum, arc_sum}
use Rattle.card.proofs.FitLaws.{Whole, fits_fields, fields_fit}
use Rattle.card.proofs.NumberLaws.{numbers_runs}

pub leads_gathered : (xs numbers : List ℕ) (m : ℕ) → length numbers ≡ table_size → Leads xs numbers m → Gathered xs numbers
leads_gathered xs numbers m e h = record { entries = λ i l k. go i l k (cases_lt i m) }
  where
    go : (i : ℕ) → i < table_size → i < length xs → (i < m) ⊎ (m ≤ i) → get_or numbers i 0 ≡ get_or xs i 0
    go i l k (inl a) = h.same i a
    go i l k (inr a) = absurd (omega (arith, h.all (omega arith)))

pub leads_none : (numbers : List ℕ) → Leads [] numbers 0
leads_none numbers = record { same = λ i l. absurd (omega arith); inside = omega arith; all = λ l. refl }

module _ (head : Head) (subnets places transitions arcs : List ℕ) where
  abbrev c : Card
  c = tables_in head subnets places transitions arcs

  pub whole_is : whole_rows subnets places transitions arcs ≡ true → Whole subnets places transitions arcs
  unfolding whole_rows
  whole_is e =
      let x = (Decides-and _ _ (Decides-and _ _ (Decides-and _ _ (Decides-eqb (length subnets % subnet_fields) 0) (Decides-eqb (length places % place_fields) 0)) (Decides-eqb (length transitions % transition_fields) 0)) (Decides-eqb (length arcs % arc_fields) 0)).0 e in
      record { subnets_end = x.0.0.0; places_end = x.0.0.1; transitions_end = x.0.1; arcs_end = x.1 }

  pub tables_inside : Counted c → TablesInside subnets places transitions arcs
  tables_inside n =
      let s = subnet_count head subnets places transitions arcs in
      let t = transition_count head subnets places transitions arcs in
      let a = rw (s, place_count head subnets places transitions arcs, place_sum head subnets places transitions arcs (length subnets / subnet_fields) (omega arith)) at n.places in
      let b = rw (s, t, transition_sum head subnets places transitions arcs (length subnets / subnet_fields) (omega arith)) at n.transitions in
      let d = rw (t, arc_count head subnets places transitions arcs, arc_sum head subnets places transitions arcs (length transitions / transition_fields) (omega arith)) at n.arcs in
      record { place_rows = omega (arith, a); transition_rows = omega (arith, b); arc_rows = rw (← b) (omega (arith, d)) }

  -- 17
  abbrev unfit : Result (List ℕ) FormatRefusal
  unfit = Err (record { fault = BadTable; bit = 0 })

  pub rows_ragged : whole_rows subnets places transitions arcs ≡ false → IsSpelt (read_rows head subnets places transitions arcs) unfit
  unfolding read_rows
  rows_ragged e = rw e refl

  pub rows_uncounted : whole_rows subnets places transitions arcs ≡ true → counted c ≡ false → IsSpelt (read_rows head subnets places transitions arcs) unfit
  unfolding read_rows read_tables
  rows_uncounted e k = rw (e, k) refl

  pub rows_unfit : whole_rows subnets places transitions arcs ≡ true → counted c ≡ true → (b : Bool) → Tells b (ValuesFit head subnets places transitions arcs) → b ≡ false
      → IsSpelt (read_rows head subnets places transitions arcs) unfit
  unfolding read_rows read_tables
  rows_unfit e k b t q = go (all_fit (fields card c)) refl
    where
      go : (x : Bool) → all_fit (fields card c) ≡ x → IsSpelt (cond (whole_rows subnets places transitions arcs) (cond (counted c && all_fit (fields card c)) (read_card (encode c)) (Rattle.card.specs.Parsing.refused (number BadTable) 0)) (Rattle.card.specs.Parsing.refused (number BadTable) 0)) unfit
      go false p = rw (e, k, p) refl
      go true p = absurd (let z = sym q ∙ t.1 (fields_fit head subnets places transitions arcs ((counted_is c).0 k) (whole_is e) p) in let y : ◌≡◌ {A = ℕ} 0 1 = cc in omega arith)

  -- else the card
  pub rows_lines : (numbers : List ℕ) → counted c ≡ true → ValuesFit head subnets places transitions arcs → Gathered (in_order head subnets places transitions arcs) numbers → Lines c numbers
  rows_lines numbers k f h =
      let n = (counted_is c).0 k in
      let q = numbers_runs head subnets places transitions arcs n in
      record { counts = k; fit = fits_fields head subnets places transitions arcs n f; entries = λ i l m. h.entries i l (rw q at m) ∙ ap (λ xs. get_or xs i 0) (sym q) }

  pub rows_spelt : whole_rows subnets places transitions arcs ≡ true → counted c ≡ true → all_fit (fields card c) ≡ true → (r : Result (List ℕ) FormatRefusal) → IsSpelt (read_card (encode c)) r
      → IsSpelt (read_rows head subnets places transitions arcs) r
  unfolding read_rows read_tables
  rows_spelt e k f r h = rw (e, k, f) h
