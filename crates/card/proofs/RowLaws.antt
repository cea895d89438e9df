-- Rows of numbers in a slice, and the sum of a column. Assumes nothing.
use Prim.Native.Nat.{ℕ, suc, ◌+◌, ◌-◌, ◌*◌, ◌/◌, ◌%◌, ◌≤◌, ◌<◌}
use mathlib.Core.Path.{◌≡◌, refl, sym, ap, ◌∙◌}
use mathlib.Core.Bool.{Bool, true, false}
use mathlib.Core.List.{List, ◌++◌}
use native.Mathlib.Omega.{arith}
use native.Mathlib.Nat.{mul-le-mul_left, mul-div-le, mul-suc, add-div_left, div-eq_of_lt}
use lib.ListN.{length, get_or, length-append, get_or-append}
use lib.Seq.{get_or-append-add}
use Rattle.std.proofs.lemmas.List.{length-map, get_or-map}
use lib.Dec.{eqb}
use borrow.Author.Tests.{eq-eqb, ne_eqb, eqb-true, eqb-false}
use Rattle.card.specs.Finite.{sum_to}
use Rattle.card.specs.Rows.{entry}
use Rattle.card.specs.inner.Layout.{width_at, widths}
use Rattle.card.specs.inner.Runs.{column_sum}
use Rattle.card.specs.declared.layout.Phase.{Phase}
use Rattle.card.proofs.Sums.{sum_front, sum_same}

-- an entry of a whole row lies within the slice
pub entry_inside : (n width i k : ℕ) → i < n / width → k < width → width * i + k < n
entry_inside n width i k l h =
    let a : width * suc i ≤ width * (n / width) = mul-le-mul_left width l in
    omega (arith, a, mul-div-le n width, mul-suc width i)

-- the sum of a column, with a row in front
column_more : (row rest : List ℕ) (width column : ℕ) → length row ≡ width → column < width → column_sum (row ++ rest) width column ≡ get_or row column 0 + column_sum rest width column
column_more row rest width column w c =
    ap (λ (m : ℕ). sum_to m (λ i. entry (row ++ rest) width i column)) count
    ∙ sum_front (length rest / width) (λ i. entry (row ++ rest) width i column)
    ∙ omega (arith, first, sum_same (length rest / width) (λ i. entry (row ++ rest) width (suc i) column) (λ i. entry rest width i column) (λ i l. later i))
  where
    count : length (row ++ rest) / width ≡ suc (length rest / width)
    count = ap (λ (m : ℕ). m / width) (length-append row rest ∙ ap (λ (m : ℕ). m + length rest) w) ∙ add-div_left (length rest) (omega arith) ∙ omega arith

    first : entry (row ++ rest) width 0 column ≡ get_or row column 0
    first = ap (λ (m : ℕ). get_or (row ++ rest) m 0) (let e : width * 0 + column ≡ column = omega arith in e) ∙ get_or-append row rest 0 column (omega (arith, w))

    later : (i : ℕ) → entry (row ++ rest) width (suc i) column ≡ entry rest width i column
    later i =
        ap (λ (m : ℕ). get_or (row ++ rest) m 0) (let e : width * suc i + column ≡ length row + (width * i + column) = omega (arith, w, mul-suc width i) in e)
        ∙ get_or-append-add row rest (width * i + column) 0

-- what is left of a total, once rows are taken away, is more than the rest of the column by as much as the total is more than all of it
module _ (rows : List ℕ) (width column total : ℕ) where
  pub record Unspent (rest : List ℕ) (left : ℕ) : Type 0 where
    pub sum : total + column_sum rest width column ≡ left + column_sum rows width column

  pub unspent_start : (rest : List ℕ) → rest ≡ rows → Unspent rest total
  unspent_start rest e = rw e (record { sum = refl })

  module _ (before row rest : List ℕ) (left : ℕ) (h : Unspent before left) (e : before ≡ row ++ rest) (w : length row ≡ width) (c : column < width) where
    more : total + (get_or row column 0 + column_sum rest width column) ≡ left + column_sum rows width column
    more = ap (λ (m : ℕ). total + m) (sym (ap (λ (xs : List ℕ). column_sum xs width column) e ∙ column_more row rest width column w c)) ∙ h.sum

    pub unspent_more : get_or row column 0 ≤ left → Unspent rest (left - get_or row column 0)
    unspent_more m = record { sum = omega (arith, more) }

    pub unspent_short : left < get_or row column 0 → false ≡ eqb total (column_sum rows width column)
    unspent_short m = sym (ne_eqb total (column_sum rows width column) (λ q. omega (arith, more)))

  pub unspent_done : (rest : List ℕ) (left : ℕ) → Unspent rest left → length rest < width → eqb left 0 ≡ eqb total (column_sum rows width column)
  unspent_done rest left h l =
      let s : column_sum rest width column ≡ 0 = ap (λ (m : ℕ). sum_to m (λ i. entry rest width i column)) (div-eq_of_lt l) ∙ unfold sum_to in refl in
      go (eqb left 0) refl s
    where
      go : (b : Bool) → eqb left 0 ≡ b → column_sum rest width column ≡ 0 → b ≡ eqb total (column_sum rows width column)
      go true p s = sym (eq-eqb total (column_sum rows width column) (omega (arith, h.sum, eqb-true left 0 p)))
      go false p s = sym (ne_eqb total (column_sum rows width column) (λ q. omega (arith, h.sum, eqb-false left 0 p)))

-- the width of the column that a number of rows stands in
pub column_width : (row : List Phase) (version i : ℕ) (d : Phase) → 0 < length row → get_or (widths row version) (i % length (widths row version)) 0 ≡ width_at (get_or row (i % length row) d) version
column_width row version i d h =
    let l : length (widths row version) ≡ length row = length-map row (λ p. width_at p version) in
    let k : i % length row < length row = omega arith in
    rw l (get_or-map (λ p. width_at p version) row (i % length row) d 0 k)
