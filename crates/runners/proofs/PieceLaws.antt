-- A list piece by piece. Assumes nothing.
use Rattle.std.proofs.Common.{◌≡◌, ℕ, suc, ◌+◌, ◌-◌, ◌*◌, ◌/◌, ◌<◌, ◌≤◌, min, ◌⊎◌, List, [], ◌∷◌, length, take, drop, sym, ap, ◌∙◌, ap₂, inl, inr, arith, length-drop, drop_of_length-le, take_all, drop-drop}
use native.Mathlib.Nat.{div-eq_of_lt, add-div_right}
use lib.Seq.{slice}
use Rattle.std.proofs.lemmas.Bool.{cases_lt}
use Rattle.std.proofs.lemmas.List.{drop-take}
use Rattle.card.specs.Finite.{table}
use Rattle.card.proofs.Prefix.{table_shift, table_same}
use Rattle.runners.specs.Rows.{pieces}

drop_take : (n b : ℕ) (file : List ℕ) → n ≤ b → drop n (take b file) ≡ take (b - n) (drop n file)
drop_take n b file l = ap (λ (k : ℕ). drop n (take k file)) (let e : b ≡ n + (b - n) = omega arith in e) ∙ drop-take n (b - n) file

slice_shift : (n a b : ℕ) (file : List ℕ) → n ≤ b → slice (n + a) b file ≡ slice a (b - n) (drop n file)
slice_shift n a b file l = sym (drop-drop a n (take b file)) ∙ ap (drop a) (drop_take n b file l)

pub pieces_none : (n : ℕ) → 0 < n → pieces n [] ≡ []
unfolding pieces table
pieces_none n l =
    let e : (0 + n - 1) / n ≡ 0 = div-eq_of_lt (omega arith) in
    rw e

pub pieces_more : (n : ℕ) (file : List ℕ) → 0 < n → 0 < length file → pieces n file ≡ take n file ∷ pieces n (drop n file)
unfolding pieces table
pieces_more n file p l = ap (λ (k : ℕ). table 0 k piece) count ∙ ap₂ (λ x xs. x ∷ xs) first rest
  where
    piece : ℕ → List ℕ
    piece k = slice (n * k) (n * suc k) file

    count : (length file + n - 1) / n ≡ suc ((length (drop n file) + n - 1) / n)
    count = go (cases_lt (length file) n)
      where
        go : (length file < n) ⊎ (n ≤ length file) → (length file + n - 1) / n ≡ suc ((length (drop n file) + n - 1) / n)
        go (inl h) =
            let i : length file + n - 1 ≡ length file - 1 + n = omega arith in
            let j : (length (drop n file) + n - 1) / n ≡ 0 = div-eq_of_lt (omega (arith, length-drop n file)) in
            let k : (length file - 1) / n ≡ 0 = div-eq_of_lt (omega arith) in
            ap (λ (x : ℕ). x / n) i ∙ add-div_right (length file - 1) p ∙ omega (arith, j, k)
        go (inr h) =
            let i : length file + n - 1 ≡ length (drop n file) + n - 1 + n = omega (arith, length-drop n file) in
            ap (λ (x : ℕ). x / n) i ∙ add-div_right (length (drop n file) + n - 1) p ∙ omega arith

    first : piece 0 ≡ take n file
    first =
        let i : n * 0 ≡ 0 = omega arith in
        let j : n * 1 ≡ n = omega arith in
        rw (i, j)

    rest : table 1 ((length (drop n file) + n - 1) / n) piece ≡ pieces n (drop n file)
    rest = sym (table_shift 0 ((length (drop n file) + n - 1) / n) 1 piece) ∙ table_same 0 ((length (drop n file) + n - 1) / n) (λ i. piece (1 + i)) (λ k. slice (n * k) (n * suc k) (drop n file)) shifted
      where
        shifted : (i : ℕ) → piece (1 + i) ≡ slice (n * i) (n * suc i) (drop n file)
        shifted i =
            let a : n * (1 + i) ≡ n + n * i = omega arith in
            let b : n * suc (1 + i) - n ≡ n * suc i = omega arith in
            ap (λ (k : ℕ). slice k (n * suc (1 + i)) file) a ∙ slice_shift n (n * i) (n * suc (1 + i)) file (omega arith) ∙ ap (λ (k : ℕ). slice (n * i) k (drop n file)) b

-- the piece as the code takes it, and what comes after it
module _ (rows : List ℕ) (from size to : ℕ) (l : from ≤ length rows) (e : to ≡ from + min size (length rows - from)) where
  few : min size (length rows - from) ≤ length rows - from
  few = go (cases_lt size (length rows - from))
    where
      go : (size < length rows - from) ⊎ (length rows - from ≤ size) → min size (length rows - from) ≤ length rows - from
      go (inl h) = omega arith
      go (inr h) = omega arith

  pub to_few : to ≤ length rows
  to_few = omega (arith, few)

  pub piece_is : take (to - from) (drop from rows) ≡ take size (drop from rows)
  piece_is = go (cases_lt size (length rows - from))
    where
      go : (size < length rows - from) ⊎ (length rows - from ≤ size) → take (to - from) (drop from rows) ≡ take size (drop from rows)
      go (inl h) = ap (λ (k : ℕ). take k (drop from rows)) (let i : to - from ≡ size = omega arith in i)
      go (inr h) = take_all (to - from) (drop from rows) (omega (arith, length-drop from rows)) ∙ sym (take_all size (drop from rows) (omega (arith, length-drop from rows)))

  pub rest_is : drop size (drop from rows) ≡ drop to rows
  rest_is = go (cases_lt size (length rows - from))
    where
      go : (size < length rows - from) ⊎ (length rows - from ≤ size) → drop size (drop from rows) ≡ drop to rows
      go (inl h) = drop-drop size from rows ∙ ap (λ (k : ℕ). drop k rows) (let i : from + size ≡ to = omega arith in i)
      go (inr h) =
          let a : length (drop from rows) ≤ size = omega (arith, length-drop from rows) in
          let b : length rows ≤ to = omega arith in
          drop_of_length-le (drop from rows) a ∙ sym (drop_of_length-le rows b)
