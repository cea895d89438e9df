-- A row of a file: its degrees one after another, what the tests of its bytes decide, and a call where there is none. Assumes nothing.
use Prim.Native.Nat.{ℕ, zero, suc, ◌+◌, ◌-◌, ◌*◌, ◌≤◌, ◌<◌}
use mathlib.Core.Path.{◌≡◌, refl, sym, ap, ◌∙◌}
use mathlib.Core.Bool.{Bool, true, false}
use mathlib.Core.List.{List, [], ◌∷◌, ◌++◌}
use mathlib.Core.Option.{Option, none, some, map}
use native.Mathlib.Omega.{arith}
use native.Mathlib.Nat.{mul-le-mul_left}
use lib.ListN.{length, set, replicate}
use lib.Dec.{eqb}
use borrow.Author.Tests.{eqb-true, eq-eqb, ne_eqb}
use Rattle.std.specs.Prelude as Std
use Rattle.std.specs.Prelude.{Some, None}
use Rattle.std.specs.List.{All}
use Rattle.std.proofs.lemmas.List.{get_or_default}
use Rattle.std.proofs.lemmas.Bool.{false_from_ne_true}
use Rattle.card.proofs.Decides.{every_is}
use Rattle.card.specs.Finite.{every, table, some_if, some_unless, ◌otherwise◌}
use Rattle.card.specs.Bits.{bit, bit_field, bytes_for}
use Rattle.card.specs.Fields.{field_at}
use Rattle.card.specs.Card.{Card}
use Rattle.card.proofs.Sums.{table_length}
use Rattle.card.proofs.FieldLaws.{field_in, field_zero}
use Rattle.hierarchy.specs.Judgement.{Judgement, accepted, refused}
use Rattle.flattening.specs.Flattening.{flatten}
use Rattle.runners.specs.State.{NetState, entry}
use Rattle.runners.specs.Rows.{settle, row_fault, row_refusal, row_next, RowRead, degrees, no_row, row, filled, cells, or_no_row, unmarked, row_of}
use Rattle.runners.specs.Calls.{view, store, in_state, valid, call_on, called}
use Rattle.runners.specs.declared.State.{State as Lent}
use Rattle.runners.specs.declared.Refusal.{Refusal}
use Rattle.runners.specs.declared.Refusal.TheVariants.{BadState, BadOrder, BadRow}
use Rattle.programs.specs.Files.{file_row}
use Rattle.programs.proofs.TextLaws.{set_next}

-- a table of one more
table_last : (from n : ℕ) (f : ℕ → ℕ) → table from (suc n) f ≡ table from n f ++ (f (from + n) ∷ [])
unfolding table
table_last from zero f = ap (λ (i : ℕ). f i ∷ []) (let e : from ≡ from + 0 = omega arith in e)
table_last from (suc n) f = ap (λ (xs : List ℕ). f from ∷ xs) (table_last (suc from) n f ∙ ap (λ (i : ℕ). table (suc from) n f ++ (f i ∷ [])) (let e : suc from + n ≡ from + suc n = omega arith in e))

-- the same function below n
table_same : (from n : ℕ) (f h : ℕ → ℕ) → ((i : ℕ) → i < from + n → f i ≡ h i) → table from n f ≡ table from n h
unfolding table
table_same from zero f h e = refl
table_same from (suc n) f h e = rw (e from (omega arith)) (ap (λ (xs : List ℕ). h from ∷ xs) (table_same (suc from) n f h (λ i l. e i (omega arith))))

some_is : (b : Bool) (xs r : List ℕ) → some_if b xs ≡ some r → xs ≡ r
some_is true xs r e = cc
some_is false xs r e = absurd (let z : ◌≡◌ {A = ℕ} 0 1 = cc in omega arith)

module _ (lead cell g : ℕ) (bytes : List ℕ) where
  abbrev width : ℕ
  width = lead + cell * g

  cells_long : (r : List ℕ) → cells lead cell g bytes ≡ some r → length r ≡ g
  unfolding cells
  cells_long r e =
      sym (ap (λ (ys : List ℕ). length ys) (some_is (filled width bytes) (table 0 g (λ k. bit_field (bit bytes) (lead + cell * k) cell)) r e))
      ∙ table_length 0 g (λ k. bit_field (bit bytes) (lead + cell * k) cell)

  -- bytes of another length hold nothing
  pub cells_length : (length bytes ≡ bytes_for width → ⊥) → cells lead cell g bytes ≡ none
  unfolding cells filled
  cells_length n = rw (ne_eqb (length bytes) (bytes_for width) n)

  -- nor do bytes with a fill bit that is not zero
  module _ (l : length bytes ≡ bytes_for width) (v : ℕ) (i : v ≡ field_at bytes width (8 * bytes_for width - width)) where
    fill_is : v ≡ bit_field (bit bytes) width (8 * bytes_for width - width)
    fill_is = i ∙ field_in bytes width (8 * bytes_for width - width) (omega arith) (omega arith)

    filled_is : filled width bytes ≡ eqb v 0
    unfolding filled
    filled_is = rw (eq-eqb (length bytes) (bytes_for width) l) (field_zero (bit bytes) width (8 * bytes_for width - width) ∙ ap (λ (n : ℕ). eqb n 0) (sym fill_is))

    pub cells_fill : (v ≡ 0 → ⊥) → cells lead cell g bytes ≡ none
    unfolding cells
    cells_fill n = rw (filled_is, ne_eqb v 0 n)

    in_bytes : (k : ℕ) → k < g → lead + cell * k + cell ≤ 8 * length bytes
    in_bytes k m = omega (arith, l, mul-le-mul_left cell (let h : k + 1 ≤ g = omega arith in h))

    cells_whole : cell ≤ 16 → v ≡ 0 → cells lead cell g bytes ≡ some (table 0 g (λ k. field_at bytes (lead + cell * k) cell))
    unfolding cells
    cells_whole few n =
        rw (filled_is, eq-eqb v 0 n)
        (ap (λ (xs : List ℕ). some xs) (table_same 0 g (λ k. bit_field (bit bytes) (lead + cell * k) cell) (λ k. field_at bytes (lead + cell * k) cell) (λ k m. sym (field_in bytes (lead + cell * k) cell few (in_bytes k (omega arith))))))

    pub cells_handed : cell ≤ 16 → v ≡ 0 → (xs : List ℕ) → xs ≡ table 0 g (λ k. field_at bytes (lead + cell * k) cell) → Some xs ≡ file_row (or_no_row (cells lead cell g bytes))
    cells_handed few n xs e = sym (ap (λ o. file_row (or_no_row o)) (cells_whole few n) ∙ ap (λ (ys : List ℕ). Some ys) (sym e))

-- the cells of a row: 10 bits a signal and none in front
module _ (bytes : List ℕ) where
  -- so many of them
  abbrev pub cells_to : (g : ℕ) → List ℕ
  cells_to g = table 0 g (λ k. field_at bytes (10 * k) 10)

  pub cells_to_none : replicate 63 0 ≡ cells_to 0 ++ replicate (63 - 0) 0
  unfolding table
  cells_to_none = refl

  pub cells_to_long : (g : ℕ) → length (cells_to g) ≡ g
  cells_to_long g = table_length 0 g (λ k. field_at bytes (10 * k) 10)

  pub cells_to_more : (g v : ℕ) (xs : List ℕ) → xs ≡ cells_to g ++ replicate (63 - g) 0 → g < 63 → v ≡ field_at bytes (10 * g) 10
      → set xs g v ≡ cells_to (g + 1) ++ replicate (63 - (g + 1)) 0
  cells_to_more g v xs e l i =
      ap (λ (ys : List ℕ). set ys g v) e ∙ set_next 63 g v (cells_to g) (cells_to_long g) l
      ∙ ap (λ (ys : List ℕ). ys ++ replicate (63 - (g + 1)) 0)
      (ap (λ (w : ℕ). cells_to g ++ (w ∷ [])) (i ∙ ap (λ (k : ℕ). field_at bytes (10 * k) 10) (let j : g ≡ 0 + g = omega arith in j))
      ∙ sym (table_last 0 g (λ k. field_at bytes (10 * k) 10)) ∙ ap (λ (k : ℕ). cells_to k) (let j : suc g ≡ g + 1 = omega arith in j))

  module _ (g : ℕ) where
    wide : 10 * g ≡ 0 + 10 * g
    wide = omega arith

    pub row_length : (length bytes ≡ bytes_for (10 * g) → ⊥) → file_row (or_no_row (cells 0 10 g bytes)) ≡ None
    row_length n = ap (λ o. file_row (or_no_row o)) (cells_length 0 10 g bytes (λ e. n (e ∙ ap bytes_for (sym wide))))

    module _ (l : length bytes ≡ bytes_for (10 * g)) (v : ℕ) (i : v ≡ field_at bytes (10 * g) (8 * bytes_for (10 * g) - 10 * g)) where
      long : length bytes ≡ bytes_for (0 + 10 * g)
      long = l ∙ ap bytes_for wide

      fill : v ≡ field_at bytes (0 + 10 * g) (8 * bytes_for (0 + 10 * g) - (0 + 10 * g))
      fill = i ∙ ap (λ (w : ℕ). field_at bytes w (8 * bytes_for w - w)) wide

      pub row_fill : (v ≡ 0 → ⊥) → file_row (or_no_row (cells 0 10 g bytes)) ≡ None
      row_fill n = ap (λ o. file_row (or_no_row o)) (cells_fill 0 10 g bytes long v fill n)

      pub row_cells : v ≡ 0 → file_row (or_no_row (cells 0 10 g bytes)) ≡ Some (cells_to g)
      row_cells n =
          sym (cells_handed 0 10 g bytes long v fill (omega arith) n (cells_to g)
          (table_same 0 g (λ k. field_at bytes (10 * k) 10) (λ k. field_at bytes (0 + 10 * k) 10) (λ k b. ap (λ (w : ℕ). field_at bytes w 10) (let e : 10 * k ≡ 0 + 10 * k = omega arith in e))))

-- what the reader of a row found
pub row_hollow : (o : RowRead) → file_row o ≡ None → o ≡ no_row
row_hollow no_row e = refl
row_hollow (degrees r) e = cc

pub row_found : (o : RowRead) (ds : List ℕ) → file_row o ≡ Some ds → o ≡ degrees ds
row_found no_row ds e = cc
row_found (degrees r) ds e = ap degrees (let i : r ≡ ds = cc in i)

-- each entry is the empty mark
marks : (xs : List ℕ) (n : ℕ) → n ≡ length xs → every n (λ k. eqb (entry xs k) 1023) ≡ true → All (λ d. d ≡ 1023) xs
marks xs n e t k d l = get_or_default xs k d 0 l ∙ (every_is n (λ i. eqb (entry xs i) 1023) (λ i. entry xs i ≡ 1023) (λ i. (eqb-true (entry xs i) 1023, eq-eqb (entry xs i) 1023))).0 t k (omega (arith, e, l))

marked : (xs : List ℕ) (n : ℕ) → n ≡ length xs → All (λ d. d ≡ 1023) xs → every n (λ k. eqb (entry xs k) 1023) ≡ true
marked xs n e a =
    (every_is n (λ i. eqb (entry xs i) 1023) (λ i. entry xs i ≡ 1023) (λ i. (eqb-true (entry xs i) 1023, eq-eqb (entry xs i) 1023))).1
    (λ k l. a k 0 (omega (arith, e, l)))

-- A row of a file is empty where each degree is the empty mark.
module _ (f : Card) (bytes : List ℕ) (g : ℕ) (eg : f.signals ≡ g) (w : Std.Option (List ℕ)) (ew : w ≡ file_row (or_no_row (cells 0 10 g bytes))) where
  read_is : (o : Option (List ℕ)) → cells 0 10 g bytes ≡ o → row_of f bytes ≡ or_no_row (map (unmarked f) o)
  read_is o e = ap (λ (n : ℕ). or_no_row (map (unmarked f) (cells 0 10 n bytes))) eg ∙ ap (λ (x : Option (List ℕ)). or_no_row (map (unmarked f) x)) e

  module _ (ds : List ℕ) (i : w ≡ Some ds) where
    here : (cells 0 10 g bytes ≡ some ds) × (length ds ≡ g)
    here = go (cells 0 10 g bytes) refl (sym i ∙ ew)
      where
        go : (o : Option (List ℕ)) → cells 0 10 g bytes ≡ o → Some ds ≡ file_row (or_no_row o) → (cells 0 10 g bytes ≡ some ds) × (length ds ≡ g)
        go none e q = cc
        go (some r) e q = let same : ds ≡ r = cc in (e ∙ ap some (sym same), ap length same ∙ cells_long 0 10 g bytes r e)

    pub row_marked : All (λ d. d ≡ 1023) ds → Some [] ≡ file_row (row_of f bytes)
    unfolding unmarked
    row_marked a =
        let t : every f.signals (λ k. eqb (entry ds k) 1023) ≡ true = marked ds f.signals (eg ∙ sym here.1) a in
        let z : row_of f bytes ≡ degrees [] = read_is (some ds) here.0 ∙ rw t refl in
        sym (ap file_row z)

    pub row_unmarked : ¬ All (λ d. d ≡ 1023) ds → Some ds ≡ file_row (row_of f bytes)
    unfolding unmarked
    row_unmarked n =
        let t : every f.signals (λ k. eqb (entry ds k) 1023) ≡ false = false_from_ne_true _ (λ e. n (marks ds f.signals (eg ∙ sym here.1) e)) in
        let z : row_of f bytes ≡ degrees ds = read_is (some ds) here.0 ∙ rw t refl in
        sym (ap file_row z)

-- Where bytes hold no row, a row of more degrees than any card has signals stands for it: both are refused with 20.
long_row : (c : Card) (s : NetState) (long : List ℕ) → c.signals ≤ 63 → 63 < length long → row_refusal (flatten c) s long ≡ some BadRow
unfolding row_refusal row_fault flatten
long_row c s long l m = rw (ne_eqb (length long) 0 (λ e. omega (arith, m, e)), ne_eqb (length long) c.signals (λ e. omega (arith, m, e)))

refused_alike : (a b : Option Refusal) (why : Refusal) (l x y : Lent) → settle (a otherwise b otherwise some why) l x ≡ settle (a otherwise b otherwise some why) l y
refused_alike none none why l x y = refl
refused_alike none (some z) why l x y = refl
refused_alike (some z) b why l x y = refl

pub too_many : (ordered : Card → Bool) (j : Judgement) (l : Lent) (long : List ℕ) → 63 < length long → ((c : Card) → j ≡ accepted c → c.signals ≤ 63)
    → called ordered j l long ≡ call_on in_state j (λ c. record { ask = row no_row; ordered = ordered c }) l
too_many ordered (accepted c) l long m few =
    rw (long_row c (view l) long (few c refl) m)
    (refused_alike (some_unless (valid (flatten c) l) BadState) (some_unless (ordered c) BadOrder) BadRow l (store l (row_next (flatten c) (view l) long)) (store l (view l)))
too_many ordered (refused n at) l long m few = refl
