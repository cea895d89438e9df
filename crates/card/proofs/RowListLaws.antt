-- Rows of one kind, taken off the front one at a time. Assumes nothing.
use Prim.Native.Nat.{ℕ, zero, suc, ◌+◌, ◌-◌, ◌*◌, ◌/◌, ◌%◌, ◌≤◌, ◌<◌}
use mathlib.Core.Path.{◌≡◌, refl, sym, ap, ap₂, subst, ◌∙◌}
use mathlib.Core.List.{List, [], ◌∷◌, map}
use native.Mathlib.Nat.{mod-lt, mul-zero, mul-suc, suc-mul, zero-mul, mul_comm, mul-le-mul_left}
use native.Mathlib.Numerals.{add-one}
use native.Mathlib.Omega.{arith}
use lib.ListN.{length, take, drop}
use lib.Seq.{drop-drop}
use Rattle.std.proofs.lemmas.Nat.{div-add-mod', div-mul-add}
use Rattle.std.proofs.lemmas.List.{length-drop, length-take, drop-take, take-take}
use Rattle.card.specs.Finite.{table}
use Rattle.std.specs.Prelude.{Option, Some, None}
use Rattle.std.specs.declared.iter.Take.{Take}
use Rattle.std.specs.declared.iter.Enumerate.{Enumerate}
use Rattle.std.specs.Iterator.{YieldsFirst, Yields}
use Rattle.std.specs.Iterator.Adapters.{take_source, take_count, take_steps, enumerate_source, enumerate_count, enumerate_steps}
use Rattle.std.specs.List.{enumerate_from}
use Rattle.std.proofs.lemmas.Iterator.{YieldsList, YieldsList-from_take}
use Rattle.std.proofs.lemmas.Iterator.Consumers.{YieldsList-from_shown, YieldsList-from_enumerate, YieldsList-turn, YieldsList-end}
use Rattle.card.specs.RowList.{rows_in}
use Rattle.card.specs.Card.{Card, subnet_at, place_at, transition_at, arc_at, first_place}
use Rattle.card.specs.View.{place_in, arc_in, places_of, arcs_of}
use Rattle.card.specs.declared.view.Place.{Place as HeldPlace}
use Rattle.card.specs.declared.view.Arc.{Arc as HeldArc}
use Rattle.card.proofs.Sums.{table_length, table_at}
use Rattle.card.proofs.Prefix.{table_same, table_shift}

div_more : (n l : ℕ) → 0 < n → n ≤ l → l / n ≡ suc ((l - n) / n)
div_more n l p h =
    let q : ℕ = (l - n) / n in
    let r : ℕ = (l - n) % n in
    let e : q * n + r ≡ l - n = div-add-mod' (l - n) n in
    let f : suc q * n + r ≡ l = (let g : suc q * n ≡ q * n + n = suc-mul q n in omega (arith, e, g)) in
    ap (λ (k : ℕ). k / n) (sym f) ∙ div-mul-add (suc q) n r (mod-lt (l - n) p)

div_none : (n l : ℕ) → l < n → l / n ≡ 0
div_none n l h = ap (λ (k : ℕ). k / n) (let e : l ≡ 0 * n + l = (let z : 0 * n ≡ 0 = zero-mul n in omega (arith, z)) in e) ∙ div-mul-add 0 n l h

pub rows_none : {R : Type 0} (n : ℕ) (row : List ℕ → R) (numbers : List ℕ) → length numbers < n → rows_in n row numbers ≡ []
unfolding rows_in table
rows_none n row numbers h = rw (div_none n (length numbers) h) refl

pub rows_more : {R : Type 0} (n : ℕ) (row : List ℕ → R) (numbers : List ℕ) → 0 < n → n ≤ length numbers
    → rows_in n row numbers ≡ row (take n numbers) ∷ rows_in n row (drop n numbers)
unfolding rows_in table
rows_more n row numbers p h =
    let e : length (drop n numbers) / n ≡ (length numbers - n) / n = ap (λ (k : ℕ). k / n) (length-drop n numbers) in
    rw (div_more n (length numbers) p h, e)
    (ap₂ (λ x xs. x ∷ xs) (ap (λ (i : ℕ). row (take n (drop i numbers))) (mul-zero n))
    (sym (table_shift 0 ((length numbers - n) / n) 1 (λ j. row (take n (drop (n * j) numbers))))
    ∙ table_same 0 ((length numbers - n) / n) (λ i. row (take n (drop (n * (1 + i)) numbers))) (λ j. row (take n (drop (n * j) (drop n numbers))))
    (λ i. ap (λ xs. row (take n xs)) (ap (λ (k : ℕ). drop k numbers) (let f : n * suc i ≡ n * i + n = mul-suc n i in omega (arith, f)) ∙ sym (drop-drop (n * i) n numbers)))))

map_table : {A B : Type 0} (f : A → B) (i n : ℕ) (g : ℕ → A) → map f (table i n g) ≡ table i n (λ j. f (g j))
unfolding table
map_table f i zero g = refl
map_table f i (suc n) g = ap (λ xs. f (g i) ∷ xs) (map_table f (suc i) n g)

table_below : {A : Type 0} (i n : ℕ) (f g : ℕ → A) → ((j : ℕ) → j < i + n → f j ≡ g j) → table i n f ≡ table i n g
unfolding table
table_below i zero f g h = refl
table_below i (suc n) f g h = ap₂ (λ x xs. x ∷ xs) (h i (omega arith)) (table_below (suc i) n f g (λ j l. h j (omega arith)))

-- row j of those that stand one behind the other from number i on
row_part : (n m j i : ℕ) (numbers : List ℕ) → j < m → take n (drop (n * j) (take (n * m) (drop i numbers))) ≡ take n (drop (i + n * j) numbers)
row_part n m j i numbers l =
    let k : ℕ = n * m - n * j in
    let h : n * suc j ≤ n * m = mul-le-mul_left n (let q : suc j ≤ m = omega arith in q) in
    let g : n * suc j ≡ n * j + n = mul-suc n j in
    let e : n * m ≡ n * j + k = omega (arith, h, g) in
    ap (λ (w : ℕ). take n (drop (n * j) (take w (drop i numbers)))) e
    ∙ ap (take n) (drop-take (n * j) k (drop i numbers))
    ∙ take-take n k (drop (n * j) (drop i numbers)) (omega (arith, h, g))
    ∙ ap (take n) (drop-drop (n * j) i numbers)

pub rows_are : {R A : Type 0} (n m i k : ℕ) (row : List ℕ → R) (view : R → A) (f : ℕ → A) (numbers : List ℕ) → 0 < n → k ≡ n * m → i + k ≤ length numbers
    → ((j : ℕ) → j < m → view (row (take n (drop (i + n * j) numbers))) ≡ f j)
    → map view (rows_in n row (take k (drop i numbers))) ≡ table 0 m f
unfolding rows_in
rows_are n m i k row view f numbers p e h each =
    let long : length (take k (drop i numbers)) ≡ m * n + 0 = omega (arith, length-take k (drop i numbers), length-drop i numbers, h, e, mul_comm n m) in
    let count : length (take k (drop i numbers)) / n ≡ m = ap (λ (w : ℕ). w / n) long ∙ div-mul-add m n 0 p in
    rw count (map_table view 0 m (λ j. row (take n (drop (n * j) (take k (drop i numbers)))))
    ∙ table_below 0 m _ f (λ j l. ap (λ (w : ℕ). view (row (take n (drop (n * j) (take w (drop i numbers)))))) e
    ∙ (ap (λ xs. view (row xs)) (row_part n m j i numbers (omega arith)) ∙ each j (omega arith))))

-- the rows come one at a time, in order
rows_yield : {R A : Type 0} (view : R → A) (rows : List R) (all : List A) → map view rows ≡ all → YieldsList (YieldsFirst (λ (left : List R). left)) view rows all
rows_yield {R = R} view rows all e =
    subst (YieldsList (YieldsFirst (λ (left : List R). left)) view rows) e
    (YieldsList-from_shown (YieldsFirst (λ (left : List R). left)) view (map view) (λ s t h. ap (λ xs. length (map view xs)) h.0) (λ s x t h. ap (map view) h) rows)

-- `arcs_yield`, `places_yield`: ARC BY ARC, AND PLACE BY PLACE
pub arcs_yield : (c : Card) (t : ℕ) (rows : List HeldArc) → map arc_in rows ≡ arcs_of c t
    → YieldsList (YieldsFirst (λ (left : List HeldArc). left)) arc_in rows (table 0 (transition_at c t).arcs (arc_at c t))
unfolding arcs_of
arcs_yield c t rows e = rows_yield arc_in rows _ e

pub places_yield : (c : Card) (s : ℕ) (rows : List HeldPlace) → map place_in rows ≡ places_of c s
    → YieldsList (YieldsFirst (λ (left : List HeldPlace). left)) place_in rows (table 0 (subnet_at c s).places (λ n. place_at c (first_place c s + n)))
unfolding places_of
places_yield c s rows e = rows_yield place_in rows _ e

-- a `for` over rows: at each turn the next one, and at the end all of them
module _ {S A B : Type 0} {steps : S → Option A → S → Type 0} {v : A → B} {s : S} (n : ℕ) (row : ℕ → B) (e : YieldsList steps v s (table 0 n row)) (xs : List A) (t : S) (y : Yields steps s xs t) (r : Option A) (u : S) where
  pub row_turn : (x : A) → r ≡ Some x → steps t r u → (length xs < n) × (v x ≡ row (length xs))
  row_turn x is h =
      let turn = YieldsList-turn e xs t y r u x is h in
      let l : length xs < n = omega (arith, turn.0, table_length 0 n row) in
      (l, turn.1 ∙ table_at n row (v x) (length xs) l)

  pub row_end : r ≡ None → steps t r u → length xs ≡ n
  row_end is h = (YieldsList-end e xs t y r u is h).1 ∙ table_length 0 n row

numbered_table : {A : Type 0} (i n : ℕ) (f : ℕ → A) → enumerate_from i (table i n f) ≡ table i n (λ k. (k, f k))
unfolding table
numbered_table i zero f = refl
numbered_table i (suc n) f = ap (λ xs. (i, f i) ∷ xs) (ap (λ (k : ℕ). enumerate_from k (table (suc i) n f)) (add-one i) ∙ numbered_table (suc i) n f)

-- with their numbers
pub rows_numbered : {S A B : Type 0} {steps : S → Option A → S → Type 0} {v : A → B} {s : Enumerate S} (n : ℕ) (row : ℕ → B)
    → YieldsList steps v (enumerate_source s) (table 0 n row) → enumerate_count s ≡ 0 → YieldsList {B = ℕ × B} (enumerate_steps steps) (λ (p : ℕ × A). (p.0, v p.1)) s (table 0 n (λ k. (k, row k)))
rows_numbered {A = A} {B = B} {steps = steps} {v = v} {s = s} n row e h =
    subst (YieldsList {B = ℕ × B} (enumerate_steps steps) (λ (p : ℕ × A). (p.0, v p.1)) s) (numbered_table 0 n row) (YieldsList-from_enumerate e h)

take_table : {A : Type 0} (i j n : ℕ) (f : ℕ → A) → j ≤ n → take j (table i n f) ≡ table i j f
unfolding table
take_table i zero n f l = refl
take_table i (suc j) zero f l = absurd (omega arith)
take_table i (suc j) (suc n) f l = ap (λ xs. f i ∷ xs) (take_table (suc i) j n f (omega arith))

-- over the first of them
pub rows_taken : {S A B : Type 0} {steps : S → Option A → S → Type 0} {v : A → B} {s : Take S} (j n : ℕ) (row : ℕ → B) → j ≤ n
    → YieldsList steps v (take_source s) (table 0 n row) → take_count s ≡ j → YieldsList (take_steps steps) v s (table 0 j row)
rows_taken {steps = steps} {v = v} {s = s} j n row l e h = subst (YieldsList (take_steps steps) v s) (take_table 0 j n row l) (YieldsList-from_take j e h)
