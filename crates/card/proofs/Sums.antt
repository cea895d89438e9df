-- Laws of sums, of tables and of all members of a list. Assumes nothing.
use Prim.Native.Nat.{ℕ, zero, suc, ◌+◌, ◌-◌, ◌≤◌, ◌<◌}
use mathlib.Core.Path.{◌≡◌, refl, sym, ap, ◌∙◌}
use mathlib.Core.Bool.{Bool, true, false}
use mathlib.Core.List.{List, [], ◌∷◌, ◌++◌, map}
use native.Mathlib.Omega.{arith}
use native.Mathlib.Nat.{zero-add, add-suc}
use lib.ListN.{length, get_or}
use lib.Dec.{ltb}
use borrow.Author.Tests.{ltb-true, ltb-false}
use Rattle.card.specs.Finite.{sum_to, table, All}

pub sum_same : (n : ℕ) (a b : ℕ → ℕ) → ((i : ℕ) → i < n → a i ≡ b i) → sum_to n a ≡ sum_to n b
unfolding sum_to
sum_same zero a b h = refl
sum_same (suc n) a b h = omega (arith, sum_same n a b (λ i l. h i (omega arith)), h n (omega arith))

pub sum_plus : (n : ℕ) (a b : ℕ → ℕ) → sum_to n (λ i. a i + b i) ≡ sum_to n a + sum_to n b
unfolding sum_to
sum_plus zero a b = refl
sum_plus (suc n) a b = omega (arith, sum_plus n a b)

pub sum_zero : (n : ℕ) (a : ℕ → ℕ) → ((i : ℕ) → i < n → a i ≡ 0) → sum_to n a ≡ 0
unfolding sum_to
sum_zero zero a h = refl
sum_zero (suc n) a h = omega (arith, sum_zero n a (λ i l. h i (omega arith)), h n (omega arith))

-- the first term apart
pub sum_front : (n : ℕ) (a : ℕ → ℕ) → sum_to (suc n) a ≡ a 0 + sum_to n (λ i. a (suc i))
unfolding sum_to
sum_front zero a = omega arith
sum_front (suc n) a = omega (arith, sum_front n a)

-- so many terms, and then more
pub sum_append : (m n : ℕ) (a : ℕ → ℕ) → sum_to (m + n) a ≡ sum_to m a + sum_to n (λ i. a (m + i))
unfolding sum_to
sum_append m zero a = let e : m + zero ≡ m = omega arith in rw e (omega arith)
sum_append m (suc n) a = rw add-suc (omega (arith, sum_append m n a))

pub sum_mono : (m n : ℕ) (a : ℕ → ℕ) → m ≤ n → sum_to m a ≤ sum_to n a
sum_mono m n a h =
    let k : ℕ = n - m in
    let e : n ≡ m + k = omega arith in
    rw e (omega (arith, sum_append m k a))

-- Consecutive ranges of count 0, count 1, .. numbers: each number below the sum lies in one of them, and in one place there.
pub record Owner (n : ℕ) (count : ℕ → ℕ) (k : ℕ) : Type 0 where
  pub range : ℕ
  pub below : range < n
  pub low : sum_to range count ≤ k
  pub high : k < sum_to (suc range) count

pub sum_owner : (n : ℕ) (count : ℕ → ℕ) (k : ℕ) → k < sum_to n count → Owner n count k
unfolding sum_to
sum_owner zero count k l = absurd (omega arith)
sum_owner (suc n) count k l = go (ltb k (sum_to n count)) refl (λ m. wider (sum_owner n count k m))
  where
    wider : Owner n count k → Owner (suc n) count k
    wider o = record { range = o.range; below = omega (arith, o.below); low = o.low; high = o.high }

    go : (b : Bool) → ltb k (sum_to n count) ≡ b → (k < sum_to n count → Owner (suc n) count k) → Owner (suc n) count k
    go true e f = f (ltb-true k (sum_to n count) e)
    go false e f = record { range = n; below = omega arith; low = ltb-false k (sum_to n count) e; high = l }

pub sum_below : (n : ℕ) (count : ℕ → ℕ) (r m : ℕ) → r < n → m < count r → sum_to r count + m < sum_to n count
unfolding sum_to
sum_below n count r m l h = omega (arith, sum_mono (suc r) n count (omega arith))

pub sum_unique : (count : ℕ → ℕ) (r s m n : ℕ) → m < count r → n < count s → sum_to r count + m ≡ sum_to s count + n → (r ≡ s) × (m ≡ n)
sum_unique count r s m n lm ln e = go (ltb r s) (ltb s r) refl refl
  where
    go : (a b : Bool) → ltb r s ≡ a → ltb s r ≡ b → (r ≡ s) × (m ≡ n)
    go true b p q = absurd (omega (arith, sum_below s count r m (ltb-true r s p) lm))
    go false true p q = absurd (omega (arith, sum_below r count s n (ltb-true s r q) ln))
    go false false p q =
        let d : r ≡ s = omega (arith, ltb-false r s p, ltb-false s r q) in
        (d, omega (arith, ap (λ (i : ℕ). sum_to i count) d))

-- the sum of a list's numbers
abbrev pub total : {A : Type 0} → (A → ℕ) → List A → ℕ
total f [] = 0
total f (x ∷ xs) = f x + total f xs

pub sum_list : {A : Type 0} (f : A → ℕ) (xs : List A) (d : A) → sum_to (length xs) (λ i. f (get_or xs i d)) ≡ total f xs
unfolding sum_to
sum_list f [] d = refl
sum_list f (x ∷ xs) d = sum_front (length xs) (λ i. f (get_or (x ∷ xs) i d)) ∙ ap (λ (n : ℕ). f x + n) (sum_list f xs d)

pub total_append : {A : Type 0} (f : A → ℕ) (xs ys : List A) → total f (xs ++ ys) ≡ total f xs + total f ys
total_append f [] ys = sym (zero-add (total f ys))
total_append f (x ∷ xs) ys = omega (arith, total_append f xs ys)

-- tables
pub table_length : {A : Type 0} (from n : ℕ) (f : ℕ → A) → length (table from n f) ≡ n
unfolding table
table_length from zero f = refl
table_length from (suc n) f = ap suc (table_length (suc from) n f)

pub table_get : {A : Type 0} (from n : ℕ) (f : ℕ → A) (d : A) (i : ℕ) → i < n → get_or (table from n f) i d ≡ f (from + i)
unfolding table
table_get from zero f d i l = absurd (omega arith)
table_get from (suc n) f d zero l = ap f (omega arith)
table_get from (suc n) f d (suc i) l = table_get (suc from) n f d i (omega arith) ∙ ap f (omega arith)

pub table_at : {A : Type 0} (n : ℕ) (f : ℕ → A) (d : A) (i : ℕ) → i < n → get_or (table 0 n f) i d ≡ f i
table_at n f d i l = table_get 0 n f d i l ∙ ap f (zero-add i)

-- all members
pub all_append : {A : Type 0} (P : A → Type 0) (xs ys : List A) → All P xs → All P ys → All P (xs ++ ys)
all_append P [] ys h k = k
all_append P (x ∷ xs) ys h k = (h.0, all_append P xs ys h.1 k)

pub all_map : {A B : Type 0} (P : B → Type 0) (f : A → B) (xs : List A) → All (λ x. P (f x)) xs → All P (map f xs)
all_map P f [] h = tt
all_map P f (x ∷ xs) h = (h.0, all_map P f xs h.1)

pub all_more : {A : Type 0} (P Q : A → Type 0) → ((x : A) → P x → Q x) → (xs : List A) → All P xs → All Q xs
all_more P Q f [] h = tt
all_more P Q f (x ∷ xs) h = (f x h.0, all_more P Q f xs h.1)

pub all_at : {A : Type 0} (P : A → Type 0) (xs : List A) (d : A) → All P xs → (i : ℕ) → i < length xs → P (get_or xs i d)
all_at P [] d h i l = absurd (omega arith)
all_at P (x ∷ xs) d h zero l = h.0
all_at P (x ∷ xs) d h (suc i) l = all_at P xs d h.1 i (omega arith)

pub all_of : {A : Type 0} (P : A → Type 0) (xs : List A) (d : A) → ((i : ℕ) → i < length xs → P (get_or xs i d)) → All P xs
all_of P [] d h = tt
all_of P (x ∷ xs) d h = (h 0 (omega arith), all_of P xs d (λ i l. h (suc i) (omega arith)))

pub all_table : {A : Type 0} (P : A → Type 0) (from n : ℕ) (f : ℕ → A) → ((i : ℕ) → P (f i)) → All P (table from n f)
unfolding table
all_table P from zero f h = tt
all_table P from (suc n) f h = (h from, all_table P (suc from) n f h)
