-- Sums, tables, tests and searches over the numbers from, from + 1, .., n of them.
use Rattle.std.specs.Prelude.{ℕ, zero, suc, ◌+◌, Bool, true, false, ◌&&◌, ◌||◌, cond, List, [], ◌∷◌}
use Rattle.std.proofs.Math.Option.{Option, none, some}

-- for counting
abbrev pub one : Bool → ℕ
one true = 1
one false = 0

-- f 0 + f 1 + .. + f (n - 1)
unfoldable pub sum_to : ℕ → (ℕ → ℕ) → ℕ
sum_to zero f = 0
sum_to (suc n) f = sum_to n f + f n

-- the test holds at each number below n
unfoldable pub every : ℕ → (ℕ → Bool) → Bool
every zero test = true
every (suc n) test = every n test && test n

-- the test holds at some number below n
unfoldable pub any : ℕ → (ℕ → Bool) → Bool
any zero test = false
any (suc n) test = any n test || test n

-- the value, where the test holds; the value, where it fails
abbrev pub some_if : {A : Type 0} → Bool → A → Option A
some_if true a = some a
some_if false a = none

abbrev pub some_unless : {A : Type 0} → Bool → A → Option A
some_unless true a = none
some_unless false a = some a

-- the first of two that is there
infixr 25 ◌otherwise◌
abbrev pub ◌otherwise◌ : {A : Type 0} → Option A → Option A → Option A
none otherwise b = b
some a otherwise b = some a

-- the first that f gives, going up
unfoldable pub first_of : {A : Type 0} → (from n : ℕ) → (ℕ → Option A) → Option A
first_of from zero f = none
first_of from (suc n) f = f from otherwise first_of (suc from) n f

-- the lowest number that passes the test
abbrev pub lowest : (from n : ℕ) → (ℕ → Bool) → Option ℕ
lowest from n test = first_of from n (λ i. some_if (test i) i)

-- f from, f (from + 1), .., n of them, as a list
unfoldable pub table : {A : Type 0} → (from n : ℕ) → (ℕ → A) → List A
table from zero f = []
table from (suc n) f = f from ∷ table (suc from) n f

-- the members that pass the test
unfoldable pub keep : {A : Type 0} → (A → Bool) → List A → List A
keep test [] = []
keep test (x ∷ xs) = cond (test x) (x ∷ keep test xs) (keep test xs)

-- the property holds of all members
abbrev pub All : {A : Type 0} → (A → Type 0) → List A → Type 0
All P [] = Unit {0}
All P (x ∷ xs) = P x × All P xs
