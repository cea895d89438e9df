-- Rows of one kind in a table of numbers, one behind the other.
use Rattle.std.specs.Prelude.{ℕ, ◌*◌, ◌/◌, List, length, take, drop}
use Rattle.card.specs.Finite.{table}

-- the rows of n numbers each; what is too short for one more is none
unfoldable pub rows_in : {R : Type 0} → (n : ℕ) → (List ℕ → R) → (numbers : List ℕ) → List R
rows_in n row numbers = table 0 (length numbers / n) (λ j. row (take n (drop (n * j) numbers)))
