-- Numbers, as printed text.
use Rattle.std.specs.Prelude.{ℕ, zero, suc, ◌+◌, ◌/◌, ◌%◌, cond, List, [], ◌∷◌, ◌++◌, ltb}

-- a decimal number
abbrev pub digit : ℕ → ℕ
digit d = 48 + d

unfoldable pub digits : (fuel : ℕ) → ℕ → List ℕ
digits zero n = []
digits (suc k) n =
    let more = digits k (n / 10) ++ (digit (n % 10) ∷ []) in
    cond (ltb n 10) (digit n ∷ []) more

abbrev pub decimal : ℕ → List ℕ
decimal n = digits (suc n) n
