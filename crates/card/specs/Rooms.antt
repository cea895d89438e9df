-- A list in its room, with zeros behind it.
use Rattle.std.specs.Prelude.{ℕ, ◌-◌, ◌≤◌, ◌≡◌, List, ◌++◌, length, take, drop, replicate}
use Rattle.std.proofs.Common.{sym, ap, ◌∙◌, arith, take-append-drop, length-take-le}

-- n bytes, and zeros behind them
pub record IsFilled (room : ℕ) (bytes : List ℕ) (n : ℕ) : Type 0 where
  pub fits : n ≤ room
  pub long : length bytes ≡ room
  pub zeros : drop n bytes ≡ replicate (room - n) 0

-- the bytes give the room back
pub filled_long : (room : ℕ) (xs : List ℕ) (n : ℕ) → IsFilled room xs n → length (take n xs) ≡ n
filled_long room xs n h = length-take-le n xs (omega (arith, h.fits, h.long))

pub filled_back : (room : ℕ) (xs : List ℕ) (n : ℕ) → IsFilled room xs n → take n xs ++ replicate (room - length (take n xs)) 0 ≡ xs
filled_back room xs n h =
    ap (λ (k : ℕ). take n xs ++ replicate (room - k) 0) (filled_long room xs n h) ∙ ap (λ (ys : List ℕ). take n xs ++ ys) (sym h.zeros) ∙ take-append-drop n xs
