-- What is read of the cases of the programs for the tests.
use Rattle.std.specs.Prelude.{ℕ, ◌+◌, ◌*◌, ◌≤◌, ◌<◌, ◌≡◌, List, length, get_or}

-- the 16-bit number at a byte, most significant byte first; a byte past the end is 0
abbrev pub number_at : List ℕ → ℕ → ℕ
number_at bytes i = 256 * get_or bytes i 0 + get_or bytes (i + 1) 0

-- a table that has the first n numbers of the bytes at its front, and is as before behind them
pub record IsNumbers (bytes before after : List ℕ) (n : ℕ) : Type 0 where
  pub size : length after ≡ length before
  pub front : (k : ℕ) → k < n → get_or after k 0 ≡ number_at bytes (2 * k)
  pub behind : (k : ℕ) → n ≤ k → get_or after k 0 ≡ get_or before k 0

-- the kind and the length in a lead's bytes
pub record IsLead (head : List ℕ) (kind size : ℕ) : Type 0 where
  pub kind_first : kind ≡ get_or head 0 0
  pub length_behind : size ≡ number_at head 1
  pub sixteen_bits : size < 65536
