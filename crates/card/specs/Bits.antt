-- The bits of bytes: fields are packed most significant bit first, and bits count from 0 ('The card').
use Rattle.std.specs.Prelude.{ℕ, zero, suc, ◌+◌, ◌-◌, ◌*◌, ◌/◌, ◌%◌, ◌^◌, List, length, get_or}
use Rattle.card.specs.Finite.{table}

-- bit i of the bytes; 0 past their end
unfoldable pub bit : List ℕ → ℕ → ℕ
bit bytes i = get_or bytes (i / 8) 0 / 2 ^ (7 - i % 8) % 2

-- the number that w bits make, from bit at on
unfoldable pub bit_field : (bits : ℕ → ℕ) → (at w : ℕ) → ℕ
bit_field bits at zero = 0
bit_field bits at (suc w) = 2 * bit_field bits at w + bits (at + w)

-- the w bits of a number
abbrev pub bits_of : (w v : ℕ) → List ℕ
bits_of w v = table 0 w (λ i. v / 2 ^ (w - 1 - i) % 2)

-- how many bytes hold n bits
abbrev pub bytes_for : ℕ → ℕ
bytes_for n = (n + 7) / 8

-- bits as bytes; zeros fill the last one
unfoldable pub pack : List ℕ → List ℕ
pack bits = table 0 (bytes_for (length bits)) (λ k. bit_field (λ i. get_or bits i 0) (8 * k) 8)
