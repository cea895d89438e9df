-- A field of any bytes.
use Rattle.std.specs.Prelude.{ℕ, ◌+◌, ◌*◌, ◌&&◌, cond, List, length, leb}
use Rattle.card.specs.Bits.{bit, bit_field}

-- the field of w bits from bit at on, where it is no wider than 16 bits and lies within the bytes; else 0
unfoldable pub field_at : List ℕ → (at w : ℕ) → ℕ
field_at bytes at w = cond (leb w 16 && leb (at + w) (8 * length bytes)) (bit_field (bit bytes) at w) 0
