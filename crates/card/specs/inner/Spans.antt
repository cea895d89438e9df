-- Fields of bytes, read and written through a span of three bytes: a field of 16 bits lies within one from any bit on, 7 + 16 ≤ 24.
use Rattle.std.specs.Prelude.{ℕ, ◌+◌, ◌*◌, ◌/◌, ◌%◌, ◌^◌, ◌<◌, ◌≤◌, ◌≡◌, List, ◌⊎◌, length, get_or}
use Rattle.card.specs.Bits.{bit, bit_field}

-- the span of three bytes from byte k on, as one number; a byte past the end is 0
unfoldable pub span : List ℕ → (k : ℕ) → ℕ
span bytes k = 65536 * get_or bytes k 0 + (256 * get_or bytes (k + 1) 0 + get_or bytes (k + 2) 0)

-- x is the span from byte k on, and neither it nor its two lower bytes pass their width
pub record Span (bytes : List ℕ) (k x : ℕ) : Type 0 where
  pub is : x ≡ span bytes k
  pub small : x < 2 ^ 24
  pub middle : get_or bytes (k + 1) 0 < 256
  pub last : get_or bytes (k + 2) 0 < 256

-- the span x with the w bits above its low bits replaced by v
unfoldable pub patch : (x low w v : ℕ) → ℕ
patch x low w v = (x / 2 ^ low / 2 ^ w * 2 ^ w + v) * 2 ^ low + x % 2 ^ low

-- new is old with the field of w bits at bit at set to v: every other bit stays, and bytes stay bytes
pub record Put (old : List ℕ) (at w v : ℕ) (new : List ℕ) : Type 0 where
  pub long : length new ≡ length old
  pub value : bit_field (bit new) at w ≡ v
  pub outside : (i : ℕ) → (i < at) ⊎ (at + w ≤ i) → bit new i ≡ bit old i
  pub small : ((k : ℕ) → get_or old k 0 < 256) → (k : ℕ) → get_or new k 0 < 256
