-- A field written: its span with the field replaced, and the three bytes stored back. Assumes nothing.
use Prim.Native.Nat.{ℕ, zero, suc, ◌+◌, ◌-◌, ◌*◌, ◌/◌, ◌%◌, ◌^◌, ◌≤◌, ◌<◌}
use mathlib.Core.Path.{◌≡◌, ap, sym, ◌∙◌}
use mathlib.Core.List.{List, [], ◌∷◌}
use mathlib.Core.Logic.{◌⊎◌, inl, inr, ◌≢◌}
use native.Mathlib.Nat.{mod-lt, le-mul_of_pos_right}
use native.Mathlib.Omega.{arith}
use lib.ListN.{length, get_or, set, length-set, get_or-eq_default}
use lib.Seq.{get_or-set_same, get_or-set_other}
use lib.Arith.{digits_lt}
use lib.Pow.{pow-add, pow_pos, shr-shr, shr_lt}
use Rattle.std.proofs.lemmas.Bool.{cases_lt}
use Rattle.card.specs.Bits.{bit, bit_field}
use Rattle.card.specs.inner.Spans.{Span, patch, Put}
use Rattle.card.proofs.BitLaws.{low_digit, low_bit, high_bit, three_bit, span_bit, field_is}

-- a patched span has 24 bits, and each step to it fits 32: p and q are the code's powers of two
module _ (x low w v p q : ℕ) (ep : p ≡ 2 ^ low) (eq : q ≡ 2 ^ w) (hx : x < 2 ^ 24) (hs : low + w ≤ 24) (hv : v < 2 ^ w) where
  pub patch_fits : (x / p / q * q + v) * p + x % p < 2 ^ 24
  patch_fits =
      let o = 24 - (low + w) in
      let e : o + (low + w) ≡ 24 = omega arith in
      let f : o + w + low ≡ 24 = omega arith in
      let g : x < 2 ^ (o + (low + w)) = rw e hx in
      let h : x / 2 ^ low / 2 ^ w < 2 ^ o = rw shr-shr (shr_lt o (low + w) g) in
      let t : 2 ^ o * 2 ^ w * 2 ^ low ≡ 2 ^ 24 = rw (← pow-add, ← pow-add, f) in
      rw (ep, eq, ← t) (digits_lt (digits_lt h hv) (mod-lt x (pow_pos low)))

  pub patch_is : (x / p / q * q + v) * p + x % p ≡ patch x low w v
  unfolding patch
  patch_is = rw (ep, eq)

  pub sum_fits : (x / p / q * q + v) * p + x % p < 2 ^ 32
  sum_fits = omega (arith, patch_fits)

  pub times_fits : (x / p / q * q + v) * p < 2 ^ 32
  times_fits = omega (arith, patch_fits)

  pub plus_fits : x / p / q * q + v < 2 ^ 32
  plus_fits = let pos : 0 < p = rw ep (pow_pos low) in omega (arith, times_fits, le-mul_of_pos_right (x / p / q * q + v) pos)

  pub high_fits : x / p / q * q < 2 ^ 32
  high_fits = omega (arith, plus_fits)

-- the bits of a patched span: below the field, in it, and above it
module _ (x low w v : ℕ) where
  patch_low : (t : ℕ) → t < low → patch x low w v / 2 ^ t % 2 ≡ x / 2 ^ t % 2
  unfolding patch
  patch_low t l = low_bit (x / 2 ^ low / 2 ^ w * 2 ^ w + v) (x % 2 ^ low) low t l ∙ low_digit x low t l

  patch_top : (u : ℕ) → patch x low w v / 2 ^ (low + u) ≡ (x / 2 ^ low / 2 ^ w * 2 ^ w + v) / 2 ^ u
  unfolding patch
  patch_top u = high_bit (x / 2 ^ low / 2 ^ w * 2 ^ w + v) (x % 2 ^ low) low u (mod-lt x (pow_pos low))

  patch_mid : (u : ℕ) → u < w → patch x low w v / 2 ^ (low + u) % 2 ≡ v / 2 ^ u % 2
  patch_mid u l = rw patch_top (low_bit (x / 2 ^ low / 2 ^ w) v w u l)

  patch_high : (u : ℕ) → v < 2 ^ w → patch x low w v / 2 ^ (low + (w + u)) ≡ x / 2 ^ (low + (w + u))
  patch_high u h = patch_top (w + u) ∙ high_bit (x / 2 ^ low / 2 ^ w) v w u h ∙ shr-shr (x / 2 ^ low) w u ∙ shr-shr x low (w + u)

-- the three bytes of y stored from byte k on
stored : List ℕ → (k y : ℕ) → List ℕ
stored bytes k y = set (set (set bytes k (y / 65536)) (k + 1) (y / 256 % 256)) (k + 2) (y % 256)

module _ (bytes : List ℕ) (k y : ℕ) where
  stored_length : length (stored bytes k y) ≡ length bytes
  unfolding stored
  stored_length = simp length-set

  -- a bit of the three bytes is y's
  stored_bit : (j : ℕ) → j < 24 → 8 * k + j < 8 * length bytes → bit (stored bytes k y) (8 * k + j) ≡ y / 2 ^ (23 - j) % 2
  unfolding stored
  stored_bit j h l =
      let n1 : k ≢ k + 1 = λ e. omega arith in
      let n2 : k ≢ k + 2 = λ e. omega arith in
      let n3 : k + 1 ≢ k + 2 = λ e. omega arith in
      let whole : 65536 * (y / 65536) + (256 * (y / 256 % 256) + y % 256) ≡ y = omega arith in
      three_bit (stored bytes k y) k (y / 65536) (y / 256 % 256) (y % 256) (omega arith) (omega arith) j h
      (λ m. simp get_or-set_other (get_or-set_same bytes k (y / 65536) 0 (omega arith)))
      (λ g m. simp get_or-set_other (get_or-set_same (set bytes k (y / 65536)) (k + 1) (y / 256 % 256) 0 (simp length-set (omega arith))))
      (λ g. get_or-set_same (set (set bytes k (y / 65536)) (k + 1) (y / 256 % 256)) (k + 2) (y % 256) 0 (simp length-set (omega arith)))
      ∙ ap (λ (n : ℕ). n / 2 ^ (23 - j) % 2) whole

  stored_byte : (i : ℕ) → i ≢ k → i ≢ k + 1 → i ≢ k + 2 → get_or (stored bytes k y) i 0 ≡ get_or bytes i 0
  unfolding stored
  stored_byte i n0 n1 n2 = simp get_or-set_other

  -- a bit is as it was if it is so within the three bytes and before the end
  stored_same : (i : ℕ) → ((j : ℕ) → i ≡ 8 * k + j → j < 24 → i < 8 * length bytes → bit (stored bytes k y) i ≡ bit bytes i) → bit (stored bytes k y) i ≡ bit bytes i
  unfolding bit
  stored_same i within = go (cases_lt i (8 * k)) (cases_lt i (8 * k + 24)) (cases_lt i (8 * length bytes))
    where
      go : (i < 8 * k) ⊎ (8 * k ≤ i) → (i < 8 * k + 24) ⊎ (8 * k + 24 ≤ i) → (i < 8 * length bytes) ⊎ (8 * length bytes ≤ i) → bit (stored bytes k y) i ≡ bit bytes i
      go (inl a) b c = rw (stored_byte (i / 8) (λ e. omega arith) (λ e. omega arith) (λ e. omega arith))
      go (inr a) (inr b) c = rw (stored_byte (i / 8) (λ e. omega arith) (λ e. omega arith) (λ e. omega arith))
      go (inr a) (inl b) (inl c) = within (i - 8 * k) (omega arith) (omega arith) c
      go (inr a) (inl b) (inr c) =
          let g : length (stored bytes k y) ≤ i / 8 = omega (arith, stored_length) in
          let h : length bytes ≤ i / 8 = omega arith in
          rw (get_or-eq_default (stored bytes k y) 0 g, get_or-eq_default bytes 0 h)

-- a byte stored among bytes
set_small : (xs : List ℕ) (i a : ℕ) → ((k : ℕ) → get_or xs k 0 < 256) → a < 256 → (k : ℕ) → get_or (set xs i a) k 0 < 256
set_small [] i a h l k = h k
set_small (x ∷ xs) zero a h l zero = l
set_small (x ∷ xs) zero a h l (suc k) = h (suc k)
set_small (x ∷ xs) (suc i) a h l zero = h 0
set_small (x ∷ xs) (suc i) a h l (suc k) = set_small xs i a (λ j. h (suc j)) l k

-- the three bytes of the patched span, stored, write the field
module _ (old : List ℕ) (at w v x y : ℕ) (h : Span old (at / 8) x) (ey : y ≡ patch x (24 - (at % 8 + w)) w v)
    (hv : v < 2 ^ w) (hw : w ≤ 16) (fits : at + w ≤ 8 * length old) (hy : y < 2 ^ 24) where
  stored_value : bit_field (bit (stored old (at / 8) y)) at w ≡ v
  stored_value =
      field_is (bit (stored old (at / 8) y)) at w v hv
      (λ m l.
      let i : at + m ≡ 8 * (at / 8) + (at % 8 + m) = omega arith in
      let e : 23 - (at % 8 + m) ≡ (24 - (at % 8 + w)) + (w - 1 - m) = omega arith in
      rw i (stored_bit old (at / 8) y (at % 8 + m) (omega arith) (omega arith) ∙ rw (e, ey) (patch_mid x (24 - (at % 8 + w)) w v (w - 1 - m) (omega arith))))

  kept : (j : ℕ) → j < 24 → (8 * (at / 8) + j < at) ⊎ (at + w ≤ 8 * (at / 8) + j) → y / 2 ^ (23 - j) % 2 ≡ x / 2 ^ (23 - j) % 2
  kept j l (inl o) =
      let e : 23 - j ≡ (24 - (at % 8 + w)) + (w + (at % 8 - 1 - j)) = omega arith in
      rw (e, ey, patch_high x (24 - (at % 8 + w)) w v (at % 8 - 1 - j) hv)
  kept j l (inr o) = rw ey (patch_low x (24 - (at % 8 + w)) w v (23 - j) (omega arith))

  stored_outside : (i : ℕ) → (i < at) ⊎ (at + w ≤ i) → bit (stored old (at / 8) y) i ≡ bit old i
  stored_outside i o =
      stored_same old (at / 8) y i
      (λ j e l b. rw e (stored_bit old (at / 8) y j l (omega arith) ∙ kept j l (rw e at o) ∙ rw h.is (sym (span_bit old (at / 8) h.middle h.last j l))))

  pub field_put : (first second new : List ℕ) → first ≡ set old (at / 8) (y / 65536) → second ≡ set first (at / 8 + 1) (y / 256 % 256)
      → new ≡ set second (at / 8 + 2) (y % 256) → Put old at w v new
  unfolding stored
  field_put first second new e1 e2 e3 =
      rw (e3, e2, e1) (record {
        long = stored_length old (at / 8) y;
        value = stored_value;
        outside = stored_outside;
        small = λ h. set_small (set (set old (at / 8) (y / 65536)) (at / 8 + 1) (y / 256 % 256)) (at / 8 + 2) (y % 256) (set_small (set old (at / 8) (y / 65536)) (at / 8 + 1) (y / 256 % 256) (set_small old (at / 8) (y / 65536) h (omega arith)) (omega arith)) (omega arith);
      })
