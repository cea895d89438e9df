-- Bits and fields of bytes, and the span of three bytes in which a field lies. Assumes nothing.
use Prim.Native.Nat.{ℕ, zero, suc, ◌+◌, ◌-◌, ◌*◌, ◌/◌, ◌%◌, ◌^◌, ◌≤◌, ◌<◌}
use mathlib.Core.Path.{◌≡◌, refl, ap, sym, ◌∙◌}
use mathlib.Core.List.{List}
use mathlib.Core.Logic.{◌⊎◌, inl, inr}
use native.Mathlib.Nat.{add-zero, pow-suc, div-one, div-eq_of_lt, mod-lt, mul-add-mod_self_right}
use native.Mathlib.Omega.{arith}
use lib.ListN.{length, get_or}
use lib.Seq.{ext_get_or}
use lib.Pow.{pow_pos, field, high, mod-mod-pow, shr-shr}
use Rattle.std.proofs.lemmas.Bool.{cases_lt}
use Rattle.card.specs.Bits.{bit, bit_field}
use Rattle.card.specs.inner.Spans.{span, Span}

-- a number has the low bits of its remainder by a power of two
pub low_digit : (n w u : ℕ) → u < w → n % 2 ^ w / 2 ^ u % 2 ≡ n / 2 ^ u % 2
low_digit n w u l =
    let e : w ≡ w - u - 1 + 1 + u = omega arith in
    ap (λ (i : ℕ). n % 2 ^ i / 2 ^ u % 2) e ∙ ap (λ (m : ℕ). m % 2) (field n (w - u - 1 + 1) u) ∙ mod-mod-pow (n / 2 ^ u) (w - u - 1) 1

-- the bits of h * 2 ^ w + v: below w those of v, from w on those of h
pub low_bit : (h v w u : ℕ) → u < w → (h * 2 ^ w + v) / 2 ^ u % 2 ≡ v / 2 ^ u % 2
low_bit h v w u l =
    sym (low_digit (h * 2 ^ w + v) w u l) ∙ ap (λ (n : ℕ). n / 2 ^ u % 2) (mul-add-mod_self_right h (2 ^ w) v) ∙ low_digit v w u l

pub high_bit : (h v w u : ℕ) → v < 2 ^ w → (h * 2 ^ w + v) / 2 ^ (w + u) ≡ h / 2 ^ u
high_bit h v w u l = sym (shr-shr (h * 2 ^ w + v) w u) ∙ ap (λ (n : ℕ). n / 2 ^ u) (high h w l)

-- bit r of byte k
bit_at : (bytes : List ℕ) (k r : ℕ) → r < 8 → bit bytes (8 * k + r) ≡ get_or bytes k 0 / 2 ^ (7 - r) % 2
unfolding bit
bit_at bytes k r h =
    let q : (8 * k + r) / 8 ≡ k = omega arith in
    let m : (8 * k + r) % 8 ≡ r = omega arith in
    rw (q, m)

-- a run of bits that are v's, from the highest, makes v
pub field_is : (f : ℕ → ℕ) (at w v : ℕ) → v < 2 ^ w → ((m : ℕ) → m < w → f (at + m) ≡ v / 2 ^ (w - 1 - m) % 2) → bit_field f at w ≡ v
unfolding bit_field
field_is f at w v hv hb =
    let e : w - w ≡ 0 = omega arith in
    go w (omega arith) ∙ ap (λ (n : ℕ). v / 2 ^ n) e ∙ div-one v
  where
    go : (m : ℕ) → m ≤ w → bit_field f at m ≡ v / 2 ^ (w - m)
    go zero l = let e : w - 0 ≡ w = omega arith in rw e (sym (div-eq_of_lt hv))
    go (suc m) l =
        let n = v / 2 ^ (w - 1 - m) in
        let b : f (at + m) ≡ n % 2 = hb m (omega arith) in
        let ih : bit_field f at m ≡ v / 2 ^ (w - m) = go m (omega arith) in
        let d : v / 2 ^ (w - m) ≡ n / 2 ^ 1 = ap (λ (e : ℕ). v / 2 ^ e) (omega arith) ∙ sym (shr-shr v (w - 1 - m) 1) in
        let g : v / 2 ^ (w - suc m) ≡ n = ap (λ (e : ℕ). v / 2 ^ e) (omega arith) in
        omega (arith, b, ih, d, g)

-- A bit of the three bytes from byte k on is one of the number that a, b, c make, where the byte that holds it is that one of a, b, c.
pub three_bit : (bytes : List ℕ) (k a b c : ℕ) → b < 256 → c < 256 → (j : ℕ) → j < 24
    → (j < 8 → get_or bytes k 0 ≡ a) → (8 ≤ j → j < 16 → get_or bytes (k + 1) 0 ≡ b) → (16 ≤ j → get_or bytes (k + 2) 0 ≡ c)
    → bit bytes (8 * k + j) ≡ (65536 * a + (256 * b + c)) / 2 ^ (23 - j) % 2
three_bit bytes k a b c hb hc j h is_a is_b is_c = split (cases_lt j 8) (cases_lt j 16) ∙ ap (λ (n : ℕ). n / 2 ^ (23 - j) % 2) (omega arith)
  where
    split : (j < 8) ⊎ (8 ≤ j) → (j < 16) ⊎ (16 ≤ j) → bit bytes (8 * k + j) ≡ ((a * 2 ^ 8 + b) * 2 ^ 8 + c) / 2 ^ (23 - j) % 2
    split (inl l) m =
        let e : 23 - j ≡ 8 + (8 + (7 - j)) = omega arith in
        rw (e, high_bit, high_bit, bit_at, is_a l)
    split (inr g) (inl l) =
        let i : 8 * k + j ≡ 8 * (k + 1) + (j - 8) = omega arith in
        let e : 23 - j ≡ 8 + (7 - (j - 8)) = omega arith in
        let r : j - 8 < 8 = omega arith in
        rw (i, e, high_bit, bit_at, is_b g l) (sym (low_bit a b 8 (7 - (j - 8)) (omega arith)))
    split (inr g) (inr m) =
        let i : 8 * k + j ≡ 8 * (k + 2) + (j - 16) = omega arith in
        let e : 23 - j ≡ 7 - (j - 16) = omega arith in
        let r : j - 16 < 8 = omega arith in
        rw (i, e, bit_at, is_c m) (sym (low_bit (a * 2 ^ 8 + b) c 8 (7 - (j - 16)) (omega arith)))

module _ (bytes : List ℕ) (k : ℕ) (h1 : get_or bytes (k + 1) 0 < 256) (h2 : get_or bytes (k + 2) 0 < 256) where
  -- bit j of the span is bit 23 - j of its number
  pub span_bit : (j : ℕ) → j < 24 → bit bytes (8 * k + j) ≡ span bytes k / 2 ^ (23 - j) % 2
  unfolding span
  span_bit j h = three_bit bytes k (get_or bytes k 0) (get_or bytes (k + 1) 0) (get_or bytes (k + 2) 0) h1 h2 j h (λ l. refl) (λ g l. refl) (λ g. refl)

  -- the field of w bits from bit o of the span on
  pub span_field : (o w : ℕ) → o + w ≤ 24 → bit_field (bit bytes) (8 * k + o) w ≡ span bytes k / 2 ^ (24 - (o + w)) % 2 ^ w
  span_field o w h =
      field_is (bit bytes) (8 * k + o) w (span bytes k / 2 ^ s % 2 ^ w) (mod-lt (span bytes k / 2 ^ s) (pow_pos w))
      (λ m l.
      let i : 8 * k + o + m ≡ 8 * k + (o + m) = omega arith in
      let e : s + (w - 1 - m) ≡ 23 - (o + m) = omega arith in
      rw (i, low_digit (span bytes k / 2 ^ s) w (w - 1 - m) (omega arith), shr-shr (span bytes k) s (w - 1 - m), e) (span_bit (o + m) (omega arith)))
    where
      s : ℕ
      s = 24 - (o + w)

-- a field as the code reads it: p and q are its powers of two
pub field_read : (bytes : List ℕ) (at w x p q : ℕ) → Span bytes (at / 8) x → p ≡ 2 ^ (24 - (at % 8 + w)) → q ≡ 2 ^ w → w ≤ 16
    → x / p % q ≡ bit_field (bit bytes) at w
field_read bytes at w x p q h ep eq hw =
    let e : 8 * (at / 8) + at % 8 ≡ at = omega arith in
    rw (ep, eq, h.is) (sym (rw e at (span_field bytes (at / 8) h.middle h.last (at % 8) w (omega arith))))

-- a field looks at its own bits alone
pub field_local : (f g : ℕ → ℕ) (at w : ℕ) → ((i : ℕ) → at ≤ i → i < at + w → f i ≡ g i) → bit_field f at w ≡ bit_field g at w
unfolding bit_field
field_local f g at zero h = refl
field_local f g at (suc w) h =
    omega (arith, h (at + w) (omega arith) (omega arith), field_local f g at w (λ i l u. h i l (omega arith)))

-- two fields side by side make one
pub field_join : (f : ℕ → ℕ) (at a b : ℕ) → bit_field f at (a + b) ≡ bit_field f at a * 2 ^ b + bit_field f (at + a) b
unfolding bit_field
field_join f at a zero = omega (arith, ap (bit_field f at) (add-zero a))
field_join f at a (suc b) =
    let q : a + suc b ≡ suc (a + b) = omega arith in
    let i : f (at + (a + b)) ≡ f (at + a + b) = ap f (omega arith) in
    let d : bit_field f at a * 2 ^ suc b ≡ 2 * (bit_field f at a * 2 ^ b) = rw pow-suc (omega arith) in
    rw q (omega (arith, field_join f at a b, i, d))

-- two fields that are equal have the same bits
pub field_bits : (f g : ℕ → ℕ) → ((i : ℕ) → f i < 2) → ((i : ℕ) → g i < 2) → (at w : ℕ) → bit_field f at w ≡ bit_field g at w
    → (i : ℕ) → at ≤ i → i < at + w → f i ≡ g i
unfolding bit_field
field_bits f g hf hg at zero e i l u = absurd (omega arith)
field_bits f g hf hg at (suc w) e i l u = go (cases_lt i (at + w)) (field_bits f g hf hg at w (omega (arith, hf (at + w), hg (at + w))) i l)
  where
    go : (i < at + w) ⊎ (at + w ≤ i) → (i < at + w → f i ≡ g i) → f i ≡ g i
    go (inl h) k = k h
    go (inr h) k =
        let j : i ≡ at + w = omega arith in
        rw j (omega (arith, e, hf (at + w), hg (at + w)))

-- a byte is the field of its eight bits
pub byte_field : (bytes : List ℕ) → ((k : ℕ) → get_or bytes k 0 < 256) → (k : ℕ) → get_or bytes k 0 ≡ bit_field (bit bytes) (8 * k) 8
unfolding span
byte_field bytes h k =
    let e : 8 * k + 0 ≡ 8 * k = omega arith in
    let f : bit_field (bit bytes) (8 * k) 8 ≡ span bytes k / 65536 % 256 = rw e at (span_field bytes k (h (k + 1)) (h (k + 2)) 0 8 (omega arith)) in
    omega (arith, f, h k, h (k + 1), h (k + 2))

-- bytes, as many and with the same bits, are equal
pub same_bytes : (a b : List ℕ) → ((k : ℕ) → get_or a k 0 < 256) → ((k : ℕ) → get_or b k 0 < 256) → length a ≡ length b
    → ((i : ℕ) → i < 8 * length a → bit a i ≡ bit b i) → a ≡ b
same_bytes a b ha hb el h =
    ext_get_or 0 a b el
    (λ k l. byte_field a ha k ∙ field_local (bit a) (bit b) (8 * k) 8 (λ i x y. h i (omega arith)) ∙ sym (byte_field b hb k))
