-- A field that lies within the bytes, and one that does not. Assumes nothing.
use Prim.Native.Nat.{ℕ, zero, suc, ◌+◌, ◌*◌, ◌≤◌, ◌<◌}
use mathlib.Core.Path.{◌≡◌, refl, sym, ap, ◌∙◌}
use mathlib.Core.Bool.{Bool, true, false, ◌&&◌}
use mathlib.Core.List.{List}
use native.Mathlib.Omega.{arith}
use lib.ListN.{length}
use lib.Dec.{eqb}
use borrow.Author.Tests.{le-leb, lt-leb, eq-eqb, ne_eqb, eqb-true, eqb-false}
use Rattle.card.specs.Finite.{every}
use Rattle.card.specs.Bits.{bit, bit_field}
use Rattle.card.specs.Fields.{field_at}

pub field_in : (bytes : List ℕ) (at w : ℕ) → w ≤ 16 → at + w ≤ 8 * length bytes → field_at bytes at w ≡ bit_field (bit bytes) at w
unfolding field_at
field_in bytes at w l m = rw (le-leb w 16 l, le-leb (at + w) (8 * length bytes) m)

pub field_wide : (bytes : List ℕ) (at w : ℕ) → 16 < w → field_at bytes at w ≡ 0
unfolding field_at
field_wide bytes at w l = rw (lt-leb w 16 l)

pub field_cut : (bytes : List ℕ) (at w : ℕ) → w ≤ 16 → 8 * length bytes < at + w → field_at bytes at w ≡ 0
unfolding field_at
field_cut bytes at w l m = rw (le-leb w 16 l, lt-leb (at + w) (8 * length bytes) m)

-- a field is 0 just where each of its bits is
both_zero : (a b : ℕ) → eqb a 0 && eqb b 0 ≡ eqb (2 * a + b) 0
both_zero a b = go (eqb a 0) refl (eqb b 0) refl
  where
    go : (s : Bool) → eqb a 0 ≡ s → (t : Bool) → eqb b 0 ≡ t → s && t ≡ eqb (2 * a + b) 0
    go true p true q = sym (eq-eqb (2 * a + b) 0 (omega (arith, eqb-true a 0 p, eqb-true b 0 q)))
    go true p false q = sym (ne_eqb (2 * a + b) 0 (λ e. eqb-false b 0 q (omega arith)))
    go false p true q = sym (ne_eqb (2 * a + b) 0 (λ e. eqb-false a 0 p (omega arith)))
    go false p false q = sym (ne_eqb (2 * a + b) 0 (λ e. eqb-false a 0 p (omega arith)))

pub field_zero : (f : ℕ → ℕ) (at w : ℕ) → every w (λ i. eqb (f (at + i)) 0) ≡ eqb (bit_field f at w) 0
unfolding every bit_field
field_zero f at zero = refl
field_zero f at (suc w) = ap (λ (t : Bool). t && eqb (f (at + w)) 0) (field_zero f at w) ∙ both_zero (bit_field f at w) (f (at + w))
