-- What a format can yield: a property of all that is read by it, from the tests of its fields. Assumes nothing.
use Prim.Native.Nat.{ℕ, zero, suc, ◌+◌, ◌*◌, ◌^◌, ◌<◌}
use mathlib.Core.Path.{◌≡◌, refl, ap, subst}
use mathlib.Core.Bool.{Bool, true, false, cond}
use mathlib.Core.List.{List}
use mathlib.Core.Option.{Option, none, some}
use native.Mathlib.Omega.{arith}
use native.Mathlib.Nat.{pow-suc}
use lib.ListN.{length}
use lib.Dec.{ltb}
use Rattle.card.specs.Finite.{All}
use Rattle.card.specs.Numbers.{number}
use Rattle.card.specs.Bits.{bit, bit_field}
use Rattle.card.specs.Format.{Format, done, get, of, each, grow, ◌>>=◌}
use Rattle.card.specs.Parsing.{Parsing, refused, whole, read, unless_fault}
use Rattle.card.specs.declared.FormatFault.{FormatFault}
use Rattle.card.specs.declared.FormatFault.TheVariants.{Truncated}

-- whatever numbers its fields hold, if they fit and no test fails, the format makes a value with the property
abbrev pub Yields : {U A : Type 0} → Format U A → (A → Type 0) → Type 0
Yields (done a) P = P a
Yields (get w value fault next) P = (v : ℕ) → v < 2 ^ w → fault v ≡ none → Yields (next v) P

pub bit_small : (bytes : List ℕ) (i : ℕ) → bit bytes i < 2
unfolding bit
bit_small bytes i = omega arith

pub field_small : (bits : ℕ → ℕ) → ((i : ℕ) → bits i < 2) → (at w : ℕ) → bit_field bits at w < 2 ^ w
unfolding bit_field
field_small bits h at zero = omega arith
field_small bits h at (suc w) = rw pow-suc (omega (arith, field_small bits h at w, h (at + w)))

pub not_whole : {A : Type 0} (n at end : ℕ) (a : A) → ◌≡◌ {A = Parsing A} (refused n at) (whole a end) → ⊥
not_whole n at end a e = let z : ◌≡◌ {A = ℕ} 0 1 = cc in omega arith

module _ {U A : Type 0} where
  pub yields_read : (bytes : List ℕ) (m : Format U A) (P : A → Type 0) → Yields m P → (at end : ℕ) (a : A) → read bytes m at ≡ whole a end → P a
  unfolding read
  yields_read bytes (done b) P h at end a e = let q : b ≡ a = cc in subst P q h
  yields_read bytes (get w value fault next) P h at end a e =
      go (ltb (8 * length bytes) (at + w)) (fault v) (λ f. yields_read bytes (next v) P (h v (field_small (bit bytes) (bit_small bytes) at w) f) (at + w) end a) refl e
    where
      v : ℕ
      v = bit_field (bit bytes) at w

      go : (short : Bool) (fault? : Option FormatFault) → (fault v ≡ none → read bytes (next v) (at + w) ≡ whole a end → P a) → fault v ≡ fault?
          → cond short (refused (number Truncated) at) (unless_fault fault? at (read bytes (next v) (at + w))) ≡ whole a end → P a
      go true f k q r = absurd (not_whole _ _ _ _ r)
      go false none k q r = k q r
      go false (some f) k q r = absurd (not_whole _ _ _ _ r)

  pub yields_more : (m : Format U A) (P Q : A → Type 0) → ((a : A) → P a → Q a) → Yields m P → Yields m Q
  yields_more (done a) P Q f h = f a h
  yields_more (get w value fault next) P Q f h = λ v l e. yields_more (next v) P Q f (h v l e)

  pub yields_both : (m : Format U A) (P Q : A → Type 0) → Yields m P → Yields m Q → Yields m (λ a. P a × Q a)
  yields_both (done a) P Q h k = (h, k)
  yields_both (get w value fault next) P Q h k = λ v l e. yields_both (next v) P Q (h v l e) (k v l e)

module _ {U A B : Type 0} where
  pub yields_then : (m : Format U A) (k : A → Format U B) (P : A → Type 0) (Q : B → Type 0) → Yields m P → ((a : A) → P a → Yields (k a) Q) → Yields (m >>= k) Q
  yields_then (done a) k P Q h f = f a h
  yields_then (get w value fault next) k P Q h f = λ v l e. yields_then (next v) k P Q (h v l e) f

  -- whatever the first makes
  pub yields_skip : (m : Format U A) (k : A → Format U B) (Q : B → Type 0) → ((a : A) → Yields (k a) Q) → Yields (m >>= k) Q
  yields_skip (done a) k Q f = f a
  yields_skip (get w value fault next) k Q f = λ v l e. yields_skip (next v) k Q f

pub yields_of : {U W A : Type 0} (part : W → U) (m : Format U A) (P : A → Type 0) → Yields m P → Yields (of part m) P
yields_of part (done a) P h = h
yields_of part (get w value fault next) P h = λ v l e. yields_of part (next v) P (h v l e)

-- n members, each with the property
pub record Listed {A : Type 0} (P : A → Type 0) (n : ℕ) (xs : List A) : Type 0 where
  pub long : length xs ≡ n
  pub members : All P xs

pub yields_each : {U A : Type 0} (from n : ℕ) (one : ℕ → Format U A) (P : A → Type 0) → ((i : ℕ) → Yields (one i) P) → Yields (each from n one) (Listed P n)
unfolding each
yields_each from zero one P h = record { long = refl; members = tt }
yields_each from (suc n) one P h =
    yields_then (one from) _ P (Listed P (suc n)) (h from) (λ x p. yields_then (each (suc from) n one) _ (Listed P n) (Listed P (suc n)) (yields_each (suc from) n one P h)
    (λ xs q. record { long = ap suc q.long; members = (p, q.members) }))

-- what holds of i rounds holds of i + 1 after one more
pub yields_grow : {U A : Type 0} (n : ℕ) (one : A → Format U A) (P : ℕ → A → Type 0) → ((i : ℕ) (a : A) → P i a → Yields (one a) (P (suc i)))
    → (i : ℕ) (a : A) → P i a → Yields (grow n one a) (P (i + n))
unfolding grow
yields_grow zero one P h i a p = let e : i + zero ≡ i = omega arith in rw e p
yields_grow (suc n) one P h i a p =
    let e : i + suc n ≡ suc i + n = omega arith in
    rw e (yields_then (one a) _ (P (suc i)) (P (suc i + n)) (h i a p) (λ b q. yields_grow n one P h (suc i) b q))
