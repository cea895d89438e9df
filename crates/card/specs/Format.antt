-- A format says what stands in a run of bits, field after field: how wide the next field is, which number of a U it holds, what is wrong
-- with a number there, and what comes after it. Reading makes an A by it and writing spells a U by it, so a layout is stated once.
use Rattle.std.specs.Prelude.{ℕ, zero, suc, ◌+◌, Bool, List, [], ◌∷◌}
use Rattle.std.proofs.Math.Option.{Option, none}
use Rattle.card.specs.Finite.{some_unless}
use Rattle.card.specs.declared.FormatFault.{FormatFault}

pub data Format (U A : Type 0) : Type 0 where
  done : A → Format U A
  get : (width : ℕ) → (value : U → ℕ) → (fault : ℕ → Option FormatFault) → (ℕ → Format U A) → Format U A

-- one format, and then another
module _ {U A B : Type 0} where
  infixl 20 ◌>>=◌
  abbrev pub ◌>>=◌ : Format U A → (A → Format U B) → Format U B
  done a >>= k = k a
  get w value fault next >>= k = get w value fault (λ v. next v >>= k)

-- a format of a part, as one of the whole
abbrev pub of : {U Whole A : Type 0} → (Whole → U) → Format U A → Format Whole A
of part (done a) = done a
of part (get w value fault next) = get w (λ u. value (part u)) fault (λ v. of part (next v))

-- a field of w bits with any number; one whose number must pass a test
abbrev pub free : {U : Type 0} → (w : ℕ) → (U → ℕ) → Format U ℕ
free w value = get w value (λ v. none) (λ v. done v)

abbrev pub field : {U : Type 0} → (w : ℕ) → (U → ℕ) → (ℕ → Bool) → FormatFault → Format U ℕ
field w value test fault = get w value (λ v. some_unless (test v) fault) (λ v. done v)

-- the formats from, from + 1, .., n of them
unfoldable pub each : {U A : Type 0} → (from n : ℕ) → (ℕ → Format U A) → Format U (List A)
each from zero one = done []
each from (suc n) one = do
  x ← one from
  xs ← each (suc from) n one
  done (x ∷ xs)

-- n times a format that goes on from what was read so far
unfoldable pub grow : {U A : Type 0} → (n : ℕ) → (A → Format U A) → A → Format U A
grow zero one a = done a
grow (suc n) one a = do
  b ← one a
  grow n one b

-- the bits of a format in which neither a width nor the number of fields depends on what the fields hold
unfoldable pub size : {U A : Type 0} → Format U A → ℕ
size (done a) = 0
size (get w value fault next) = w + size (next 0)

-- the same where the first field holds v, by which the other widths go
abbrev pub size_from : {U A : Type 0} → (v : ℕ) → Format U A → ℕ
size_from v (done a) = 0
size_from v (get w value fault next) = w + size (next v)

-- its fields, where their number does not depend on what they hold
unfoldable pub count : {U A : Type 0} → Format U A → ℕ
count (done a) = 0
count (get w value fault next) = suc (count (next 0))
