-- Reading what a format spells is walking the format with the numbers that were spelt. Assumes nothing.
use Prim.Native.Nat.{ℕ, zero, suc, ◌+◌, ◌*◌, ◌^◌, ◌≤◌, ◌<◌}
use mathlib.Core.Path.{◌≡◌, refl, ap, subst, ◌∙◌}
use mathlib.Core.Bool.{Bool, true, false}
use mathlib.Core.List.{List, [], ◌∷◌, ◌++◌}
use mathlib.Core.Option.{Option, none, some}
use native.Mathlib.Omega.{arith}
use native.Mathlib.Nat.{add-zero}
use lib.ListN.{length}
use lib.Dec.{eqb}
use borrow.Author.Tests.{lt-ltb, le-ltb, eqb-true, eqb-false}
use Rattle.std.proofs.lemmas.Bool.Decides.{Decides-ltb, Decides-and}
use Rattle.card.specs.Finite.{table}
use Rattle.card.specs.Bits.{bit, bit_field}
use Rattle.card.specs.Format.{Format, done, get, of, each, ◌>>=◌}
use Rattle.card.specs.Parsing.{Parsing, whole, read, unless_fault}
use Rattle.card.specs.Writing.{Field, fields, all_fit}
use Rattle.card.specs.declared.FormatFault.{FormatFault}
use Rattle.card.proofs.Sums.{total}
use Rattle.card.proofs.Yields.{not_whole}

-- how many bits fields take
abbrev pub bits : List Field → ℕ
bits fs = total (λ f. f.width) fs

-- what a format makes of the numbers of u
abbrev pub built : {U A : Type 0} → Format U A → U → A
built (done a) u = a
built (get w value fault next) u = built (next (value u)) u

-- what reading says, if the fields hold the numbers of u
abbrev pub walk : {U A : Type 0} → Format U A → U → (at : ℕ) → Parsing A
walk (done a) u at = whole a at
walk (get w value fault next) u at = unless_fault (fault (value u)) at (walk (next (value u)) u (at + w))

-- a property of each number of u: of its field's width, of the number and of its fault
abbrev pub Every : {U A : Type 0} → (ℕ → ℕ → Option FormatFault → Type 0) → Format U A → U → Type 0
Every P (done a) u = Unit {0}
Every P (get w value fault next) u = P w (value u) (fault (value u)) × Every P (next (value u)) u

-- it is not at fault; it fits its field
abbrev pub NoFault : ℕ → ℕ → Option FormatFault → Type 0
NoFault w v f = f ≡ none

abbrev pub Fits : ℕ → ℕ → Option FormatFault → Type 0
Fits w v f = v < 2 ^ w

abbrev pub Proper : ℕ → ℕ → Option FormatFault → Type 0
Proper w v f = (f ≡ none) × (v < 2 ^ w)

-- the bytes hold the fields from bit at on
abbrev pub Spelt : (bytes : List ℕ) → (at : ℕ) → List Field → Type 0
Spelt bytes at [] = Unit {0}
Spelt bytes at (f ∷ fs) = (bit_field (bit bytes) at f.width ≡ f.value) × Spelt bytes (at + f.width) fs

-- one format, and then another
module _ {U A B : Type 0} where
  pub built_then : (m : Format U A) (k : A → Format U B) (u : U) → built (m >>= k) u ≡ built (k (built m u)) u
  built_then (done a) k u = refl
  built_then (get w value fault next) k u = built_then (next (value u)) k u

  pub fields_then : (m : Format U A) (k : A → Format U B) (u : U) → fields (m >>= k) u ≡ fields m u ++ fields (k (built m u)) u
  unfolding fields
  fields_then (done a) k u = refl
  fields_then (get w value fault next) k u = rw (fields_then (next (value u)) k u)

  pub every_then : (P : ℕ → ℕ → Option FormatFault → Type 0) (m : Format U A) (k : A → Format U B) (u : U) → Every P m u → Every P (k (built m u)) u → Every P (m >>= k) u
  every_then P (done a) k u h g = g
  every_then P (get w value fault next) k u h g = (h.0, every_then P (next (value u)) k u h.1 g)

  pub then_every : (P : ℕ → ℕ → Option FormatFault → Type 0) (m : Format U A) (k : A → Format U B) (u : U) → Every P (m >>= k) u → Every P m u × Every P (k (built m u)) u
  then_every P (done a) k u h = (tt, h)
  then_every P (get w value fault next) k u h = let r = then_every P (next (value u)) k u h.1 in ((h.0, r.0), r.1)

-- a format of a part
module _ {U W A : Type 0} where
  pub built_of : (part : W → U) (m : Format U A) (x : W) → built (of part m) x ≡ built m (part x)
  built_of part (done a) x = refl
  built_of part (get w value fault next) x = built_of part (next (value (part x))) x

  pub fields_of : (part : W → U) (m : Format U A) (x : W) → fields (of part m) x ≡ fields m (part x)
  unfolding fields
  fields_of part (done a) x = refl
  fields_of part (get w value fault next) x = rw (fields_of part (next (value (part x))) x)

  pub every_of : (P : ℕ → ℕ → Option FormatFault → Type 0) (part : W → U) (m : Format U A) (x : W) → Every P m (part x) → Every P (of part m) x
  every_of P part (done a) x h = tt
  every_of P part (get w value fault next) x h = (h.0, every_of P part (next (value (part x))) x h.1)

  pub of_every : (P : ℕ → ℕ → Option FormatFault → Type 0) (part : W → U) (m : Format U A) (x : W) → Every P (of part m) x → Every P m (part x)
  of_every P part (done a) x h = tt
  of_every P part (get w value fault next) x h = (h.0, of_every P part (next (value (part x))) x h.1)

-- several in turn
pub built_each : {U A : Type 0} (from n : ℕ) (one : ℕ → Format U A) (u : U) → built (each from n one) u ≡ table from n (λ i. built (one i) u)
unfolding each table
built_each from zero one u = refl
built_each from (suc n) one u =
    built_then (one from) _ u
    ∙ built_then (each (suc from) n one) _ u
    ∙ ap (λ xs. built (one from) u ∷ xs) (built_each (suc from) n one u)

pub every_each : {U A : Type 0} (P : ℕ → ℕ → Option FormatFault → Type 0) (from n : ℕ) (one : ℕ → Format U A) (u : U)
    → ((i : ℕ) → from ≤ i → i < from + n → Every P (one i) u) → Every P (each from n one) u
unfolding each
every_each P from zero one u h = tt
every_each P from (suc n) one u h =
    every_then P (one from) _ u (h from (omega arith) (omega arith))
    (every_then P (each (suc from) n one) _ u (every_each P (suc from) n one u (λ i a b. h i (omega arith) (omega arith))) tt)

pub each_every : {U A : Type 0} (P : ℕ → ℕ → Option FormatFault → Type 0) (from n : ℕ) (one : ℕ → Format U A) (u : U)
    → Every P (each from n one) u → (i : ℕ) → from ≤ i → i < from + n → Every P (one i) u
unfolding each
each_every P from zero one u h i a b = absurd (omega arith)
each_every P from (suc n) one u h i a b =
    let x = then_every P (one from) _ u h in
    go (eqb from i) refl x.0 (λ l. each_every P (suc from) n one u (then_every P (each (suc from) n one) _ u x.1).0 i l (omega arith))
  where
    go : (t : Bool) → eqb from i ≡ t → Every P (one from) u → (suc from ≤ i → Every P (one i) u) → Every P (one i) u
    go true e h k = subst (λ (j : ℕ). Every P (one j) u) (eqb-true from i e) h
    go false e h k = k (omega (arith, eqb-false from i e))

pub every_more : {U A : Type 0} (P Q : ℕ → ℕ → Option FormatFault → Type 0) → ((w v : ℕ) (f : Option FormatFault) → P w v f → Q w v f)
    → (m : Format U A) (u : U) → Every P m u → Every Q m u
every_more P Q f (done a) u h = tt
every_more P Q f (get w value fault next) u h = (f w (value u) (fault (value u)) h.0, every_more P Q f (next (value u)) u h.1)

-- numbers that fit are found to
pub fits_all : {U A : Type 0} (m : Format U A) (u : U) → Every Fits m u → all_fit (fields m u) ≡ true
unfolding fields all_fit
fits_all (done a) u h = refl
fits_all (get w value fault next) u h = rw (lt-ltb (value u) (2 ^ w) h.0) (fits_all (next (value u)) u h.1)

pub all_fits : {U A : Type 0} (m : Format U A) (u : U) → all_fit (fields m u) ≡ true → Every Fits m u
unfolding fields all_fit
all_fits (done a) u h = tt
all_fits (get w value fault next) u h =
    let x = (Decides-and _ _ (Decides-ltb (value u) (2 ^ w)) (λ (e : all_fit (fields (next (value u)) u) ≡ true). e, λ (e : all_fit (fields (next (value u)) u) ≡ true). e)).0 h in
    (x.0, all_fits (next (value u)) u x.1)

-- READING WHAT IS SPELT
module _ {U A : Type 0} where
  pub read_spelt : (bytes : List ℕ) (m : Format U A) (u : U) (at : ℕ) → Spelt bytes at (fields m u) → at + bits (fields m u) ≤ 8 * length bytes → read bytes m at ≡ walk m u at
  unfolding fields read
  read_spelt bytes (done a) u at s h = refl
  read_spelt bytes (get w value fault next) u at s h =
      let e : bit_field (bit bytes) at w ≡ value u = s.0 in
      rw (le-ltb (8 * length bytes) (at + w) (omega arith), e, read_spelt bytes (next (value u)) u (at + w) s.1 (omega arith))

  -- a clean walk makes what the numbers build, and ends behind the fields
  pub clean_walk : (m : Format U A) (u : U) (at : ℕ) → Every NoFault m u → walk m u at ≡ whole (built m u) (at + bits (fields m u))
  unfolding fields
  clean_walk (done a) u at h = rw add-zero
  clean_walk (get w value fault next) u at h =
      rw (h.0, clean_walk (next (value u)) u (at + w) h.1) (ap (whole (built (next (value u)) u)) (omega arith))

  -- and no other walk comes to an end
  pub walk_clean : (m : Format U A) (u : U) (at end : ℕ) (a : A) → walk m u at ≡ whole a end → Every NoFault m u
  walk_clean (done b) u at end a e = tt
  walk_clean (get w value fault next) u at end a e = go (fault (value u)) refl (walk_clean (next (value u)) u (at + w) end a) e
    where
      go : (x : Option FormatFault) → fault (value u) ≡ x → (walk (next (value u)) u (at + w) ≡ whole a end → Every NoFault (next (value u)) u)
          → unless_fault x at (walk (next (value u)) u (at + w)) ≡ whole a end → (fault (value u) ≡ none) × Every NoFault (next (value u)) u
      go none p rest q = (p, rest q)
      go (some f) p rest q = absurd (not_whole _ _ _ _ q)
