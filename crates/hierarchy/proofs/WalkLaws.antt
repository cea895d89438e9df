-- A loop that walks 0, 1, .., with a test at each number: what it knows at the start, after one more number, where it stops early and where
-- it has passed the last. Assumes nothing.
use Prim.Native.Nat.{ℕ, zero, suc, ◌≤◌, ◌<◌}
use mathlib.Core.Path.{◌≡◌, refl, sym, subst}
use mathlib.Core.Bool.{Bool, true, false, ◌&&◌, ◌||◌, and-false, or-true}
use mathlib.Core.Option.{Option, none, some}
use native.Mathlib.Omega.{arith}
use lib.Dec.{eqb}
use borrow.Author.Tests.{eqb-true, eqb-false, ne_eqb}
use Rattle.card.specs.Finite.{every, any, first_of}
use Rattle.card.proofs.SearchLaws.{first_from, none_from}
use Rattle.hierarchy.specs.Check.{fault_unless, finding_of}
use Rattle.hierarchy.specs.declared.CardFault.{CardFault}
use Rattle.std.specs.Prelude.{Ok, Err}

-- f is y at each number below n
abbrev pub Below : {A : Type 0} → (n : ℕ) → (ℕ → A) → A → Type 0
Below n f y = (k : ℕ) → k < n → f k ≡ y

-- every
pub every_none : (n i : ℕ) (f : ℕ → Bool) → i < n → f i ≡ false → every n f ≡ false
unfolding every
every_none zero i f l e = absurd (omega arith)
every_none (suc n) i f l e = go (eqb i n) refl (λ m. every_none n i f m e)
  where
    go : (t : Bool) → eqb i n ≡ t → (i < n → every n f ≡ false) → (every n f && f n) ≡ false
    go true q w = let z : f n ≡ false = subst (λ (k : ℕ). f k ≡ false) (eqb-true i n q) e in rw z (and-false (every n f))
    go false q w = rw (w (omega (arith, eqb-false i n q)))

pub every_all : (n i : ℕ) (f : ℕ → Bool) → Below i f true → n ≤ i → every n f ≡ true
unfolding every
every_all zero i f h l = refl
every_all (suc n) i f h l = rw (every_all n i f h (omega arith), h n (omega arith))

-- any
pub any_one : (n i : ℕ) (f : ℕ → Bool) → i < n → f i ≡ true → any n f ≡ true
unfolding any
any_one zero i f l e = absurd (omega arith)
any_one (suc n) i f l e = go (eqb i n) refl (λ m. any_one n i f m e)
  where
    go : (t : Bool) → eqb i n ≡ t → (i < n → any n f ≡ true) → (any n f || f n) ≡ true
    go true q w = let z : f n ≡ true = subst (λ (k : ℕ). f k ≡ true) (eqb-true i n q) e in rw z (or-true (any n f))
    go false q w = rw (w (omega (arith, eqb-false i n q)))

pub any_none : (n i : ℕ) (f : ℕ → Bool) → Below i f false → n ≤ i → any n f ≡ false
unfolding any
any_none zero i f h l = refl
any_none (suc n) i f h l = rw (any_none n i f h (omega arith), h n (omega arith))

-- first_of
pub first_found : {A : Type 0} (n i : ℕ) (f : ℕ → Option A) (x : A) → Below i f none → i < n → f i ≡ some x → first_of 0 n f ≡ some x
first_found n i f x h l e = first_from 0 n i f x (λ k a b. h k (omega arith)) l (subst (λ (k : ℕ). f k ≡ some x) (omega arith) e)

pub first_none : {A : Type 0} (n i : ℕ) (f : ℕ → Option A) → Below i f none → n ≤ i → first_of 0 n f ≡ none
first_none n i f h l = none_from 0 n f (λ k a b. h k (omega arith))

-- the parts of a test
pub part_fails : (a b : Bool) → false ≡ a → false ≡ a && b
part_fails a b e = rw (← e)

pub part_holds : (y a b : Bool) → true ≡ a → y ≡ b → y ≡ a && b
part_holds y a b e f = rw (← e, f)

-- not as many
pub counts_differ : (a b x y : ℕ) (f : ℕ → Bool) → x ≡ a → y ≡ b → (x ≡ y → ⊥) → false ≡ eqb a b && every a f
counts_differ a b x y f e g d = rw (← e, ← g, ne_eqb x y d)

-- the first fault, by a test at each number
pub first_fails : (n i : ℕ) (bit : ℕ → ℕ) (ok : ℕ → Bool) (why : CardFault) (x : ℕ) → Below i ok true → i < n → ok i ≡ false → x ≡ bit i
    → finding_of (Err (record { fault = why; bit = x })) ≡ first_of 0 n (λ k. fault_unless (bit k) (ok k) why)
first_fails n i bit ok why x h l e f =
    let z : fault_unless (bit i) (ok i) why ≡ some (record { why = why; bit = x }) = rw (e, f) in
    sym (first_found n i (λ k. fault_unless (bit k) (ok k) why) _ (λ k m. rw (h k m)) l z)

pub first_passes : (n i : ℕ) (bit : ℕ → ℕ) (ok : ℕ → Bool) (why : CardFault) → Below i ok true → n ≤ i
    → finding_of (Ok tt) ≡ first_of 0 n (λ k. fault_unless (bit k) (ok k) why)
first_passes n i bit ok why h l = sym (first_none n i (λ k. fault_unless (bit k) (ok k) why) (λ k m. rw (h k m)) l)
