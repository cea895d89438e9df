-- Searches among numbers, as the definitions write them. Assumes nothing.
use Rattle.std.proofs.Common.{◌≡◌, refl, ℕ, zero, suc, ◌+◌, ◌-◌, ◌≤◌, ◌<◌, Bool, true, false, ap₂, subst, sym, arith}
use Rattle.std.specs.Prelude.{Some, None}
use Rattle.std.specs.Prelude as Std
use Rattle.std.specs.Option.{MatchOption}
use mathlib.Core.Option.{Option, none, some}
use Rattle.card.specs.Finite.{first_of, some_if, lowest, ◌otherwise◌}
use Rattle.card.specs.inner.Reader.{excess_of}

pub first_from : {A : Type 0} (from n i : ℕ) (f : ℕ → Option A) (x : A) → ((k : ℕ) → from ≤ k → k < from + i → f k ≡ none) → i < n → f (from + i) ≡ some x → first_of from n f ≡ some x
unfolding first_of
first_from from zero i f x h l e = absurd (omega arith)
first_from from (suc n) zero f x h l e =
    let q : from + zero ≡ from = omega arith in
    let z : f from ≡ some x = subst (λ (k : ℕ). f k ≡ some x) q e in
    rw z
first_from from (suc n) (suc i) f x h l e =
    let q : from + suc i ≡ suc from + i = omega arith in
    let z : f (suc from + i) ≡ some x = subst (λ (k : ℕ). f k ≡ some x) q e in
    rw (h from (omega arith) (omega arith)) (first_from (suc from) n i f x (λ k a b. h k (omega arith) (omega arith)) (omega arith) z)

pub none_from : {A : Type 0} (from n : ℕ) (f : ℕ → Option A) → ((k : ℕ) → from ≤ k → k < from + n → f k ≡ none) → first_of from n f ≡ none
unfolding first_of
none_from from zero f h = refl
none_from from (suc n) f h = rw (h from (omega arith) (omega arith)) (none_from (suc from) n f (λ k a b. h k (omega arith) (omega arith)))

pub first_same : {A : Type 0} (from n : ℕ) (f g : ℕ → Option A) → ((i : ℕ) → from ≤ i → i < from + n → f i ≡ g i) → first_of from n f ≡ first_of from n g
unfolding first_of
first_same from zero f g h = refl
first_same from (suc n) f g h = ap₂ (λ x y. x otherwise y) (h from (omega arith) (omega arith)) (first_same (suc from) n f g (λ i l u. h i (omega arith) (omega arith)))

-- what `first_from_Range` tells of a search from one number to another
pub lowest_found : (from end : ℕ) (test : ℕ → Bool) (r : Std.Option ℕ)
    → MatchOption r ((k : ℕ) → from ≤ k → k < end → test k ≡ false) (λ i. (from ≤ i) × (i < end) × (test i ≡ true) × ((k : ℕ) → from ≤ k → k < i → test k ≡ false))
    → excess_of r ≡ lowest from (end - from) test
lowest_found from end test None h = sym (none_from from (end - from) (λ k. some_if (test k) k) (λ k a b. rw (h k a (omega arith))))
lowest_found from end test (Some i) h =
    sym (first_from from (end - from) (i - from) (λ k. some_if (test k) k) i (λ k a b. rw (h.3 k a (omega arith))) (omega (arith, h.0, h.1)) at)
  where
    at : some_if (test (from + (i - from))) (from + (i - from)) ≡ some i
    at = let q : from + (i - from) ≡ i = omega (arith, h.0) in subst (λ (k : ℕ). some_if (test k) k ≡ some i) (sym q) (rw h.2)
