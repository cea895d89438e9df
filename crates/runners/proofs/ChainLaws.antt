-- Searches over a range, as the definitions write them. Assumes nothing.
use Rattle.std.proofs.Common.{◌≡◌, ℕ, ◌≤◌, ◌<◌, Bool, true, false, MatchBool, length, get_or, sym, subst, arith}
use Rattle.std.specs.Prelude.{Option, Some, None}
use Rattle.std.specs.Option.{MatchOption}
use Rattle.std.specs.List.{range_with_len, AllWithin, HoldsAt}
use Rattle.std.proofs.lemmas.List.FromFn.{length-range_with_len, get_or-range_with_len}
use Rattle.card.specs.Finite.{every, some_if, lowest}
use Rattle.hierarchy.proofs.WalkLaws.{every_none, every_all, first_found, first_none}
use Rattle.runners.specs.inner.Verdict.{found_of}

-- what `cases_from_all` and `first_from_Range` tell of the numbers below n
module _ (n : ℕ) (test : ℕ → Bool) where
  abbrev pub Passes : ℕ → Type 0
  Passes j = j < n → test j ≡ true

  abbrev pub Fails : ℕ → Type 0
  Fails j = j < n → test j ≡ false

  nth : (k : ℕ) → k < n → get_or (range_with_len 0 n) k 0 ≡ k
  nth k l = omega (arith, get_or-range_with_len 0 n k 0 l)

  pub every_range : (r : Bool) → MatchBool r (AllWithin Passes (range_with_len 0 n) 0 (length (range_with_len 0 n))) ((k : ℕ) × (k < length (range_with_len 0 n)) × HoldsAt Fails (range_with_len 0 n) k)
      → r ≡ every n test
  every_range true h =
      sym (every_all n n test (λ k l. subst Passes (nth k l) (h k 0 (omega arith) (omega (arith, length-range_with_len 0 n))) l) (omega arith))
  every_range false h =
      let l : h.0 < n = omega (arith, length-range_with_len 0 n, h.1) in
      sym (every_none n h.0 test l (subst Fails (nth h.0 l) (h.2 0) l))

  pub lowest_range : (r : Option ℕ) → MatchOption r ((k : ℕ) → 0 ≤ k → k < n → test k ≡ false) (λ i. (0 ≤ i) × (i < n) × (test i ≡ true) × ((k : ℕ) → 0 ≤ k → k < i → test k ≡ false))
      → found_of r ≡ lowest 0 n test
  lowest_range None h = sym (first_none n n (λ k. some_if (test k) k) (λ k b. rw (h k (omega arith) b)) (omega arith))
  lowest_range (Some i) h = sym (first_found n i (λ k. some_if (test k) k) i (λ k b. rw (h.3 k (omega arith) b)) h.1 (rw h.2))
