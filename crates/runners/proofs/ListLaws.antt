-- Searches over a list, as the definitions write them. Assumes nothing.
use Rattle.std.proofs.Common.{◌≡◌, ℕ, ◌<◌, Bool, true, false, MatchBool, List, length, get_or, sym, arith}
use Rattle.std.specs.Prelude.{Option, Some, None}
use Rattle.std.specs.Option.{MatchOption}
use Rattle.std.specs.List.{AllWithin, HoldsAt}
use Rattle.card.specs.Finite.{every, some_if, lowest}
use Rattle.hierarchy.proofs.WalkLaws.{every_none, every_all, first_found, first_none}
use Rattle.runners.specs.inner.Verdict.{found_of}

module _ {A : Type 0} (d : A) (test : A → Bool) (xs : List A) where
  -- what `cases_from_all` tells
  pub every_item : (r : Bool) → MatchBool r (AllWithin (λ x. test x ≡ true) xs 0 (length xs)) ((k : ℕ) × (k < length xs) × HoldsAt (λ x. test x ≡ false) xs k)
      → r ≡ every (length xs) (λ i. test (get_or xs i d))
  every_item true h = sym (every_all (length xs) (length xs) (λ i. test (get_or xs i d)) (λ k l. h k d (omega arith) (omega arith)) (omega arith))
  every_item false h = sym (every_none (length xs) h.0 (λ i. test (get_or xs i d)) h.1 (h.2 d))

  -- and `IsFirst-from_position`
  pub lowest_item : (r : Option ℕ) → MatchOption r (AllWithin (λ x. test x ≡ false) xs 0 (length xs)) (λ i. (i < length xs) × HoldsAt (λ x. test x ≡ true) xs i × AllWithin (λ x. test x ≡ false) xs 0 i)
      → found_of r ≡ lowest 0 (length xs) (λ i. test (get_or xs i d))
  lowest_item None h = sym (first_none (length xs) (length xs) (λ k. some_if (test (get_or xs k d)) k) (λ k b. rw (h k d (omega arith) (omega arith))) (omega arith))
  lowest_item (Some i) h = sym (first_found (length xs) i (λ k. some_if (test (get_or xs k d)) k) i (λ k b. rw (h.2 k d (omega arith) (omega arith))) h.0 (rw (h.1 d)))
