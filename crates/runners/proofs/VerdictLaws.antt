-- What the lowest number that passes a test tells, over plain values. Assumes nothing.
use Rattle.std.proofs.Common.{◌≡◌, ℕ, zero, suc, ◌+◌, ◌<◌, Bool, true, false, not, sym, refl, ◌∙◌, subst, arith}
use Rattle.std.specs.Prelude.{Option, Some, None}
use Rattle.std.specs.Option.{is_some}
use mathlib.Core.Option.{none, some, some-injective, some-ne-none}
use borrow.Author.Tests.{not-true}
use Rattle.card.specs.Finite.{every, some_if, first_of, lowest, ◌otherwise◌}
use Rattle.hierarchy.proofs.WalkLaws.{every_none, every_all}
use Rattle.hierarchy.proofs.FirstLaws.{none_at}
use Rattle.runners.specs.inner.Verdict.{found_of}

pub lowest_below : (from n : ℕ) (test : ℕ → Bool) (p : ℕ) → lowest from n test ≡ some p → p < from + n
unfolding first_of
lowest_below from zero test p e = absurd (some-ne-none p (sym e))
lowest_below from (suc n) test p e = go (test from) e (lowest_below (suc from) n test p)
  where
    go : (b : Bool) → (some_if b from otherwise lowest (suc from) n test) ≡ some p → (lowest (suc from) n test ≡ some p → p < suc from + n) → p < from + suc n
    go true q w = omega (arith, some-injective from p q)
    go false q w = omega (arith, w q)

lowest_passes : (from n : ℕ) (test : ℕ → Bool) (p : ℕ) → lowest from n test ≡ some p → test p ≡ true
unfolding first_of
lowest_passes from zero test p e = absurd (some-ne-none p (sym e))
lowest_passes from (suc n) test p e = go (test from) refl e (lowest_passes (suc from) n test p)
  where
    go : (b : Bool) → test from ≡ b → (some_if b from otherwise lowest (suc from) n test) ≡ some p → (lowest (suc from) n test ≡ some p → test p ≡ true) → test p ≡ true
    go true t q w = subst (λ (i : ℕ). test i ≡ true) (some-injective from p q) t
    go false t q w = w q

not_none : (b : Bool) (p : ℕ) → some_if (not b) p ≡ none → b ≡ true
not_none true p e = refl
not_none false p e = absurd (some-ne-none p e)

-- no number fails a test just where none that does is found
pub verdict_is : (n : ℕ) (a b : ℕ → Bool) → ((p : ℕ) → p < n → a p ≡ b p) → (r : Option ℕ) → found_of r ≡ lowest 0 n (λ p. not (a p)) → not (is_some r) ≡ every n b
verdict_is n a b h None e =
    sym (every_all n n b (λ p l. sym (h p l) ∙ not_none (a p) p (none_at 0 n (λ i. some_if (not (a i)) i) (sym e) p (omega arith) (omega arith))) (omega arith))
verdict_is n a b h (Some p) e =
    let l : p < n = omega (arith, lowest_below 0 n (λ i. not (a i)) p (sym e)) in
    sym (every_none n p b l (sym (h p l) ∙ not-true (a p) (lowest_passes 0 n (λ i. not (a i)) p (sym e))))
