-- Searching and testing number after number. Assumes nothing.
use Prim.Native.Nat.{ℕ, suc, ◌+◌, ◌-◌, ◌≤◌, ◌<◌}
use mathlib.Core.Path.{◌≡◌, sym, ap, ◌∙◌}
use mathlib.Core.Bool.{Bool, ◌&&◌}
use mathlib.Core.Option.{Option, none, some}
use native.Mathlib.Omega.{arith}
use native.Mathlib.Numerals.{add-one}
use Rattle.card.specs.Finite.{every, first_of}
use Rattle.card.proofs.Decides.{first_of_is}

-- what a search finds is what it finds from k on, up to end
pub record Walked {A : Type 0} (whole : Option A) (f : ℕ → Option A) (end k : ℕ) : Type 0 where
  pub left : whole ≡ first_of k (end - k) f

pub walk_start : {A : Type 0} (f : ℕ → Option A) (from n end : ℕ) → n ≡ end - from → Walked (first_of from n f) f end from
walk_start f from n end e = record { left = ap (λ (m : ℕ). first_of from m f) e }

module _ {A : Type 0} {whole : Option A} {f : ℕ → Option A} {end k : ℕ} (h : Walked whole f end k) where
  pub walk_on : k < end → none ≡ f k → Walked whole f end (k + 1)
  unfolding first_of
  walk_on l e = let q : end - k ≡ suc (end - (k + 1)) = omega arith in record { left = h.left ∙ rw (q, ← e, add-one) }

  pub walk_found : {x : A} → k < end → some x ≡ f k → some x ≡ whole
  unfolding first_of
  walk_found l e = let q : end - k ≡ suc (end - (k + 1)) = omega arith in sym (h.left ∙ rw (q, ← e))

  pub walk_end : end ≤ k → none ≡ whole
  unfolding first_of
  walk_end l = let q : end - k ≡ 0 = omega arith in sym (h.left ∙ rw q)

-- the step of such a walk, where it finds something, and its end
pub ruleset walks = (walk_on, walk_found, walk_end)

-- where a search finds nothing, there is nothing at each number
pub none_at : {A : Type 0} (from n : ℕ) (f : ℕ → Option A) → first_of from n f ≡ none → (k : ℕ) → from ≤ k → k < from + n → f k ≡ none
none_at from n f e = (first_of_is from n f (λ k. f k ≡ none) (λ k. (λ h. h, λ h. h))).0 e

-- a test of each number below k, and of k
pub every_more : (k : ℕ) (f : ℕ → Bool) {x y : Bool} → x ≡ every k f → y ≡ f k → (x && y) ≡ every (k + 1) f
unfolding every
every_more k f e q = rw (add-one, e, q)
