-- A table that is filled with the numbers of a case, one after another. Assumes nothing.
use Prim.Native.Nat.{ℕ, ◌+◌, ◌*◌, ◌≤◌, ◌<◌}
use native.Mathlib.Omega.{arith}
use mathlib.Core.Path.{◌≡◌, ◌∙◌}
use mathlib.Core.List.{List}
use borrow.Author.Count.{below_more}
use lib.ListN.{length, get_or, set, length-set}
use lib.Seq.{get_or-set_same, get_or-set_other}
use Rattle.console.specs.Cases.{number_at, IsNumbers}

module _ (bytes before table : List ℕ) where
  pub filled_more : (i v : ℕ) → IsNumbers bytes before table i → i < length before → v ≡ number_at bytes (2 * i) → IsNumbers bytes before (set table i v) (i + 1)
  filled_more i v h l e =
      let room : i < length table = omega (arith, h.size) in
      let others : (k : ℕ) → (k ≡ i → ⊥) → get_or (set table i v) k 0 ≡ get_or table k 0 = λ k. get_or-set_other table i k v 0 in
      record {
        size = length-set table i v ∙ h.size;
        front = below_more (λ k. get_or (set table i v) k 0 ≡ number_at bytes (2 * k)) i (λ k m. others k (λ q. omega arith) ∙ h.front k m) (get_or-set_same table i v 0 room ∙ e);
        behind = λ k m. others k (λ q. omega arith) ∙ h.behind k (omega arith);
      }

  pub filled_end : (i n : ℕ) → IsNumbers bytes before table i → i ≤ n → n ≤ i → IsNumbers bytes before table n
  filled_end i n h l m =
      record {
        size = h.size;
        front = λ k q. h.front k (omega arith);
        behind = λ k q. h.behind k (omega arith);
      }
