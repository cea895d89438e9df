-- `any` over the rows 0, 1, .., n - 1, against the paper's word. Assumes nothing.
use Prim.Native.Nat.{ℕ, ◌<◌}
use mathlib.Core.Path.{◌≡◌, sym}
use mathlib.Core.Bool.{Bool, true, false}
use mathlib.Core.List.{List}
use native.Mathlib.Omega.{arith}
use lib.ListN.{length}
use denote.Param.Members.{Mut}
use Rattle.std.specs.Prelude.{Option}
use Rattle.std.specs.Bool.{MatchBool}
use Rattle.std.specs.Option.{MatchOption}
use Rattle.std.specs.Fn.{Called}
use Rattle.std.specs.Iterator.{YieldsThen}
use Rattle.std.specs.List.{FoldsTo, AllWithin, HoldsAt}
use Rattle.std.proofs.lemmas.Iterator.{YieldsList, cases_from_any}
use Rattle.card.specs.Finite.{any, table}
use Rattle.card.proofs.Sums.{table_length, table_at}
use Rattle.hierarchy.proofs.WalkLaws.{any_one, any_none}

pub any_row : {S A B F : Type 0} {steps : S → Option A → S → Type 0} {v : A → B} {g : Mut F (A × Unit {0}) Bool} {s : S} (n : ℕ) (row : ℕ → B) (test : ℕ → Bool) (u : S) (f : F) (r : Bool)
    → (xs : List A) × (o : Option A) × (j : F) × YieldsThen steps s xs o u × FoldsTo (λ p x q. Called g p (x, tt) false q) f xs j × MatchOption o (r ≡ false) (λ x. (r ≡ true) × ((h : F) × Called g j (x, tt) true h))
    → YieldsList steps v s (table 0 n row)
    → ((x : A) (b : Bool) (q : F) → Called g f (x, tt) b q → (q ≡ f) × ((k : ℕ) → k < n → v x ≡ row k → b ≡ test k)) → r ≡ any n test
any_row {B = B} n row test u f r ran e h =
    go r (cases_from_any u f r (Is true) (Is false) ran e (λ x q k i l z. sym ((h x true q k).1 i l z)) (λ x q k. ((h x false q k).0, λ i l z. sym ((h x false q k).1 i l z))))
  where
    Is : Bool → B → Type 0
    Is b y = (k : ℕ) → k < n → y ≡ row k → test k ≡ b

    long : length (table 0 n row) ≡ n
    long = table_length 0 n row

    go : (b : Bool) → MatchBool b ((k : ℕ) × (k < length (table 0 n row)) × HoldsAt (Is true) (table 0 n row) k) (AllWithin (Is false) (table 0 n row) 0 (length (table 0 n row))) → b ≡ any n test
    go true (k, m, w) =
        let l : k < n = omega (arith, m, long) in
        sym (any_one n k test l (w (row 0) k l (table_at n row (row 0) k l)))
    go false w = sym (any_none n n test (λ k l. w k (row 0) (omega arith) (omega (arith, l, long)) k l (table_at n row (row 0) k l)) (omega arith))
