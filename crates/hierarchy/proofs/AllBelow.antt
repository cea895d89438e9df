-- What `all` finds, as the test at each number below how many it goes over. Assumes nothing.
use Prim.Native.Nat.{ℕ, ◌<◌}
use mathlib.Core.Path.{◌≡◌, refl, sym, ap, ap₂, ◌∙◌}
use mathlib.Core.Bool.{Bool, true, false, ◌&&◌}
use mathlib.Core.List.{List}
use native.Mathlib.Omega.{arith}
use lib.ListN.{length, get_or}
use lib.Dec.{eqb}
use borrow.Author.Tests.{eq-eqb}
use denote.Param.Members.{Mut}
use Rattle.std.specs.Prelude.{Option}
use Rattle.std.specs.declared.iter.Zip.{Zip}
use Rattle.std.specs.Bool.{MatchBool}
use Rattle.std.specs.Fn.{Called}
use Rattle.std.specs.Iterator.{YieldsThen}
use Rattle.std.specs.Iterator.Adapters.{zip_first, zip_second}
use Rattle.std.specs.List.{FoldsTo, AllWithin, HoldsAt}
use Rattle.std.specs.Option.{MatchOption}
use Rattle.std.proofs.lemmas.Iterator.{YieldsList, YieldsList-from_zip, zips, cases_from_all}
use Rattle.std.proofs.lemmas.Slice.Zip.{length-zip, get_or-zip}
use Rattle.card.specs.Finite.{every, table}
use Rattle.card.proofs.Sums.{table_length, table_at}
use Rattle.hierarchy.proofs.WalkLaws.{every_none, every_all}

-- what the call of `all` promises
abbrev pub ChecksAll : {S A F : Type 0} → (S → Option A → S → Type 0) → Mut F (A × Unit {0}) Bool → S → F → Bool → S → Type 0
ChecksAll {S} {A} {F} steps g s f r u =
    (xs : List A) × (o : Option A) × (j : F) × YieldsThen steps s xs o u × FoldsTo (λ p x q. Called g p (x, tt) true q) f xs j
    × MatchOption o (r ≡ true) (λ x. (r ≡ false) × ((h : F) × Called g j (x, tt) false h))

pub all_is : {S A B F : Type 0} {steps : S → Option A → S → Type 0} {v : A → B} {g : Mut F (A × Unit {0}) Bool} {s : S} {all : List B} (n : ℕ) (test : ℕ → Bool) (d : B) (u : S) (f : F) (r : Bool)
    → ChecksAll steps g s f r u → YieldsList steps v s all → length all ≡ n
    → ((x : A) (b : Bool) (q : F) → Called g f (x, tt) b q → (q ≡ f) × ((k : ℕ) → k < n → v x ≡ get_or all k d → b ≡ test k))
    → r ≡ every n test
all_is {S} {A} {B} {F} {steps} {v} {g} {s} {all} n test d u f r ran e l h =
    go r (cases_from_all u f r (Is true) (Is false) ran e (λ x q k. ((h x true q k).0, λ i m z. sym ((h x true q k).1 i m z))) (λ x q k i m z. sym ((h x false q k).1 i m z)))
  where
    Is : Bool → B → Type 0
    Is b y = (k : ℕ) → k < n → y ≡ get_or all k d → test k ≡ b

    go : (b : Bool) → MatchBool b (AllWithin (Is true) all 0 (length all)) ((k : ℕ) × (k < length all) × HoldsAt (Is false) all k) → b ≡ every n test
    go true w = sym (every_all n n test (λ k m. w k d (omega arith) (omega (arith, l, m)) k m refl) (omega arith))
    go false (k, m, w) = sym (every_none n k test (omega (arith, l, m)) (w d k (omega (arith, l, m)) refl))

-- over the rows 0, 1, .., n - 1
pub all_rows : {S A B F : Type 0} {steps : S → Option A → S → Type 0} {v : A → B} {g : Mut F (A × Unit {0}) Bool} {s : S} (n : ℕ) (row : ℕ → B) (test : ℕ → Bool) (u : S) (f : F) (r : Bool)
    → ChecksAll steps g s f r u → YieldsList steps v s (table 0 n row)
    → ((x : A) (b : Bool) (q : F) → Called g f (x, tt) b q → (q ≡ f) × ((k : ℕ) → k < n → v x ≡ row k → b ≡ test k))
    → r ≡ every n test
all_rows n row test u f r ran e h =
    all_is n test (row 0) u f r ran e (table_length 0 n row) (λ x b q k. ((h x b q k).0, λ i m z. (h x b q k).1 i m (z ∙ table_at n row (row 0) i m)))

-- over two lists, of one length, beside each other
all_both : {S T A B C D F : Type 0} {steps : S → Option A → S → Type 0} {others : T → Option B → T → Type 0} {v : A → C} {w : B → D} {g : Mut F ((A × B) × Unit {0}) Bool} {s : Zip S T}
    (n : ℕ) (xs : List C) (ys : List D) (c : C) (d : D) (test : ℕ → Bool) (u : Zip S T) (f : F) (r : Bool)
    → ChecksAll (zips steps others) g s f r u → YieldsList steps v (zip_first s) xs → YieldsList others w (zip_second s) ys → length xs ≡ n → length ys ≡ n
    → ((x : A × B) (b : Bool) (q : F) → Called g f (x, tt) b q → (q ≡ f) × ((k : ℕ) → k < n → v x.0 ≡ get_or xs k c → w x.1 ≡ get_or ys k d → b ≡ test k))
    → r ≡ every n test
all_both {C = C} {D = D} n xs ys c d test u f r ran e h l m k =
    all_is n test (c, d) u f r ran (YieldsList-from_zip e h) (omega (arith, length-zip xs ys, l, m))
    (λ x b q p. (
      (k x b q p).0,
      λ i o z.
          let y = z ∙ get_or-zip xs ys i (c, d) (omega (arith, l, o)) (omega (arith, m, o)) in
          (k x b q p).1 i o (ap (λ (t : C × D). t.0) y) (ap (λ (t : C × D). t.1) y),
    ))

pub all_beside : {S T F : Type 0} {steps : S → Option ℕ → S → Type 0} {others : T → Option ℕ → T → Type 0} {g : Mut F ((ℕ × ℕ) × Unit {0}) Bool} {s : Zip S T}
    (n : ℕ) (xs ys : List ℕ) (same : ℕ → ℕ → Bool) (test : ℕ → Bool) (u : Zip S T) (f : F) (r : Bool)
    → ChecksAll (zips steps others) g s f r u → YieldsList steps (λ x. x) (zip_first s) xs → YieldsList others (λ x. x) (zip_second s) ys → length xs ≡ n → length ys ≡ n
    → ((x : ℕ × ℕ) (b : Bool) (q : F) → Called g f (x, tt) b q → (q ≡ f) × (b ≡ same x.0 x.1))
    → ((k : ℕ) → k < n → same (get_or xs k 0) (get_or ys k 0) ≡ test k)
    → r ≡ every n test
all_beside n xs ys same test u f r ran e h l m k w =
    all_both n xs ys 0 0 test u f r ran e h l m (λ x b q p. ((k x b q p).0, λ i o y z. (k x b q p).1 ∙ (ap₂ same y z ∙ w i o)))

-- over the rows of two tables, beside each other
pub all_row_pairs : {S T A B C D F : Type 0} {steps : S → Option A → S → Type 0} {others : T → Option B → T → Type 0} {v : A → C} {w : B → D} {g : Mut F ((A × B) × Unit {0}) Bool} {s : Zip S T}
    (n m : ℕ) (lower : ℕ → C) (upper : ℕ → D) (test : ℕ → Bool) (u : Zip S T) (f : F) (r : Bool) → n ≡ m
    → ChecksAll (zips steps others) g s f r u → YieldsList steps v (zip_first s) (table 0 n lower) → YieldsList others w (zip_second s) (table 0 m upper)
    → ((x : A × B) (b : Bool) (q : F) → Called g f (x, tt) b q → (q ≡ f) × ((k : ℕ) → k < n → v x.0 ≡ lower k → w x.1 ≡ upper k → b ≡ test k))
    → r ≡ every n test
all_row_pairs n m lower upper test u f r same ran e h k =
    all_both n (table 0 n lower) (table 0 m upper) (lower 0) (upper 0) test u f r ran e h (table_length 0 n lower) (table_length 0 m upper ∙ sym same)
    (λ x b q p. ((k x b q p).0, λ i o y z. (k x b q p).1 i o (y ∙ table_at n lower (lower 0) i o) (z ∙ table_at m upper (upper 0) i (omega (arith, same)))))

-- as many, and each two alike
pub as_many : (a b x y : ℕ) (f : ℕ → Bool) (r : Bool) → x ≡ a → y ≡ b → x ≡ y → r ≡ every x f → r ≡ eqb a b && every a f
as_many a b x y f r e g q h = rw (← e, ← g, eq-eqb x y q) h
