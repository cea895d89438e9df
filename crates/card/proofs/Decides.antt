-- What a test decides, and what a search that finds nothing proves. Assumes nothing.
use Prim.Native.Nat.{ℕ, zero, suc, ◌+◌, ◌≤◌, ◌<◌}
use mathlib.Core.Path.{◌≡◌, refl, sym, subst}
use mathlib.Core.Logic.Iff
use mathlib.Core.Logic.{◌↔◌, ◌⊎◌, inl, inr}
use mathlib.Core.Bool.{Bool, true, false, not, ◌||◌, cond, false≢true}
use mathlib.Core.Option.{Option, none, some, some-ne-none}
use native.Mathlib.Omega.{arith}
use lib.Dec.{leb, eqb}
use borrow.Author.Tests.{eqb-true, eqb-false, leb-true, le-leb}
use Rattle.std.specs.Bool.{Decides}
use Rattle.std.proofs.lemmas.Bool.Decides.{Decides-and, Decides-or}
use Rattle.card.specs.Finite.{every, any, some_if, some_unless, first_of, ◌otherwise◌}

-- a search that finds nothing proves a proposition
abbrev pub Clears : {A : Type 0} → Option A → Type 0 → Type 0
Clears o P = (o ≡ none) ↔ P

pub le_is : (a b : ℕ) → Decides (leb a b) (a ≤ b)
le_is a b = (leb-true a b, le-leb a b)

-- below n + 1 is below n, or n
pub last_is : (n : ℕ) (P : ℕ → Type 0) → (((k : ℕ) → k < n → P k) × P n) ↔ ((k : ℕ) → k < suc n → P k)
last_is n P = (λ h k l. go h k l (eqb k n) refl, λ h. (λ k l. h k (omega arith), h n (omega arith)))
  where
    go : ((k : ℕ) → k < n → P k) × P n → (k : ℕ) → k < suc n → (t : Bool) → eqb k n ≡ t → P k
    go h k l true e = subst P (sym (eqb-true k n e)) h.1
    go h k l false e = h.0 k (omega (arith, eqb-false k n e))

pub every_is : (n : ℕ) (f : ℕ → Bool) (P : ℕ → Type 0) → ((k : ℕ) → Decides (f k) (P k)) → Decides (every n f) ((k : ℕ) → k < n → P k)
unfolding every
every_is zero f P d = (λ h k l. absurd (omega arith), λ h. refl)
every_is (suc n) f P d = Iff.trans (Decides-and (every n f) (f n) (every_is n f P d) (d n)) (last_is n P)

abbrev pub Some : ℕ → (ℕ → Type 0) → Type 0
Some n P = (k : ℕ) × (k < n) × P k

pub any_step : (n : ℕ) (P : ℕ → Type 0) → (Some n P ⊎ P n) ↔ Some (suc n) P
any_step n P = (forth, λ x. back x (eqb x.0 n) refl)
  where
    forth : Some n P ⊎ P n → Some (suc n) P
    forth (inl x) = (x.0, omega (arith, x.1), x.2)
    forth (inr p) = (n, omega arith, p)

    back : (x : Some (suc n) P) → (t : Bool) → eqb x.0 n ≡ t → Some n P ⊎ P n
    back x true e = inr (subst P (eqb-true x.0 n e) x.2)
    back x false e = inl (x.0, omega (arith, x.1, eqb-false x.0 n e), x.2)

pub any_is : (n : ℕ) (f : ℕ → Bool) (P : ℕ → Type 0) → ((k : ℕ) → Decides (f k) (P k)) → Decides (any n f) (Some n P)
unfolding any
any_is zero f P d = (λ h. absurd (false≢true h), λ x. absurd (omega (arith, x.1)))
any_is (suc n) f P d = Iff.trans (Decides-or (any n f) (f n) (any_is n f P d) (d n)) (any_step n P)

-- searches
pub some_unless_is : {A : Type 0} (b : Bool) (x : A) (P : Type 0) → Decides b P → Clears (some_unless b x) P
some_unless_is true x P d = (λ h. d.0 refl, λ p. refl)
some_unless_is false x P d = (λ h. absurd (some-ne-none x h), λ p. absurd (false≢true (d.1 p)))

pub some_if_is : {A : Type 0} (b : Bool) (x : A) (P : Type 0) → Decides b P → Clears (some_if b x) (¬ P)
some_if_is true x P d = (λ h. absurd (some-ne-none x h), λ n. absurd (n (d.0 refl)))
some_if_is false x P d = (λ h p. false≢true (d.1 p), λ n. refl)

pub some_if_not_is : {A : Type 0} (b : Bool) (x : A) (P : Type 0) → Decides b P → Clears (some_if (not b) x) P
some_if_not_is true x P d = (λ h. d.0 refl, λ p. refl)
some_if_not_is false x P d = (λ h. absurd (some-ne-none x h), λ p. absurd (false≢true (d.1 p)))

-- the second search matters only where the first finds nothing
pub otherwise_given : {A : Type 0} (a b : Option A) (P Q : Type 0) → Clears a P → (P → Clears b Q) → Clears (a otherwise b) (P × Q)
otherwise_given none b P Q d e = (λ h. (d.0 refl, (e (d.0 refl)).0 h), λ h. (e h.0).1 h.1)
otherwise_given (some x) b P Q d e = (λ h. absurd (some-ne-none x h), λ h. absurd (some-ne-none x (d.1 h.0)))

pub otherwise_is : {A : Type 0} (a b : Option A) (P Q : Type 0) → Clears a P → Clears b Q → Clears (a otherwise b) (P × Q)
otherwise_is a b P Q d e = otherwise_given a b P Q d (λ p. e)

abbrev pub Between : ℕ → ℕ → (ℕ → Type 0) → Type 0
Between from n P = (i : ℕ) → from ≤ i → i < from + n → P i

pub first_step : (from n : ℕ) (P : ℕ → Type 0) → (P from × Between (suc from) n P) ↔ Between from (suc n) P
first_step from n P = (λ h i a b. go h i a b (eqb i from) refl, λ h. (h from (omega arith) (omega arith), λ i a b. h i (omega arith) (omega arith)))
  where
    go : P from × Between (suc from) n P → (i : ℕ) → from ≤ i → i < from + suc n → (t : Bool) → eqb i from ≡ t → P i
    go h i a b true e = subst P (sym (eqb-true i from e)) h.0
    go h i a b false e = h.1 i (omega (arith, eqb-false i from e)) (omega arith)

pub first_of_is : {A : Type 0} (from n : ℕ) (f : ℕ → Option A) (P : ℕ → Type 0) → ((i : ℕ) → Clears (f i) (P i)) → Clears (first_of from n f) (Between from n P)
unfolding first_of
first_of_is from zero f P d = (λ h i a b. absurd (omega arith), λ h. refl)
first_of_is from (suc n) f P d = Iff.trans (otherwise_is (f from) (first_of (suc from) n f) _ _ (d from) (first_of_is (suc from) n f P d)) (first_step from n P)

-- tests of an implication
pub implies_is : (a b : Bool) (P Q : Type 0) → Decides a P → Decides b Q → Decides (not a || b) (P → Q)
implies_is true b P Q d e = (λ h p. e.0 h, λ f. e.1 (f (d.0 refl)))
implies_is false b P Q d e = (λ h p. absurd (false≢true (d.1 p)), λ f. refl)

pub except_is : (a b : Bool) (P Q : Type 0) → Decides a P → Decides b Q → Decides (a || b) (¬ P → Q)
except_is true b P Q d e = (λ h n. absurd (n (d.0 refl)), λ f. refl)
except_is false b P Q d e = (λ h n. e.0 h, λ f. e.1 (f (λ p. false≢true (d.1 p))))

-- a test by cases
pub cond_is : (a b c : Bool) (P Q R : Type 0) → Decides a P → Decides b Q → Decides c R → Decides (cond a b c) ((P → Q) × (¬ P → R))
cond_is true b c P Q R d e f = (λ h. (λ p. e.0 h, λ n. absurd (n (d.0 refl))), λ h. e.1 (h.0 (d.0 refl)))
cond_is false b c P Q R d e f = (λ h. (λ p. absurd (false≢true (d.1 p)), λ n. f.0 h), λ h. f.1 (h.1 (λ p. false≢true (d.1 p))))
