-- A visiting order that names each of S subnets once: none twice, none else, and a sum over it is the sum over the subnets. Assumes nothing.
use Rattle.std.proofs.Common.{◌≡◌, ℕ, zero, suc, ◌+◌, ◌*◌, ◌<◌, ◌≤◌, Bool, true, false, eqb, ◌⊎◌, List, length, get_or, sym, refl, ap, ◌∙◌, inl, inr, arith, eq-eqb, ne_eqb, eqb-true}
use mathlib.Core.Bool.{false≢true}
use borrow.Author.Tests.{eqb-false}
use Rattle.std.proofs.lemmas.Bool.{cases_lt}
use Rattle.std.proofs.lemmas.Bool.Decides.{Decides-eqb, Decides-and}
use Rattle.card.specs.Finite.{sum_to, every}
use Rattle.card.proofs.Decides.{Some, every_is, any_is}
use Rattle.card.proofs.Sums.{sum_same, sum_plus, sum_zero, sum_mono}
use Rattle.card.specs.Finite.{one}
use Rattle.runners.specs.Calls.{names, each_once}
use Rattle.runners.proofs.OrderLaws.{past_last}

-- how many of x 0, .., x (n - 1) are s
abbrev times : (n : ℕ) → (x : ℕ → ℕ) → (s : ℕ) → ℕ
times n x s = sum_to n (λ j. one (eqb (x j) s))

-- g at x alone, summed over a range, is 0 below x, and g x where the range has x
only_none : (S x : ℕ) (g : ℕ → ℕ) → S ≤ x → sum_to S (λ s. one (eqb x s) * g s) ≡ 0
only_none S x g h = sum_zero S _ (λ s l. rw (ne_eqb x s (λ e. omega arith)) (omega arith))

only : (S x : ℕ) (g : ℕ → ℕ) → x < S → sum_to S (λ s. one (eqb x s) * g s) ≡ g x
unfolding sum_to
only zero x g l = absurd (omega arith)
only (suc S) x g l = go (eqb x S) refl (only S x g)
  where
    go : (b : Bool) → eqb x S ≡ b → (x < S → sum_to S (λ s. one (eqb x s) * g s) ≡ g x)
        → sum_to S (λ s. one (eqb x s) * g s) + one (eqb x S) * g S ≡ g x
    go true e h =
        let q : x ≡ S = eqb-true x S e in
        rw e (omega (arith, only_none S x g (omega arith), ap g q))
    go false e h = rw e (omega (arith, h (omega (arith, eqb-false x S e))))

-- a sum over numbers below S, by how often each of them is there
sum_times : (S n : ℕ) (x g : ℕ → ℕ) → ((j : ℕ) → j < n → x j < S) → sum_to n (λ j. g (x j)) ≡ sum_to S (λ s. times n x s * g s)
unfolding sum_to
sum_times S zero x g h = sym (sum_zero S (λ s. 0 * g s) (λ s l. omega arith))
sum_times S (suc n) x g h =
    omega (
      arith,
      sum_times S n x g (λ j l. h j (omega arith)),
      only S (x n) g (h n (omega arith)),
      sum_plus S (λ s. times n x s * g s) (λ s. one (eqb (x n) s) * g s),
      sum_same S (λ s. (times n x s + one (eqb (x n) s)) * g s) (λ s. times n x s * g s + one (eqb (x n) s) * g s) (λ s l. omega arith),
    )

-- a term of a sum, and two terms
term_le : (n i : ℕ) (a : ℕ → ℕ) → i < n → a i ≤ sum_to n a
unfolding sum_to
term_le n i a l = omega (arith, sum_mono (suc i) n a (omega arith))

terms_le : (n i j : ℕ) (a : ℕ → ℕ) → i < j → j < n → a i + a j ≤ sum_to n a
unfolding sum_to
terms_le n i j a l m = omega (arith, sum_mono (suc j) n a (omega arith), term_le j i a l)

ones : (n : ℕ) → sum_to n (λ k. 1) ≡ n
unfolding sum_to
ones zero = refl
ones (suc n) = omega (arith, ones n)

-- where S numbers are 1 or more and add up to S, each is 1
all_one : (S : ℕ) (f : ℕ → ℕ) → ((s : ℕ) → s < S → 1 ≤ f s) → sum_to S f ≤ S → (s : ℕ) → s < S → f s ≡ 1
unfolding sum_to
all_one zero f h e s l = absurd (omega arith)
all_one (suc S) f h e s l =
    go (eqb s S) refl (all_one S f (λ k q. h k (omega arith)) (omega (arith, h S (omega arith))) s)
  where
    least : (n : ℕ) → n ≤ suc S → n ≤ sum_to n f
    least zero q = omega arith
    least (suc n) q = omega (arith, least n (omega arith), h n (omega arith))

    go : (b : Bool) → eqb s S ≡ b → (s < S → f s ≡ 1) → f s ≡ 1
    go true q k = omega (arith, ap f (eqb-true s S q), least S (omega arith), h S (omega arith))
    go false q k = k (omega (arith, eqb-false s S q))

-- what 23 asks of an order
pub record Once (S : ℕ) (order : List ℕ) : Type 0 where
  pub size : length order ≡ S
  pub below : (i : ℕ) → i < S → get_or order i 0 < S
  pub named : (s : ℕ) → s < S → Some S (λ i. get_or order i 0 ≡ s)

pub once : (S : ℕ) (order : List ℕ) → each_once S order ≡ true → Once S order
unfolding each_once
once S order e = record { size = h.0; below = λ i l. small i l (cases_lt (get_or order i 0) S); named = named }
  where
    Stands : ℕ → Type 0
    Stands s = Some (length order) (λ i. get_or order i 0 ≡ s)

    h : (length order ≡ S) × ((s : ℕ) → s < S → Stands s)
    h = (Decides-and (eqb (length order) S) (every S (names order)) (Decides-eqb (length order) S)
        (every_is S (names order) Stands (λ s. any_is (length order) (λ i. eqb (get_or order i 0) s) (λ i. get_or order i 0 ≡ s) (λ i. Decides-eqb (get_or order i 0) s)))).0 e

    small : (i : ℕ) → i < S → (get_or order i 0 < S) ⊎ (S ≤ get_or order i 0) → get_or order i 0 < S
    small i l (inl q) = q
    small i l (inr q) = absurd (false≢true (past_last order S i h.0 (omega (arith, h.0)) q ∙ e))

    named : (s : ℕ) → s < S → Some S (λ i. get_or order i 0 ≡ s)
    named s l = let w = h.1 s l in (w.0, omega (arith, w.1, h.0), w.2)

-- each subnet is there once
once_times : (S : ℕ) (order : List ℕ) → Once S order → (s : ℕ) → s < S → times S (λ j. get_or order j 0) s ≡ 1
once_times S order o =
    all_one S (times S x) some
    (omega (
      arith,
      ones S,
      sum_times S S x (λ s. 1) o.below,
      sum_same S (λ s. times S x s * 1) (times S x) (λ s l. omega arith),
    ))
  where
    x : ℕ → ℕ
    x j = get_or order j 0

    some : (s : ℕ) → s < S → 1 ≤ times S x s
    some s l =
        let w = o.named s l in
        omega (arith, term_le S w.0 (λ j. one (eqb (x j) s)) w.1, ap one (eq-eqb (x w.0) s w.2))

-- THE SUM IS THE SAME IN ANY ORDER
pub sum_once : (S : ℕ) (order : List ℕ) (g : ℕ → ℕ) → Once S order → sum_to S (λ j. g (get_or order j 0)) ≡ sum_to S g
sum_once S order g o =
    sum_times S S (λ j. get_or order j 0) g o.below
    ∙ sum_same S (λ s. times S (λ j. get_or order j 0) s * g s) g (λ s l. rw (once_times S order o s l) (omega arith))

-- no subnet is there twice
pub once_distinct : (S : ℕ) (order : List ℕ) → Once S order → (i j : ℕ) → i < j → j < S → get_or order i 0 ≡ get_or order j 0 → ⊥
once_distinct S order o i j l m e =
    omega (
      arith,
      terms_le S i j (λ k. one (eqb (get_or order k 0) (get_or order j 0))) l m,
      ap one (eq-eqb (get_or order i 0) (get_or order j 0) e),
      ap one (eq-eqb (get_or order j 0) (get_or order j 0) refl),
      once_times S order o (get_or order j 0) (o.below j m),
    )
