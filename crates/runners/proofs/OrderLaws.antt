-- The entries of a visiting order gathered in a set, as the bits of a number: the set has as many members as there are subnets just where
-- each subnet is named. Assumes nothing.
use Rattle.std.proofs.Common.{◌≡◌, ℕ, zero, suc, ◌+◌, ◌-◌, ◌*◌, ◌/◌, ◌%◌, ◌^◌, ◌<◌, ◌≤◌, max, Bool, true, false, ◌&&◌, ◌||◌, eqb, List, length, get_or, sym, refl, ap, ◌∙◌, one-mul, add-one, one-add, arith, pow_pos, pow-add, shl_exact, shr-shr, eq-eqb, ne_eqb, eqb-true}
use native.Mathlib.Decide.{dec_lt}
use native.Mathlib.Nat.{div-eq_of_lt, div_self, zero-div}
use lib.Arith.{digits_mod, lt-one}
use lib.Pow.{pow-lt, shl-shr}
use lib.Bits.{bit_or, or_step, or_shr, or_lt}
use lib.Count.{ones, ones_step}
use borrow.Author.Tests.{eqb-false}
use Rattle.std.proofs.lemmas.Bool.Decides.{nat_tests}
use Rattle.std.proofs.Math.Bool.{and-true, and-false}
use Rattle.card.specs.Finite.{sum_to, every, any}
use Rattle.card.proofs.Sums.{sum_same, sum_zero, sum_front, sum_mono}
use Rattle.card.specs.Finite.{one}
use Rattle.hierarchy.proofs.WalkLaws.{any_one}
use Rattle.runners.specs.Calls.{names, each_once}

-- the digit of a at place k
abbrev digit : ℕ → ℕ → ℕ
digit k a = a / 2 ^ k % 2

or_odd : (a b : ℕ) → bit_or a b % 2 ≡ max (a % 2) (b % 2)
or_odd a b = rw (or_step a b, digits_mod (bit_or (a / 2) (b / 2)) {m = 2} {r = max (a % 2) (b % 2)} (omega arith))

digit_or : (k a b : ℕ) → digit k (bit_or a b) ≡ max (digit k a) (digit k b)
digit_or k a b = rw or_shr (or_odd (a / 2 ^ k) (b / 2 ^ k))

digit_pow : (k n : ℕ) → digit k (2 ^ n) ≡ one (eqb n k)
digit_pow k n = go (eqb n k) refl
  where
    above : k < n → digit k (2 ^ n) ≡ 0
    above l =
        let q : n ≡ suc (n - suc k) + k = omega arith in
        rw (q, pow-add, shl-shr) (omega arith)

    go : (b : Bool) → eqb n k ≡ b → digit k (2 ^ n) ≡ one (eqb n k)
    go true e = let q : n ≡ k = eqb-true n k e in rw (e, q, div_self (pow_pos k))
    go false e = rw e (part (dec_lt k n))
      where
        part : Dec (k < n) → digit k (2 ^ n) ≡ 0
        part (yes l) = above l
        part (no l) = rw (div-eq_of_lt (pow-lt {i = n} {j = k} (omega (arith, eqb-false n k e))))

-- how many digits are set is the sum of the digits
ones_digits : (s a : ℕ) → a < 2 ^ s → ones a ≡ sum_to s (λ k. digit k a)
unfolding sum_to ones
ones_digits zero a h = ap ones (lt-one h)
ones_digits (suc s) a h =
    ones_step a
    ∙ sym (
    sum_front s (λ k. digit k a)
    ∙ ap (λ (x : ℕ). a / 1 % 2 + x) (sum_same s (λ k. digit (suc k) a) (λ k. digit k (a / 2)) (λ k l. shift k))
    ∙ omega (arith, ones_digits s (a / 2) (omega arith))
    )
  where
    shift : (k : ℕ) → digit (suc k) a ≡ digit k (a / 2)
    shift k = rw (shr-shr a 1 k, one-add)

-- one of the first i entries names k
abbrev named_by : (order : List ℕ) → (i k : ℕ) → Bool
named_by order i k = any i (λ j. eqb (get_or order j 0) k)

-- the set holds what the first i entries name, all below s
pub record Gathered (order : List ℕ) (s i set : ℕ) : Type 0 where
  pub below : set < 2 ^ s
  pub digits : (k : ℕ) → digit k set ≡ one (named_by order i k)

pub gathered_start : (order : List ℕ) (s : ℕ) → Gathered order s 0 0
unfolding any
gathered_start order s = record { below = pow_pos s; digits = λ k. rw zero-div }

one_or : (a b : Bool) → max (one a) (one b) ≡ one (a || b)
one_or true true = refl
one_or true false = refl
one_or false true = refl
one_or false false = refl

pub gathered_more : (order : List ℕ) (s i set : ℕ) → get_or order i 0 < s → get_or order i 0 < 32 → Gathered order s i set
    → Gathered order s (i + 1) (bit_or set ((1 * 2 ^ get_or order i 0) % 2 ^ 32))
unfolding any
gathered_more order s i set l b g =
    rw (shl_exact {a = 1} 1 (get_or order i 0) 32 (omega arith) (omega arith), one-mul, add-one) more
  where
    more : Gathered order s (suc i) (bit_or set (2 ^ get_or order i 0))
    more =
        record {
          below = or_lt s set (2 ^ get_or order i 0) g.below (pow-lt l);
          digits = λ k.
              digit_or k set (2 ^ get_or order i 0)
              ∙ rw (g.digits k, digit_pow k (get_or order i 0)) (one_or (named_by order i k) (eqb (get_or order i 0) k));
        }

-- a sum of ones
ones_le : (n : ℕ) (f : ℕ → Bool) → sum_to n (λ k. one (f k)) ≤ n
unfolding sum_to
ones_le zero f = omega arith
ones_le (suc n) f = go (f n) (ones_le n f)
  where
    go : (b : Bool) → sum_to n (λ k. one (f k)) ≤ n → sum_to n (λ k. one (f k)) + one b ≤ suc n
    go true h = omega arith
    go false h = omega arith

suc_eqb : (a b : ℕ) → eqb (suc a) (suc b) ≡ eqb a b
suc_eqb a b = grind (arith, nat_tests)

ones_every : (n : ℕ) (f : ℕ → Bool) → eqb (sum_to n (λ k. one (f k))) n ≡ every n f
unfolding sum_to every
ones_every zero f = refl
ones_every (suc n) f = go (f n) (ones_every n f) (ones_le n f)
  where
    go : (b : Bool) → eqb (sum_to n (λ k. one (f k))) n ≡ every n f → sum_to n (λ k. one (f k)) ≤ n
        → eqb (sum_to n (λ k. one (f k)) + one b) (suc n) ≡ (every n f && b)
    go true e h = rw add-one (suc_eqb (sum_to n (λ k. one (f k))) n ∙ e ∙ sym (and-true (every n f)))
    go false e h = ne_eqb (sum_to n (λ k. one (f k)) + 0) (suc n) (λ q. omega arith) ∙ sym (and-false (every n f))

-- i entries name at most i numbers
once_le : (n x : ℕ) → sum_to n (λ k. one (eqb x k)) ≤ 1
unfolding sum_to
once_le zero x = omega arith
once_le (suc n) x = go (eqb x n) refl (once_le n x)
  where
    go : (b : Bool) → eqb x n ≡ b → sum_to n (λ k. one (eqb x k)) ≤ 1 → sum_to n (λ k. one (eqb x k)) + one (eqb x n) ≤ 1
    go true e h =
        rw e (omega (arith, sum_zero n (λ k. one (eqb x k)) (λ k l. ap one (ne_eqb x k (λ q. omega (arith, eqb-true x n e))))))
    go false e h = rw e (omega arith)

sum_or : (n : ℕ) (f g : ℕ → Bool) → sum_to n (λ k. one (f k || g k)) ≤ sum_to n (λ k. one (f k)) + sum_to n (λ k. one (g k))
unfolding sum_to
sum_or zero f g = omega arith
sum_or (suc n) f g = go (f n) (g n) (sum_or n f g)
  where
    go : (a b : Bool) → sum_to n (λ k. one (f k || g k)) ≤ sum_to n (λ k. one (f k)) + sum_to n (λ k. one (g k))
        → sum_to n (λ k. one (f k || g k)) + one (a || b) ≤ (sum_to n (λ k. one (f k)) + one a) + (sum_to n (λ k. one (g k)) + one b)
    go true true h = omega arith
    go true false h = omega arith
    go false true h = omega arith
    go false false h = omega arith

named_le : (order : List ℕ) (n i : ℕ) → sum_to n (λ k. one (named_by order i k)) ≤ i
unfolding any
named_le order n zero = omega (arith, sum_zero n (λ k. 0) (λ k l. refl))
named_le order n (suc i) =
    omega (
      arith,
      named_le order n i,
      once_le n (get_or order i 0),
      sum_or n (named_by order i) (λ k. eqb (get_or order i 0) k),
    )

-- The three answers: an order of another length, an entry that is no subnet, and at the end the number of members.
pub wrong_length : (order : List ℕ) (s : ℕ) → (length order ≡ s → ⊥) → false ≡ each_once s order
unfolding each_once
wrong_length order s h = rw (ne_eqb (length order) s h)

pub past_last : (order : List ℕ) (s i : ℕ) → length order ≡ s → i < length order → s ≤ get_or order i 0 → false ≡ each_once s order
unfolding each_once sum_to
past_last order s i size l h =
    rw (eq-eqb (length order) s size, sym (ones_every s (names order)))
    (sym (ne_eqb (sum_to s (λ k. one (names order k))) s (λ q. omega (arith, few))))
  where
    most : sum_to (suc (get_or order i 0)) (λ k. one (names order k)) ≤ length order
    most = named_le order (suc (get_or order i 0)) (length order)

    here : names order (get_or order i 0) ≡ true
    here = any_one (length order) i (λ j. eqb (get_or order j 0) (get_or order i 0)) l (eq-eqb (get_or order i 0) (get_or order i 0) refl)

    few : sum_to s (λ k. one (names order k)) + 1 ≤ length order
    few = omega (arith, most, ap one here, sum_mono s (get_or order i 0) (λ k. one (names order k)) h)

pub all_gathered : (order : List ℕ) (s i set : ℕ) → length order ≡ s → length order ≤ i → i ≤ length order → Gathered order s i set
    → eqb (ones set) s ≡ each_once s order
unfolding each_once
all_gathered order s i set size l m g = rw (counted, eq-eqb (length order) s size) (ones_every s (names order))
  where
    whole : i ≡ length order
    whole = omega arith

    digits : (k : ℕ) → k < s → digit k set ≡ one (names order k)
    digits k b = g.digits k ∙ ap (λ (n : ℕ). one (named_by order n k)) whole

    counted : ones set ≡ sum_to s (λ k. one (names order k))
    counted = ones_digits s set g.below ∙ sum_same s (λ k. digit k set) (λ k. one (names order k)) digits
