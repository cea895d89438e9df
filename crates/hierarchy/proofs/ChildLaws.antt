-- The children of a subnet by their ordinals: the k-th child is the child whose ordinal is k. Assumes nothing.
use Prim.Native.Nat.{ℕ, zero, suc, ◌+◌, ◌<◌}
use mathlib.Core.Path.{◌≡◌, refl, sym, ap, subst, ◌∙◌}
use mathlib.Core.Bool.{Bool, true, false, not, ◌&&◌, cond}
use mathlib.Core.List.{List, ◌∷◌}
use native.Mathlib.Omega.{arith}
use native.Mathlib.Nat.{zero-add}
use lib.ListN.{length, get_or}
use lib.Dec.{ltb, eqb}
use borrow.Author.Tests.{ltb-true}
use Rattle.std.specs.List.{filter, range_with_len}
use Rattle.std.proofs.lemmas.Bool.{and_parts}
use Rattle.std.proofs.lemmas.Bool.Decides.{Decides-eqb, Decides-and}
use Rattle.std.specs.Bool.{Decides}
use Rattle.card.specs.Finite.{sum_to, table, keep}
use Rattle.card.specs.Card.{Card, subnet_at}
use Rattle.card.proofs.Sums.{sum_same, sum_front, sum_below}
use Rattle.card.proofs.Decides.{Some, any_is}
use Rattle.hierarchy.specs.Conditions.{is_child, children, child}
use Rattle.card.specs.Finite.{one}
use Rattle.hierarchy.specs.inner.Ordinals.{ordinal}
use Rattle.hierarchy.specs.inner.Likeness.{both_kth}

module _ (test : ℕ → Bool) where
  -- how many of from, from + 1, .., n of them, pass
  abbrev passing : (from n : ℕ) → ℕ
  passing from zero = 0
  passing from (suc n) = one (test from) + passing (suc from) n

  abbrev kept : (from n : ℕ) → List ℕ
  kept from n = keep test (table from n (λ j. j))

  passing_sum : (from n : ℕ) → passing from n ≡ sum_to n (λ i. one (test (from + i)))
  unfolding sum_to
  passing_sum from zero = refl
  passing_sum from (suc n) =
      let a : ℕ → ℕ = λ i. one (test (from + i)) in
      let p : passing (suc from) n ≡ sum_to n (λ i. one (test (suc from + i))) = passing_sum (suc from) n in
      let q : sum_to n (λ i. one (test (suc from + i))) ≡ sum_to n (λ i. a (suc i)) = sum_same n _ _ (λ i l. ap (λ (k : ℕ). one (test k)) (omega arith)) in
      let z : a 0 ≡ one (test from) = ap (λ (k : ℕ). one (test k)) (omega arith) in
      omega (arith, p, q, z, sum_front n a)

  kept_length : (from n : ℕ) → length (kept from n) ≡ passing from n
  unfolding keep table
  kept_length from zero = refl
  kept_length from (suc n) = go (test from) (kept_length (suc from) n)
    where
      go : (b : Bool) → length (kept (suc from) n) ≡ passing (suc from) n → length (cond b (from ∷ kept (suc from) n) (kept (suc from) n)) ≡ one b + passing (suc from) n
      go true e = omega (arith, e)
      go false e = omega (arith, e)

  kept_at : (from n i : ℕ) → i < n → test (from + i) ≡ true → get_or (kept from n) (passing from i) 0 ≡ from + i
  unfolding keep table
  kept_at from zero i l e = absurd (omega arith)
  kept_at from (suc n) zero l e =
      let q : from + zero ≡ from = omega arith in
      let z : test from ≡ true = subst (λ (k : ℕ). test k ≡ true) q e in
      rw z (sym q)
  kept_at from (suc n) (suc i) l e =
      let q : from + suc i ≡ suc from + i = omega arith in
      go (test from) (kept_at (suc from) n i (omega arith) (subst (λ (k : ℕ). test k ≡ true) q e)) ∙ sym q
    where
      go : (b : Bool) → get_or (kept (suc from) n) (passing (suc from) i) 0 ≡ suc from + i → get_or (cond b (from ∷ kept (suc from) n) (kept (suc from) n)) (one b + passing (suc from) i) 0 ≡ suc from + i
      go true h = let z : 1 + passing (suc from) i ≡ suc (passing (suc from) i) = omega arith in rw z h
      go false h = let z : 0 + passing (suc from) i ≡ passing (suc from) i = omega arith in rw z h

  -- where member k stands
  kept_of : (from n k : ℕ) → k < length (kept from n) → Some n (λ i. (test (from + i) ≡ true) × (passing from i ≡ k))
  unfolding keep table
  kept_of from zero k l = absurd (omega arith)
  kept_of from (suc n) k l = go (test from) refl k l (kept_of (suc from) n)
    where
      later : (b : Bool) → test from ≡ b → (k : ℕ) → Some n (λ i. (test (suc from + i) ≡ true) × (passing (suc from) i ≡ k)) → Some (suc n) (λ i. (test (from + i) ≡ true) × (passing from i ≡ one b + k))
      later b e k h =
          let q : suc from + h.0 ≡ from + suc h.0 = omega arith in
          (suc h.0, omega (arith, h.1), (subst (λ (m : ℕ). test m ≡ true) q h.2.0, rw e (omega (arith, h.2.1))))

      go : (b : Bool) → test from ≡ b → (k : ℕ) → k < length (cond b (from ∷ kept (suc from) n) (kept (suc from) n)) → ((k : ℕ) → k < length (kept (suc from) n) → Some n (λ i. (test (suc from + i) ≡ true) × (passing (suc from) i ≡ k))) → Some (suc n) (λ i. (test (from + i) ≡ true) × (passing from i ≡ k))
      go true e zero l f = (0, omega arith, (let q : from + 0 ≡ from = omega arith in rw q e, refl))
      go true e (suc k) l f = let z : 1 + k ≡ suc k = omega arith in rw z at (later true e k (f k (omega (arith, l))))
      go false e k l f = let z : 0 + k ≡ k = omega arith in rw z at (later false e k (f k l))

ordinal_passing : (c : Card) (i j : ℕ) → ordinal c i j ≡ passing (is_child c i) 0 j
unfolding ordinal
ordinal_passing c i j = sym (passing_sum (is_child c i) 0 j ∙ sum_same j _ _ (λ h l. ap (λ (k : ℕ). one (is_child c i k)) (zero-add h)))

-- in the words of the library
filtered : (test : ℕ → Bool) (from n : ℕ) → keep test (table from n (λ j. j)) ≡ filter test (range_with_len from n)
unfolding keep table
filtered test from zero = refl
filtered test from (suc n) =
    let e : from + 1 ≡ suc from = omega arith in
    rw e (ap (λ (xs : List ℕ). cond (test from) (from ∷ xs) xs) (filtered test (suc from) n))

pub children_filtered : (c : Card) (i : ℕ) → children c i ≡ filter (is_child c i) (range_with_len 0 (length c.subnets))
unfolding children
children_filtered c i = filtered (is_child c i) 0 (length c.subnets)

pub ordinal_filtered : (c : Card) (i j : ℕ) → ordinal c i j ≡ length (filter (is_child c i) (range_with_len 0 j))
ordinal_filtered c i j = ordinal_passing c i j ∙ sym (kept_length (is_child c i) 0 j) ∙ ap (λ (xs : List ℕ). length xs) (filtered (is_child c i) 0 j)

-- as many children as there are below the number of subnets
pub child_count : (c : Card) (i : ℕ) → length (children c i) ≡ ordinal c i (length c.subnets)
unfolding children
child_count c i = kept_length (is_child c i) 0 (length c.subnets) ∙ sym (ordinal_passing c i (length c.subnets))

pub child_below : (c : Card) (i j : ℕ) → is_child c i j ≡ true → j < length c.subnets
child_below c i j e =
    let other : Bool = not (eqb j i) in
    let there : Bool = ltb j (length c.subnets) in
    ltb-true j (length c.subnets) (and_parts other there (and_parts (other && there) (eqb (subnet_at c j).parent i) e).0).1

-- a child is the one of its ordinal
pub child_at : (c : Card) (i j : ℕ) → is_child c i j ≡ true → child c i (ordinal c i j) ≡ j
unfolding children
child_at c i j e =
    rw (ordinal_passing c i j) (kept_at (is_child c i) 0 (length c.subnets) j (child_below c i j e) (subst (λ (k : ℕ). is_child c i k ≡ true) (sym (zero-add j)) e) ∙ zero-add j)

pub ordinal_below : (c : Card) (i j : ℕ) → is_child c i j ≡ true → ordinal c i j < length (children c i)
unfolding ordinal
ordinal_below c i j e =
    let f : ℕ → ℕ = λ h. one (is_child c i h) in
    let z : f j ≡ 1 = ap one e in
    omega (arith, child_count c i, sum_below (length c.subnets) f j 0 (child_below c i j e) (omega (arith, z)))

-- the k-th child is a child, and its ordinal is k
pub record Kth (c : Card) (i k j : ℕ) : Type 0 where
  pub child : is_child c i j ≡ true
  pub ordinal : ordinal c i j ≡ k

pub child_is : (c : Card) (i k : ℕ) → k < length (children c i) → Kth c i k (child c i k)
unfolding children
child_is c i k l = go (kept_of (is_child c i) 0 (length c.subnets) k l)
  where
    found : (j : ℕ) → is_child c i j ≡ true → ordinal c i j ≡ k → Kth c i k (child c i k)
    found j e r = let q : child c i k ≡ j = ap (λ (m : ℕ). child c i m) (sym r) ∙ child_at c i j e in subst (λ (m : ℕ). Kth c i k m) (sym q) (record { child = e; ordinal = r })

    go : Some (length c.subnets) (λ j. (is_child c i (0 + j) ≡ true) × (passing (is_child c i) 0 j ≡ k)) → Kth c i k (child c i k)
    go h = found h.0 (subst (λ (m : ℕ). is_child c i m ≡ true) (zero-add h.0) h.2.0) (ordinal_passing c i h.0 ∙ h.2.1)

-- by their ordinals
pub both_kth_is : (c : Card) (r s a b : ℕ) → length (children c r) ≡ length (children c s)
    → both_kth c r s a b ≡ is_child c r a && (is_child c s b && eqb (ordinal c s b) (ordinal c r a))
both_kth_is c r s a b e =
    same_test _ _ _ _ (any_is (length (children c r)) _ _ (λ k. Decides-and _ _ (Decides-eqb a (child c r k)) (Decides-eqb b (child c s k))))
    (Decides-and _ _ (itself (is_child c r a)) (Decides-and _ _ (itself (is_child c s b)) (Decides-eqb (ordinal c s b) (ordinal c r a)))) forth back
  where
    itself : (t : Bool) → Decides t (t ≡ true)
    itself t = (λ h. h, λ h. h)

    same_test : (x y : Bool) (P Q : Type 0) → Decides x P → Decides y Q → (P → Q) → (Q → P) → x ≡ y
    same_test true y P Q d f g h = sym (f.1 (g (d.0 refl)))
    same_test false true P Q d f g h = d.1 (h (f.0 refl))
    same_test false false P Q d f g h = refl

    Kept : Type 0
    Kept = Some (length (children c r)) (λ k. (a ≡ child c r k) × (b ≡ child c s k))

    AllOrdinals : Type 0
    AllOrdinals = (is_child c r a ≡ true) × ((is_child c s b ≡ true) × (ordinal c s b ≡ ordinal c r a))

    forth : Kept → AllOrdinals
    forth (k, l, p) =
        let x : Kth c r k a = subst (λ (m : ℕ). Kth c r k m) (sym p.0) (child_is c r k l) in
        let y : Kth c s k b = subst (λ (m : ℕ). Kth c s k m) (sym p.1) (child_is c s k (omega (arith, e, l))) in
        (x.child, (y.child, y.ordinal ∙ sym x.ordinal))

    back : AllOrdinals → Kept
    back (x, (y, z)) = (ordinal c r a, ordinal_below c r a x, (sym (child_at c r a x), rw (← z) (sym (child_at c s b y))))

-- counting children
pub child_counted : (c : Card) (n i x : ℕ) → n ≡ length c.subnets → x ≡ ordinal c i n → x ≡ length (children c i)
child_counted c n i x e f = f ∙ ap (λ (k : ℕ). ordinal c i k) e ∙ sym (child_count c i)

-- a table of ordinals, filled below j
abbrev pub OrdinalsTo : Card → List ℕ → ℕ → Type 0
OrdinalsTo c ordinals j = (i h : ℕ) → h < j → is_child c i h ≡ true → get_or ordinals h 0 ≡ ordinal c i h
