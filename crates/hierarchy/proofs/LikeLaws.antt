-- Two subnets that are like a third are like each other. So a subnet is like each lower one of its type once it is like the lowest, where
-- those between are. Assumes nothing.
use Prim.Native.Nat.{ℕ, ◌+◌, ◌≤◌, ◌<◌}
use mathlib.Core.Path.{◌≡◌, refl, sym, ap, subst, ◌∙◌}
use mathlib.Core.Logic.{◌⊎◌, inl, inr}
use mathlib.Core.Bool.{Bool, true, false, not, ◌&&◌, ◌||◌, false≢true}
use native.Mathlib.Omega.{arith}
use lib.ListN.{length}
use lib.Dec.{ltb, eqb}
use borrow.Author.Tests.{ltb-true, ltb-false, eqb-true, eqb-false, eq-eqb}
use Rattle.std.proofs.lemmas.Bool.{and_parts}
use Rattle.card.specs.Card.{Card, Arc, subnet_at, transition_at, arc_at, first_transition}
use Rattle.hierarchy.specs.Conditions.{is_child, children, child, SameType, Alike, AlikeArcs, AlikeTransitions}
use Rattle.hierarchy.specs.inner.Ordinals.{ordinal}
use Rattle.hierarchy.specs.Check.{same_type, alike, like_lower}
use Rattle.hierarchy.proofs.Agree.{same_type_is, alike_is, like_lower_is}
use Rattle.hierarchy.proofs.WalkLaws.{Below, every_none, every_all}
use Rattle.hierarchy.proofs.ChildLaws.{child_is}

-- no subnet is its own child, and no two of its children are one
own_no_child : (c : Card) (i : ℕ) → is_child c i i ≡ true → ⊥
own_no_child c i e =
    let other : Bool = not (eqb i i) in
    let there : Bool = ltb i (length c.subnets) in
    let n : other ≡ true = (and_parts other there (and_parts (other && there) (eqb (subnet_at c i).parent i) e).0).0 in
    false≢true (ap not (sym (eq-eqb i i refl)) ∙ n)

not_own : (c : Card) (i k a : ℕ) → k < length (children c i) → a ≡ child c i k → a ≡ i → ⊥
not_own c i k a l e f = own_no_child c i (subst (λ (j : ℕ). is_child c i j ≡ true) (sym e ∙ f) (child_is c i k l).child)

one_ordinal : (c : Card) (i k m : ℕ) → k < length (children c i) → m < length (children c i) → child c i k ≡ child c i m → k ≡ m
one_ordinal c i k m l n e = sym (child_is c i k l).ordinal ∙ (ap (ordinal c i) e ∙ (child_is c i m n).ordinal)

-- what is like q's is like each other
module _ (c : Card) (q r s : ℕ) (as_many : length (children c q) ≡ length (children c r)) where
  arcs_between : (a b d : Arc) → AlikeArcs c q r a b → AlikeArcs c q s a d → AlikeArcs c r s b d
  arcs_between a b d x y =
      record {
        direction = sym x.direction ∙ y.direction;
        weight = sym x.weight ∙ y.weight;
        place = sym x.place ∙ y.place;
        subnet = go x.subnet y.subnet;
      }
    where
      go : ((a.subnet ≡ q) × (b.subnet ≡ r)) ⊎ ((k : ℕ) × (k < length (children c q)) × ((a.subnet ≡ child c q k) × (b.subnet ≡ child c r k)))
          → ((a.subnet ≡ q) × (d.subnet ≡ s)) ⊎ ((k : ℕ) × (k < length (children c q)) × ((a.subnet ≡ child c q k) × (d.subnet ≡ child c s k)))
          → ((b.subnet ≡ r) × (d.subnet ≡ s)) ⊎ ((k : ℕ) × (k < length (children c r)) × ((b.subnet ≡ child c r k) × (d.subnet ≡ child c s k)))
      go (inl o) (inl p) = inl (o.1, p.1)
      go (inl o) (inr (k, l, p)) = absurd (not_own c q k a.subnet l p.0 o.0)
      go (inr (k, l, o)) (inl p) = absurd (not_own c q k a.subnet l o.0 p.0)
      go (inr (k, l, o)) (inr (m, n, p)) =
          inr (k, omega (arith, as_many, l), (o.1, p.1 ∙ ap (λ (i : ℕ). child c s i) (sym (one_ordinal c q k m l n (sym o.0 ∙ p.0)))))

  transitions_between : (t u v : ℕ) → AlikeTransitions c q r t u → AlikeTransitions c q s t v → AlikeTransitions c r s u v
  transitions_between t u v x y =
      record {
        arc_count = sym x.arc_count ∙ y.arc_count;
        arcs = λ j l. let m : j < (transition_at c t).arcs = omega (arith, x.arc_count, l) in arcs_between (arc_at c t j) (arc_at c u j) (arc_at c v j) (x.arcs j m) (y.arcs j m);
      }

alike_between : (c : Card) (q r s : ℕ) → Alike c q r → Alike c q s → Alike c r s
alike_between c q r s x y =
    record {
      place_count = sym x.place_count ∙ y.place_count;
      places = λ n l. let m : n < (subnet_at c q).places = omega (arith, x.place_count, l) in
          record { kind = sym (x.places n m).kind ∙ (y.places n m).kind; capacity = sym (x.places n m).capacity ∙ (y.places n m).capacity };
      child_count = sym x.child_count ∙ y.child_count;
      children = λ k l. let m : k < length (children c q) = omega (arith, x.child_count, l) in
          record { type = sym (x.children k m).type ∙ (y.children k m).type; typed = (y.children k m).typed };
      transition_count = sym x.transition_count ∙ y.transition_count;
      transitions = λ k l. let m : k < (subnet_at c q).transitions = omega (arith, x.transition_count, l) in
          transitions_between c q r s x.child_count (first_transition c q + k) (first_transition c r + k) (first_transition c s + k) (x.transitions k m) (y.transitions k m);
    }

-- of the type of s
abbrev pub of_type : Card → (s r : ℕ) → Bool
of_type c s r = same_type c r s

-- as like_lower asks
abbrev like_it : Card → (s r : ℕ) → Bool
like_it c s r = not (same_type c r s) || alike c r s

pub none_lower : (c : Card) (s r : ℕ) → s ≤ r → Below r (of_type c s) false → true ≡ like_lower c s
unfolding like_lower
none_lower c s r l h = sym (every_all s r (like_it c s) (λ k m. rw (h k m)) l)

unlike_lower : (c : Card) (s r : ℕ) → r < s → same_type c r s ≡ true → alike c r s ≡ false → false ≡ like_lower c s
unfolding like_lower
unlike_lower c s r l t e = sym (every_none s r (like_it c s) l (rw (t, e)))

pub like_lowest : (c : Card) (s r : ℕ) → r < s → Below r (of_type c s) false → same_type c r s ≡ true → Below s (like_lower c) true → alike c r s ≡ like_lower c s
like_lowest c s r l h t w = go (alike c r s) refl
  where
    between : Alike c r s → (q : ℕ) → q < s → r < q → SameType c q s → Alike c q s
    between y q m n z =
        let u : SameType c r s = (same_type_is c r s).0 t in
        alike_between c r q s ((like_lower_is c q).0 (w q m) r n (record { type = u.type ∙ sym z.type; typed = λ e. z.typed (sym z.type ∙ e) })) y

    each : Alike c r s → (q : ℕ) → q < s → SameType c q s → Alike c q s
    each y q m z = at (eqb q r) refl (ltb q r) refl
      where
        at : (a : Bool) → eqb q r ≡ a → (b : Bool) → ltb q r ≡ b → Alike c q s
        at true e b f = subst (λ (i : ℕ). Alike c i s) (sym (eqb-true q r e)) y
        at false e true f = absurd (false≢true (sym (h q (ltb-true q r f)) ∙ (same_type_is c q s).1 z))
        at false e false f = between y q m (omega (arith, eqb-false q r e, ltb-false q r f)) z

    go : (a : Bool) → alike c r s ≡ a → a ≡ like_lower c s
    go true e = sym ((like_lower_is c s).1 (each ((alike_is c r s).0 e)))
    go false e = unlike_lower c s r l t e
