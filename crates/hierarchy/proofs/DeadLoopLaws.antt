-- What the answer 26 says: an arc of some transition fails the test, and the bit is that arc's. Assumes nothing.
use Prim.Native.Nat.{ℕ, zero, suc, ◌+◌, ◌≤◌, ◌<◌}
use mathlib.Core.Path.{◌≡◌, refl, sym, ap, subst, ◌∙◌}
use mathlib.Core.Bool.{Bool, true, false, ◌||◌}
use mathlib.Core.Logic.{◌⊎◌, inl, inr}
use mathlib.Core.List.{List}
use mathlib.Core.Option.{Option, none, some, none-ne-some, some-injective}
use native.Mathlib.Omega.{arith}
use lib.ListN.{length}
use lib.Dec.{eqb}
use Rattle.card.specs.Finite.{sum_to, first_of, ◌otherwise◌}
use Rattle.card.specs.Card.{Card, subnet_at, transition_at, arc_at, first_transition}
use Rattle.card.specs.Index.{Lists}
use Rattle.card.specs.Parsing.{read_card}
use Rattle.card.specs.Parsing
use Rattle.card.specs.Writing.{arc_bit, subnet_bit, transition_bit}
use Rattle.hierarchy.specs.Numbers.{number}
use Rattle.hierarchy.specs.Check.{seen, directed, weighted, single, loops_fit, has_unit, has_interface, like_lower, Found, fault_unless, arc_fault, transition_fault, subnet_fault, check}
use Rattle.hierarchy.specs.Judgement.{refused, checked, judged, judge}
use Rattle.hierarchy.specs.declared.CardFault.{CardFault}
use Rattle.hierarchy.specs.declared.CardFault.TheVariants.{Unseen, Direction, Weight, Repeated, DeadLoop, NoUnit, NoInterface, Unlike}
use Rattle.hierarchy.proofs.Accepted.{not_accepted}

-- an arc of a transition fails the test of 26, and its first bit is at
pub record DeadAt (c : Card) (at : ℕ) : Type 0 where
  pub subnet : ℕ
  pub transition : ℕ
  pub arc : ℕ
  pub lists : Lists c subnet transition
  pub there : arc < (transition_at c transition).arcs
  pub fails : loops_fit c transition arc ≡ false
  pub bit : at ≡ arc_bit c subnet transition arc

-- what a search found, it found somewhere
first_some : {A : Type 0} (from n : ℕ) (f : ℕ → Option A) (x : A) → first_of from n f ≡ some x → (k : ℕ) × ((from ≤ k) × (k < from + n)) × (f k ≡ some x)
unfolding first_of
first_some from zero f x e = absurd (none-ne-some x e)
first_some {A} from (suc n) f x e = go (f from) refl e (first_some (suc from) n f x)
  where
    go : (y : Option A) → f from ≡ y → (y otherwise first_of (suc from) n f) ≡ some x
        → (first_of (suc from) n f ≡ some x → (k : ℕ) × ((suc from ≤ k) × (k < suc from + n)) × (f k ≡ some x))
        → (k : ℕ) × ((from ≤ k) × (k < from + suc n)) × (f k ≡ some x)
    go none p q w = let r = w q in (r.0, (omega (arith, r.1.0), omega (arith, r.1.1)), r.2)
    go (some y) p q w = (from, (omega arith, omega arith), p ∙ q)

either : {A : Type 0} (a b : Option A) (x : A) → (a otherwise b) ≡ some x → (a ≡ some x) ⊎ (b ≡ some x)
either none b x e = inr e
either (some y) b x e = inl e

-- 26 comes of the test that gives it
module _ (x : Found) (n : number x.why ≡ 26) (bit : ℕ) where
  told : (ok : Bool) (why : CardFault) → fault_unless bit ok why ≡ some x → (ok ≡ false) × ((number why ≡ 26) × (bit ≡ x.bit))
  told true why e = absurd (none-ne-some x e)
  told false why e =
      let q = some-injective (record { why = why; bit = bit }) x e in
      (refl, (ap (λ (y : Found). number y.why) q ∙ n, ap (λ (y : Found). y.bit) q))

  beyond : (ok : Bool) (why : CardFault) (b : Option Found) → (number why ≡ 26 → ⊥) → (fault_unless bit ok why otherwise b) ≡ some x → b ≡ some x
  beyond true why b z e = e
  beyond false why b z e = absurd (z (told false why e).1.0)

module _ (c : Card) (x : Found) (n : number x.why ≡ 26) where
  arc_dead : (i t j : ℕ) → arc_fault c i t j ≡ some x → (loops_fit c t j ≡ false) × (arc_bit c i t j ≡ x.bit)
  unfolding arc_fault
  arc_dead i t j e =
      let at = arc_bit c i t j in
      let a = arc_at c t j in
      let e₁ = beyond x n at (seen c i a) Unseen _ (λ z. omega (arith, z)) e in
      let e₂ = beyond x n at (directed c i a) Direction _ (λ z. omega (arith, z)) e₁ in
      let e₃ = beyond x n at (weighted c a) Weight _ (λ z. omega (arith, z)) e₂ in
      let e₄ = beyond x n at (single c t j) Repeated _ (λ z. omega (arith, z)) e₃ in
      let r = told x n at (loops_fit c t j) DeadLoop e₄ in
      (r.0, r.1.1)

  transition_dead : (i t : ℕ) → Lists c i t → transition_fault c i t ≡ some x → DeadAt c x.bit
  unfolding transition_fault
  transition_dead i t l e = go (either (first_of 0 (transition_at c t).arcs (arc_fault c i t)) _ x e)
    where
      go : (first_of 0 (transition_at c t).arcs (arc_fault c i t) ≡ some x) ⊎ (fault_unless (transition_bit c i t) (has_unit c t) NoUnit ≡ some x) → DeadAt c x.bit
      go (inl q) =
          let r = first_some 0 (transition_at c t).arcs (arc_fault c i t) x q in
          let d = arc_dead i t r.0 r.2 in
          record { subnet = i; transition = t; arc = r.0; lists = l; there = omega (arith, r.1.1); fails = d.0; bit = sym d.1 }
      go (inr q) = absurd (omega (arith, (told x n (transition_bit c i t) (has_unit c t) NoUnit q).1.0))

  subnet_dead : (i : ℕ) → i < length c.subnets → subnet_fault c i ≡ some x → DeadAt c x.bit
  unfolding subnet_fault first_transition sum_to
  subnet_dead i l e =
      let r = first_some (first_transition c i) (subnet_at c i).transitions (transition_fault c i) x e in
      transition_dead i r.0 (record { subnet = l; first = r.1.0; last = r.1.1 }) r.2

  check_dead : check c ≡ some x → DeadAt c x.bit
  unfolding check
  check_dead e = go (either (first_of 0 (length c.subnets) (subnet_fault c)) _ x e)
    where
      Interfaces : Option Found
      Interfaces = first_of 0 (length c.subnets) (λ i. fault_unless (subnet_bit c i) (eqb i 0 || has_interface c i) NoInterface)

      Types : Option Found
      Types = first_of 0 (length c.subnets) (λ s. fault_unless (subnet_bit c s) (like_lower c s) Unlike)

      rest : (Interfaces ≡ some x) ⊎ (Types ≡ some x) → ⊥
      rest (inl q) =
          let r = first_some 0 (length c.subnets) (λ i. fault_unless (subnet_bit c i) (eqb i 0 || has_interface c i) NoInterface) x q in
          omega (arith, (told x n (subnet_bit c r.0) (eqb r.0 0 || has_interface c r.0) NoInterface r.2).1.0)
      rest (inr q) =
          let r = first_some 0 (length c.subnets) (λ s. fault_unless (subnet_bit c s) (like_lower c s) Unlike) x q in
          omega (arith, (told x n (subnet_bit c r.0) (like_lower c r.0) Unlike r.2).1.0)

      go : (first_of 0 (length c.subnets) (subnet_fault c) ≡ some x) ⊎ ((Interfaces otherwise Types) ≡ some x) → DeadAt c x.bit
      go (inl q) = let r = first_some 0 (length c.subnets) (subnet_fault c) x q in subnet_dead r.0 (omega (arith, r.1.1)) r.2
      go (inr q) = absurd (rest (either Interfaces Types x q))

-- THE ANSWER 26 TELLS AN ARC THAT FAILS THE TEST
pub told_26 : (bytes : List ℕ) (c : Card) (end at : ℕ) → read_card bytes ≡ Parsing.whole c end → judge bytes ≡ refused 26 at → DeadAt c at
unfolding judge
told_26 bytes c end at p e = go (check c) refl (ap judged (sym p) ∙ e)
  where
    go : (x : Option Found) → check c ≡ x → checked x c ≡ refused 26 at → DeadAt c at
    go none q e = absurd (not_accepted 26 at c (sym e))
    go (some f) q e =
        let n : number f.why ≡ 26 = cc in
        let b : f.bit ≡ at = cc in
        subst (DeadAt c) b (check_dead c f n q)
