-- What the functions of src/interfaces.rt and src/types.rt find. Assumes nothing.
use Prim.Native.Nat.{ℕ, suc, ◌+◌, ◌-◌, ◌≤◌}
use mathlib.Core.Path.{◌≡◌, refl}
use mathlib.Core.Bool.{Bool, true, false, not, ◌&&◌, ◌||◌}
use native.Mathlib.Omega.{arith}
use lib.ListN.{length}
use lib.Dec.{eqb}
use borrow.Author.Tests.{eq-eqb, ne_eqb}
use Rattle.card.specs.Finite.{sum_to, every}
use Rattle.card.specs.Card.{Card, normal, subnet_at, place_at, first_place, first_transition}
use Rattle.hierarchy.specs.Conditions.{kind_of, children}
use Rattle.hierarchy.specs.Check.{has_interface, alike}
use Rattle.hierarchy.specs.inner.Likeness.{place_alike, child_alike, transition_alike, places_alike, children_alike, transitions_alike}

-- an interface place
abbrev pub is_interface : Card → (i n : ℕ) → Bool
is_interface c i n = not (eqb (kind_of c i n) normal)

pub is_interface_is : (c : Card) (i n x : ℕ) → x ≡ kind_of c i n → (x ≡ 0 → ⊥) → is_interface c i n ≡ true
is_interface_is c i n x e d = rw (← e, ne_eqb x 0 d)

-- subnet 0 needs none
abbrev pub interfaced : Card → (i : ℕ) → Bool
interfaced c i = eqb i 0 || has_interface c i

pub later_interfaced : (c : Card) (i : ℕ) → 1 ≤ i → interfaced c i ≡ has_interface c i
later_interfaced c i l = rw (ne_eqb i 0 (λ e. omega (arith, e, l)))

-- a place
abbrev pub capacity_of : Card → (j n : ℕ) → ℕ
capacity_of c j n = (place_at c (first_place c j + n)).capacity

pub place_alike_is : (c : Card) (r s n x y v w : ℕ) → x ≡ kind_of c r n → y ≡ kind_of c s n → x ≡ y → v ≡ capacity_of c r n → w ≡ capacity_of c s n → v ≡ w → place_alike c r s n ≡ true
place_alike_is c r s n x y v w e f p g h q = rw (← e, ← f, ← g, ← h, eq-eqb x y p, eq-eqb v w q)

-- how many transitions a subnet lists
pub own_transitions : (c : Card) (s first end : ℕ) → first ≡ first_transition c s → end ≡ first_transition c (suc s) → end - first ≡ (subnet_at c s).transitions
unfolding first_transition sum_to
own_transitions c s first end e f = omega (arith, e, f)

-- two subnets
and_pairs : (a b c d e f : Bool) → (a && b && c && d && e && f) ≡ (a && b) && ((c && d) && (e && f))
and_pairs true true true true e f = refl
and_pairs true true true false e f = refl
and_pairs true true false d e f = refl
and_pairs true false c d e f = refl
and_pairs false b c d e f = refl

pub alike_parts : (c : Card) (r s : ℕ) → alike c r s ≡ places_alike c r s && (children_alike c r s && transitions_alike c r s)
unfolding alike
alike_parts c r s =
    and_pairs (eqb (subnet_at c r).places (subnet_at c s).places) (every (subnet_at c r).places (place_alike c r s))
    (eqb (length (children c r)) (length (children c s))) (every (length (children c r)) (child_alike c r s))
    (eqb (subnet_at c r).transitions (subnet_at c s).transitions) (every (subnet_at c r).transitions (transition_alike c r s))
