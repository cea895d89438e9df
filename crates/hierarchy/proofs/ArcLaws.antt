-- What pass two says of a card's arcs. Assumes nothing.
use Prim.Native.Nat.{ℕ, suc, ◌+◌, ◌-◌, ◌≤◌, ◌<◌}
use mathlib.Core.Path.{◌≡◌, refl, sym, ap}
use mathlib.Core.Bool.{Bool, true, false, not, ◌&&◌, ◌||◌}
use mathlib.Core.Option.{none, some-ne-none}
use native.Mathlib.Omega.{arith}
use lib.ListN.{length, get_or-eq_default}
use lib.Dec.{ltb, eqb}
use borrow.Author.Tests.{ltb-true, ltb-false, lt-ltb, le-leb}
use Rattle.std.proofs.lemmas.Bool.{false≢true}
use Rattle.card.proofs.ViewLaws.{first_transition_more}
use Rattle.card.specs.Card.{Arc, Subnet, Card, normal, subnet_at, transition_at, arc_at, first_transition, place_of, no_subnet}
use Rattle.card.specs.Index.{Lists}
use Rattle.card.specs.Writing.{arc_bit}
use Rattle.card.specs.Finite.{sum_to, first_of}
use Rattle.hierarchy.proofs.FirstLaws.{none_at, Walked, walk_start}
use Rattle.hierarchy.specs.Conditions.{IsPlace}
use Rattle.hierarchy.specs.inner.Arcs.{PlacesThere}
use Rattle.hierarchy.specs.Check.{seen, self_loop, loop_fits, arc_fault, transition_fault, subnet_fault}
use Rattle.hierarchy.specs.declared.CardFault.TheVariants.{Unseen}

-- a place that is there is one of a subnet that is there
pub place_subnet : (c : Card) (s n : ℕ) → IsPlace c s n → s < length c.subnets
place_subnet c s n p = go (ltb s (length c.subnets)) refl
  where
    go : (b : Bool) → ltb s (length c.subnets) ≡ b → s < length c.subnets
    go true e = ltb-true s (length c.subnets) e
    go false e =
        let q = ap (λ (r : Subnet). r.places) (get_or-eq_default c.subnets no_subnet {n = s} (ltb-false s (length c.subnets) e)) in
        absurd (omega (arith, p, q))

-- 10, as the code tests it
pub seen_is : (c : Card) (i : ℕ) (a : Arc)
    → seen c i a ≡ ltb a.place (subnet_at c a.subnet).places && (eqb a.subnet i || eqb (subnet_at c a.subnet).parent i && not (eqb (place_of c a).kind normal))
unfolding seen
seen_is c i a = go (ltb a.place (subnet_at c a.subnet).places) (eqb a.subnet i) refl refl
  where
    go : (x y : Bool) → ltb a.place (subnet_at c a.subnet).places ≡ x → eqb a.subnet i ≡ y
        → seen c i a ≡ ltb a.place (subnet_at c a.subnet).places && (eqb a.subnet i || eqb (subnet_at c a.subnet).parent i && not (eqb (place_of c a).kind normal))
    go false y e f = rw e
    go true true e f = rw (e, f)
    go true false e f = rw (e, f, lt-ltb a.subnet (length c.subnets) (place_subnet c a.subnet a.place (ltb-true a.place (subnet_at c a.subnet).places e)))

pub seen_place : (c : Card) (i : ℕ) (a : Arc) → seen c i a ≡ true → IsPlace c a.subnet a.place
unfolding seen
seen_place c i a e = go (ltb a.place (subnet_at c a.subnet).places) refl
  where
    go : (b : Bool) → ltb a.place (subnet_at c a.subnet).places ≡ b → IsPlace c a.subnet a.place
    go true p = ltb-true a.place (subnet_at c a.subnet).places p
    go false p = absurd (false≢true (rw p at e))

-- no subnet there, no place
pub no_subnet_there : (c : Card) (i : ℕ) (a : Arc) → length c.subnets ≤ a.subnet → false ≡ seen c i a
no_subnet_there c i a h = go (seen c i a) refl
  where
    go : (b : Bool) → seen c i a ≡ b → false ≡ b
    go true e = absurd (omega (arith, h, place_subnet c a.subnet a.place (seen_place c i a e)))
    go false e = refl

unfaulted_seen : (c : Card) (i t j : ℕ) → arc_fault c i t j ≡ none → seen c i (arc_at c t j) ≡ true
unfolding arc_fault
unfaulted_seen c i t j e = go (seen c i (arc_at c t j)) refl
  where
    go : (b : Bool) → seen c i (arc_at c t j) ≡ b → seen c i (arc_at c t j) ≡ true
    go true p = p
    go false p = absurd (some-ne-none (record { why = Unseen; bit = arc_bit c i t j }) (rw p at e))

-- where its arcs have no fault, the places that they name are there
pub places_there : (c : Card) (i t : ℕ) → first_of 0 (transition_at c t).arcs (arc_fault c i t) ≡ none → PlacesThere c t
places_there c i t e k l = seen_place c i (arc_at c t k) (unfaulted_seen c i t k (none_at 0 (transition_at c t).arcs (arc_fault c i t) e k (omega arith) (omega arith)))

-- the transitions of a subnet; a subnet past the last has none
pub lists : (c : Card) (i t : ℕ) → first_transition c i ≤ t → t < first_transition c (suc i) → Lists c i t
lists c i t f l = go (ltb i (length c.subnets)) refl
  where
    go : (b : Bool) → ltb i (length c.subnets) ≡ b → Lists c i t
    go true e = record { subnet = ltb-true i (length c.subnets) e; first = f; last = l }
    go false e = absurd (omega (arith, f, l, first_transition_more c i (ltb-false i (length c.subnets) e)))

pub subnet_start : (c : Card) (i first end : ℕ) → first ≡ first_transition c i → end ≡ first_transition c (suc i) → Walked (subnet_fault c i) (transition_fault c i) end first
unfolding subnet_fault first_transition sum_to
subnet_start c i first end e f =
    let q : (subnet_at c i).transitions ≡ end - first = omega arith in
    rw (← e) (walk_start (transition_fault c i) first (subnet_at c i).transitions end q)

-- 26: a loop whose weights the capacity holds together fits
pub loop_fits_in : (x : Bool) (k : ℕ) (a b : Arc) → b.weight + a.weight ≤ k → x ≡ (x && loop_fits k b a)
loop_fits_in x k a b l = sym (rw (le-leb (b.weight + a.weight) k l) (go x (self_loop b a)))
  where
    go : (y z : Bool) → (y && (not z || true)) ≡ y
    go true true = refl
    go true false = refl
    go false z = refl
