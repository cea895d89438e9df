-- Whether an arc allows its transition to start, as the code computes it. Assumes nothing.
use Rattle.std.proofs.Common.{◌≡◌, ℕ, ◌+◌, ◌*◌, ◌<◌, ◌≤◌, ◌⊎◌, leb, List, length, ap, inl, inr, arith}
use lib.ListN.{get_or-eq_default}
use Rattle.std.proofs.lemmas.Bool.{cases_lt}
use Rattle.card.specs.Card.{Transition, Place, Card, subnet_at, place_at, transition_at, arc_at, first_place, flat_place, no_transition}
use Rattle.card.specs.View.{arc_in}
use Rattle.card.specs.declared.view.Arc.{Arc as HeldArc}
use Rattle.card.specs.declared.view.Direction.TheVariants.{Draws, Fills}
use Rattle.hierarchy.specs.Conditions.{Meets}
use Rattle.flattening.specs.Flattening.{flatten}
use Rattle.flattening.proofs.FlatLaws.{place_flat, arc_flat, there}
use Rattle.runners.specs.State.{scale, entry}
use Rattle.runners.specs.Step.{allows}
use Rattle.runners.specs.Columns.{posted}
use Rattle.runners.specs.declared.claims.Claims.{Claims as Posted}
use Rattle.runners.proofs.OwnerLaws.{listed}

-- a transition that has an arc is one of the card's
listed_there : (c : Card) (t j : ℕ) → j < (transition_at c t).arcs → t < length c.transitions
listed_there c t j l = go (cases_lt t (length c.transitions))
  where
    go : (t < length c.transitions) ⊎ (length c.transitions ≤ t) → t < length c.transitions
    go (inl h) = h
    go (inr h) = absurd (omega (arith, l, ap (λ (x : Transition). x.arcs) (get_or-eq_default c.transitions no_transition h)))

-- the place of an arc is one of the subnet's that it names
pub place_there : (c : Card) → Meets c → (t j : ℕ) → j < (transition_at c t).arcs → (a : HeldArc) → arc_in a ≡ arc_at c t j → a.place < (subnet_at c a.subnet).places
place_there c m t j l a e =
    let o = listed c m t (listed_there c t j l) in
    let w = there c m o.0 _ _ o.1 ((m.conditions.transitions o.0 t o.1 o.2.first o.2.last).sees j l) in
    rw (← e) at w.1

module _ (c : Card) (t j : ℕ) (a : HeldArc) (e : arc_in a ≡ arc_at c t j) (ms : List ℕ) (k : Posted) (p m w u : ℕ) (ep : p ≡ flat_place c (arc_in a)) (em : m ≡ entry ms p) (ew : w ≡ a.weight) (eu : u ≡ scale (flatten c)) where
  pub allows_draws : (o : ℕ) → o ≡ entry k.owed p → a.direction ≡ Draws → leb (o + u * w) m ≡ allows (flatten c) (posted k) ms (arc_at (flatten c) t j)
  unfolding allows
  allows_draws o eo d = rw (eo, em, ew, eu, ep, arc_flat c t j, ← e, d)

  pub allows_fills : (o x : ℕ) (q : Place) → o ≡ entry k.due p → q ≡ place_at c (first_place c a.subnet + a.place) → x ≡ q.capacity → a.direction ≡ Fills
      → leb (m + o + u * w) (u * x) ≡ allows (flatten c) (posted k) ms (arc_at (flatten c) t j)
  unfolding allows
  allows_fills o x q eo eq ex d = rw (eo, em, ew, eu, ep, ex, eq, arc_flat c t j, ← e, d, place_flat c (flat_place c (arc_in a)))
