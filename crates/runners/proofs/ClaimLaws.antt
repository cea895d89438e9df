-- The weights of a transition's arcs at a place, one arc after another. Assumes nothing.
use Rattle.std.proofs.Common.{◌≡◌, ℕ, ◌+◌, ◌*◌, Bool, true, false, cond, ◌&&◌, eqb, refl, add-one, arith}
use Rattle.card.specs.Finite.{sum_to}
use Rattle.card.specs.Card.{Card, transition_at, arc_at, flat_place}
use Rattle.card.specs.View.{direction_number, arc_in}
use Rattle.card.specs.declared.view.Arc.{Arc as HeldArc}
use Rattle.flattening.specs.Flattening.{flatten}
use Rattle.flattening.proofs.FlatLaws.{arc_flat}
use Rattle.runners.specs.State.{weight_at, incidence}
use Rattle.runners.specs.inner.Transitions.{share}

-- those of the first j arcs of transition t at place p
abbrev pub weights : Card → (way t j p : ℕ) → ℕ
weights c way t j p = sum_to j (λ k. weight_at way p (arc_at (flatten c) t k))

pub no_weights : (c : Card) (part t way q : ℕ) → 0 ≡ part * weights c way t 0 q
unfolding sum_to
no_weights c part t way q = omega arith

-- one more arc, which is at flat place p, with this part v of its weight
module _ (c : Card) (t j : ℕ) (a : HeldArc) (e : arc_in a ≡ arc_at c t j) (part p v : ℕ) (ep : p ≡ flat_place c (arc_in a)) (ev : v ≡ part * a.weight) where
  share_is : (way q : ℕ) → share way (direction_number a.direction) p v q ≡ part * weight_at way q (arc_at (flatten c) t j)
  share_is way q = rw (ep, ev, arc_flat c t j, ← e) (go (eqb (direction_number a.direction) way && eqb (flat_place c (arc_in a)) q))
    where
      go : (x : Bool) → cond x (part * a.weight) 0 ≡ part * cond x a.weight 0
      go true = refl
      go false = omega arith

  pub weights_more : (way q : ℕ) → part * weights c way t j q + share way (direction_number a.direction) p v q ≡ part * weights c way t (j + 1) q
  unfolding sum_to
  weights_more way q = rw add-one (omega (arith, share_is way q))

pub weights_all : (c : Card) (part t j : ℕ) → j ≡ (transition_at c t).arcs → (way q : ℕ) → part * weights c way t j q ≡ part * incidence (flatten c) way t q
unfolding incidence flatten
weights_all c part t j e way q = rw e refl
