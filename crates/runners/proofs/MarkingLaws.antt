-- The columns by flat place that are made of a card are filled subnet by subnet. Assumes nothing.
use Rattle.std.proofs.Common.{◌≡◌, ℕ, suc, ◌+◌, ◌*◌, ◌<◌, ◌≤◌, ◌⊎◌, List, length, set, replicate, ap, ◌∙◌, subst, inl, inr, sym, arith, length-set, get_or-set_other, get_or-set_same}
use lib.ListN.{length-replicate}
use Rattle.std.proofs.lemmas.Bool.{cases_lt}
use Rattle.card.specs.Finite.{sum_to}
use Rattle.card.specs.Card.{Place, Card, subnet_at, place_at, first_place}
use Rattle.card.proofs.Prefix.{places_below}
use Rattle.card.proofs.Positions.{counted}
use Rattle.card.proofs.Turn.{zero_in}
use Rattle.hierarchy.specs.Conditions.{Meets}
use Rattle.flattening.specs.Flattening.{flatten}
use Rattle.flattening.proofs.FlatLaws.{place_flat}
use Rattle.runners.specs.State.{scale, entry}
use Rattle.runners.specs.inner.Markings.{SameFlat, FilledTo}
use Rattle.flattening.proofs.FlatPut.{next_place}

-- a column has room for all places
pub few_places : (c : Card) → Meets c → (s : ℕ) → s ≤ length c.subnets → first_place c s ≤ 255
few_places c m s l = omega (arith, places_below c (counted c m.wellformed) s l, m.wellformed.rows.few_places)

module _ (number : Place → ℕ) (same : SameFlat number) (c : Card) where
  pub filled_start : FilledTo number c (first_place c 0) (replicate 255 0)
  unfolding first_place sum_to
  filled_start = record { long = length-replicate {A = ℕ} 255 0; first = λ p l. absurd (omega arith); zeros = λ p l. zero_in 255 p }

  filled_more : (p v : ℕ) (column : List ℕ) → p < 255 → v ≡ scale (flatten c) * number (place_at c p) → FilledTo number c p column → FilledTo number c (p + 1) (set column p v)
  filled_more p v column few e h =
      record {
        long = length-set column p v ∙ h.long;
        first = λ q g. at q g (cases_lt q p);
        zeros = λ q g. get_or-set_other column p q v 0 (λ i. omega arith) ∙ h.zeros q (omega arith);
      }
    where
      at : (q : ℕ) → q < p + 1 → (q < p) ⊎ (p ≤ q) → entry (set column p v) q ≡ scale (flatten c) * number (place_at (flatten c) q)
      at q g (inl i) = get_or-set_other column p q v 0 (λ j. omega arith) ∙ h.first q i
      at q g (inr i) =
          let j : q ≡ p = omega arith in
          rw j (get_or-set_same column p v 0 (omega (arith, h.long)) ∙ e ∙ ap (λ (n : ℕ). scale (flatten c) * n) (sym (ap number (place_flat c p) ∙ same (place_at c p))))

  -- where the places of a subnet stand
  module _ (m : Meets c) where
    -- one place more of subnet s
    pub subnet_more : (s n v : ℕ) (column : List ℕ) → s < length c.subnets → n < (subnet_at c s).places → v ≡ scale (flatten c) * number (place_at c (first_place c s + n))
        → FilledTo number c (first_place c s + n) column → FilledTo number c (first_place c s + (n + 1)) (set column (first_place c s + n) v)
    subnet_more s n v column l b e x =
        let q : first_place c s + n + 1 ≡ first_place c s + (n + 1) = omega arith in
        subst (λ (k : ℕ). FilledTo number c k (set column (first_place c s + n) v)) q (filled_more (first_place c s + n) v column (omega (arith, few_places c m (suc s) l, next_place c s)) e x)

    pub subnet_end : (s n : ℕ) (column : List ℕ) → n ≡ (subnet_at c s).places → FilledTo number c (first_place c s + n) column → FilledTo number c (first_place c (suc s)) column
    subnet_end s n column e x = let q : first_place c s + n ≡ first_place c (suc s) = omega (arith, next_place c s) in subst (λ (k : ℕ). FilledTo number c k column) q x
