-- Each transition of a card is one subnet's. Assumes nothing.
use Rattle.std.proofs.Common.{◌≡◌, ℕ, suc, ◌+◌, ◌<◌, ◌≤◌, ◌⊎◌, length, refl, inl, inr, arith}
use Rattle.std.proofs.lemmas.Bool.{cases_lt}
use Rattle.card.specs.Finite.{sum_to}
use Rattle.card.specs.Card.{Card, subnet_at, first_transition}
use Rattle.card.specs.Index.{Lists}
use Rattle.card.proofs.Decides.{Some}
use Rattle.card.proofs.Sums.{sum_owner}
use Rattle.hierarchy.specs.Conditions.{Meets}
use Rattle.runners.specs.Visits.{OwnsTransition}
use Rattle.card.proofs.Prefix.{transitions_below}
use Rattle.card.proofs.Positions.{counted, transition_order}

module _ (c : Card) where
  -- where a subnet's transitions end
  pub next_first : (s : ℕ) → first_transition c (suc s) ≡ first_transition c s + (subnet_at c s).transitions
  unfolding first_transition sum_to
  next_first s = refl

  -- an own transition, by its number in the subnet
  pub own : (s k : ℕ) → k < (subnet_at c s).transitions → OwnsTransition c s (first_transition c s + k)
  own s k l = record { low = omega arith; high = omega (arith, next_first s) }

  pub owner_unique : (r s t : ℕ) → OwnsTransition c r t → OwnsTransition c s t → r ≡ s
  owner_unique r s t a b = go (cases_lt r s) (cases_lt s r)
    where
      go : (r < s) ⊎ (s ≤ r) → (s < r) ⊎ (r ≤ s) → r ≡ s
      go (inl l) m = absurd (omega (arith, a.high, b.low, transition_order c (suc r) s l))
      go (inr l) (inl m) = absurd (omega (arith, b.high, a.low, transition_order c (suc s) r m))
      go (inr l) (inr m) = omega arith

  -- each transition of the card has an owner, and a number past the last has none
  module _ (m : Meets c) where
    pub owner : (t : ℕ) → t < length c.transitions → Some (length c.subnets) (λ s. OwnsTransition c s t)
    unfolding first_transition
    owner t l =
        let o = sum_owner (length c.subnets) (λ s. (subnet_at c s).transitions) t (omega (arith, m.wellformed.rows.transition_count)) in
        (o.range, o.below, record { low = o.low; high = o.high })

    pub owned_below : (s t : ℕ) → s < length c.subnets → OwnsTransition c s t → t < length c.transitions
    owned_below s t l o = omega (arith, o.high, transitions_below c (counted c m.wellformed) (suc s) l)

    pub listed : (t : ℕ) → t < length c.transitions → Some (length c.subnets) (λ s. Lists c s t)
    listed t l = let o = owner t l in (o.0, o.1, record { subnet = o.1; first = o.2.low; last = o.2.high })
