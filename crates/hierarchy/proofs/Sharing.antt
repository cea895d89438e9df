-- Equation 6 of document 000: two subnets share just the interface places of a child. (Equation 12, that two macroplaces share none, is in
-- the naming: a place is named by the one subnet that owns it.) Assumes nothing.
use Prim.Native.Nat.{ℕ}
use mathlib.Core.Path.{◌≡◌, sym, ◌∙◌}
use mathlib.Core.Logic.{◌↔◌, ◌≢◌, ◌⊎◌, inl, inr}
use Rattle.card.specs.Card.{Card}
use Rattle.hierarchy.specs.Conditions.{Child, Interface, Sees}

-- an interface place of the macroplace of k, in Nᵢ
Shared : Card → (i k n : ℕ) → Type 0
Shared c i k n = Child c i k × Interface c k n

pub equation_6 : (c : Card) (i j k n : ℕ) → i ≢ j
    → (Sees c i k n × Sees c j k n) ↔ (((k ≡ i) × (Child c j k × Interface c k n)) ⊎ ((k ≡ j) × (Child c i k × Interface c k n)))
unfolding Shared
equation_6 c i j k n d = (λ h. forth h.0 h.1, back)
  where
    Meet : Type 0
    Meet = ((k ≡ i) × Shared c j k n) ⊎ ((k ≡ j) × Shared c i k n)

    forth : Sees c i k n → Sees c j k n → Meet
    forth (inl o) (inl p) = absurd (d (sym o.0 ∙ p.0))
    forth (inl o) (inr p) = inl (o.0, p)
    forth (inr o) (inl p) = inr (p.0, o)
    forth (inr o) (inr p) = absurd (d (sym o.0.2 ∙ p.0.2))

    back : Meet → Sees c i k n × Sees c j k n
    back (inl h) = (inl (h.0, h.1.1.0), inr h.1)
    back (inr h) = (inr h.1, inl (h.0, h.1.1.0))
