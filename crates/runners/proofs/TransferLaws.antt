-- A transfer and its number, and a transfer that advances by a sum of 16 bits. Assumes nothing.
use Rattle.std.proofs.Common.{◌≡◌, ℕ, ◌+◌, ◌-◌, ◌%◌, ◌<◌, ◌≤◌, sym, refl, ap, ◌∙◌, arith, eq-eqb, ne_eqb}
use Rattle.card.specs.Card.{Card}
use Rattle.runners.specs.State.{scale, remaining}
use Rattle.runners.specs.Step.{advanced}
use Rattle.runners.specs.Columns.{idle_code, code_of, transfer_of}
use Rattle.runners.specs.declared.Transfer.{Transfer}
use Rattle.runners.specs.declared.Transfer.TheVariants.{Idle, Carrying}
use Rattle.runners.proofs.ScaleLaws.{scale_few}

-- `coded`: each transfer is known from its number, but for the one progress whose number is that of idle
pub coded : (x : Transfer) → (x ≡ Carrying idle_code → ⊥) → transfer_of (code_of x) ≡ x
coded Idle d = refl
coded (Carrying c) d = rw (ne_eqb c idle_code (λ e. d (ap Carrying e))) refl

module _ (f : Card) (x : Transfer) (c d n u : ℕ) (e : x ≡ Carrying c) (l : c < 65536) (s : n ≡ (c + d) % 65536) (eu : u ≡ scale f) (h : d ≤ remaining f x) where
  grown : n ≡ c + d
  grown = let r : remaining f x ≡ scale f - c = rw e refl in omega (arith, l, s, h, r, scale_few f)

  pub advanced_all : n ≡ u → Idle ≡ advanced f x d
  advanced_all q = rw (e, eq-eqb (c + d) (scale f) (sym grown ∙ q ∙ eu)) refl

  pub advanced_part : (n ≡ u → ⊥) → Carrying n ≡ advanced f x d
  advanced_part q = rw (e, grown, ne_eqb (c + d) (scale f) (λ z. q (grown ∙ z ∙ sym eu))) refl
