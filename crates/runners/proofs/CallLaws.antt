-- The runners' row calls, on what their cards were judged to be. Assumes nothing.
use Rattle.std.proofs.Common.{◌≡◌, ℕ, true, List, [], ◌∷◌, length, sym, refl, arith}
use Rattle.std.specs.Prelude.{Err}
use Rattle.card.specs.Finite.{every, any}
use Rattle.card.specs.Card.{Card}
use Rattle.hierarchy.specs.Numbers.{number, check_outcome}
use Rattle.hierarchy.specs.Judgement.{Judgement, accepted, refused, judge, answer, outcome_of}
use Rattle.hierarchy.specs.declared.CardRefusal.{CardRefusal}
use Rattle.flattening.specs.Flattening.{flatten}
use Rattle.flattening.proofs.FlatLaws.{flatten_again}
use Rattle.runners.specs.Numbers.{refusal}
use Rattle.runners.specs.Calls.{each_once, called, in_order, flat_call, subnet_call}
use Rattle.runners.specs.declared.State.{State as Lent}
use Rattle.runners.specs.declared.Refusal.TheVariants.{BadCard}

-- the check's refusal of a card
pub outcome_refused : (j : Judgement) (e : CardRefusal) → check_outcome (Err e) ≡ outcome_of j → j ≡ refused (number e.fault) e.bit
outcome_refused (refused n at) e q = sym (cc)
outcome_refused (accepted c) e q = absurd (let z : ◌≡◌ {A = ℕ} 0 1 = cc in omega arith)

pub judged_refused : (bytes : List ℕ) (e : CardRefusal) → check_outcome (Err e) ≡ answer bytes → judge bytes ≡ refused (number e.fault) e.bit
judged_refused bytes e h = outcome_refused (judge bytes) e h

-- the flat card has one subnet, and the order that names it
pub one_visited : (c : Card) → each_once (length (flatten c).subnets) (0 ∷ []) ≡ true
unfolding flatten each_once every any
one_visited c = refl

pub flat_called : (c : Card) (l : Lent) (row : List ℕ) → called (λ d. each_once (length d.subnets) (0 ∷ [])) (accepted (flatten c)) l row ≡ called (λ d. true) (accepted c) l row
flat_called c l row = rw (flatten_again c, one_visited c)

module _ (bytes row : List ℕ) (l : Lent) where
  pub subnet_refused : (order : List ℕ) (e : CardRefusal) → check_outcome (Err e) ≡ answer bytes → (refusal (BadCard e), l) ≡ subnet_call bytes order l row
  unfolding subnet_call
  subnet_refused order e h = rw (judged_refused bytes e h) refl

  pub subnet_called : (order : List ℕ) (c : Card) → judge bytes ≡ accepted c → called (in_order order) (accepted c) l row ≡ subnet_call bytes order l row
  unfolding subnet_call
  subnet_called order c e = rw e refl

  pub flat_refused : (e : CardRefusal) → check_outcome (Err e) ≡ answer bytes → (refusal (BadCard e), l) ≡ flat_call bytes l row
  unfolding flat_call
  flat_refused e h = rw (judged_refused bytes e h) refl

  pub flat_row_called : (c : Card) → judge bytes ≡ accepted c → called (in_order (0 ∷ [])) (accepted (flatten c)) l row ≡ flat_call bytes l row
  unfolding flat_call
  flat_row_called c e = rw e (flat_called c l row)
