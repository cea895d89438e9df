-- A reply is known from its number, of which ok has none, and its value. Assumes nothing.
use Rattle.std.proofs.Common.{◌≡◌, ℕ, zero, suc, sym, refl, ap, ◌∙◌}
use Rattle.std.specs.Prelude as Std
use mathlib.Core.Option.{Option, none, some}
use Rattle.runners.specs.Numbers.{RowOutcome, ok, refused, refusal, row_outcome, number_of, value_of}
use Rattle.hierarchy.specs.declared.CardFault.TheVariants.{Format, Unseen, Direction, Weight, Repeated, DeadLoop, NoUnit, NoInterface, Unlike}
use Rattle.hierarchy.specs.declared.CardFault.{CardFault}
use Rattle.hierarchy.specs.Numbers.{number}
use Rattle.card.specs.declared.FormatFault.TheVariants.{Truncated, BadVersion, BadSize, BadParent, BadType, BadCount, BadPlace, BadTransition, BadFill, BadTable}
use Rattle.runners.specs.declared.Refusal.{Refusal}
use Rattle.runners.specs.declared.Refusal.TheVariants.{BadCard, BadState, BadOrder, BadRow, BadDegree, Conflict}

abbrev pub number_in : RowOutcome → Option ℕ
number_in ok = none
number_in (refused n v) = some (number_of (refused n v))

abbrev pub outcome_in : (number : Option ℕ) → (value : Std.Option ℕ) → RowOutcome
outcome_in none v = ok
outcome_in (some n) Std.None = refused n none
outcome_in (some n) (Std.Some v) = refused n (some v)

pub outcome_in_is : (x : RowOutcome) → outcome_in (number_in x) (value_of x) ≡ x
outcome_in_is ok = refl
outcome_in_is (refused n none) = refl
outcome_in_is (refused n (some v)) = refl

pub outcome_by_code : (x : RowOutcome) (n : Option ℕ) (v : Std.Option ℕ) → n ≡ number_in x → v ≡ value_of x → x ≡ outcome_in n v
outcome_by_code x n v en ev = rw (en, ev) (sym (outcome_in_is x))

-- The code hands out 0 for ok, which is no refusal's number.
abbrev pub told : (number : ℕ) → Option ℕ
told zero = none
told (suc n) = some (suc n)

card_told : (f : CardFault) → some (number f) ≡ told (number f)
card_told (Format Truncated) = refl
card_told (Format BadVersion) = refl
card_told (Format BadSize) = refl
card_told (Format BadParent) = refl
card_told (Format BadType) = refl
card_told (Format BadCount) = refl
card_told (Format BadPlace) = refl
card_told (Format BadTransition) = refl
card_told (Format BadFill) = refl
card_told (Format BadTable) = refl
card_told Unseen = refl
card_told Direction = refl
card_told Weight = refl
card_told Repeated = refl
card_told DeadLoop = refl
card_told NoUnit = refl
card_told NoInterface = refl
card_told Unlike = refl

refusal_told : (why : Refusal) → number_in (refusal why) ≡ told (number_of (refusal why))
refusal_told (BadCard r) = card_told r.fault
refusal_told BadState = refl
refusal_told BadOrder = refl
refusal_told BadRow = refl
refusal_told (BadDegree g) = refl
refusal_told (Conflict p) = refl

pub number_told : (r : Std.Result (Unit {0}) Refusal) → number_in (row_outcome r) ≡ told (number_of (row_outcome r))
number_told (Std.Ok u) = refl
number_told (Std.Err why) = refusal_told why

-- so each answer of the code is known from what it hands out
pub refusal_is : (why : Refusal) → refusal why ≡ outcome_in (told (number_of (refusal why))) (value_of (refusal why))
refusal_is why = outcome_by_code (refusal why) _ _ (sym (refusal_told why)) refl

pub row_outcome_is : (r : Std.Result (Unit {0}) Refusal) → outcome_in (told (number_of (row_outcome r))) (value_of (row_outcome r)) ≡ row_outcome r
row_outcome_is r = ap (λ (n : Option ℕ). outcome_in n (value_of (row_outcome r))) (sym (number_told r)) ∙ outcome_in_is (row_outcome r)

pub row_outcome_by_code : (r : Std.Result (Unit {0}) Refusal) (n : ℕ) (v : Std.Option ℕ) → n ≡ number_of (row_outcome r) → v ≡ value_of (row_outcome r) → row_outcome r ≡ outcome_in (told n) v
row_outcome_by_code r n v en ev = rw (en, ev) (sym (row_outcome_is r))
