-- The parts of a row call: what the tests in front of the step and the step itself answer, and the card that they work on.
use Rattle.std.specs.Prelude.{List, ◌++◌, ℕ, length, drop, Result, Ok, Err}
use Rattle.std.proofs.Math.Option.{Option, none, some}
use Rattle.card.specs.Card.{Card}
use Rattle.card.specs.View.{Holds}
use Rattle.hierarchy.specs.Conditions.{Meets}
use Rattle.runners.specs.Numbers.{RowOutcome, ok, refusal}
use Rattle.runners.specs.inner.Markings.{capacity, Filled}
use Rattle.card.specs.declared.index.CardIndex.{CardIndex}
use Rattle.runners.specs.declared.State.{State as Lent}
use Rattle.runners.specs.declared.Refusal.{Refusal}

-- a lent state with these degrees
abbrev pub with_degrees : Lent → (row : List ℕ) → Lent
with_degrees l row = record l { degrees = row ++ drop (length row) l.degrees }

-- a card that meets the conditions, and the full markings beside it
pub record HoldsNet (c : Card) (full : List ℕ) : Type 0 where
  pub meets : Meets c
  pub filled : Filled capacity c full

-- the same, with the card's numbers and their index
pub record IsLoaded (c : Card) (numbers : List ℕ) (i : CardIndex) (full : List ℕ) : Type 0 where
  pub holds : Holds c numbers i
  pub net : HoldsNet c full

-- what a test refuses
abbrev pub refusal_in : Result (Unit {0}) Refusal → Option Refusal
refusal_in (Ok u) = none
refusal_in (Err why) = some why

-- what a call answers on a lent state that comes to a next one, or to a refusal
abbrev pub answer_of : Lent → Result Lent Refusal → RowOutcome × Lent
answer_of l (Ok next) = (ok, next)
answer_of l (Err why) = (refusal why, l)
