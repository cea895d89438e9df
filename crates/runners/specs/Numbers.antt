-- The paper's number and values of each answer of this layer ('Why a call is turned back').
use Rattle.std.specs.Prelude.{ℕ, Result, Ok, Err}
use Rattle.std.specs.Prelude as Std
use Rattle.std.proofs.Math.Option.{Option, none, some}
use Rattle.hierarchy.specs.Numbers
use Rattle.runners.specs.declared.Transfer.{Transfer}
use Rattle.runners.specs.declared.Transfer.TheVariants.{Idle, Carrying}
use Rattle.runners.specs.declared.Refusal.{Refusal}
use Rattle.runners.specs.declared.Refusal.TheVariants.{BadCard, BadState, BadOrder, BadRow, BadDegree, Conflict}

-- A reply is ok, or a refusal's number with its signal or place (of a card: its bit) if it has one.
pub data RowOutcome : Type 0 where
  ok : RowOutcome
  refused : (number : ℕ) → (value : Option ℕ) → RowOutcome

-- 20, 23 and 25 give the number only
abbrev pub refusal : Refusal → RowOutcome
refusal (BadCard r) = refused (Numbers.number r.fault) (some r.bit)
refusal BadRow = refused 20 none
refusal (BadDegree g) = refused 21 (some g)
refusal (Conflict p) = refused 22 (some p)
refusal BadOrder = refused 23 none
refusal BadState = refused 25 none

abbrev pub row_outcome : Result (Unit {0}) Refusal → RowOutcome
row_outcome (Ok u) = ok
row_outcome (Err why) = refusal why

-- as the code hands it out: its number, 0 for ok, and its value if it has one
abbrev pub number_of : RowOutcome → ℕ
number_of ok = 0
number_of (refused n v) = n

abbrev pub value_of : RowOutcome → Std.Option ℕ
value_of ok = Std.None
value_of (refused n none) = Std.None
value_of (refused n (some v)) = Std.Some v

-- a carrying transition has a progress c, an idle one has none; a progress of 0 is not idle
abbrev pub progress : Transfer → Option ℕ
progress Idle = none
progress (Carrying c) = some c
