-- What the answers of the entry points stand for.
use Rattle.std.specs.Prelude.{◌≡◌, Result, Ok, Err, IfOk}
use Rattle.card.specs.declared.Counts.{Counts}
use Rattle.hierarchy.specs.Numbers.{CheckOutcome, accepted, refused, number, check_outcome}
use Rattle.runners.specs.Numbers.{RowOutcome, row_outcome}
use Rattle.hierarchy.specs.declared.CardRefusal.{CardRefusal}
use Rattle.runners.specs.declared.State.{State as Lent}
use Rattle.runners.specs.declared.RowAnswer.{RowAnswer}
use Rattle.runners.specs.declared.fresh.FreshState.{FreshState}

-- an answer of a row call: the reply, and the next state
pub record IsRow (x : RowOutcome × Lent) (r : RowAnswer) : Type 0 where
  pub reply : row_outcome r.reply ≡ x.0
  pub state : r.state ≡ x.1

-- what is made of an accepted card, or the check's refusal
abbrev pub IsAccepting : CheckOutcome → Type 0
IsAccepting (accepted s p t) = Unit {0}
IsAccepting (refused n at) = ⊥

abbrev pub IsAnswered : {A : Type 0} → CheckOutcome → Result A CardRefusal → Type 0
IsAnswered o (Ok a) = IsAccepting o
IsAnswered o (Err e) = o ≡ refused (number e.fault) e.bit

-- an answer of the call for a fresh state; of a refused card there is no state
pub record IsFresh (x : CheckOutcome × Lent) (r : Result Lent CardRefusal) : Type 0 where
  pub answer : IsAnswered x.0 r
  pub state : IfOk r (λ s. s ≡ x.1)

-- with the check's answer beside it
abbrev pub counts_in : Result FreshState CardRefusal → Result Counts CardRefusal
counts_in (Ok f) = Ok f.counts
counts_in (Err e) = Err e

abbrev pub state_in : Result FreshState CardRefusal → Result Lent CardRefusal
state_in (Ok f) = Ok f.state
state_in (Err e) = Err e

pub record IsFreshState (x : CheckOutcome × Lent) (r : Result FreshState CardRefusal) : Type 0 where
  pub answer : check_outcome (counts_in r) ≡ x.0
  pub fresh : IsFresh x (state_in r)
