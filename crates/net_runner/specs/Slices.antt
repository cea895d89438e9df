-- A state that is lent as three slices of numbers, and the calls on it: those of the runners, with the same tests in the same order.
use Rattle.std.specs.Prelude.{ℕ, ◌≡◌, Bool, ◌&&◌, List, map, length, eqb}
use Rattle.std.proofs.Math.Option.{some}
use Rattle.card.specs.Finite.{some_unless}
use Rattle.card.specs.Card.{Card}
use Rattle.hierarchy.specs.Judgement.{Judgement, accepted, refused, judge}
use Rattle.flattening.specs.Flattening.{flatten}
use Rattle.runners.specs.Numbers.{RowOutcome}
use Rattle.runners.specs.State.{NetState, fresh}
use Rattle.runners.specs.Rows.{settle, degrees, row}
use Rattle.runners.specs.Calls.{Lending, flat_ask, subnet_ask}
use Rattle.runners.specs.Columns.{code_of, transfer_of}
use Rattle.runners.specs.declared.Refusal.TheVariants.{BadState}
use Rattle.net_runner.specs.Told.{row_told, IsTold}

-- markings by flat place, transfers by flat transition, and each signal's last degree
pub record Slices : Type 0 where
  pub markings : List ℕ
  pub transfers : List ℕ
  pub degrees : List ℕ

abbrev pub slices : (markings transfers degrees : List ℕ) → Slices
slices ms ts ds = record { markings = ms; transfers = ts; degrees = ds }

-- an idle transition is 65535, and a carrying one its progress, so that a progress of 0 is not idle
abbrev pub state_of : Slices → NetState
state_of x = record { markings = x.markings; transfers = map transfer_of x.transfers; degrees = x.degrees }

abbrev pub slices_of : NetState → Slices
slices_of s = record { markings = s.markings; transfers = map code_of s.transfers; degrees = s.degrees }

-- a slice for each list of a net's state, of its length
unfoldable pub sized : Card → Slices → Bool
sized f x = eqb (length x.markings) (length f.places) && eqb (length x.transfers) (length f.transitions) && eqb (length x.degrees) f.signals

abbrev pub in_slices : Lending Slices
in_slices = record { view = state_of; store = λ x. slices_of; fits = sized }

-- the fresh state of a card in slices: 25 where a slice has another length than the net asks for
abbrev pub fresh_in : Judgement → Slices → RowOutcome × Slices
fresh_in (refused n at) x = (RowOutcome.refused n (some at), x)
fresh_in (accepted c) x = settle (some_unless (sized (flatten c) x) BadState) x (slices_of (fresh (flatten c)))

unfoldable pub fresh_on : (card : List ℕ) → Slices → RowOutcome × Slices
fresh_on card = fresh_in (judge card)

-- the row calls of the two runners
unfoldable pub flat_on : (card : List ℕ) → Slices → (row : List ℕ) → RowOutcome × Slices
flat_on card x r = flat_ask in_slices card x (row (degrees r))

unfoldable pub subnet_on : (card order : List ℕ) → Slices → (row : List ℕ) → RowOutcome × Slices
subnet_on card order x r = subnet_ask in_slices card order x (row (degrees r))

-- an answer of the code, and every number that the lent slices then hold
pub record IsCalled (x : RowOutcome × Slices) (r v : ℕ) (ms ts ds : List ℕ) : Type 0 where
  pub told : IsTold (row_told x.0) r v
  pub markings : ms ≡ x.1.markings
  pub transfers : ts ≡ x.1.transfers
  pub degrees : ds ≡ x.1.degrees
