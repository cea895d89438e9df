-- The slices of a state taken into the runners' own state, and numbers taken back: the contracts of the functions that do it.
use Rattle.std.specs.Prelude.{ℕ, ◌≤◌, ◌≡◌, Bool, ◌&&◌, List, map, length, take, ◌==◌, Result, Ok, Err}
use Rattle.std.proofs.Math.Option.{some}
use Rattle.card.specs.Card.{Card}
use Rattle.hierarchy.specs.Numbers.{number}
use Rattle.hierarchy.specs.Judgement.{Judgement, accepted, refused, judge}
use Rattle.hierarchy.specs.declared.CardRefusal.{CardRefusal}
use Rattle.runners.specs.Numbers.{RowOutcome, refusal}
use Rattle.runners.specs.Calls.{view}
use Rattle.runners.specs.declared.State.{State as Own}
use Rattle.runners.specs.declared.Refusal.{Refusal}
use Rattle.runners.specs.declared.Refusal.TheVariants.{BadState}
use Rattle.runners.specs.Columns.{code_of}
use Rattle.net_runner.specs.declared.told.Told.{Told}
use Rattle.net_runner.specs.declared.lending.Lent.{Lent}
use Rattle.net_runner.specs.Told.{row_told, answer_told, counts_of}
use Rattle.net_runner.specs.Slices.{Slices, slices, state_of}

-- the numbers of lent slices
abbrev pub held : Lent → Slices
held l = slices l.markings.now l.transfers.now l.degrees.now

-- the same slices, whatever numbers they hold
pub record SameSlices (before after : Lent) : Type 0 where
  pub markings : after.markings.ghost_name ≡ before.markings.ghost_name
  pub transfers : after.transfers.ghost_name ≡ before.transfers.ghost_name
  pub degrees : after.degrees.ghost_name ≡ before.degrees.ghost_name

-- no more entries than a state has
pub record Fits (x : Slices) : Type 0 where
  pub markings : length x.markings ≤ 255
  pub transfers : length x.transfers ≤ 255
  pub degrees : length x.degrees ≤ 63

-- as many entries as a state uses
abbrev pub sized_as : Own → Slices → Bool
sized_as l x = (length x.markings == l.places) && (length x.transfers == l.transitions) && (length x.degrees == l.signals)

-- a state with the numbers of the slices, and their lengths as counts
pub record Lends (x : Slices) (l : Own) : Type 0 where
  pub state : view l ≡ state_of x
  pub places : l.places ≡ length x.markings
  pub transitions : l.transitions ≡ length x.transfers
  pub signals : l.signals ≡ length x.degrees

-- what a caller is told of slices that are longer than those of any card: the card's own refusal, or 25
abbrev pub too_long : Judgement → RowOutcome
too_long (refused n at) = RowOutcome.refused n (some at)
too_long (accepted c) = refusal BadState

-- the state that slices make, if they fit
abbrev pub IsLent : (card : List ℕ) → Slices → Result Own Refusal → Type 0
IsLent card x (Ok l) = Fits x × Lends x l
IsLent card x (Err why) = (Fits x → ⊥) × (refusal why ≡ too_long (judge card))

-- the first entries of a state, as many as the slices have
abbrev pub taken_back : Own → Slices → Slices
taken_back l x =
    record {
      markings = take (length x.markings) l.markings;
      transfers = map code_of (take (length x.transfers) l.transfers);
      degrees = take (length x.degrees) l.degrees;
    }

-- what the slices hold after a call that was answered so and left this state: as they were where it was refused
abbrev pub handed_back : RowOutcome × Own → Slices → RowOutcome × Slices
handed_back (RowOutcome.ok, l) x = (RowOutcome.ok, taken_back l x)
handed_back (RowOutcome.refused n v, l) x = (RowOutcome.refused n v, x)

-- an answer of the code, and the numbers that the slices then hold
pub record IsHanded (x : RowOutcome × Slices) (r : Result ℕ Told) (before after : Lent) : Type 0 where
  pub told : answer_told r ≡ row_told x.0
  pub slices : held after ≡ x.1
  pub same : SameSlices before after

-- the four numbers of an accepted card, or its refusal
abbrev pub IsCounted : Judgement → Result (List ℕ) CardRefusal → Type 0
IsCounted j (Ok counts) = (c : Card) × (j ≡ accepted c) × (counts ≡ counts_of c)
IsCounted j (Err e) = j ≡ refused (number e.fault) e.bit
