-- What the functions that the reader is made of promise.
use Rattle.std.specs.Prelude.{ℕ, ◌+◌, ◌≤◌, ◌≡◌, List, length, Option as Maybe, Some, None, Result, Ok, Err}
use Rattle.std.proofs.Math.Option.{Option, none, some}
use Rattle.card.specs.Bits.{bit, bit_field}
use Rattle.card.specs.Card.{Card}
use Rattle.card.specs.inner.Layout.{width_at}
use Rattle.card.specs.declared.Counts.{Counts}
use Rattle.card.specs.declared.FormatFault.TheVariants.{BadFill}
use Rattle.card.specs.declared.FormatRefusal.{FormatRefusal}
use Rattle.card.specs.declared.layout.Phase.TheVariants.{Direction, ArcSubnet, ArcPlace}
use Rattle.card.specs.declared.reader.ArcHead.{ArcHead}
use Rattle.card.specs.Parsing.{Parsing, whole}
use Rattle.card.specs.Numbers.{number}
use Rattle.card.specs.Tables.{numbers_of, numbers_table, ReadOutcome, outcome_of}
use Rattle.card.specs.Tables

-- an arc's fields before the weight, which hold any number, and where they lie from bit at on
abbrev pub arc_head_width : ℕ
arc_head_width = width_at Direction 0 + (width_at ArcSubnet 0 + width_at ArcPlace 0)

pub record IsArcHead (bytes : List ℕ) (at : ℕ) (r : ArcHead) : Type 0 where
  pub direction : r.direction ≡ bit_field (bit bytes) at (width_at Direction 0)
  pub subnet : r.subnet ≡ bit_field (bit bytes) (at + width_at Direction 0) (width_at ArcSubnet 0)
  pub place : r.place ≡ bit_field (bit bytes) (at + width_at Direction 0 + width_at ArcSubnet 0) (width_at ArcPlace 0)

-- the last field is read, and what is in excess is known
abbrev pub ended_as : (excess : Option ℕ) → Counts → Result Counts FormatRefusal
ended_as none k = Ok k
ended_as (some i) k = Err (record { fault = BadFill; bit = i })

-- what the walk over a card's fields says, and the table that it leaves of a card that is whole
abbrev pub filled_outcome : Result Counts FormatRefusal → ReadOutcome
filled_outcome (Ok k) = Tables.ReadOutcome.whole k.subnets k.places k.transitions
filled_outcome (Err e) = Tables.ReadOutcome.refused (number e.fault) e.bit

pub record IsFilled (x : Parsing Card) (r : Result Counts FormatRefusal) (numbers : List ℕ) : Type 0 where
  pub answer : filled_outcome r ≡ outcome_of x
  pub table : (c : Card) (end : ℕ) → x ≡ whole c end → numbers ≡ numbers_table (length numbers) c
  pub fits : (c : Card) (end : ℕ) → x ≡ whole c end → length (numbers_of c) ≤ length numbers

abbrev pub excess_of : Maybe ℕ → Option ℕ
excess_of None = none
excess_of (Some i) = some i
