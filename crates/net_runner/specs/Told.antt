-- What a caller in another language is told: 0, or a refusal's number ('Why a card is turned back', 'Why a call is turned back'), and a value:
-- of a refusal its bit, signal, place or length, 0 where it has none; of what was written its length.
use Rattle.std.specs.Prelude.{ℕ, ◌≡◌, List, [], ◌∷◌, length, get_or, Result, Ok, Err}
use Rattle.std.proofs.Math.Option.{Option, none, some}
use Rattle.hierarchy.specs.Numbers.{CheckOutcome, WriteOutcome}
use Rattle.hierarchy.specs.Judgement.{Judgement, accepted, refused}
use Rattle.runners.specs.Numbers.{RowOutcome}
use Rattle.net_runner.specs.declared.told.Told.{Told}
use Rattle.card.specs.Card.{Card}
use Rattle.card.specs.declared.Head.{Head}

abbrev pub or_none : Option ℕ → ℕ
or_none none = 0
or_none (some v) = v

abbrev pub check_told : CheckOutcome → Told
check_told (CheckOutcome.accepted s p t) = record { number = 0; value = 0 }
check_told (CheckOutcome.refused n at) = record { number = n; value = at }

abbrev pub write_told : WriteOutcome → Told
write_told (WriteOutcome.wrote n) = record { number = 0; value = n }
write_told (WriteOutcome.refused n v) = record { number = n; value = v }

abbrev pub row_told : RowOutcome → Told
row_told RowOutcome.ok = record { number = 0; value = 0 }
row_told (RowOutcome.refused n v) = record { number = n; value = or_none v }

-- the same of an answer of the code, whose refusal is held as what is told of it
abbrev pub answer_told : Result ℕ Told → Told
answer_told (Ok v) = record { number = 0; value = v }
answer_told (Err t) = t

-- an answer of the code, and what the lent number then holds
pub record IsTold (x : Told) (r v : ℕ) : Type 0 where
  pub number : r ≡ x.number
  pub value : v ≡ x.value

-- a card's numbers of subnets, places, transitions and signals
abbrev pub counts_of : Card → List ℕ
counts_of c = length c.subnets ∷ length c.places ∷ length c.transitions ∷ c.signals ∷ []

-- those of an accepted card in a lent array; of a refused card the array is as it was
abbrev pub counts_told : Judgement → (counts : List ℕ) → List ℕ
counts_told (accepted c) counts = counts_of c
counts_told (refused n at) counts = counts

-- a lent header: version, signals, limit, scale
abbrev pub head_in : (header : List ℕ) → Head
head_in h = record { version = get_or h 0 0; signals = get_or h 1 0; limit = get_or h 2 0; scale = get_or h 3 0 }

-- and of what was written: every byte that the buffer then holds
pub record IsPut (x : WriteOutcome × List ℕ) (r v : ℕ) (buffer : List ℕ) : Type 0 where
  pub told : IsTold (write_told x.0) r v
  pub bytes : buffer ≡ x.1
