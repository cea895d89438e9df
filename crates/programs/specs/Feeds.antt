-- A card that is run row by row from a file: the contracts of the functions that do it ('Bench card A').
use Rattle.std.specs.Prelude.{ℕ, List, [], ◌∷◌, map}
use Rattle.card.specs.Card.{Card}
use Rattle.hierarchy.specs.Judgement.{Judgement, accepted}
use Rattle.runners.specs.Numbers.{RowOutcome}
use Rattle.runners.specs.Rows.{RowRead, row, row_of}
use Rattle.runners.specs.Calls.{in_state, in_order, call_on}
use Rattle.runners.specs.Nets.{flat_judged}
use Rattle.runners.specs.Traces.{trace, observed}
use Rattle.runners.specs.declared.State.{State as Lent}
use Rattle.programs.specs.Programs.{lines}

-- a row call in the order that names subnet 0 alone, with what is read of the row
abbrev pub read_call : Judgement → Lent → (read : Card → RowRead) → RowOutcome × Lent
read_call j l read = call_on in_state j (λ c. record { ask = row (read c); ordered = in_order (0 ∷ []) c }) l

-- a row of a file
abbrev pub file_call : Judgement → Lent → (bytes : List ℕ) → RowOutcome × Lent
file_call j l bytes = read_call j l (λ c. row_of c bytes)

-- the lines of a file's rows on a card's flat card, each from the state that the row before left, the first of them of row n
abbrev pub fed_lines : Card → (n : ℕ) → Lent → (rows : List (List ℕ)) → List ℕ
fed_lines c n l rows = lines n (map observed (trace (file_call (flat_judged (accepted c))) l rows))
