-- A row on the flat net: tests 20, 21 and 22, the reply and the next state; and a row of a file ('Why a call is turned back').
use Rattle.std.specs.Prelude.{ℕ, suc, ◌+◌, ◌-◌, ◌*◌, ◌/◌, Bool, cond, ◌&&◌, ◌||◌, List, [], ◌∷◌, length, ◌==◌, nat_eq, nat_lt}
use Rattle.std.proofs.Math.Option.{Option, none, some, map}
use Rattle.std.proofs.Math.Seq.{slice}
use Rattle.card.specs.Finite.{every, some_if, some_unless, lowest, table, ◌otherwise◌}
use Rattle.card.specs.Bits.{bit, bit_field, bytes_for}
use Rattle.card.specs.Card.{Card}
use Rattle.runners.specs.Numbers.{RowOutcome, ok, refusal}
use Rattle.runners.specs.State.{NetState, scale, entry}
use Rattle.runners.specs.Step.{conflict, next}
use Rattle.runners.specs.declared.Refusal.{Refusal}
use Rattle.runners.specs.declared.Refusal.TheVariants.{BadRow, BadDegree, Conflict}

-- A refusal leaves the state untouched.
abbrev pub settle : {S : Type 0} → Option Refusal → (before after : S) → RowOutcome × S
settle none before after = (ok, after)
settle (some why) before after = (refusal why, before)

-- CR 1: a row of no degrees (the requests call it an empty row) means that every signal stands at its last degree. The effective row, which the
-- step takes: of an empty row the last degrees, of any other the row.
abbrev pub effective : (last row : List ℕ) → List ℕ
effective last [] = last
effective last (d ∷ ds) = d ∷ ds

-- 20 row not of G degrees (CR 1: refusal 20 no longer covers the empty list); 21 degree above 1000, with the lowest such signal. Both are tests
-- of the row as it is lent.
unfoldable pub row_fault : Card → (row : List ℕ) → Option Refusal
row_fault f row =
    some_unless (length row == 0 || length row == f.signals) BadRow
    otherwise map BadDegree (lowest 0 f.signals (λ g. nat_lt (scale f) (entry row g)))

-- The step runs as usual, on the effective row: 22 conflict, with its place, or the next state.
abbrev pub row_conflict : Card → NetState → (row : List ℕ) → Option ℕ
row_conflict f s row = conflict f s (effective s.degrees row)

abbrev pub row_next : Card → NetState → (row : List ℕ) → NetState
row_next f s row = next f s (effective s.degrees row)

unfoldable pub row_refusal : Card → NetState → (row : List ℕ) → Option Refusal
row_refusal f s row = row_fault f row otherwise map Conflict (row_conflict f s row)

-- What is read of a row: its degrees (none, of an empty row), or that there is no row. (20, in a file: bytes missing or a nonzero fill bit.)
pub data RowRead : Type 0 where
  degrees : (row : List ℕ) → RowRead
  no_row : RowRead

-- What a call asks of a net. A kind of call is a case here and a clause of `act_of`.
pub data Ask : Type 0 where
  row : RowRead → Ask

-- What it does to the net's state: why it is refused, and else the next state.
pub record Act : Type 0 where
  pub refusal : NetState → Option Refusal
  pub next : NetState → NetState

-- of a row, tests 20, 21 and 22, and the step
abbrev pub row_act : Card → RowRead → Act
row_act f (degrees r) = record { refusal = λ s. row_refusal f s r; next = λ s. row_next f s r }
row_act f no_row = record { refusal = λ s. some BadRow; next = λ s. s }

abbrev pub act_of : Card → Ask → Act
act_of f (row r) = row_act f r

-- On the net's own state: tests 20 and 21, and then the step.
abbrev pub perform : Act → NetState → RowOutcome × NetState
perform a s = settle (a.refusal s) s (a.next s)

abbrev pub step : Card → NetState → Ask → RowOutcome × NetState
step f s ask = perform (act_of f ask) s

-- So many bits, and zeros to the byte.
unfoldable pub filled : (width : ℕ) → (bytes : List ℕ) → Bool
filled width bytes = length bytes == bytes_for width && every (8 * bytes_for width - width) (λ i. nat_eq (bit bytes (width + i)) 0)

-- What bytes hold for each signal: so many bits in front, then so many a signal, and zeros to the byte.
unfoldable pub cells : (lead cell signals : ℕ) → (bytes : List ℕ) → Option (List ℕ)
cells lead cell signals bytes = some_if (filled (lead + cell * signals) bytes) (table 0 signals (λ g. bit_field (bit bytes) (lead + cell * g) cell))

-- Rows from standard input: 10 bits a degree, zeros to the byte.
abbrev pub degree_width : Card → ℕ
degree_width f = 10

abbrev pub row_width : Card → ℕ
row_width f = degree_width f * f.signals

abbrev pub or_no_row : Option (List ℕ) → RowRead
or_no_row none = no_row
or_no_row (some r) = degrees r

-- CR 1: in a row file an empty row is written with every degree 1023, the empty mark. (A row of a file in which some are 1023 and some are not
-- is 21, and so is a call given 1023.)
abbrev pub empty_mark : Card → ℕ
empty_mark f = 1023

unfoldable pub unmarked : Card → (cells : List ℕ) → List ℕ
unmarked f ds = cond (every f.signals (λ g. nat_eq (entry ds g) (empty_mark f))) [] ds

abbrev pub row_of : Card → (bytes : List ℕ) → RowRead
row_of f bytes = or_no_row (map (unmarked f) (cells 0 (degree_width f) f.signals bytes))

-- a file in pieces of n bytes; the last may be shorter
unfoldable pub pieces : (n : ℕ) → (file : List ℕ) → List (List ℕ)
pieces n file = table 0 ((length file + n - 1) / n) (λ k. slice (n * k) (n * suc k) file)
