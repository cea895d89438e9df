-- A card's bytes in a lent buffer: the answer, and every byte that the buffer then holds ('Why a call is turned back', 24 and its last
-- sentence).
use Rattle.std.specs.Prelude.{ℕ, ◌≡◌, Bool, true, false, List, length, leb, Result, Ok, Err}
use Rattle.card.specs.Card.{Card}
use Rattle.card.specs.Writing.{encode}
use Rattle.card.specs.Rows.{read_rows}
use Rattle.card.specs.Spelling.{put_into}
use Rattle.hierarchy.specs.Numbers.{WriteOutcome, write_outcome}
use Rattle.hierarchy.specs.Numbers
use Rattle.hierarchy.specs.Judgement.{Judgement, accepted, refused, judged}
use Rattle.hierarchy.specs.declared.WriteRefusal.{WriteRefusal}
use Rattle.hierarchy.specs.declared.WriteRefusal.TheVariants.{Short}
use Rattle.card.specs.declared.Head.{Head}

-- 24 output buffer too short, with the length needed
abbrev pub fitted : (fits : Bool) → (length : ℕ) → WriteOutcome
fitted true n = write_outcome (Ok n)
fitted false n = write_outcome (Err (Short n))

-- bytes for a lent buffer, once nothing but its length can refuse
abbrev pub written : (bytes buffer : List ℕ) → WriteOutcome × List ℕ
written bytes buffer = (fitted (leb (length bytes) (length buffer)) (length bytes), put_into bytes buffer)

-- Flattening and writing test 24 last. A refusal leaves buffers untouched, a short buffer too.
abbrev pub delivered : Judgement → (Card → List ℕ) → (buffer : List ℕ) → WriteOutcome × List ℕ
delivered (accepted c) bytes buffer = written (bytes c) buffer
delivered (refused n at) bytes buffer = (Numbers.WriteOutcome.refused n at, buffer)

-- the writer, with the tables in lent slices, row after row; a slice that ends inside a row is 17 too
unfoldable pub write_rows : Head → (subnets places transitions arcs buffer : List ℕ) → WriteOutcome × List ℕ
write_rows head subnets places transitions arcs buffer = delivered (judged (read_rows head subnets places transitions arcs)) encode buffer

-- an answer of the code, and what the buffer holds after the call
pub record IsWritten (x : WriteOutcome × List ℕ) (r : Result ℕ WriteRefusal) (buffer : List ℕ) : Type 0 where
  pub answer : write_outcome r ≡ x.0
  pub bytes : buffer ≡ x.1
