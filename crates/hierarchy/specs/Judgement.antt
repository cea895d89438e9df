-- What becomes of a card's bytes, and of the tables of a card to be written: pass one, then pass two ('Why a card is turned back').
use Rattle.std.specs.Prelude.{ℕ, ◌≡◌, List, length, Result, Ok, Err, IfOk}
use Rattle.std.proofs.Math.Option.{Option, none, some}
use Rattle.card.specs.Card.{Card}
use Rattle.card.specs.Index.{starts_of, starts_size}
use Rattle.card.specs.Parsing.{Parsing, read_card}
use Rattle.card.specs.Tables.{zeros}
use Rattle.card.specs.Writing.{read_tables}
use Rattle.hierarchy.specs.Numbers.{number, CheckOutcome, check_outcome}
use Rattle.hierarchy.specs.Numbers
use Rattle.hierarchy.specs.Check.{Found, check}
use Rattle.card.specs.View.{card_in, Holds}
use Rattle.card.specs.declared.Counts.{Counts}
use Rattle.hierarchy.specs.declared.CardRefusal.{CardRefusal}
use Rattle.hierarchy.specs.declared.check.CheckedCard.{CheckedCard}
use Rattle.card.specs.declared.index.CardIndex.{CardIndex}

-- accepted: the card; refused: the paper's number and the bit
pub data Judgement : Type 0 where
  accepted : Card → Judgement
  refused : (number bit : ℕ) → Judgement

abbrev pub checked : Option Found → Card → Judgement
checked none c = accepted c
checked (some f) c = refused (number f.why) f.bit

abbrev pub judged : Parsing Card → Judgement
judged (Parsing.refused n at) = refused n at
judged (Parsing.whole c end) = checked (check c) c

unfoldable pub judge : (bytes : List ℕ) → Judgement
judge bytes = judged (read_card bytes)

-- 17 first; then 2 to 16 and 26, as for the card that the tables would make
unfoldable pub judge_tables : (tables : Card) → Judgement
judge_tables c = judged (read_tables c)

-- Acceptance gives the counts of subnets, places and transitions.
abbrev pub outcome_of : Judgement → CheckOutcome
outcome_of (accepted c) = Numbers.CheckOutcome.accepted (length c.subnets) (length c.places) (length c.transitions)
outcome_of (refused n at) = Numbers.CheckOutcome.refused n at

-- the check's answer
abbrev pub answer : (bytes : List ℕ) → CheckOutcome
answer bytes = outcome_of (judge bytes)

abbrev pub counts_of : Result CardIndex CardRefusal → Result Counts CardRefusal
counts_of (Ok r) = Ok r.counts
counts_of (Err e) = Err e

-- what a caller gets beside the table of numbers that it lends: the answer, and where the rows of an accepted card begin
pub record IsChecked (bytes : List ℕ) (r : Result CardIndex CardRefusal) : Type 0 where
  pub answer : check_outcome (counts_of r) ≡ answer bytes
  pub starts : (c : Card) → judge bytes ≡ accepted c → IfOk r (λ k. k.starts ≡ starts_of c)

-- beside the table of numbers that a caller lends: the two are a view of the card that was accepted
pub record IsAccepted (bytes numbers : List ℕ) (i : CardIndex) : Type 0 where
  pub judged : judge bytes ≡ accepted (card_in numbers)
  pub holds : Holds (card_in numbers) numbers i

-- where the rows begin of the card that pass one read, be it one that pass two turns back; of bytes that it refuses, zeros
abbrev pub starts_read : Parsing Card → List ℕ
starts_read (Parsing.whole c end) = starts_of c
starts_read (Parsing.refused n at) = zeros starts_size

-- the answer, and these starts, whatever the answer is
pub record IsCheckedCard (bytes : List ℕ) (r : CheckedCard) : Type 0 where
  pub answer : check_outcome r.answer ≡ answer bytes
  pub starts : r.starts ≡ starts_read (read_card bytes)
