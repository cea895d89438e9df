-- A card that was loaded with its flat card: two tables of each, the numbers in tables that a caller lends.
use Rattle.std.specs.Prelude.{ℕ, ◌≡◌, Bool, true, false, ◌&&◌, List, length, eqb, Result, Ok, Err, IfOk}
use Rattle.card.specs.Card.{Card}
use Rattle.card.specs.Index.{starts_of, starts_size}
use Rattle.card.specs.Parsing.{read_card}
use Rattle.card.specs.Tables.{numbers_table, zeros, has_room, IsTable}
use Rattle.card.specs.View.{card_in, IsCounted, Holds}
use Rattle.hierarchy.specs.Numbers.{check_outcome}
use Rattle.hierarchy.specs.Judgement.{Judgement, accepted, refused, judge, answer, starts_read}
use Rattle.flattening.specs.Flattening.{flatten}
use Rattle.card.specs.declared.Counts.{Counts}
use Rattle.hierarchy.specs.declared.CardRefusal.{CardRefusal}
use Rattle.flattening.specs.declared.FlatCard.{FlatCard}
use Rattle.flattening.specs.declared.CheckedFlatCard.{CheckedFlatCard}

-- the numbers of the flat card of an accepted card; of a refused one, zeros
abbrev pub flat_table : (size : ℕ) → Judgement → List ℕ
flat_table size (accepted c) = numbers_table size (flatten c)
flat_table size (refused n at) = zeros size

abbrev pub IsFlatTable : Judgement → (size : ℕ) → (numbers : List ℕ) → Type 0
IsFlatTable j size numbers = numbers ≡ flat_table size j

abbrev pub flat_counts : Result FlatCard CardRefusal → Result Counts CardRefusal
flat_counts (Ok r) = Ok r.card.counts
flat_counts (Err e) = Err e

-- the check's answer, and the indexes of an accepted card and of its flat card
pub record IsFlatCard (bytes : List ℕ) (r : Result FlatCard CardRefusal) : Type 0 where
  pub answer : check_outcome (flat_counts r) ≡ answer bytes
  pub starts : (c : Card) → judge bytes ≡ accepted c → IfOk r (λ k. k.card.starts ≡ starts_of c)
  pub flat : (c : Card) → judge bytes ≡ accepted c → IfOk r (λ k. k.flat.starts ≡ starts_of (flatten c))
  pub flat_counts : (c : Card) → judge bytes ≡ accepted c → IfOk r (λ k. IsCounted (flatten c) k.flat.counts)

-- The flat card has no more numbers than the card: a table for its numbers is as long as the one for the card's.
abbrev pub flat_room : (bytes size flat_size : ℕ) → Bool
flat_room bytes size flat_size = has_room bytes size && eqb size flat_size

-- both lent tables afterwards: filled where they have room, else as they were
abbrev pub IsLentFlat : (bytes : List ℕ) → (room : Bool) → (before after flat_before flat_after : List ℕ) → Type 0
IsLentFlat bytes true before after flat_before flat_after = IsTable (read_card bytes) (length before) after × IsFlatTable (judge bytes) (length flat_before) flat_after
IsLentFlat bytes false before after flat_before flat_after = (after ≡ before) × (flat_after ≡ flat_before)

-- The tables that were lent are views: of the card that was accepted, and of its flat card.
pub record IsFlattened (bytes numbers flat : List ℕ) (k : FlatCard) : Type 0 where
  pub judged : judge bytes ≡ accepted (card_in numbers)
  pub holds : Holds (card_in numbers) numbers k.card
  pub flattened : card_in flat ≡ flatten (card_in numbers)
  pub flat_holds : Holds (card_in flat) flat k.flat

-- where the rows begin of an accepted card's flat card; of a refused card, zeros
abbrev pub flat_starts : Judgement → List ℕ
flat_starts (accepted c) = starts_of (flatten c)
flat_starts (refused n at) = zeros starts_size

-- the answer, and where the rows of both cards begin, whatever the answer is
pub record IsCheckedFlatCard (bytes : List ℕ) (r : CheckedFlatCard) : Type 0 where
  pub answer : check_outcome r.answer ≡ answer bytes
  pub starts : r.starts ≡ starts_read (read_card bytes)
  pub flat : r.flat_starts ≡ flat_starts (judge bytes)
