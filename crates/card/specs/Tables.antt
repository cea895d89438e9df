-- A card's numbers in one table, as the reader leaves them for the layers above.
use Rattle.std.specs.Prelude.{ℕ, ◌+◌, ◌*◌, ◌/◌, ◌≤◌, ◌≡◌, Bool, true, false, cond, List, map, length, replicate, get_or, leb, Result, Ok, Err, IfOk}
use Rattle.card.specs.Finite.{table}
use Rattle.card.specs.Numbers.{number}
use Rattle.card.specs.Card.{Card, header_fields, subnet_fields, place_fields, transition_fields, arc_fields}
use Rattle.card.specs.Grammar.{max_subnets, max_count, max_arcs, card}
use Rattle.card.specs.Parsing.{Parsing}
use Rattle.card.specs.Writing.{fields}
use Rattle.card.specs.Index.{starts_of}
use Rattle.card.specs.declared.FormatRefusal.{FormatRefusal}
use Rattle.card.specs.declared.index.CardIndex.{CardIndex}

-- the most fields of a card: those of its header, and of so many subnets, places, and transitions with their arcs
abbrev pub table_size : ℕ
table_size = header_fields + subnet_fields * max_subnets + place_fields * max_count + (transition_fields + arc_fields * max_arcs) * max_count

-- the most bits and bytes of a card, all of whose rows are there (`most_bits`, `bytes_few`)
abbrev pub card_bits : ℕ
card_bits = 182153

abbrev pub card_bytes : ℕ
card_bytes = 22770

-- the numbers of a card, field after field
unfoldable pub numbers_of : Card → List ℕ
numbers_of c = map (λ f. f.value) (fields card c)

-- what the reader says: the three counts, or a number and a bit
pub data ReadOutcome : Type 0 where
  whole : (subnets places transitions : ℕ) → ReadOutcome
  refused : (number bit : ℕ) → ReadOutcome

abbrev pub read_outcome : Result CardIndex FormatRefusal → ReadOutcome
read_outcome (Ok r) = whole r.counts.subnets r.counts.places r.counts.transitions
read_outcome (Err e) = refused (number e.fault) e.bit

abbrev pub outcome_of : Parsing Card → ReadOutcome
outcome_of (Parsing.whole c end) = whole (length c.subnets) (length c.places) (length c.transitions)
outcome_of (Parsing.refused n at) = refused n at

-- a table of so many numbers: those of a card, with zeros behind them
unfoldable pub numbers_table : (size : ℕ) → Card → List ℕ
numbers_table size c = table 0 size (λ i. get_or (numbers_of c) i 0)

abbrev pub zeros : (size : ℕ) → List ℕ
zeros size = table 0 size (λ i. 0)

-- the numbers of a card that was read; of a refused one, zeros
abbrev pub table_of : (size : ℕ) → Parsing Card → List ℕ
table_of size (Parsing.whole c end) = numbers_table size c
table_of size (Parsing.refused n at) = zeros size

-- the answer, and where the rows of a card that is whole begin
pub record IsRead (x : Parsing Card) (r : Result CardIndex FormatRefusal) : Type 0 where
  pub answer : read_outcome r ≡ outcome_of x
  pub starts : (c : Card) (end : ℕ) → x ≡ Parsing.whole c end → IfOk r (λ k. k.starts ≡ starts_of c)

-- A table has room for the numbers of any card of so many bytes: it is the largest card's, or has a number for each bit. (Where fields of no
-- bits stand on a card, fields with more bits than one stand before them.)
abbrev pub has_room : (bytes size : ℕ) → Bool
has_room bytes size = cond (leb table_size size) true (leb bytes (size / 8))

-- how many numbers a table for a card of so many bytes has: one for each bit of a small card, as a robot's is, and else those of the largest
abbrev pub small_card : ℕ
small_card = 256

abbrev pub room_for : (bytes : ℕ) → ℕ
room_for bytes = cond (leb bytes small_card) (8 * small_card) table_size

-- such a table, cleared: there is room in it for the numbers of any card of so many bytes
pub record IsRoomFor (bytes : ℕ) (numbers : List ℕ) : Type 0 where
  pub clear : numbers ≡ replicate (room_for bytes) 0
  pub room : has_room bytes (length numbers) ≡ true
  pub small : length numbers ≤ table_size

-- a table of so many numbers that was filled, and has room for all of them
pub record IsTable (x : Parsing Card) (size : ℕ) (numbers : List ℕ) : Type 0 where
  pub is : numbers ≡ table_of size x
  pub fits : (c : Card) (end : ℕ) → x ≡ Parsing.whole c end → length (numbers_of c) ≤ size

-- a lent table after a reading: filled where it has room, else as it was
abbrev pub IsLent : Parsing Card → (room : Bool) → (before after : List ℕ) → Type 0
IsLent x true before after = IsTable x (length before) after
IsLent x false before after = after ≡ before
