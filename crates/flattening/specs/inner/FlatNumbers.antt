-- The numbers of the flat card in one table, as far as they are stored: the contracts of the functions that store them.
use Rattle.std.specs.Prelude.{ℕ, ◌+◌, ◌*◌, ◌≤◌, ◌<◌, ◌≡◌, List, length, get_or, take, drop, ◌++◌}
use Rattle.card.specs.Card.{Card, first_arc, header_fields, subnet_fields, place_fields, transition_fields, arc_fields}
use Rattle.card.specs.Index.{starts_of}
use Rattle.card.specs.Tables.{numbers_of, numbers_table}
use Rattle.card.specs.View.{IsCounted}
use Rattle.card.specs.declared.index.CardIndex.{CardIndex}
use Rattle.hierarchy.specs.Conditions.{Meets}
use Rattle.flattening.specs.Flattening.{flatten}

-- number i of the flat card, and 0 behind its last
abbrev pub flat_number : Card → (i : ℕ) → ℕ
flat_number c i = get_or (numbers_of (flatten c)) i 0

-- where the numbers of flat place p begin: the header and the row of the one subnet come before the places
abbrev pub place_position : (p : ℕ) → ℕ
place_position p = header_fields + subnet_fields + place_fields * p

-- where those of transition t begin, and those of its arc j
abbrev pub transition_position : Card → (t : ℕ) → ℕ
transition_position c t = place_position (length c.places) + transition_fields * t + arc_fields * first_arc c t

abbrev pub arc_position : Card → (t j : ℕ) → ℕ
arc_position c t j = transition_position c t + transition_fields + arc_fields * j

-- a row's numbers stored from a position on
abbrev pub stored : (row : List ℕ) → (at : ℕ) → (out : List ℕ) → List ℕ
stored row at out = take at out ++ (row ++ drop (at + length row) out)

-- The first n numbers of the flat card are stored, and zeros stand behind them; the table has room for all of its numbers.
pub record Filled (c : Card) (n : ℕ) (out : List ℕ) : Type 0 where
  pub room : length (numbers_of (flatten c)) ≤ length out
  pub stored : (i : ℕ) → i < n → get_or out i 0 ≡ flat_number c i
  pub empty : (i : ℕ) → n ≤ i → get_or out i 0 ≡ 0

-- what is stored of the flat card reaches from one position to the next
pub record Fills (c : Card) (from to : ℕ) (before after : List ℕ) : Type 0 where
  pub filled : Meets c → Filled c from before → Filled c to after

-- the numbers of the flat card and its index, where there is room for it
pub record FlatTables (c : Card) (out : List ℕ) (i : CardIndex) : Type 0 where
  pub numbers : Meets c → length (numbers_of (flatten c)) ≤ length out → out ≡ numbers_table (length out) (flatten c)
  pub rows : Meets c → length (numbers_of (flatten c)) ≤ length out → i.starts ≡ starts_of (flatten c)
  pub counts : IsCounted (flatten c) i.counts
