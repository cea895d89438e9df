-- Columns by flat place that are made of a card: the full marking of each place, and the first one.
use Rattle.std.specs.Prelude.{◌≡◌, ℕ, ◌*◌, ◌<◌, ◌≤◌, List, length}
use Rattle.card.specs.Card.{Place, Card, place_at}
use Rattle.flattening.specs.Flattening.{flat_place_row, flatten}
use Rattle.runners.specs.State.{scale, entry}

-- a number of a place
abbrev pub capacity : Place → ℕ
capacity p = p.capacity

abbrev pub tokens : Place → ℕ
tokens p = p.tokens

-- the first k places have so many tokens, in thousandths, and zeros stand behind them
pub record FilledTo (number : Place → ℕ) (c : Card) (k : ℕ) (column : List ℕ) : Type 0 where
  pub long : length column ≡ 255
  pub first : (p : ℕ) → p < k → entry column p ≡ scale (flatten c) * number (place_at (flatten c) p)
  pub zeros : (p : ℕ) → k ≤ p → entry column p ≡ 0

-- all places of a card
abbrev pub Filled : (number : Place → ℕ) → Card → (column : List ℕ) → Type 0
Filled number c column = FilledTo number c (length c.places) column

-- flattening leaves the number as it is
abbrev pub SameFlat : (number : Place → ℕ) → Type 0
SameFlat number = (p : Place) → number (flat_place_row p) ≡ number p
