-- The walk that finds where the rows of a card begin: the contracts of its functions.
use Rattle.std.specs.Prelude.{ℕ, suc, ◌+◌, ◌≤◌, ◌<◌, ◌≡◌, List, length, get_or, set}
use Rattle.card.specs.Card.{Card, subnet_at, first_transition}
use Rattle.card.specs.Writing.{subnet_bit, transition_bit}
use Rattle.card.specs.Index.{subnet_row, transition_row, Laid, starts_size, transition_starts, subnet_bit_start, first_place_start, first_transition_start, transition_row_start, transition_bit_start, transition_row_of, transition_bit_of, up_to}
use Rattle.card.specs.Wellformed.{Wellformed}
use Rattle.card.specs.declared.index.Position.{Position}

-- no position of a card is further on
pub record OnCard (p : Position) : Type 0 where
  pub row : p.row ≤ 100000
  pub bit : p.bit ≤ 1000000

-- q is so many fields and bits behind p
pub record Moved (p q : Position) (fields bits : ℕ) : Type 0 where
  pub row : q.row ≡ p.row + fields
  pub bit : q.bit ≡ p.bit + bits

-- the four starts of a subnet
abbrev pub put_subnet : (starts : List ℕ) → (s row bit place transition : ℕ) → List ℕ
put_subnet starts s row bit place transition = set (set (set (set starts s row) (subnet_bit_start s) bit) (first_place_start s) place) (first_transition_start s) transition

-- the column of n entries from entry o on holds the first k values of f, then zeros
abbrev pub Column : (starts : List ℕ) → (o n k : ℕ) → (ℕ → ℕ) → Type 0
Column starts o n k f = (i : ℕ) → i < n → get_or starts (o + i) 0 ≡ up_to k f i

-- the starts of the transitions before t are stored
pub record Listed (c : Card) (starts : List ℕ) (t : ℕ) : Type 0 where
  pub rows : Column starts (transition_row_start 0) transition_starts t (transition_row_of c)
  pub bits : Column starts (transition_bit_start 0) transition_starts t (transition_bit_of c)

-- the walk is behind the places of subnet s
pub record AtSubnet (c : Card) (s : ℕ) (numbers starts : List ℕ) (p : Position) (first count : ℕ) : Type 0 where
  pub wellformed : Wellformed c
  pub laid : Laid c numbers
  pub subnet : s < length c.subnets
  pub long : length starts ≡ starts_size
  pub row : p.row ≡ transition_row c s (first_transition c s)
  pub bit : p.bit ≡ transition_bit c s (first_transition c s)
  pub is_first : first ≡ first_transition c s
  pub is_count : count ≡ (subnet_at c s).transitions
  pub listed : Listed c starts (first_transition c s)

-- the starts of subnet s's transitions are stored too, no other column has changed, and p is behind them
pub record TransitionsIndexed (c : Card) (s : ℕ) (old new : List ℕ) (p : Position) : Type 0 where
  pub long : length new ≡ length old
  pub listed : Listed c new (first_transition c (suc s))
  pub kept : (i : ℕ) → i < transition_row_start 0 → get_or new i 0 ≡ get_or old i 0
  pub row : p.row ≡ subnet_row c (suc s)
  pub bit : p.bit ≡ subnet_bit c (suc s)
