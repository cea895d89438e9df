-- A card's numbers, field after field, and where its rows stand among them: what the layers above take of a card that was read.
use Rattle.std.specs.Prelude.{ℕ, suc, ◌+◌, ◌-◌, ◌*◌, ◌≤◌, ◌<◌, ◌≡◌, cond, List, length, get_or, leb, ltb}
use Rattle.card.specs.Finite.{sum_to, table}
use Rattle.card.specs.Card.{Subnet, Place, Transition, Arc, Card, subnet_at, place_at, transition_at, arc_at, first_place, first_transition, first_arc}
use Rattle.card.specs.Format.{count}
use Rattle.card.specs.Grammar.{max_subnets, max_count, header, subnet, place, transition, arc}
use Rattle.card.specs.Writing.{subnet_bit, transition_bit}
use Rattle.card.specs.declared.tables.Arc as declared

-- the fields in front of so many subnets, places, transitions and arcs
abbrev pub fields_before : (subnets places transitions arcs : ℕ) → ℕ
fields_before s p t a = count header + count (subnet 0 0 0) * s + count (place 0) * p + count (transition 0 0) * t + count arc * a

-- where the row of subnet s begins, and that of transition t, which is one of subnet s
unfoldable pub subnet_row : Card → (s : ℕ) → ℕ
subnet_row c s = fields_before s (first_place c s) (first_transition c s) (first_arc c (first_transition c s))

unfoldable pub transition_row : Card → (s t : ℕ) → ℕ
transition_row c s t = fields_before (suc s) (first_place c (suc s)) t (first_arc c t)

-- field k of place n of the subnet whose row begins there; of arc j of the transition whose row begins there
unfoldable pub place_field : (row n k : ℕ) → ℕ
place_field row n k = row + count (subnet 0 0 0) + count (place 0) * n + k

unfoldable pub arc_field : (row j k : ℕ) → ℕ
arc_field row j k = row + count (transition 0 0) + count arc * j + k

-- a row is there: its fields stand at these positions
pub record SubnetThere (numbers : List ℕ) (row : ℕ) (r : Subnet) : Type 0 where
  pub parent : get_or numbers row 0 ≡ r.parent
  pub type : get_or numbers (row + 1) 0 ≡ r.type
  pub places : get_or numbers (row + 2) 0 ≡ r.places
  pub transitions : get_or numbers (row + 3) 0 ≡ r.transitions

pub record PlaceThere (numbers : List ℕ) (row n : ℕ) (p : Place) : Type 0 where
  pub kind : get_or numbers (place_field row n 0) 0 ≡ p.kind
  pub capacity : get_or numbers (place_field row n 1) 0 ≡ p.capacity
  pub tokens : get_or numbers (place_field row n 2) 0 ≡ p.tokens

pub record TransitionThere (numbers : List ℕ) (row : ℕ) (t : Transition) : Type 0 where
  pub signal : get_or numbers row 0 ≡ t.signal
  pub arcs : get_or numbers (row + 1) 0 ≡ t.arcs
  pub rank : get_or numbers (row + 2) 0 ≡ t.rank

pub record ArcThere (numbers : List ℕ) (row j : ℕ) (a : Arc) : Type 0 where
  pub direction : get_or numbers (arc_field row j 0) 0 ≡ a.direction
  pub subnet : get_or numbers (arc_field row j 1) 0 ≡ a.subnet
  pub place : get_or numbers (arc_field row j 2) 0 ≡ a.place
  pub weight : get_or numbers (arc_field row j 3) 0 ≡ a.weight

-- an arc that the tables hold, as one of a card
abbrev pub arc_of : declared.Arc → Arc
arc_of a = record { direction = a.direction; subnet = a.subnet; place = a.place; weight = a.weight }

-- transition t is one of subnet s
pub record Lists (c : Card) (s t : ℕ) : Type 0 where
  pub subnet : s < length c.subnets
  pub first : first_transition c s ≤ t
  pub last : t < first_transition c (suc s)

-- a table holds the rows of a card
pub record Laid (c : Card) (numbers : List ℕ) : Type 0 where
  pub version : get_or numbers 0 0 ≡ c.version
  pub signals : get_or numbers 2 0 ≡ c.signals
  pub limit : get_or numbers 3 0 ≡ c.limit
  pub scale : get_or numbers 4 0 ≡ c.scale
  pub subnet : (s : ℕ) → s < length c.subnets → SubnetThere numbers (subnet_row c s) (subnet_at c s)
  pub place : (s n : ℕ) → s < length c.subnets → n < (subnet_at c s).places → PlaceThere numbers (subnet_row c s) n (place_at c (first_place c s + n))
  pub transition : (s t : ℕ) → Lists c s t → TransitionThere numbers (transition_row c s t) (transition_at c t)
  pub arc : (s t j : ℕ) → Lists c s t → j < (transition_at c t).arcs → ArcThere numbers (transition_row c s t) j (arc_at c t j)

-- A second table has six columns of starts: four with an entry for each subnet and one for the end of the last, two with one for each transition (and one more, which is 0).
abbrev pub subnet_starts : ℕ
subnet_starts = suc max_subnets

abbrev pub transition_starts : ℕ
transition_starts = suc max_count

abbrev pub starts_size : ℕ
starts_size = 4 * subnet_starts + 2 * transition_starts

abbrev pub subnet_bit_start : ℕ → ℕ
subnet_bit_start s = subnet_starts + s

abbrev pub first_place_start : ℕ → ℕ
first_place_start s = 2 * subnet_starts + s

abbrev pub first_transition_start : ℕ → ℕ
first_transition_start s = 3 * subnet_starts + s

abbrev pub transition_row_start : ℕ → ℕ
transition_row_start t = 4 * subnet_starts + t

abbrev pub transition_bit_start : ℕ → ℕ
transition_bit_start t = 4 * subnet_starts + transition_starts + t

-- the subnet that lists transition t: as many subnets end in front of it
unfoldable pub owner : Card → (t : ℕ) → ℕ
owner c t = sum_to (length c.subnets) (λ s. cond (leb (first_transition c (suc s)) t) 1 0)

abbrev pub transition_row_of : Card → (t : ℕ) → ℕ
transition_row_of c t = transition_row c (owner c t) t

abbrev pub transition_bit_of : Card → (t : ℕ) → ℕ
transition_bit_of c t = transition_bit c (owner c t) t

-- the first n values, then zeros
abbrev pub up_to : (n : ℕ) → (ℕ → ℕ) → (i : ℕ) → ℕ
up_to n f i = cond (ltb i n) (f i) 0

-- entry i of the second table
abbrev pub start_of : Card → (i : ℕ) → ℕ
start_of c i =
    cond (ltb i (subnet_bit_start 0)) (up_to (suc (length c.subnets)) (subnet_row c) i)
    (cond (ltb i (first_place_start 0)) (up_to (suc (length c.subnets)) (subnet_bit c) (i - subnet_bit_start 0))
    (cond (ltb i (first_transition_start 0)) (up_to (suc (length c.subnets)) (first_place c) (i - first_place_start 0))
    (cond (ltb i (transition_row_start 0)) (up_to (suc (length c.subnets)) (first_transition c) (i - first_transition_start 0))
    (cond (ltb i (transition_bit_start 0)) (up_to (length c.transitions) (transition_row_of c) (i - transition_row_start 0))
    (up_to (length c.transitions) (transition_bit_of c) (i - transition_bit_start 0))))))

unfoldable pub starts_of : Card → List ℕ
starts_of c = table 0 starts_size (start_of c)

-- what stands there of a card's rows
pub record Indexed (c : Card) (starts : List ℕ) : Type 0 where
  pub subnet_row : (s : ℕ) → s < length c.subnets → get_or starts s 0 ≡ subnet_row c s
  pub subnet_bit : (s : ℕ) → s < length c.subnets → get_or starts (subnet_bit_start s) 0 ≡ subnet_bit c s
  pub first_place : (s : ℕ) → s ≤ length c.subnets → get_or starts (first_place_start s) 0 ≡ first_place c s
  pub first_transition : (s : ℕ) → s ≤ length c.subnets → get_or starts (first_transition_start s) 0 ≡ first_transition c s
  pub transition_row : (s t : ℕ) → Lists c s t → get_or starts (transition_row_start t) 0 ≡ transition_row c s t
  pub transition_bit : (s t : ℕ) → Lists c s t → get_or starts (transition_bit_start t) 0 ≡ transition_bit c s t

-- a card's rows are in both tables
pub record Loaded (c : Card) (numbers starts : List ℕ) : Type 0 where
  pub laid : Laid c numbers
  pub indexed : Indexed c starts
