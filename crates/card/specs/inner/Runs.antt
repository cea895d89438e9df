-- The contracts of the functions that test tables in slices and put their numbers into the order of the card.
use Rattle.std.specs.Prelude.{ℕ, ◌+◌, ◌*◌, ◌/◌, ◌%◌, ◌^◌, ◌≤◌, ◌<◌, ◌≡◌, Bool, true, length, get_or, take, drop}
use mathlib.Core.List.{List, [], ◌∷◌, ◌++◌, flatten}
use Rattle.card.specs.Finite.{table, sum_to}
use Rattle.card.specs.Rows.{entry}
use Rattle.card.specs.Card.{subnet_fields, place_fields, transition_fields, arc_fields}
use Rattle.card.specs.Tables.{table_size}
use Rattle.card.specs.declared.Head.{Head}
use Rattle.card.specs.inner.Layout.{width_at}
use Rattle.card.specs.declared.layout.Phase.TheVariants.{Version, SubnetCount, SignalCount, Limit, Scale, Parent, SubnetType, PlaceCount, TransitionCount, Kind, Capacity, Tokens, Signal, ArcCount, Rank, Direction, ArcSubnet, ArcPlace, Weight}

-- the sum of a column
abbrev pub column_sum : (rows : List ℕ) → (width column : ℕ) → ℕ
column_sum rows width column = sum_to (length rows / width) (λ i. entry rows width i column)

-- each number fits the field of its column
abbrev pub RowsFit : (rows widths : List ℕ) → Type 0
RowsFit rows widths = (i : ℕ) → i < length rows → get_or rows i 0 < 2 ^ get_or widths (i % length widths) 0

-- an answer tells whether something holds
abbrev pub Tells : Bool → Type 0 → Type 0
Tells r P = (r ≡ true → P) × (P → r ≡ true)

-- the widths of the columns, which are the grammar's
abbrev pub subnet_widths : List ℕ
subnet_widths = width_at Parent 0 ∷ width_at SubnetType 0 ∷ width_at PlaceCount 0 ∷ width_at TransitionCount 0 ∷ []

abbrev pub place_widths : List ℕ
place_widths = width_at Kind 0 ∷ width_at Capacity 0 ∷ width_at Tokens 0 ∷ []

abbrev pub transition_widths : (version : ℕ) → List ℕ
transition_widths version = width_at Signal version ∷ width_at ArcCount version ∷ width_at Rank version ∷ []

abbrev pub arc_widths : List ℕ
arc_widths = width_at Direction 0 ∷ width_at ArcSubnet 0 ∷ width_at ArcPlace 0 ∷ width_at Weight 0 ∷ []

-- (s is the number of subnet rows.)
pub record HeaderFits (h : Head) (s : ℕ) : Type 0 where
  pub version : h.version < 2 ^ width_at Version h.version
  pub subnets : s < 2 ^ width_at SubnetCount h.version
  pub signals : h.signals < 2 ^ width_at SignalCount h.version
  pub limit : h.limit < 2 ^ width_at Limit h.version
  pub scale : h.scale < 2 ^ width_at Scale h.version

-- each number of the tables fits its field
pub record ValuesFit (h : Head) (s p t a : List ℕ) : Type 0 where
  pub header : HeaderFits h (length s / subnet_fields)
  pub subnets : RowsFit s subnet_widths
  pub places : RowsFit p place_widths
  pub transitions : RowsFit t (transition_widths h.version)
  pub arcs : RowsFit a arc_widths

-- a table holds the first n numbers of a list: all of them, or as many as it has room for
pub record Leads (xs numbers : List ℕ) (n : ℕ) : Type 0 where
  pub same : (i : ℕ) → i < n → get_or numbers i 0 ≡ get_or xs i 0
  pub inside : n ≤ length xs
  pub all : n < length numbers → n ≡ length xs

-- how many arcs the transitions before t list; the numbers of transition t, with its arcs
abbrev pub arcs_before : (transitions : List ℕ) → (t : ℕ) → ℕ
arcs_before transitions t = sum_to t (λ u. entry transitions transition_fields u 1)

unfoldable pub transition_run : (transitions arcs : List ℕ) → (t : ℕ) → List ℕ
transition_run transitions arcs t = take transition_fields (drop (transition_fields * t) transitions) ++ take (arc_fields * entry transitions transition_fields t 1) (drop (arc_fields * arcs_before transitions t) arcs)

unfoldable pub runs : (from n : ℕ) → (ℕ → List ℕ) → List ℕ
runs from n run = flatten (table from n run)

-- where the arcs of some transitions lie, from arc on, and that the slices have all of them
pub record RunsInside (transitions arcs : List ℕ) (from n arc : ℕ) : Type 0 where
  pub begins : arc ≡ arcs_before transitions from
  pub rows : transition_fields * (from + n) ≤ length transitions
  pub ends : arc_fields * arcs_before transitions (from + n) ≤ length arcs

-- the numbers of subnet s, with its places, and its transitions with their arcs
abbrev pub places_before : (subnets : List ℕ) → (s : ℕ) → ℕ
places_before subnets s = sum_to s (λ r. entry subnets subnet_fields r 2)

abbrev pub transitions_before : (subnets : List ℕ) → (s : ℕ) → ℕ
transitions_before subnets s = sum_to s (λ r. entry subnets subnet_fields r 3)

unfoldable pub subnet_run : (subnets places transitions arcs : List ℕ) → (s : ℕ) → List ℕ
subnet_run subnets places transitions arcs s =
    take subnet_fields (drop (subnet_fields * s) subnets)
    ++ (take (place_fields * entry subnets subnet_fields s 2) (drop (place_fields * places_before subnets s) places) ++ runs (transitions_before subnets s) (entry subnets subnet_fields s 3) (transition_run transitions arcs))

-- the slices have all rows that the counts say
pub record TablesInside (subnets places transitions arcs : List ℕ) : Type 0 where
  pub place_rows : place_fields * places_before subnets (length subnets / subnet_fields) ≤ length places
  pub transition_rows : transition_fields * transitions_before subnets (length subnets / subnet_fields) ≤ length transitions
  pub arc_rows : arc_fields * arcs_before transitions (transitions_before subnets (length subnets / subnet_fields)) ≤ length arcs

-- the numbers of the tables in the order of the card, and a table that holds as many of them as a card can have
unfoldable pub in_order : Head → (subnets places transitions arcs : List ℕ) → List ℕ
in_order head subnets places transitions arcs =
    head.version ∷ length subnets / subnet_fields ∷ head.signals ∷ head.limit ∷ head.scale ∷ runs 0 (length subnets / subnet_fields) (subnet_run subnets places transitions arcs)

pub record Gathered (xs numbers : List ℕ) : Type 0 where
  pub entries : (i : ℕ) → i < table_size → i < length xs → get_or numbers i 0 ≡ get_or xs i 0
