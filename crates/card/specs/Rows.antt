-- A card's tables in lent slices: numbers, row after row.
use Rattle.std.specs.Prelude.{ℕ, ◌+◌, ◌*◌, ◌/◌, ◌%◌, Bool, ◌&&◌, cond, length, get_or, eqb}
use mathlib.Core.List.{List, [], ◌∷◌, flat_map}
use Rattle.card.specs.Finite.{table}
use Rattle.card.specs.Numbers.{number}
use Rattle.card.specs.Card.{Subnet, Place, Transition, Arc, Card, subnet_fields, place_fields, transition_fields, arc_fields}
use Rattle.card.specs.Parsing.{Parsing, refused}
use Rattle.card.specs.Writing.{read_tables}
use Rattle.card.specs.declared.Head.{Head}
use Rattle.card.specs.declared.rows.Rows.{Rows}
use Rattle.card.specs.declared.FormatFault.TheVariants.{BadTable}

-- a function that takes the four slices one by one, at the rows that hold them
abbrev pub on_rows {ℓ} : {A : Type ℓ} → (List ℕ → List ℕ → List ℕ → List ℕ → A) → Rows → A
on_rows f r = f r.subnets.now r.places.now r.transitions.now r.arcs.now

-- number k of row i, where a row has so many numbers
abbrev pub entry : (rows : List ℕ) → (width i k : ℕ) → ℕ
entry rows width i k = get_or rows (width * i + k) 0

-- row i of a slice
abbrev pub subnet_in : (rows : List ℕ) → (i : ℕ) → Subnet
subnet_in rows i =
    record { parent = entry rows subnet_fields i 0; type = entry rows subnet_fields i 1; places = entry rows subnet_fields i 2; transitions = entry rows subnet_fields i 3 }

abbrev pub place_in : (rows : List ℕ) → (i : ℕ) → Place
place_in rows i = record { kind = entry rows place_fields i 0; capacity = entry rows place_fields i 1; tokens = entry rows place_fields i 2 }

abbrev pub transition_in : (rows : List ℕ) → (i : ℕ) → Transition
transition_in rows i = record { signal = entry rows transition_fields i 0; arcs = entry rows transition_fields i 1; rank = entry rows transition_fields i 2 }

abbrev pub arc_in : (rows : List ℕ) → (i : ℕ) → Arc
arc_in rows i = record { direction = entry rows arc_fields i 0; subnet = entry rows arc_fields i 1; place = entry rows arc_fields i 2; weight = entry rows arc_fields i 3 }

-- what the head and the slices hold
unfoldable pub tables_in : Head → (subnets places transitions arcs : List ℕ) → Card
tables_in head subnets places transitions arcs =
    record {
      version = head.version;
      signals = head.signals;
      limit = head.limit;
      scale = head.scale;
      subnets = table 0 (length subnets / subnet_fields) (subnet_in subnets);
      places = table 0 (length places / place_fields) (place_in places);
      transitions = table 0 (length transitions / transition_fields) (transition_in transitions);
      arcs = table 0 (length arcs / arc_fields) (arc_in arcs);
    }

-- a slice that ends inside a row has more or fewer entries than any counts say
unfoldable pub whole_rows : (subnets places transitions arcs : List ℕ) → Bool
whole_rows subnets places transitions arcs =
    eqb (length subnets % subnet_fields) 0 && eqb (length places % place_fields) 0 && eqb (length transitions % transition_fields) 0 && eqb (length arcs % arc_fields) 0

unfoldable pub read_rows : Head → (subnets places transitions arcs : List ℕ) → Parsing Card
read_rows head subnets places transitions arcs =
    cond (whole_rows subnets places transitions arcs) (read_tables (tables_in head subnets places transitions arcs)) (refused (number BadTable) 0)

-- all that a writer is lent of a card
pub record CardSlices : Type 0 where
  pub head : Head
  pub subnets : List ℕ
  pub places : List ℕ
  pub transitions : List ℕ
  pub arcs : List ℕ

-- a function that takes these one by one
abbrev pub on_slices : {A : Type 0} → (Head → List ℕ → List ℕ → List ℕ → List ℕ → A) → CardSlices → A
on_slices f x = f x.head x.subnets x.places x.transitions x.arcs

-- the other way round: the head and the slices that hold a card
abbrev pub head_of : Card → Head
head_of c = record { version = c.version; signals = c.signals; limit = c.limit; scale = c.scale }

unfoldable pub rows_of : Card → CardSlices
rows_of c =
    record {
      head = head_of c;
      subnets = flat_map (λ s. s.parent ∷ s.type ∷ s.places ∷ s.transitions ∷ []) c.subnets;
      places = flat_map (λ p. p.kind ∷ p.capacity ∷ p.tokens ∷ []) c.places;
      transitions = flat_map (λ t. t.signal ∷ t.arcs ∷ t.rank ∷ []) c.transitions;
      arcs = flat_map (λ a. a.direction ∷ a.subnet ∷ a.place ∷ a.weight ∷ []) c.arcs;
    }
