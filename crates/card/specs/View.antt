-- A card as its two tables hold it: what the layers above work on.
use Rattle.std.specs.Prelude.{ℕ, zero, suc, ◌+◌, ◌≤◌, ◌≡◌, List, length, get_or}
use Rattle.card.specs.Card.{Subnet, Place, Transition, Arc, Card, subnet_at, place_at, transition_at, arc_at, first_place}
use Rattle.card.specs.Finite.{table}
use Rattle.card.specs.Format.{Format, done, get}
use Rattle.card.specs.Grammar.{card}
use Rattle.card.specs.Tables.{numbers_of}
use Rattle.card.specs.Wellformed.{Wellformed}
use Rattle.card.specs.Index.{Loaded}
use Rattle.card.specs.declared.Counts.{Counts}
use Rattle.card.specs.declared.index.CardIndex.{CardIndex}
use Rattle.card.specs.declared.view.Direction.{Direction}
use Rattle.card.specs.declared.view.Direction.TheVariants.{Draws, Fills}
use Rattle.card.specs.declared.view.Kind.{Kind}
use Rattle.card.specs.declared.view.Kind.TheVariants.{Normal, In, Out, InOut}
use Rattle.card.specs.declared.view.Subnet.{Subnet as HeldSubnet}
use Rattle.card.specs.declared.view.Place.{Place as HeldPlace}
use Rattle.card.specs.declared.view.Transition.{Transition as HeldTransition}
use Rattle.card.specs.declared.view.Arc.{Arc as HeldArc}

-- what a format makes of numbers, one for each field, from entry i on; a number past the last is 0
unfoldable pub made : {U A : Type 0} → Format U A → (numbers : List ℕ) → (i : ℕ) → A
made (done a) numbers i = a
made (get w value fault next) numbers i = made (next (get_or numbers i 0)) numbers (suc i)

-- the card whose numbers a table holds, field after field
unfoldable pub card_in : (numbers : List ℕ) → Card
card_in numbers = made card numbers 0

-- so many subnets, places and transitions
pub record IsCounted (c : Card) (k : Counts) : Type 0 where
  pub subnets : k.subnets ≡ length c.subnets
  pub places : k.places ≡ length c.places
  pub transitions : k.transitions ≡ length c.transitions

-- the numbers are those of a well-formed card, and the index is theirs
pub record Holds (c : Card) (numbers : List ℕ) (i : CardIndex) : Type 0 where
  pub wellformed : Wellformed c
  pub fits : length (numbers_of c) ≤ length numbers
  pub entries : (i : ℕ) → get_or numbers i 0 ≡ get_or (numbers_of c) i 0
  pub loaded : Loaded c numbers i.starts
  pub counts : IsCounted c i.counts

-- the numbers that a card has for kinds and directions ('The card')
abbrev pub kind_number : Kind → ℕ
kind_number Normal = 0
kind_number In = 1
kind_number Out = 2
kind_number InOut = 3

abbrev pub direction_number : Direction → ℕ
direction_number Draws = 0
direction_number Fills = 1

-- what has a number; no card has a larger one
abbrev pub kind_from : ℕ → Kind
kind_from zero = Normal
kind_from (suc zero) = In
kind_from (suc (suc zero)) = Out
kind_from (suc (suc (suc n))) = InOut

abbrev pub direction_from : ℕ → Direction
direction_from zero = Draws
direction_from (suc n) = Fills

-- rows that the code holds, as rows of a card
abbrev pub subnet_in : HeldSubnet → Subnet
subnet_in s = record { parent = s.parent; type = s.subnet_type; places = s.places; transitions = s.transitions }

abbrev pub place_in : HeldPlace → Place
place_in p = record { kind = kind_number p.kind; capacity = p.capacity; tokens = p.tokens }

abbrev pub transition_in : HeldTransition → Transition
transition_in t = record { signal = t.signal; arcs = t.arcs; rank = t.rank }

abbrev pub arc_in : HeldArc → Arc
arc_in a = record { direction = direction_number a.direction; subnet = a.subnet; place = a.place; weight = a.weight }

-- the rows that the code makes of their numbers
abbrev pub place_from : (numbers : List ℕ) → HeldPlace
place_from numbers = record { kind = kind_from (get_or numbers 0 0); capacity = get_or numbers 1 0; tokens = get_or numbers 2 0 }

abbrev pub arc_from : (numbers : List ℕ) → HeldArc
arc_from numbers =
    record { direction = direction_from (get_or numbers 0 0); subnet = get_or numbers 1 0; place = get_or numbers 2 0; weight = get_or numbers 3 0 }

-- the places of a subnet, and the arcs of a transition; past the last one none
unfoldable pub places_of : Card → (s : ℕ) → List Place
places_of c s = table 0 (subnet_at c s).places (λ n. place_at c (first_place c s + n))

unfoldable pub arcs_of : Card → (t : ℕ) → List Arc
arcs_of c t = table 0 (transition_at c t).arcs (arc_at c t)
