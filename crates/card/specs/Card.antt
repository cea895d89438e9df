-- A card as tables: the rows of its subnets, places, transitions and arcs, each in the order of the card ('The card'). S is the number of
-- subnet rows, and signals is G.
use Rattle.std.specs.Prelude.{ℕ, ◌+◌, List, length, get_or}
use Rattle.card.specs.Finite.{sum_to}

-- subnets: how many there are; signals: how many a row gives degrees of; limit and scale: of later versions
pub record Header : Type 0 where
  pub version : ℕ
  pub subnets : ℕ
  pub signals : ℕ
  pub limit : ℕ
  pub scale : ℕ

-- places and transitions: how many of each the subnet lists
pub record Subnet : Type 0 where
  pub parent : ℕ
  pub type : ℕ
  pub places : ℕ
  pub transitions : ℕ

pub record Place : Type 0 where
  pub kind : ℕ
  pub capacity : ℕ
  pub tokens : ℕ

-- arcs: how many the transition lists; rank: of later versions
pub record Transition : Type 0 where
  pub signal : ℕ
  pub arcs : ℕ
  pub rank : ℕ

-- place: counted in the subnet that the arc names
pub record Arc : Type 0 where
  pub direction : ℕ
  pub subnet : ℕ
  pub place : ℕ
  pub weight : ℕ

pub record Card : Type 0 where
  pub version : ℕ
  pub signals : ℕ
  pub limit : ℕ
  pub scale : ℕ
  pub subnets : List Subnet
  pub places : List Place
  pub transitions : List Transition
  pub arcs : List Arc

-- a card as another version
abbrev pub with_version : (version : ℕ) → Card → Card
with_version v c =
    record {
      version = v;
      signals = c.signals;
      limit = c.limit;
      scale = c.scale;
      subnets = c.subnets;
      places = c.places;
      transitions = c.transitions;
      arcs = c.arcs;
    }

-- how many numbers the header and a row have
abbrev pub header_fields : ℕ
header_fields = 5

abbrev pub subnet_fields : ℕ
subnet_fields = 4

abbrev pub place_fields : ℕ
place_fields = 3

abbrev pub transition_fields : ℕ
transition_fields = 3

abbrev pub arc_fields : ℕ
arc_fields = 4

-- the kinds of a place: 0 normal, 1 in, 2 out, 3 in-out
abbrev pub normal : ℕ
normal = 0

abbrev pub input : ℕ
input = 1

abbrev pub output : ℕ
output = 2

abbrev pub in_out : ℕ
in_out = 3

-- the directions of an arc: 0 place to transition, 1 transition to place
abbrev pub draws : ℕ
draws = 0

abbrev pub fills : ℕ
fills = 1

abbrev pub header_of : Card → Header
header_of c = record { version = c.version; subnets = length c.subnets; signals = c.signals; limit = c.limit; scale = c.scale }

-- the rows by number: a subnet; a place and a transition by flat number; rows past the last hold zeros
abbrev pub no_subnet : Subnet
no_subnet = record { parent = 0; type = 0; places = 0; transitions = 0 }

abbrev pub no_place : Place
no_place = record { kind = 0; capacity = 0; tokens = 0 }

abbrev pub no_transition : Transition
no_transition = record { signal = 0; arcs = 0; rank = 0 }

abbrev pub no_arc : Arc
no_arc = record { direction = 0; subnet = 0; place = 0; weight = 0 }

abbrev pub subnet_at : Card → ℕ → Subnet
subnet_at c s = get_or c.subnets s no_subnet

abbrev pub place_at : Card → ℕ → Place
place_at c p = get_or c.places p no_place

abbrev pub transition_at : Card → ℕ → Transition
transition_at c t = get_or c.transitions t no_transition

-- the flat number of a subnet's first place and first transition: what all lower subnets list comes before it ('Flattening')
unfoldable pub first_place : Card → ℕ → ℕ
first_place c s = sum_to s (λ r. (subnet_at c r).places)

unfoldable pub first_transition : Card → ℕ → ℕ
first_transition c s = sum_to s (λ r. (subnet_at c r).transitions)

-- the number of a transition's first arc, and its arc j
unfoldable pub first_arc : Card → ℕ → ℕ
first_arc c t = sum_to t (λ u. (transition_at c u).arcs)

abbrev pub arc_at : Card → (t j : ℕ) → Arc
arc_at c t j = get_or c.arcs (first_arc c t + j) no_arc

-- the flat number of the place that an arc names, and its row
abbrev pub flat_place : Card → Arc → ℕ
flat_place c a = first_place c a.subnet + a.place

abbrev pub place_of : Card → Arc → Place
place_of c a = place_at c (flat_place c a)
