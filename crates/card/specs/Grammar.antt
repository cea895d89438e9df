-- The grammar of a card ('The card'), and with it pass one: what each field must hold, and the fault where it does not.
use Rattle.std.specs.Prelude.{ℕ, ◌+◌, not, ◌&&◌, ◌||◌, cond, length, leb, ltb, eqb}
use mathlib.Core.List.{List, [], ◌∷◌, ◌++◌, map, flatten}
use Rattle.card.specs.Card.{Header, Subnet, Place, Transition, Arc, Card, normal, header_of, subnet_at, place_at, transition_at, arc_at}
use Rattle.card.specs.Format.{Format, done, free, field, of, each, grow, ◌>>=◌}
use Rattle.card.specs.declared.FormatFault.TheVariants.{BadVersion, BadSize, BadParent, BadType, BadCount, BadPlace, BadTransition}

-- the newest version of a card: there are versions 1 and 2 (CR 3)
abbrev pub max_version : ℕ
max_version = 2

-- the most subnets of a card; the most places, and the most transitions
abbrev pub max_subnets : ℕ
max_subnets = 32

abbrev pub max_count : ℕ
max_count = 255

-- the most signals of a card, and the most arcs of a transition: what their fields can hold
abbrev pub max_signals : ℕ
max_signals = 63

abbrev pub max_arcs : ℕ
max_arcs = 31

-- A field that a version brings: it has no bits below that version. A field of no bits takes none, reads as 0, and no other number fits it.
unfoldable pub since : (first width version : ℕ) → ℕ
since first width version = cond (ltb version first) 0 width

abbrev pub rank_width : (version : ℕ) → ℕ
rank_width version = since 3 8 version

abbrev pub limit_width : (version : ℕ) → ℕ
limit_width version = since 4 8 version

abbrev pub scale_width : (version : ℕ) → ℕ
scale_width version = since 5 14 version

-- Header: version 4 bits (CR 3: refusal 2 now means neither 1 nor 2), subnets S 6 bits (1 to 32), signals G 6 bits (1 to 63). Then the limit and
-- the scale of later versions.
unfoldable pub header : Format Header Header
header = do
  version ← field 4 (λ h. h.version) (λ v. leb 1 v && leb v max_version) BadVersion
  subnets ← field 6 (λ h. h.subnets) (λ v. leb 1 v && leb v max_subnets) BadSize
  signals ← field 6 (λ h. h.signals) (λ v. leb 1 v) BadSize
  limit ← free (limit_width version) (λ h. h.limit)
  scale ← free (scale_width version) (λ h. h.scale)
  done (record { version = version; subnets = subnets; signals = signals; limit = limit; scale = scale })

-- Each subnet: parent 5, type 5, places 8, transitions 8. Subnet 0 is the main net: parent 0, type 0. Any other parent is a smaller number
-- than the subnet's own. Each subnet has at least one place and one transition; over all subnets there are at most 255 of each.
-- (s is the subnet's number, p and t are how many places and transitions all lower subnets list.)
unfoldable pub subnet : (s p t : ℕ) → Format Subnet Subnet
subnet s p t = do
  parent ← field 5 (λ r. r.parent) (λ v. cond (eqb s 0) (eqb v 0) (ltb v s)) BadParent
  type ← field 5 (λ r. r.type) (λ v. not (eqb s 0) || eqb v 0) BadType
  places ← field 8 (λ r. r.places) (λ v. leb 1 v && leb (p + v) max_count) BadCount
  transitions ← field 8 (λ r. r.transitions) (λ v. leb 1 v && leb (t + v) max_count) BadCount
  done (record { parent = parent; type = type; places = places; transitions = transitions })

-- Place: kind 2 (in subnet 0 all places are normal), capacity 8 (1 to 255), first tokens 8 (0 to capacity).
unfoldable pub place : (s : ℕ) → Format Place Place
place s = do
  kind ← field 2 (λ p. p.kind) (λ v. not (eqb s 0) || eqb v normal) BadPlace
  capacity ← field 8 (λ p. p.capacity) (λ v. leb 1 v) BadPlace
  tokens ← field 8 (λ p. p.tokens) (λ v. leb v capacity) BadPlace
  done (record { kind = kind; capacity = capacity; tokens = tokens })

-- Transition: signal 6 (below G), arc count 5 (1 to 31). Then the rank of later versions.
unfoldable pub transition : (version signals : ℕ) → Format Transition Transition
transition version signals = do
  signal ← field 6 (λ t. t.signal) (λ v. ltb v signals) BadTransition
  arcs ← field 5 (λ t. t.arcs) (λ v. leb 1 v) BadTransition
  rank ← free (rank_width version) (λ t. t.rank)
  done (record { signal = signal; arcs = arcs; rank = rank })

-- Arc: direction 1, subnet 5, place 8, weight 8.
unfoldable pub arc : Format Arc Arc
arc = do
  direction ← free 1 (λ a. a.direction)
  subnet ← free 5 (λ a. a.subnet)
  place ← free 8 (λ a. a.place)
  weight ← free 8 (λ a. a.weight)
  done (record { direction = direction; subnet = subnet; place = place; weight = weight })

-- a transition, then its arcs; t is its flat number
unfoldable pub whole_transition : (version signals t : ℕ) → Format Card (Transition × List Arc)
whole_transition version signals t = do
  row ← of (λ c. transition_at c t) (transition version signals)
  arcs ← each 0 row.arcs (λ j. of (λ c. arc_at c t j) arc)
  done (row, arcs)

-- the rows so far, with those of one subnet more
abbrev pub with : Card → Subnet → List Place → List (Transition × List Arc) → Card
with c s ps ts =
    record {
      version = c.version;
      signals = c.signals;
      limit = c.limit;
      scale = c.scale;
      subnets = c.subnets ++ (s ∷ []);
      places = c.places ++ ps;
      transitions = c.transitions ++ map (λ t. t.0) ts;
      arcs = c.arcs ++ flatten (map (λ t. t.1) ts);
    }

-- a subnet; then its places, then its transitions
unfoldable pub whole_subnet : (sofar : Card) → Format Card Card
whole_subnet sofar = do
  row ← of (λ c. subnet_at c s) (subnet s p t)
  places ← each p row.places (λ i. of (λ c. place_at c i) (place s))
  transitions ← each t row.transitions (whole_transition sofar.version sofar.signals)
  done (with sofar row places transitions)
  where
    s : ℕ
    s = length sofar.subnets

    p : ℕ
    p = length sofar.places

    t : ℕ
    t = length sofar.transitions

-- a card of which only the header is read
abbrev pub header_alone : Header → Card
header_alone h = record { version = h.version; signals = h.signals; limit = h.limit; scale = h.scale; subnets = []; places = []; transitions = []; arcs = [] }

-- the header, then each subnet 0 to S - 1
unfoldable pub card : Format Card Card
card = do
  h ← of header_of header
  grow h.subnets whole_subnet (header_alone h)
