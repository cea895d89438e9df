-- Flattening, and the call that flattens ('Flattening'; document 000, Definition 7 and equations 13 and 31).
use Rattle.std.specs.Prelude.{ℕ, ◌≡◌, List, [], ◌∷◌, map, length}
use Rattle.card.specs.Card.{Place, Arc, Card, normal, place_at, transition_at, arc_at, flat_place}
use Rattle.card.specs.Writing.{encode}
use Rattle.hierarchy.specs.Numbers.{WriteOutcome}
use Rattle.hierarchy.specs.Judgement.{judge}
use Rattle.hierarchy.specs.Output.{delivered}

abbrev pub flat_place_row : Place → Place
flat_place_row p = record { kind = normal; capacity = p.capacity; tokens = p.tokens }

abbrev pub flat_arc : Card → Arc → Arc
flat_arc c a = record { direction = a.direction; subnet = 0; place = flat_place c a; weight = a.weight }

-- The flat net is a card: S 1, parent and type 0, the totals as counts, all kinds normal, arcs in order with subnet 0 and flat place, every
-- other field as it was.
unfoldable pub flatten : Card → Card
flatten c =
    record {
      version = c.version;
      signals = c.signals;
      limit = c.limit;
      scale = c.scale;
      subnets = record { parent = 0; type = 0; places = length c.places; transitions = length c.transitions } ∷ [];
      places = map flat_place_row c.places;
      transitions = c.transitions;
      arcs = map (flat_arc c) c.arcs;
    }

-- the net of f is the net of c: version, signals, limit and scale, capacities and first tokens by flat place, transitions, and arcs resolved to flat places
pub record SameNet (c f : Card) : Type 0 where
  pub version : f.version ≡ c.version
  pub signals : f.signals ≡ c.signals
  pub limit : f.limit ≡ c.limit
  pub scale : f.scale ≡ c.scale
  pub capacities : (p : ℕ) → (place_at f p).capacity ≡ (place_at c p).capacity
  pub tokens : (p : ℕ) → (place_at f p).tokens ≡ (place_at c p).tokens
  pub transitions : (t : ℕ) → transition_at f t ≡ transition_at c t
  pub directions : (t j : ℕ) → (arc_at f t j).direction ≡ (arc_at c t j).direction
  pub places : (t j : ℕ) → (arc_at f t j).place ≡ flat_place c (arc_at c t j)
  pub weights : (t j : ℕ) → (arc_at f t j).weight ≡ (arc_at c t j).weight

-- flattening into a buffer: the card's own refusals, then 24 ('Why a call is turned back')
unfoldable pub flatten_call : (card buffer : List ℕ) → WriteOutcome × List ℕ
flatten_call card = delivered (judge card) (λ c. encode (flatten c))
