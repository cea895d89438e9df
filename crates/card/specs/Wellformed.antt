-- What 'The card' asks of a card's rows, as propositions: the ranges hold, and there are as many rows as the counts say.
use Rattle.std.specs.Prelude.{ℕ, suc, ◌^◌, ◌≤◌, ◌<◌, ◌≡◌, ◌≢◌, length}
use Rattle.card.specs.Finite.{All}
use Rattle.card.specs.Card.{Card, Subnet, Place, Transition, Arc, normal, in_out, fills, subnet_at, place_at, first_place, first_transition, first_arc}
use Rattle.card.specs.Grammar.{max_version, max_subnets, max_count, max_signals, max_arcs, rank_width, limit_width, scale_width}

-- Subnet 0 is the main net: parent 0, type 0. Any other parent is a smaller number than the subnet's own. Each subnet has at least one place
-- and one transition.
pub record SubnetRow (s : ℕ) (r : Subnet) : Type 0 where
  pub main : s ≡ 0 → (r.parent ≡ 0) × (r.type ≡ 0)
  pub parent : s ≢ 0 → r.parent < s
  pub type : r.type < 32
  pub places : 1 ≤ r.places
  pub transitions : 1 ≤ r.transitions

-- a place of subnet s: kind (in subnet 0 all places are normal), capacity 1 to 255, first tokens 0 to capacity
pub record PlaceRow (s : ℕ) (p : Place) : Type 0 where
  pub main : s ≡ 0 → p.kind ≡ normal
  pub kind : p.kind ≤ in_out
  pub positive : 1 ≤ p.capacity
  pub capacity : p.capacity ≤ 255
  pub tokens : p.tokens ≤ p.capacity

-- signal below G, arc count 1 to 31; a rank only from the version on that brings it
pub record TransitionRow (version signals : ℕ) (t : Transition) : Type 0 where
  pub signal : t.signal < signals
  pub positive : 1 ≤ t.arcs
  pub arcs : t.arcs ≤ max_arcs
  pub rank : t.rank < 2 ^ rank_width version

pub record ArcRow (a : Arc) : Type 0 where
  pub direction : a.direction ≤ fills
  pub subnet : a.subnet < 32
  pub place : a.place < 256
  pub weight : a.weight < 256

-- the rows below the header; over all subnets there are at most 255 places and 255 transitions
pub record Rows (c : Card) : Type 0 where
  pub place_count : length c.places ≡ first_place c (length c.subnets)
  pub transition_count : length c.transitions ≡ first_transition c (length c.subnets)
  pub arc_count : length c.arcs ≡ first_arc c (length c.transitions)
  pub few_places : length c.places ≤ max_count
  pub few_transitions : length c.transitions ≤ max_count
  pub subnet : (s : ℕ) → s < length c.subnets → SubnetRow s (subnet_at c s)
  pub place : (s p : ℕ) → s < length c.subnets → first_place c s ≤ p → p < first_place c (suc s) → PlaceRow s (place_at c p)
  pub transitions : All (TransitionRow c.version c.signals) c.transitions
  pub arcs : All ArcRow c.arcs

-- version 1 or 2, subnets S 1 to 32, signals G 1 to 63; limit and scale only from the versions on that bring them
pub record Wellformed (c : Card) : Type 0 where
  pub version : (1 ≤ c.version) × (c.version ≤ max_version)
  pub some_subnets : 1 ≤ length c.subnets
  pub few_subnets : length c.subnets ≤ max_subnets
  pub some_signals : 1 ≤ c.signals
  pub few_signals : c.signals ≤ max_signals
  pub limit : c.limit < 2 ^ limit_width c.version
  pub scale : c.scale < 2 ^ scale_width c.version
  pub rows : Rows c
