-- The state of a net ('State and step'). Here and below f is a flat card: an arc's place is a flat number.
use Rattle.std.specs.Prelude.{ℕ, ◌+◌, ◌-◌, ◌*◌, Bool, cond, ◌&&◌, List, length, ◌==◌, nat_le, slice_index, slice_index_or}
use Rattle.card.specs.Finite.{sum_to, table}
use Rattle.card.specs.Card.{Arc, Card, draws, fills, place_at, transition_at, arc_at}
use Rattle.runners.specs.declared.Transfer.{Transfer}
use Rattle.runners.specs.declared.Transfer.TheVariants.{Idle, Carrying}

-- Tokens are counted in thousandths: the full degree of a signal, and one token.
unfoldable pub scale : Card → ℕ
scale f = 1000

-- markings by flat place, transfers by flat transition, and each signal's last degree
pub record NetState : Type 0 where
  pub markings : List ℕ
  pub transfers : List Transfer
  pub degrees : List ℕ

abbrev pub entry : List ℕ → ℕ → ℕ
entry xs i = slice_index xs i

abbrev pub transfer : List Transfer → ℕ → Transfer
transfer xs t = slice_index_or xs t Idle

-- Fresh: m = 1000 × first tokens, all idle, all degrees 0.
unfoldable pub fresh : Card → NetState
fresh f =
    record {
      markings = table 0 (length f.places) (λ p. scale f * (place_at f p).tokens);
      transfers = table 0 (length f.transitions) (λ t. Idle);
      degrees = table 0 f.signals (λ g. 0);
    }

-- what remains of a transfer: 1000 - c. (A lent state in which c is not below 1000 is refused, 25.)
abbrev pub remaining : Card → Transfer → ℕ
remaining f Idle = 0
remaining f (Carrying c) = scale f - c

-- C⁻ and C⁺, the incidence matrices (document 000, Definition 13, equations 45 and 44): the weight with which transition t draws from place
-- p, or fills it. (Of an accepted card at most one arc of t is such, so the sum is its weight or 0.)
abbrev pub weight_at : (direction p : ℕ) → Arc → ℕ
weight_at direction p a = cond (a.direction == direction && a.place == p) a.weight 0

unfoldable pub incidence : Card → (direction t p : ℕ) → ℕ
incidence f direction t p = sum_to (transition_at f t).arcs (λ j. weight_at direction p (arc_at f t j))

-- a sum over all transitions, each with its weight at place p
unfoldable pub flow : Card → (amount : ℕ → ℕ) → (direction p : ℕ) → ℕ
flow f amount direction p = sum_to (length f.transitions) (λ t. amount t * incidence f direction t p)

-- With W the arc weight, owed(p) is the sum of W × (1000 - c) over carrying transitions that draw from p; due(p) is the same sum over those
-- that fill p. (Owed and due are document 01's terms for the claims of unfinished transfers.)
unfoldable pub owed : Card → List Transfer → (p : ℕ) → ℕ
owed f xs = flow f (λ t. remaining f (transfer xs t)) draws

unfoldable pub due : Card → List Transfer → (p : ℕ) → ℕ
due f xs = flow f (λ t. remaining f (transfer xs t)) fills

-- 1000 × K
abbrev pub full_marking : Card → (p : ℕ) → ℕ
full_marking f p = scale f * (place_at f p).capacity

-- the claims at a place, by flat place
pub record Claims : Type 0 where
  pub owed : ℕ → ℕ
  pub due : ℕ → ℕ

abbrev pub claims : Card → List Transfer → Claims
claims f xs = record { owed = owed f xs; due = due f xs }

-- the place has all that is owed, and room for all that is due
unfoldable pub covered : Card → (markings : List ℕ) → List Transfer → (p : ℕ) → Bool
covered f ms xs p = nat_le (owed f xs p) (entry ms p) && nat_le (entry ms p + due f xs p) (full_marking f p)
