-- What a card must meet to be a hierarchy ('Conditions on the hierarchy'), in the terms of document 000. A place is named by its subnet j
-- and its number n there; Nᵢ is subnet i, and mpᵢ is the macroplace that it is internal to.
use Rattle.std.specs.Prelude.{ℕ, suc, ◌+◌, ◌≤◌, ◌<◌, ◌≡◌, ◌≢◌, ◌⊎◌, Bool, not, ◌&&◌, List, length, get_or, ltb, eqb}
use Rattle.card.specs.Finite.{table, keep}
use Rattle.card.specs.Card.{Arc, Place, Card, normal, input, output, in_out, draws, fills, subnet_at, place_at, transition_at, arc_at, first_place, first_transition, place_of}
use Rattle.card.specs.Wellformed.{Wellformed}

-- P, the places: the subnet that lists a place owns it. (Subnets past the last list nothing.)
abbrev pub IsPlace : Card → (j n : ℕ) → Type 0
IsPlace c j n = n < (subnet_at c j).places

-- IO : P → {in, out, inout, normal} (Definition 4)
abbrev pub kind_of : Card → (j n : ℕ) → ℕ
kind_of c j n = (place_at c (first_place c j + n)).kind

-- P_mp(j), the input, output and input-output places of a macroplace (Definition 4). Document 01's term: an interface place, one whose kind
-- isn't normal.
abbrev pub Interface : Card → (j n : ℕ) → Type 0
Interface c j n = IsPlace c j n × (kind_of c j n ≢ normal)

-- mpⱼ ∈ MPᵢ, the internal macroplaces of Nᵢ (Definition 5). Document 01's term: a child. Children of a subnet are the others naming it as
-- parent, in number order.
abbrev pub Child : Card → (i j : ℕ) → Type 0
Child c i j = (j ≢ i) × (j < length c.subnets) × ((subnet_at c j).parent ≡ i)

abbrev pub is_child : Card → (i j : ℕ) → Bool
is_child c i j = not (eqb j i) && ltb j (length c.subnets) && eqb (subnet_at c j).parent i

unfoldable pub children : Card → (i : ℕ) → List ℕ
children c i = keep (is_child c i) (table 0 (length c.subnets) (λ j. j))

abbrev pub child : Card → (i k : ℕ) → ℕ
child c i k = get_or (children c i) k 0

-- P'ᵢ ∪ P''ᵢ, the places that Nᵢ owns, and Pᵢⁱⁿ, Pᵢᵒᵘᵗ, Pᵢⁱᵒ, those of one kind of its internal macroplaces (Definition 5)
abbrev pub Own : Card → (i j n : ℕ) → Type 0
Own c i j n = (j ≡ i) × IsPlace c j n

abbrev pub OfKind : Card → (kind i j n : ℕ) → Type 0
OfKind c kind i j n = Child c i j × IsPlace c j n × (kind_of c j n ≡ kind)

-- Pᵢ, the places that Nᵢ sees: its own, and the interface places of its children; nobody else sees them (equations 6 and 12)
abbrev pub Sees : Card → (i j n : ℕ) → Type 0
Sees c i j n = Own c i j n ⊎ (Child c i j × Interface c j n)

-- Rᵢ ⊆ ((P'ᵢ ∪ P''ᵢ ∪ Pᵢᵒᵘᵗ ∪ Pᵢⁱᵒ) × Tᵢ) ∪ (Tᵢ × (P'ᵢ ∪ P''ᵢ ∪ Pᵢⁱⁿ ∪ Pᵢⁱᵒ)) (Definition 5). At a child's place, kind in takes direction 1
-- only, out takes direction 0 only, in-out both. Within the owner both are free.
pub record Incident (c : Card) (i : ℕ) (a : Arc) : Type 0 where
  pub from : a.direction ≡ draws
      → Own c i a.subnet a.place ⊎ (OfKind c output i a.subnet a.place ⊎ OfKind c in_out i a.subnet a.place)
  pub to : a.direction ≡ fills
      → Own c i a.subnet a.place ⊎ (OfKind c input i a.subnet a.place ⊎ OfKind c in_out i a.subnet a.place)

-- Wᵢ : Rᵢ → ℕ, the numbers 1, 2, .., with W ≤ K (Definitions 1 and 5). Weight is 1 to the place's capacity.
pub record Weighted (c : Card) (a : Arc) : Type 0 where
  pub positive : 1 ≤ a.weight
  pub fits : a.weight ≤ (place_of c a).capacity

-- two arcs of one transition are the same pair of Rᵢ
pub record Repeats (a b : Arc) : Type 0 where
  pub direction : a.direction ≡ b.direction
  pub subnet : a.subnet ≡ b.subnet
  pub place : a.place ≡ b.place

-- Two arcs of one transition are a self-loop (document 02's term: a loop): an arc of each direction at one place, (p, t) ∈ Rᵢ and (t, p) ∈ Rᵢ.
pub record SelfLoop (a b : Arc) : Type 0 where
  pub directions : a.direction ≢ b.direction
  pub subnet : a.subnet ≡ b.subnet
  pub place : a.place ≡ b.place

-- Transition t of Nᵢ.
pub record TransitionConditions (c : Card) (i t : ℕ) : Type 0 where
  -- An arc names a place of its own subnet, or an interface place of a direct child.
  pub sees : (j : ℕ) → j < (transition_at c t).arcs → Sees c i (arc_at c t j).subnet (arc_at c t j).place
  pub incident : (j : ℕ) → j < (transition_at c t).arcs → Incident c i (arc_at c t j)
  pub weighted : (j : ℕ) → j < (transition_at c t).arcs → Weighted c (arc_at c t j)
  -- Rᵢ is a relation: one transition has at most one arc per place and direction.
  pub single : (h j : ℕ) → h < j → j < (transition_at c t).arcs → ¬ Repeats (arc_at c t h) (arc_at c t j)
  -- CR 2: a transition may draw from and fill one place; it then needs both weights within the capacity together. By the two enabling conditions,
  -- M(p) ≥ W(p,t)/K(p) and M(p) ≤ 1 - W(t,p)/K(p) (Definition 2, (1) and (2)), some marking of p must meet both.
  pub loops : (h j : ℕ) → h < j → j < (transition_at c t).arcs → SelfLoop (arc_at c t h) (arc_at c t j)
      → (arc_at c t h).weight + (arc_at c t j).weight ≤ (place_of c (arc_at c t j)).capacity
  -- (p', t) ∈ R or (t, p') ∈ R for a p' ∈ P', where K(p') = 1 (Definition 1): every transition has an arc, of either direction, at a place of
  -- capacity 1.
  pub unit : (j : ℕ) × (j < (transition_at c t).arcs) × ((place_of c (arc_at c t j)).capacity ≡ 1)

-- P_mp(i) is not empty (Definition 4): every subnet but 0 owns an interface place.
abbrev pub HasInterface : Card → (i : ℕ) → Type 0
HasInterface c i = (n : ℕ) × Interface c i n

-- Two subnets of one nonzero type (INS of Definition 4) are alike, in document 01's sense. Signals and first tokens may differ.
-- Their places: equal kinds and capacities.
pub record AlikePlaces (p q : Place) : Type 0 where
  pub kind : p.kind ≡ q.kind
  pub capacity : p.capacity ≡ q.capacity

-- their arcs: equal direction, weight and place number, in the own subnet or in the k-th child of both
pub record AlikeArcs (c : Card) (r s : ℕ) (a b : Arc) : Type 0 where
  pub direction : a.direction ≡ b.direction
  pub weight : a.weight ≡ b.weight
  pub place : a.place ≡ b.place
  pub subnet : ((a.subnet ≡ r) × (b.subnet ≡ s)) ⊎ ((k : ℕ) × (k < length (children c r)) × ((a.subnet ≡ child c r k) × (b.subnet ≡ child c s k)))

pub record AlikeTransitions (c : Card) (r s t u : ℕ) : Type 0 where
  pub arc_count : (transition_at c t).arcs ≡ (transition_at c u).arcs
  pub arcs : (j : ℕ) → j < (transition_at c t).arcs → AlikeArcs c r s (arc_at c t j) (arc_at c u j)

-- of equal nonzero type; type 0 compares nothing
pub record SameType (c : Card) (r s : ℕ) : Type 0 where
  pub type : (subnet_at c r).type ≡ (subnet_at c s).type
  pub typed : (subnet_at c s).type ≢ 0

pub record Alike (c : Card) (r s : ℕ) : Type 0 where
  pub place_count : (subnet_at c r).places ≡ (subnet_at c s).places
  pub places : (n : ℕ) → n < (subnet_at c r).places → AlikePlaces (place_at c (first_place c r + n)) (place_at c (first_place c s + n))
  pub child_count : length (children c r) ≡ length (children c s)
  pub children : (k : ℕ) → k < length (children c r) → SameType c (child c r k) (child c s k)
  pub transition_count : (subnet_at c r).transitions ≡ (subnet_at c s).transitions
  pub transitions : (k : ℕ) → k < (subnet_at c r).transitions → AlikeTransitions c r s (first_transition c r + k) (first_transition c s + k)

pub record Conditions (c : Card) : Type 0 where
  pub transitions : (i t : ℕ) → i < length c.subnets → first_transition c i ≤ t → t < first_transition c (suc i) → TransitionConditions c i t
  pub interfaces : (i : ℕ) → i < length c.subnets → i ≢ 0 → HasInterface c i
  pub types : (r s : ℕ) → r < s → s < length c.subnets → SameType c r s → Alike c r s

-- all that is asked of a card: 'The card' and 'Conditions on the hierarchy' of document 01, and CR 2
pub record Meets (c : Card) : Type 0 where
  pub wellformed : Wellformed c
  pub conditions : Conditions c
