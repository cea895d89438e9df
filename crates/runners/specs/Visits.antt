-- What a visit of the subnet runner may read, and what it posts, starts and moves ('The two runners'), in the terms of the step. A card here
-- is one as it was read, with its subnets.
use Rattle.std.specs.Prelude.{◌≡◌, ℕ, suc, ◌+◌, ◌*◌, ◌%◌, ◌<◌, ◌≤◌, Bool, cond, ◌≢◌, List, length}
use Rattle.card.specs.Finite.{sum_to}
use Rattle.card.specs.Card.{Card, draws, fills, subnet_at, place_at, transition_at, arc_at, first_place, first_transition}
use Rattle.hierarchy.specs.Conditions.{Meets, Sees}
use Rattle.flattening.specs.Flattening.{flatten}
use Rattle.runners.specs.State.{NetState, scale, entry, transfer, remaining, incidence, Claims, claims}
use Rattle.runners.specs.Step.{candidate_on, candidate, moves_on, arrives_on}
use Rattle.runners.specs.Columns.{word, Moved, Grown, noted, posted, state_in, with_standing, with_candidates, with_moved}
use Rattle.runners.specs.declared.work.Work.{Work}

-- The subnet runner keeps, for each subnet, the markings it owns and its transitions: the places and transitions from its first flat number
-- up to the next subnet's.
pub record OwnsTransition (c : Card) (s t : ℕ) : Type 0 where
  pub low : first_transition c s ≤ t
  pub high : t < first_transition c (suc s)

-- It visits the subnets three times: to post standing claims, to find candidates and post theirs, and, if the board shows no conflict, to move.
pub data Round : Type 0 where
  posting finding moving : Round

-- All that there is in a visit's turn of a row: the card, the state, the effective row, the standing claims on the board, and the candidates
-- that were found. (The verdict is no part of it: it decides whether third visits are made.)
pub record Turn : Type 0 where
  pub card : Card
  pub state : NetState
  pub row : List ℕ
  pub standing : Claims
  pub found : ℕ → Bool

-- The part of its weights, in thousandths, that transition t posts or moves: what remains of its transfer; all of it, of a candidate; how far it
-- moves in the step.
abbrev pub amount : Round → Turn → (t : ℕ) → ℕ
amount posting i t = remaining (flatten i.card) (transfer i.state.transfers t)
amount finding i t = cond (candidate_on (flatten i.card) i.standing i.state i.row t) (scale (flatten i.card)) 0
amount moving i t = moves_on (flatten i.card) i.found i.state i.row t

-- what the visit of subnet s posts or moves at flat place p: the sum over its own transitions
unfoldable pub effect : Round → (s : ℕ) → Turn → (direction p : ℕ) → ℕ
effect r s i direction p =
    sum_to (subnet_at i.card s).transitions
    (λ k. amount r i (first_transition i.card s + k) * incidence (flatten i.card) direction (first_transition i.card s + k) p)

-- Two turns that are equal in all that a visit may read.
-- A transition of the subnet, with its flat number t: its signal and arcs (the subnet's part of the card), and its transfer.
pub record SameTransition (i j : Turn) (t : ℕ) : Type 0 where
  pub row : transition_at i.card t ≡ transition_at j.card t
  pub arcs : (n : ℕ) → n < (transition_at i.card t).arcs → arc_at i.card t n ≡ arc_at j.card t n
  pub transfers : transfer i.state.transfers t ≡ transfer j.state.transfers t

-- a place that it sees: its flat number, capacity, marking and standing claims
pub record SamePlace (i j : Turn) (q n : ℕ) : Type 0 where
  pub capacities : (place_at i.card (first_place i.card q + n)).capacity ≡ (place_at j.card (first_place j.card q + n)).capacity
  pub markings : entry i.state.markings (first_place i.card q + n) ≡ entry j.state.markings (first_place j.card q + n)
  pub owed : i.standing.owed (first_place i.card q + n) ≡ j.standing.owed (first_place j.card q + n)
  pub due : i.standing.due (first_place i.card q + n) ≡ j.standing.due (first_place j.card q + n)

-- its transitions with their flat numbers, the places it sees (their contents in the second visit only, the only one that reads them), the row
-- with the last degrees, and in the third visit also the candidates that its second one found, and the version (CR 3: which a visit may read; the
-- others do not)
pub record SameView (r : Round) (s : ℕ) (i j : Turn) : Type 0 where
  pub first : first_transition i.card s ≡ first_transition j.card s
  pub count : (subnet_at i.card s).transitions ≡ (subnet_at j.card s).transitions
  pub transitions : (t : ℕ) → OwnsTransition i.card s t → SameTransition i j t
  pub numbers : (q n : ℕ) → Sees i.card s q n → first_place i.card q + n ≡ first_place j.card q + n
  pub places : r ≡ finding → (q n : ℕ) → Sees i.card s q n → SamePlace i j q n
  pub row : (g : ℕ) → g < i.card.signals → entry i.row g ≡ entry j.row g
  pub degrees : (g : ℕ) → g < i.card.signals → entry i.state.degrees g ≡ entry j.state.degrees g
  pub found : r ≡ moving → (t : ℕ) → OwnsTransition i.card s t → i.found t ≡ j.found t
  pub version : r ≡ moving → i.card.version ≡ j.card.version

-- The step, judged on the state before the row: its own claims and candidates.
abbrev pub step_turn : Card → (before : NetState) → (row : List ℕ) → Turn
step_turn c before row =
    record {
      card = c;
      state = before;
      row = row;
      standing = claims (flatten c) before.transfers;
      found = candidate (flatten c) before row;
    }

-- The turn of subnet s, on what the row has made so far from the state before it: its own transfers and the last degrees are still those of
-- that state; in the second visit the places it sees have its markings, and all standing claims are posted there; in the third its
-- candidates are the step's.
pub record InTurn (r : Round) (s : ℕ) (i : Turn) (before : NetState) : Type 0 where
  pub transfers : (t : ℕ) → OwnsTransition i.card s t → transfer i.state.transfers t ≡ transfer before.transfers t
  pub degrees : (g : ℕ) → g < i.card.signals → entry i.state.degrees g ≡ entry before.degrees g
  pub places : r ≡ finding → (q n : ℕ) → Sees i.card s q n → SamePlace i (step_turn i.card before i.row) q n
  pub found : r ≡ moving → (t : ℕ) → OwnsTransition i.card s t → i.found t ≡ candidate (flatten i.card) before i.row t

-- flat place p is none that subnet s sees
abbrev pub Unseen : Card → (s p : ℕ) → Type 0
Unseen c s p = (q n : ℕ) → Sees c s q n → first_place c q + n ≢ p

-- What a visit does with what the row works on: just what turn i gives the subnet's own transitions.
-- The first posts standing claims;
pub record Posts (s : ℕ) (i : Turn) (a a' : Work) : Type 0 where
  pub only : a' ≡ with_standing a a'.standing
  pub owed : Grown a.standing.owed a'.standing.owed (effect posting s i draws)
  pub due : Grown a.standing.due a'.standing.due (effect posting s i fills)

-- the second posts its candidates' claims in two other columns, and notes its candidates;
pub record Finds (s : ℕ) (i : Turn) (a a' : Work) : Type 0 where
  pub only : a' ≡ with_candidates a a'.claimed a'.candidates
  pub owed : Grown a.claimed.owed a'.claimed.owed (effect finding s i draws)
  pub due : Grown a.claimed.due a'.claimed.due (effect finding s i fills)
  pub long : length a'.candidates ≡ length a.candidates
  pub own : (t : ℕ) → OwnsTransition i.card s t → t < length a.candidates
      → noted a'.candidates t ≡ candidate_on (flatten i.card) i.standing i.state i.row t

-- the third moves: markings and its own transfers.
pub record Moves (s : ℕ) (i : Turn) (a a' : Work) : Type 0 where
  pub only : a' ≡ with_moved a a'.state.markings a'.state.transfers
  pub markings : Moved a.state.markings a'.state.markings (effect moving s i draws) (effect moving s i fills)
  pub long : length a'.state.transfers ≡ length a.state.transfers
  pub own : (t : ℕ) → OwnsTransition i.card s t → t < length a.state.transfers
      → transfer a'.state.transfers t ≡ arrives_on (flatten i.card) i.found i.state i.row t

abbrev pub Does : Round → (s : ℕ) → Turn → (a a' : Work) → Type 0
Does posting s i a a' = Posts s i a a'
Does finding s i a a' = Finds s i a a'
Does moving s i a a' = Moves s i a a'

-- It changes nothing at other places or transitions.
pub record SameElsewhere (c : Card) (s : ℕ) (a a' : Work) : Type 0 where
  pub markings : (p : ℕ) → Unseen c s p → entry a'.state.markings p ≡ entry a.state.markings p
  pub standing_owed : (p : ℕ) → Unseen c s p → entry a'.standing.owed p ≡ entry a.standing.owed p
  pub standing_due : (p : ℕ) → Unseen c s p → entry a'.standing.due p ≡ entry a.standing.due p
  pub claimed_owed : (p : ℕ) → Unseen c s p → entry a'.claimed.owed p ≡ entry a.claimed.owed p
  pub claimed_due : (p : ℕ) → Unseen c s p → entry a'.claimed.due p ≡ entry a.claimed.due p
  pub transfers : (t : ℕ) → ¬ OwnsTransition c s t → transfer a'.state.transfers t ≡ transfer a.state.transfers t
  pub candidates : (t : ℕ) → ¬ OwnsTransition c s t → noted a'.candidates t ≡ noted a.candidates t

-- the turn that a row has come to, on a card
abbrev pub turn_in : Card → (row : List ℕ) → Work → Turn
turn_in c row k = record { card = c; state = state_in k; row = row; standing = posted k.standing; found = noted k.candidates }

-- The three facts of a visit's contract, about what it makes of a: in its turn of a row, what the step gives its own
-- subnet's transitions; the same as in every turn that is equal in all it may read; and nothing at other places or transitions.
pub record Facts (r : Round) (s : ℕ) (c : Card) (row : List ℕ) (a a' : Work) : Type 0 where
  pub right : (before : NetState) → InTurn r s (turn_in c row a) before → Does r s (step_turn c before row) a a'
  pub local : (j : Turn) → SameView r s (turn_in c row a) j → Does r s j a a'
  pub elsewhere : SameElsewhere c s a a'

-- A visit's contract: it holds the three facts on every card that meets the conditions.
abbrev pub IsVisit : Round → (s : ℕ) → Card → (row : List ℕ) → (a a' : Work) → Type 0
IsVisit r s c row a a' = Meets c → s < length c.subnets → Facts r s c row a a'

-- Two visits post, start and move the same: the columns by place have changed by the same, in 32 bits, and the subnet's own transitions are
-- candidates alike, and left alike.
abbrev pub SameChange : (a a' b b' : List ℕ) → Type 0
SameChange a a' b b' = (p : ℕ) → p < length a → p < length b → (entry a' p + entry b p) % word ≡ (entry b' p + entry a p) % word

pub record SameOutcome (r : Round) (s : ℕ) (c : Card) (a a' b b' : Work) : Type 0 where
  pub markings : SameChange a.state.markings a'.state.markings b.state.markings b'.state.markings
  pub standing_owed : SameChange a.standing.owed a'.standing.owed b.standing.owed b'.standing.owed
  pub standing_due : SameChange a.standing.due a'.standing.due b.standing.due b'.standing.due
  pub claimed_owed : SameChange a.claimed.owed a'.claimed.owed b.claimed.owed b'.claimed.owed
  pub claimed_due : SameChange a.claimed.due a'.claimed.due b.claimed.due b'.claimed.due
  pub candidates : r ≡ finding → (t : ℕ) → OwnsTransition c s t → t < length a.candidates → t < length b.candidates → noted a'.candidates t ≡ noted b'.candidates t
  pub transfers : r ≡ moving → (t : ℕ) → OwnsTransition c s t → t < length a.state.transfers → t < length b.state.transfers
      → transfer a'.state.transfers t ≡ transfer b'.state.transfers t

-- No visit's outcome hangs on a place that its subnet cannot see: any two visits of one round to one subnet, on any two cards, in any two rows and
-- on any columns, that are equal in all they may read post, start and move the same.
abbrev pub VisitsAlike : Type 0
VisitsAlike =
    (r : Round) (s : ℕ) (c d : Card) (row row₂ : List ℕ) (a a' b b' : Work)
    → IsVisit r s c row a a' → IsVisit r s d row₂ b b' → Meets c → Meets d → s < length c.subnets → s < length d.subnets
    → SameView r s (turn_in c row a) (turn_in d row₂ b) → SameOutcome r s c a a' b b'
