-- What a visit does for one of its transitions, and for some of them in a row: the contracts of the functions that a visit is made of.
use Rattle.std.specs.Prelude.{◌≡◌, ℕ, ◌+◌, ◌-◌, ◌*◌, ◌<◌, ◌≤◌, cond, ◌&&◌, List, length, ◌==◌, slice_set}
use Rattle.card.specs.Finite.{sum_to}
use Rattle.card.specs.Card.{Card, draws, fills}
use Rattle.flattening.specs.Flattening.{flatten}
use Rattle.hierarchy.specs.Conditions.{Meets}
use Rattle.runners.specs.State.{transfer, incidence}
use Rattle.runners.specs.Step.{candidate_on, arrives_on}
use Rattle.runners.specs.Columns.{Moved, Grown, noted, with_standing, with_candidates, with_moved}
use Rattle.runners.specs.declared.work.Work.{Work}
use Rattle.runners.specs.Visits.{Round, posting, finding, moving, Turn, amount, turn_in}

-- v at place p of an arc, for arcs of this direction
abbrev pub share : (way direction p v q : ℕ) → ℕ
share way direction p v q = cond (direction == way && p == q) v 0

-- what transition t posts or moves at place p
abbrev pub part : Round → Turn → (t direction p : ℕ) → ℕ
part r i t direction p = amount r i t * incidence (flatten i.card) direction t p

-- one transition
pub record PostsOne (t : ℕ) (i : Turn) (a a' : Work) : Type 0 where
  pub only : a' ≡ with_standing a a'.standing
  pub owed : Grown a.standing.owed a'.standing.owed (part posting i t draws)
  pub due : Grown a.standing.due a'.standing.due (part posting i t fills)

pub record FindsOne (t : ℕ) (i : Turn) (a a' : Work) : Type 0 where
  pub only : a' ≡ with_candidates a a'.claimed a'.candidates
  pub owed : Grown a.claimed.owed a'.claimed.owed (part finding i t draws)
  pub due : Grown a.claimed.due a'.claimed.due (part finding i t fills)
  pub candidates : a'.candidates ≡ slice_set a.candidates t (candidate_on (flatten i.card) i.standing i.state i.row t)

pub record MovesOne (t : ℕ) (i : Turn) (a a' : Work) : Type 0 where
  pub only : a' ≡ with_moved a a'.state.markings a'.state.transfers
  pub markings : Moved a.state.markings a'.state.markings (part moving i t draws) (part moving i t fills)
  pub transfers : a'.state.transfers ≡ slice_set a.state.transfers t (arrives_on (flatten i.card) i.found i.state i.row t)

abbrev pub DoesOne : Round → (t : ℕ) → Turn → (a a' : Work) → Type 0
DoesOne posting t i a a' = PostsOne t i a a'
DoesOne finding t i a a' = FindsOne t i a a'
DoesOne moving t i a a' = MovesOne t i a a'

abbrev pub IsOne : Round → (t : ℕ) → Card → (row : List ℕ) → (a a' : Work) → Type 0
IsOne r t c row a a' = Meets c → DoesOne r t (turn_in c row a) a a'

-- the transitions from first up to end
abbrev pub span_sum : Round → Turn → (first end direction p : ℕ) → ℕ
span_sum r i first end direction p = sum_to (end - first) (λ k. part r i (first + k) direction p)

pub record PostsSpan (first end : ℕ) (i : Turn) (a a' : Work) : Type 0 where
  pub only : a' ≡ with_standing a a'.standing
  pub owed : Grown a.standing.owed a'.standing.owed (span_sum posting i first end draws)
  pub due : Grown a.standing.due a'.standing.due (span_sum posting i first end fills)

pub record FindsSpan (first end : ℕ) (i : Turn) (a a' : Work) : Type 0 where
  pub only : a' ≡ with_candidates a a'.claimed a'.candidates
  pub owed : Grown a.claimed.owed a'.claimed.owed (span_sum finding i first end draws)
  pub due : Grown a.claimed.due a'.claimed.due (span_sum finding i first end fills)
  pub long : length a'.candidates ≡ length a.candidates
  pub own : (t : ℕ) → first ≤ t → t < end → t < length a.candidates → noted a'.candidates t ≡ candidate_on (flatten i.card) i.standing i.state i.row t
  pub others : (t : ℕ) → ¬ ((first ≤ t) × (t < end)) → noted a'.candidates t ≡ noted a.candidates t

pub record MovesSpan (first end : ℕ) (i : Turn) (a a' : Work) : Type 0 where
  pub only : a' ≡ with_moved a a'.state.markings a'.state.transfers
  pub markings : Moved a.state.markings a'.state.markings (span_sum moving i first end draws) (span_sum moving i first end fills)
  pub long : length a'.state.transfers ≡ length a.state.transfers
  pub own : (t : ℕ) → first ≤ t → t < end → t < length a.state.transfers
      → transfer a'.state.transfers t ≡ arrives_on (flatten i.card) i.found i.state i.row t
  pub others : (t : ℕ) → ¬ ((first ≤ t) × (t < end)) → transfer a'.state.transfers t ≡ transfer a.state.transfers t

abbrev pub DoesSpan : Round → (first end : ℕ) → Turn → (a a' : Work) → Type 0
DoesSpan posting first end i a a' = PostsSpan first end i a a'
DoesSpan finding first end i a a' = FindsSpan first end i a a'
DoesSpan moving first end i a a' = MovesSpan first end i a a'

abbrev pub IsSpan : Round → (first end : ℕ) → Card → (row : List ℕ) → (a a' : Work) → Type 0
IsSpan r first end c row a a' = Meets c → first ≤ end → DoesSpan r first end (turn_in c row a) a a'
