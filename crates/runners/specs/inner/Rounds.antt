-- The rounds: the visits of all subnets, in an order that names each once.
use Rattle.std.specs.Prelude.{◌≡◌, ℕ, ◌<◌, ◌≤◌, true, List, length}
use Rattle.card.specs.Card.{Card, draws, fills}
use Rattle.flattening.specs.Flattening.{flatten}
use Rattle.hierarchy.specs.Conditions.{Meets}
use Rattle.runners.specs.State.{NetState, transfer, flow}
use Rattle.runners.specs.Step.{candidate_on, arrives_on}
use Rattle.runners.specs.Calls.{each_once}
use Rattle.runners.specs.Columns.{Moved, Grown, noted, with_standing, with_candidates, with_moved}
use Rattle.runners.specs.declared.work.Work.{Work}
use Rattle.runners.specs.Visits.{Round, posting, finding, moving, Turn, amount, step_turn, InTurn, turn_in}

pub record AllPost (i : Turn) (a a' : Work) : Type 0 where
  pub only : a' ≡ with_standing a a'.standing
  pub owed : Grown a.standing.owed a'.standing.owed (flow (flatten i.card) (amount posting i) draws)
  pub due : Grown a.standing.due a'.standing.due (flow (flatten i.card) (amount posting i) fills)

pub record AllFind (i : Turn) (a a' : Work) : Type 0 where
  pub only : a' ≡ with_candidates a a'.claimed a'.candidates
  pub owed : Grown a.claimed.owed a'.claimed.owed (flow (flatten i.card) (amount finding i) draws)
  pub due : Grown a.claimed.due a'.claimed.due (flow (flatten i.card) (amount finding i) fills)
  pub noted : (t : ℕ) → t < length i.card.transitions → t < length a.candidates
      → noted a'.candidates t ≡ candidate_on (flatten i.card) i.standing i.state i.row t

pub record AllMove (i : Turn) (a a' : Work) : Type 0 where
  pub only : a' ≡ with_moved a a'.state.markings a'.state.transfers
  pub markings : Moved a.state.markings a'.state.markings (flow (flatten i.card) (amount moving i) draws) (flow (flatten i.card) (amount moving i) fills)
  pub transfers : (t : ℕ) → t < length i.card.transitions → t < length a.state.transfers
      → transfer a'.state.transfers t ≡ arrives_on (flatten i.card) i.found i.state i.row t
  pub long : length a'.state.transfers ≡ length a.state.transfers
  pub others : (t : ℕ) → length i.card.transitions ≤ t → transfer a'.state.transfers t ≡ transfer a.state.transfers t

abbrev pub DoesAll : Round → Turn → (a a' : Work) → Type 0
DoesAll posting i a a' = AllPost i a a'
DoesAll finding i a a' = AllFind i a a'
DoesAll moving i a a' = AllMove i a a'

-- Where each subnet is in its turn as the round begins, the round does what the step, judged on the state before the row, does.
abbrev pub IsRound : Round → (order : List ℕ) → Card → (row : List ℕ) → (a a' : Work) → Type 0
IsRound r order c row a a' =
    (before : NetState) → Meets c → each_once (length c.subnets) order ≡ true
    → ((s : ℕ) → s < length c.subnets → InTurn r s (turn_in c row a) before) → DoesAll r (step_turn c before row) a a'
