-- A list of row calls and what comes of it ('The two runners': demand 3 is one claim about the whole list of row calls, and not one for each
-- call).
use Rattle.std.specs.Prelude.{◌≡◌, ℕ, ◌<◌, ◌≤◌, true, List, [], ◌∷◌, map, length}
use Rattle.card.specs.Finite.{All}
use Rattle.card.specs.Card.{Card}
use Rattle.hierarchy.specs.Judgement.{accepted, judge}
use Rattle.flattening.specs.Flattening.{flatten}
use Rattle.runners.specs.Numbers.{RowOutcome}
use Rattle.runners.specs.State.{NetState, entry, fresh, full_marking}
use Rattle.runners.specs.Rows.{Ask, step}
use Rattle.runners.specs.Calls.{view, in_state, fresh_call, each_once, flat_ask, subnet_ask}
use Rattle.runners.specs.Visits.{VisitsAlike}
use Rattle.runners.specs.declared.State.{State as Lent}

-- Each reply with the state after it. Each call gets the state that the call before returned or left.
unfoldable pub trace : {S C : Type 0} → (S → C → RowOutcome × S) → S → List C → List (RowOutcome × S)
trace call s [] = []
trace call s (c ∷ cs) = call s c ∷ trace call (call s c).1 cs

-- what is asked (a row), and the visiting order that the subnet runner is lent for it
pub record Call : Type 0 where
  pub ask : Ask
  pub order : List ℕ

-- the two runners, and what tests 20 and 21, and then the step, give on the flat net, run on what is asked alone
abbrev pub flat_trace : (card : List ℕ) → Lent → List Call → List (RowOutcome × Lent)
flat_trace card = trace (λ l k. flat_ask in_state card l k.ask)

abbrev pub subnet_trace : (card : List ℕ) → Lent → List Call → List (RowOutcome × Lent)
subnet_trace card = trace (λ l k. subnet_ask in_state card k.order l k.ask)

abbrev pub net_trace : (f : Card) → NetState → List Call → List (RowOutcome × NetState)
net_trace f = trace (λ s k. step f s k.ask)

-- a reply, with the state that a lent one holds
abbrev pub observed : RowOutcome × Lent → RowOutcome × NetState
observed x = (x.0, view x.1)

-- every marking is 0 to 1000 × K
abbrev pub Bounded : (f : Card) → NetState → Type 0
Bounded f s = (p : ℕ) → p < length f.places → entry s.markings p ≤ full_marking f p

-- At the start and after each call the replies and states of both runners are equal, and those of the paper's own step on the flat net, run
-- from its own fresh state; and every marking is in range. A runner's first call gets the state that the call for a fresh one returns.
pub record Agreement (card : List ℕ) (c : Card) (calls : List Call) : Type 0 where
  pub start : view (fresh_call card).1 ≡ fresh (flatten c)
  pub runners : subnet_trace card (fresh_call card).1 calls ≡ flat_trace card (fresh_call card).1 calls
  pub net : map observed (flat_trace card (fresh_call card).1 calls) ≡ net_trace (flatten c) (fresh (flatten c)) calls
  pub bounded : All (Bounded (flatten c)) (fresh (flatten c) ∷ map (λ x. x.1) (net_trace (flatten c) (fresh (flatten c)) calls))

-- Demand 3: for every accepted card and every list of row calls, refused and empty rows among them, whatever the valid visiting orders, the
-- runners agree; and no visit's outcome hangs on a place that its subnet cannot see.
pub record Demand3 : Type 0 where
  pub agree : (card : List ℕ) (c : Card) (calls : List Call) → judge card ≡ accepted c
      → All (λ k. each_once (length c.subnets) k.order ≡ true) calls → Agreement card c calls
  pub local : VisitsAlike
