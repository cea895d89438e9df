-- Both runners on a file of calls: a corollary of Demand 3 as a function of the code.
use Rattle.std.specs.Prelude.{ℕ, ◌+◌, ◌*◌, ◌/◌, ◌≡◌, ◌↔◌, Bool, true, false, List, map, length, take, drop, Option, MatchOption}
use Rattle.card.specs.Finite.{table, All}
use Rattle.card.specs.Bits.{bytes_for}
use Rattle.card.specs.Card.{Card}
use Rattle.hierarchy.specs.Judgement.{accepted, judge}
use Rattle.hierarchy.specs.Judgement
use Rattle.runners.specs.Rows.{row, row_width, row_of}
use Rattle.runners.specs.Calls.{fresh_call, in_state, each_once, flat_ask, subnet_ask}
use Rattle.runners.specs.Traces.{Call, flat_trace, subnet_trace, observed}
use Rattle.runners.specs.declared.State.{State as Lent}
use Rattle.programs.specs.declared.agree.Both.{Both}

-- Calls in a file: a row's bytes as in a rows file, and then the visiting order, a byte a subnet.
abbrev pub row_size : Card → ℕ
row_size c = bytes_for (row_width c)

abbrev pub call_size : Card → ℕ
call_size c = row_size c + length c.subnets

abbrev pub call_of : Card → (bytes : List ℕ) → Call
call_of c bytes = record { ask = row (row_of c (take (row_size c) bytes)); order = drop (row_size c) bytes }

abbrev pub call_at : Card → (file : List ℕ) → (k : ℕ) → Call
call_at c file k = call_of c (take (call_size c) (drop (call_size c * k) file))

-- a short last piece is no call
abbrev pub calls_of : Card → (file : List ℕ) → List Call
calls_of c file = table 0 (length file / call_size c) (call_at c file)

-- the replies of both runners and the states after them are equal, call by call, each runner from its own state
abbrev pub Agrees : (card : List ℕ) → (flat subnet : Lent) → List Call → Type 0
Agrees card flat subnet calls = map observed (subnet_trace card subnet calls) ≡ map observed (flat_trace card flat calls)

-- One answer for each card and file: no for a refused card; else whether both runners agree from fresh states, which they do wherever the
-- orders are valid.
pub record IsAgreed (card file : List ℕ) (r : Bool) : Type 0 where
  pub turned_back : (n at : ℕ) → judge card ≡ Judgement.refused n at → r ≡ false
  pub exact : (c : Card) → judge card ≡ accepted c → (r ≡ true) ↔ Agrees card (fresh_call card).1 (fresh_call card).1 (calls_of c file)
  pub always : (c : Card) → judge card ≡ accepted c → All (λ k. each_once (length c.subnets) k.order ≡ true) (calls_of c file) → r ≡ true

-- whether both runners answer a call alike and leave equal states
abbrev pub Alike : (card : List ℕ) → (flat subnet : Lent) → Call → Type 0
Alike card flat subnet k = observed (subnet_ask in_state card k.order subnet k.ask) ≡ observed (flat_ask in_state card flat k.ask)

-- A call of both runners, as the code hands it out: the states that it leaves, where they are alike.
pub record LeavesBoth (card : List ℕ) (k : Call) (x : Both) (r : Both) : Type 0 where
  pub alike : Alike card x.flat x.subnet k
  pub flat : r.flat ≡ (flat_ask in_state card x.flat k.ask).1
  pub subnet : r.subnet ≡ (subnet_ask in_state card k.order x.subnet k.ask).1

abbrev pub IsBoth : (card : List ℕ) → Call → (before : Both) → Option Both → Type 0
IsBoth card k x r = MatchOption r (¬ Alike card x.flat x.subnet k) (LeavesBoth card k x)
