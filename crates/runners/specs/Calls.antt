-- The calls: a call for the fresh state, and a row call with the state that it is lent ('The two runners', 'Why a call is turned back').
use Rattle.std.specs.Prelude.{ℕ, Bool, true, ◌&&◌, List, ◌++◌, length, take, drop, replicate, ◌==◌, nat_eq, nat_le, nat_lt, slice_index}
use Rattle.std.proofs.Math.Option.{some}
use Rattle.card.specs.Finite.{every, any, some_unless, ◌otherwise◌}
use Rattle.card.specs.Card.{Card}
use Rattle.hierarchy.specs.Numbers.{CheckOutcome}
use Rattle.hierarchy.specs.Judgement.{Judgement, accepted, refused, judge, outcome_of}
use Rattle.flattening.specs.Flattening.{flatten}
use Rattle.runners.specs.Numbers.{RowOutcome}
use Rattle.runners.specs.Numbers
use Rattle.runners.specs.State.{NetState, scale, entry, transfer, fresh, covered}
use Rattle.runners.specs.Rows.{settle, degrees, Ask, row, Act, act_of}
use Rattle.runners.specs.declared.Transfer.{Transfer}
use Rattle.runners.specs.declared.Transfer.TheVariants.{Idle, Carrying}
use Rattle.runners.specs.declared.State.{State as Lent}
use Rattle.runners.specs.declared.Refusal.TheVariants.{BadState, BadOrder}

-- a lent state as a state
abbrev pub view : Lent → NetState
view l =
    record {
      markings = take l.places l.markings;
      transfers = take l.transitions l.transfers;
      degrees = take l.signals l.degrees;
    }

-- a state stored in a lent one; entries past its counts stay as they were
abbrev pub store : Lent → NetState → Lent
store l s =
    record {
      markings = s.markings ++ drop l.places l.markings;
      transfers = s.transfers ++ drop l.transitions l.transfers;
      degrees = s.degrees ++ drop l.signals l.degrees;
      places = l.places;
      transitions = l.transitions;
      signals = l.signals;
    }

-- a lent state of zeros and idle transitions
abbrev pub blank : (places transitions signals : ℕ) → Lent
blank places transitions signals =
    record {
      markings = replicate 255 0;
      transfers = replicate 255 Idle;
      degrees = replicate 63 0;
      places = places;
      transitions = transitions;
      signals = signals;
    }

-- the fresh state of a net
abbrev pub fresh_lent : Card → Lent
fresh_lent f = store (blank (length f.places) (length f.transitions) f.signals) (fresh f)

-- a call for the fresh state of a card: the check's answer, and a state; of a refused card, the blank state of no net
abbrev pub fresh_of : Judgement → CheckOutcome × Lent
fresh_of (accepted c) = (outcome_of (accepted c), fresh_lent (flatten c))
fresh_of (refused n at) = (outcome_of (refused n at), blank 0 0 0)

unfoldable pub fresh_call : (card : List ℕ) → CheckOutcome × Lent
fresh_call card = fresh_of (judge card)

-- 25: a lent state that breaks a range or length above, or has owed > m or m + due > 1000 × K somewhere. (Where every place is covered, each
-- marking is 0 to 1000 × K.)
abbrev pub in_range : Card → Transfer → Bool
in_range f Idle = true
in_range f (Carrying c) = nat_lt c (scale f)

unfoldable pub consistent : Card → NetState → Bool
consistent f s =
    every (length f.places) (covered f s.markings s.transfers)
    && every (length f.transitions) (λ t. in_range f (transfer s.transfers t))
    && every f.signals (λ g. nat_le (entry s.degrees g) (scale f))

-- How a state is lent: the state that a lent one holds, a state stored in a lent one, and whether its lengths are those of a net.
pub record Lending (S : Type 0) : Type 0 where
  pub view : S → NetState
  pub store : S → NetState → S
  pub fits : Card → S → Bool

unfoldable pub valid_in : {S : Type 0} → Lending S → Card → S → Bool
valid_in way f l = way.fits f l && consistent f (way.view l)

-- in the runners' struct
abbrev pub in_state : Lending Lent
in_state =
    record {
      view = view;
      store = store;
      fits = λ f l. (l.places == length f.places) && l.transitions == length f.transitions && (l.signals == f.signals);
    }

abbrev pub valid : Card → Lent → Bool
valid = valid_in in_state

-- 23: a visiting order is a list of S numbers naming each subnet once. (S entries that name each of S subnets name none twice, and nothing
-- else: the number of distinct subnets named equals S.)
abbrev pub names : (order : List ℕ) → (s : ℕ) → Bool
names order s = any (length order) (λ i. nat_eq (slice_index order i) s)

unfoldable pub each_once : (S : ℕ) → (order : List ℕ) → Bool
each_once S order = length order == S && every S (names order)

-- What a call is lent beside card and state: what it asks, and whether its visiting order is one (true where none is lent).
pub record Given : Type 0 where
  pub ask : Ask
  pub ordered : Bool

-- 25, 23, and then the call's own tests
abbrev pub lent_call : {S : Type 0} → Lending S → Card → (ordered : Bool) → Act → S → RowOutcome × S
lent_call way f ordered act l =
    let s = way.view l in
    settle (some_unless (valid_in way f l) BadState otherwise some_unless ordered BadOrder otherwise act.refusal s) l (way.store l (act.next s))

-- A CALL, on a state that is lent in any way. A row call tests the card (1 to 16, and 26), 25, 23, 20, 21, 22.
abbrev pub call_on : {S : Type 0} → Lending S → Judgement → (Card → Given) → S → RowOutcome × S
call_on way (refused n at) given l = (Numbers.RowOutcome.refused n (some at), l)
call_on way (accepted c) given l = lent_call way (flatten c) (given c).ordered (act_of (flatten c) (given c).ask) l

-- the flat runner
abbrev pub flat_ask : {S : Type 0} → Lending S → (card : List ℕ) → S → Ask → RowOutcome × S
flat_ask way card l ask = call_on way (judge card) (λ c. record { ask = ask; ordered = true }) l

-- the subnet runner, which is lent a visiting order
abbrev pub in_order : (order : List ℕ) → Card → Bool
in_order order c = each_once (length c.subnets) order

abbrev pub subnet_ask : {S : Type 0} → Lending S → (card order : List ℕ) → S → Ask → RowOutcome × S
subnet_ask way card order l ask = call_on way (judge card) (λ c. record { ask = ask; ordered = in_order order c }) l

-- their row calls, in the runners' struct
unfoldable pub flat_call : (card : List ℕ) → Lent → (row : List ℕ) → RowOutcome × Lent
flat_call card l r = flat_ask in_state card l (row (degrees r))

unfoldable pub subnet_call : (card order : List ℕ) → Lent → (row : List ℕ) → RowOutcome × Lent
subnet_call card order l r = subnet_ask in_state card order l (row (degrees r))

-- a row call on what a card was judged to be
abbrev pub called : (ordered : Card → Bool) → Judgement → Lent → (row : List ℕ) → RowOutcome × Lent
called ordered j l r = call_on in_state j (λ c. record { ask = row (degrees r); ordered = ordered c }) l
