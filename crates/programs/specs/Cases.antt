-- The starred cases ('Bench card A' and the list after it), bench card A's bytes (29, beginning hexadecimal 10 82), and cases of the requests: a
-- table of inputs and outcomes. proofs/Starred.antt shows that all of them hold.
use Rattle.std.specs.Prelude.{ℕ, length, take, drop}
use mathlib.Core.List.{List, [], ◌∷◌, flat_map}
use Rattle.std.proofs.Math.Option.{some}
use Rattle.card.specs.Bits.{bits_of, pack}
use Rattle.card.specs.Card.{Card, Subnet, Place, Transition, Arc, normal, input, in_out, draws, fills, with_version}
use Rattle.card.specs.Writing.{encode}
use Rattle.hierarchy.specs.Numbers.{CheckOutcome, accepted, refused}
use Rattle.hierarchy.specs.Judgement.{answer}
use Rattle.runners.specs.Numbers.{RowOutcome}
use Rattle.runners.specs.State.{NetState}
use Rattle.runners.specs.Calls.{store, blank, flat_call, subnet_call}
use Rattle.runners.specs.Traces.{observed}
use Rattle.runners.specs.declared.Transfer.{Transfer}
use Rattle.runners.specs.declared.Transfer.TheVariants.{Idle, Carrying}
use Rattle.runners.specs.declared.State.{State as Lent}
use Rattle.programs.specs.Text.{ascii}
use Rattle.programs.specs.Programs.{run_program}

-- tables, given to the writer; a card's bytes, given to the check; a card's bytes and the degrees of rows, given to the run program; a card's
-- bytes, a visiting order, a state and a row, lent to a call of each runner
pub data Input : Type 0 where
  bytes_of : (tables : Card) → Input
  check_of : (card : List ℕ) → Input
  run_of : (card : List ℕ) → (rows : List (List ℕ)) → Input
  call_of : (card order : List ℕ) → NetState → (row : List ℕ) → Input

pub data Result : Type 0 where
  spells : (bytes : List ℕ) → Result
  answers : CheckOutcome → Result
  prints : (text : List ℕ) → Result
  replies : (flat subnets : RowOutcome × NetState) → Result

abbrev pub rows_file : List (List ℕ) → List ℕ
rows_file = flat_map (λ row. pack (flat_map (bits_of 10) row))

-- a state as a call is lent it
abbrev pub lent : NetState → Lent
lent s = store (blank (length s.markings) (length s.transfers) (length s.degrees)) s

abbrev pub result : Input → Result
result (bytes_of tables) = spells (encode tables)
result (check_of card) = answers (answer card)
result (run_of card rows) = prints (run_program card (rows_file rows))
result (call_of card order s r) = replies (observed (flat_call card (lent s) r)) (observed (subnet_call card order (lent s) r))

pub record Case : Type 0 where
  pub given : Input
  pub expected : Result

infix 68 ◌gives◌
abbrev pub ◌gives◌ : Input → Result → Case
i gives r = record { given = i; expected = r }

-- rows of tables
abbrev pub subnet : (parent type places transitions : ℕ) → Subnet
subnet parent type places transitions = record { parent = parent; type = type; places = places; transitions = transitions }

abbrev pub place : (kind capacity tokens : ℕ) → Place
place kind capacity tokens = record { kind = kind; capacity = capacity; tokens = tokens }

abbrev pub transition : (signal arcs : ℕ) → Transition
transition signal arcs = record { signal = signal; arcs = arcs; rank = 0 }

abbrev pub from : (subnet place weight : ℕ) → Arc
from subnet place weight = record { direction = draws; subnet = subnet; place = place; weight = weight }

abbrev pub to : (subnet place weight : ℕ) → Arc
to subnet place weight = record { direction = fills; subnet = subnet; place = place; weight = weight }

-- Bench card A, by what the cases change in it: subnet 1's parent, the kind of place (1,0), subnet 0's second arc
abbrev pub tables_a : (parent kind : ℕ) → Arc → Card
tables_a parent kind second =
    record {
      version = 1;
      signals = 2;
      limit = 0;
      scale = 0;
      subnets = subnet 0 0 1 1 ∷ subnet parent 0 2 1 ∷ [];
      places = place normal 1 1 ∷ place kind 1 0 ∷ place normal 2 0 ∷ [];
      transitions = transition 0 2 ∷ transition 1 2 ∷ [];
      arcs = from 0 0 1 ∷ second ∷ from 1 0 1 ∷ to 1 1 1 ∷ [];
    }

abbrev pub bench : (parent kind : ℕ) → Arc → List ℕ
bench parent kind second = encode (tables_a parent kind second)

abbrev pub A : List ℕ
A = bench 0 input (to 1 0 1)

-- CR 3: bench card A as another version
abbrev pub version_a : (version : ℕ) → Card
version_a version = with_version version (tables_a 0 input (to 1 0 1))

-- place 0 and two takers of weight w, each of which fills an empty place of its own: card B has capacity, tokens and weight 1
abbrev pub takers : (capacity tokens w : ℕ) → List ℕ
takers capacity tokens w =
    encode (record {
      version = 1;
      signals = 2;
      limit = 0;
      scale = 0;
      subnets = subnet 0 0 3 2 ∷ [];
      places = place normal capacity tokens ∷ place normal 1 0 ∷ place normal 1 0 ∷ [];
      transitions = transition 0 2 ∷ transition 1 2 ∷ [];
      arcs = from 0 0 w ∷ to 0 1 1 ∷ from 0 0 w ∷ to 0 2 1 ∷ [];
    })

abbrev pub B : List ℕ
B = takers 1 1 1

-- place 0, of capacity 2 with one token, and two fillers of 1, each from a full place of its own
abbrev pub fillers : List ℕ
fillers =
    encode (record {
      version = 1;
      signals = 2;
      limit = 0;
      scale = 0;
      subnets = subnet 0 0 3 2 ∷ [];
      places = place normal 2 1 ∷ place normal 1 1 ∷ place normal 1 1 ∷ [];
      transitions = transition 0 2 ∷ transition 1 2 ∷ [];
      arcs = from 0 1 1 ∷ to 0 0 1 ∷ from 0 2 1 ∷ to 0 0 1 ∷ [];
    })

-- CR 2: the three arcs of subnet 0's transition; place (1,0) is an in-out place with one token
abbrev pub looped : (capacity : ℕ) → (first second third : Arc) → List ℕ
looped capacity first second third =
    encode (record {
      version = 1;
      signals = 2;
      limit = 0;
      scale = 0;
      subnets = subnet 0 0 1 1 ∷ subnet 0 0 2 1 ∷ [];
      places = place normal 1 0 ∷ place in_out capacity 1 ∷ place normal 1 0 ∷ [];
      transitions = transition 0 3 ∷ transition 1 2 ∷ [];
      arcs = first ∷ second ∷ third ∷ from 1 0 1 ∷ to 1 1 1 ∷ [];
    })

abbrev pub row : (a b : ℕ) → List ℕ
row a b = a ∷ b ∷ []

-- CR 1: an empty row as a rows file of two signals has it, and as a call is given it
abbrev pub marks : List ℕ
marks = row 1023 1023

abbrev pub empty : List ℕ
empty = []

-- three places and two transitions on two signals, as cards A and B have them
abbrev pub state : (m₀ m₁ m₂ : ℕ) → (x y : Transfer) → (a b : ℕ) → NetState
state m₀ m₁ m₂ x y a b = record { markings = m₀ ∷ m₁ ∷ m₂ ∷ []; transfers = x ∷ y ∷ []; degrees = a ∷ b ∷ [] }

-- both runners give this reply and leave this state
abbrev pub both : RowOutcome → NetState → Result
both o s = replies (o, s) (o, s)

abbrev pub cases : List Case
cases =
    bytes_of (tables_a 0 input (to 1 0 1)) gives spells (0x10 ∷ 0x82 ∷ 0x00 ∷ 0x00 ∷ 0x40 ∷ 0x40 ∷ 0x10 ∷ 0x10 ∷ 0x04 ∷ 0x00 ∷ 0x00 ∷ 0x0c ∷ 0x20
    ∷ 0x00 ∷ 0x20 ∷ 0x00 ∷ 0x10 ∷ 0x0a ∷ 0x02 ∷ 0x00 ∷ 0x01 ∷ 0x00 ∷ 0x02 ∷ 0x20 ∷ 0x40 ∷ 0x00 ∷ 0x61 ∷ 0x01 ∷ 0x01 ∷ [])
    ∷ check_of A gives answers (accepted 2 3 2)
    ∷ check_of [] gives answers (refused 1 0)
    ∷ check_of (take 28 A) gives answers (refused 1 224)
    ∷ check_of (bench 1 input (to 1 0 1)) gives answers (refused 4 115)
    ∷ check_of (bench 0 input (to 1 1 1)) gives answers (refused 10 93)
    ∷ check_of (bench 0 input (from 1 0 1)) gives answers (refused 11 93)
    ∷ check_of (bench 0 input (to 1 0 2)) gives answers (refused 12 93)
    ∷ check_of (bench 0 normal (to 1 0 1)) gives answers (refused 10 93)
    ∷ run_of A (row 400 0 ∷ row 300 500 ∷ row 1000 500 ∷ row 1000 500 ∷ row 1000 900 ∷ row 0 1001 ∷ []) gives prints (ascii
    "1 ok 600 400 0 | 400 -\n2 ok 600 400 0 | 400 -\n3 ok 0 1000 0 | - -\n4 ok 0 1000 0 | - 0\n5 ok 0 600 400 | - 400\n6 no 21 1\n")
    ∷ run_of B (row 500 500 ∷ []) gives prints (ascii "1 no 22 0\n")
    ∷ run_of B (row 500 0 ∷ row 500 500 ∷ []) gives prints (ascii "1 ok 500 500 0 | 500 -\n2 ok 500 500 0 | 500 -\n")
    ∷ run_of (takers 3 2 1) (row 500 500 ∷ []) gives prints (ascii "1 ok 1000 500 500 | 500 500\n")
    ∷ run_of (takers 3 2 2) (row 500 500 ∷ []) gives prints (ascii "1 no 22 0\n")
    ∷ run_of fillers (row 500 500 ∷ []) gives prints (ascii "1 no 22 0\n")
    ∷ run_of A (marks ∷ row 1000 500 ∷ marks ∷ marks ∷ row 1000 900 ∷ row 400 1023 ∷ row 1023 900 ∷ []) gives prints (ascii
    "1 ok 1000 0 0 | - -\n2 ok 0 1000 0 | - -\n3 ok 0 1000 0 | - 0\n4 ok 0 1000 0 | - 0\n5 ok 0 600 400 | - 400\n6 no 21 1\n7 no 21 0\n")
    ∷ call_of A (1 ∷ 0 ∷ []) (state 0 1000 0 Idle Idle 1000 500) empty gives both RowOutcome.ok (state 0 1000 0 Idle (Carrying 0) 1000 500)
    ∷ call_of A (1 ∷ 0 ∷ []) (state 0 1000 0 Idle Idle 1000 500) marks gives both (RowOutcome.refused 21 (some 0)) (state 0 1000 0 Idle Idle 1000 500)
    ∷ call_of B (0 ∷ []) (state 1000 0 0 Idle Idle 500 500) empty gives both (RowOutcome.refused 22 (some 0)) (state 1000 0 0 Idle Idle 500 500)
    ∷ check_of (bench 0 input (to 0 0 1)) gives answers (refused 26 93)
    ∷ check_of (bench 0 input (to 0 0 2)) gives answers (refused 12 93)
    ∷ check_of (looped 2 (from 1 0 1) (to 1 0 1) (to 0 0 1)) gives answers (accepted 2 3 2)
    ∷ check_of (looped 2 (from 1 0 1) (to 1 0 1) (from 1 0 2)) gives answers (refused 13 115)
    ∷ check_of (looped 3 (from 1 0 2) (to 1 0 2) (to 0 0 1)) gives answers (refused 26 93)
    ∷ check_of (looped 3 (to 1 0 2) (from 1 0 2) (to 0 0 1)) gives answers (refused 26 93)
    ∷ bytes_of (version_a 2) gives spells (0x20 ∷ 0x82 ∷ drop 2 A)
    ∷ check_of (encode (version_a 0)) gives answers (refused 2 0)
    ∷ check_of (encode (version_a 3)) gives answers (refused 2 0)
    ∷ run_of (encode (version_a 2)) (row 1000 0 ∷ row 1000 1000 ∷ []) gives prints (ascii "1 ok 0 1000 0 | - -\n2 ok 0 0 1000 | - -\n")
    ∷ run_of (encode (version_a 2)) (row 1000 300 ∷ row 1000 300 ∷ row 1000 700 ∷ row 1000 0 ∷ row 1000 200 ∷ []) gives prints (ascii
    "1 ok 0 1000 0 | - -\n2 ok 0 700 300 | - 300\n3 ok 0 300 700 | - 700\n4 ok 0 300 700 | - 700\n5 ok 0 100 900 | - 900\n")
    ∷ call_of (encode (version_a 2)) (1 ∷ 0 ∷ []) (state 0 1000 0 Idle Idle 1000 500) empty gives both RowOutcome.ok (state 0 500 500 Idle (Carrying 500) 1000 500)
    ∷ []
