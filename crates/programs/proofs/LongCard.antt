-- What the two programs write hangs on the first bytes of a card, one more than a card can have, and no more of it are read. Assumes nothing.
use Prim.Native.Nat.{ℕ, ◌+◌, ◌≤◌, ◌<◌}
use mathlib.Core.Path.{◌≡◌, ap}
use mathlib.Core.Logic.{◌⊎◌, inl, inr}
use mathlib.Core.List.{List}
use native.Mathlib.Omega.{arith}
use lib.ListN.{length, take}
use lib.Seq.{take_all}
use Rattle.std.proofs.lemmas.Bool.{cases_lt}
use Rattle.card.specs.Tables.{card_bytes}
use Rattle.card.proofs.LongInput.{long_input}
use Rattle.hierarchy.specs.Judgement.{judged, judge}
use Rattle.programs.specs.Programs.{runs, run_program, flattens, flatten_program}

judge_reads : (card : List ℕ) → judge (take (card_bytes + 1) card) ≡ judge card
unfolding judge
judge_reads card = go (cases_lt (length card) (card_bytes + 1))
  where
    go : (length card < card_bytes + 1) ⊎ (card_bytes + 1 ≤ length card) → judge (take (card_bytes + 1) card) ≡ judge card
    go (inl l) = ap judge (take_all (card_bytes + 1) card (omega (arith, l)))
    go (inr l) = ap judged (long_input card l)

pub flatten_reads : (card : List ℕ) → flatten_program (take (card_bytes + 1) card) ≡ flatten_program card
unfolding flatten_program
flatten_reads card = ap flattens (judge_reads card)

pub run_reads : (card rows : List ℕ) → run_program (take (card_bytes + 1) card) rows ≡ run_program card rows
unfolding run_program
run_reads card rows = ap (λ j. runs j rows) (judge_reads card)
