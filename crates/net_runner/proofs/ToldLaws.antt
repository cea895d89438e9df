-- What a caller is told of each answer. Assumes nothing.
use Prim.Native.Nat.{ℕ}
use mathlib.Core.Path.{◌≡◌, refl, sym, ap, ◌∙◌}
use mathlib.Core.List.{List, [], ◌∷◌}
use native.Mathlib.Omega.{arith}
use lib.ListN.{length, get_or}
use Rattle.std.specs.Prelude.{Result, Ok, Err, IsOkAnd}
use Rattle.std.proofs.lemmas.List.{length-map}
use Rattle.card.specs.Card.{Card}
use Rattle.card.specs.Index.{Loaded}
use Rattle.card.specs.Parsing.{read_card}
use Rattle.card.specs.Tables.{IsTable}
use Rattle.hierarchy.specs.Conditions.{Meets}
use Rattle.hierarchy.specs.Numbers.{check_outcome}
use Rattle.hierarchy.specs.Judgement.{Judgement, accepted, refused, judge, outcome_of, counts_of, IsChecked}
use Rattle.hierarchy.specs.declared.CardRefusal.{CardRefusal}
use Rattle.card.specs.declared.index.CardIndex.{CardIndex}
use Rattle.hierarchy.proofs.Accepted.{accepted_meets, accepted_loaded}
use Rattle.flattening.specs.Flattening.{flat_place_row, flatten}
use Rattle.runners.specs.Numbers.{RowOutcome, number_of}
use Rattle.runners.specs.Calls.{fresh_lent, fresh_of, fresh_call}
use Rattle.runners.specs.Answers.{IsFresh, IsAccepting}
use Rattle.runners.specs.declared.State.{State as Own}
use Rattle.runners.proofs.CallLaws.{outcome_refused}
use Rattle.net_runner.specs.Told.{row_told, counts_told}
use Rattle.net_runner.specs.Slices.{Slices, fresh_in, fresh_on}
use Rattle.net_runner.specs.Copies.{IsCounted}

pub code_number : (o : RowOutcome) → number_of o ≡ (row_told o).number
code_number RowOutcome.ok = refl
code_number (RowOutcome.refused n v) = refl

-- the four numbers of an accepted card are those that its caller is told
pub counts_accepted : (card : List ℕ) (r : Result (List ℕ) CardRefusal) → IsCounted (judge card) r → (k counts : List ℕ) → r ≡ Ok k → k ≡ counts_told (judge card) counts
counts_accepted card r h k counts e = let x = rw e at h in x.2 ∙ sym (ap (λ (j : Judgement). counts_told j counts) x.1)

-- the check's counts with the number of signals
abbrev pub with_signals : (signals : ℕ) → Result CardIndex CardRefusal → Result (List ℕ) CardRefusal
with_signals g (Ok k) = Ok (k.counts.subnets ∷ k.counts.places ∷ k.counts.transitions ∷ g ∷ [])
with_signals g (Err e) = Err e

-- are those that a caller is told, with the number out of the table that it left
pub is_counted : (card : List ℕ) (r : Result CardIndex CardRefusal) (size g : ℕ) (numbers : List ℕ) → IsChecked card r → IsTable (read_card card) size numbers → g ≡ get_or numbers 2 0
    → IsCounted (judge card) (with_signals g r)
is_counted card r size g numbers h t e = go (judge card) refl r h.answer (λ c i. (accepted_loaded card r size numbers h t).loaded c i)
  where
    go : (j : Judgement) → judge card ≡ j → (y : Result CardIndex CardRefusal) → check_outcome (counts_of y) ≡ outcome_of j
        → ((c : Card) → judge card ≡ accepted c → IsOkAnd y (λ k. Loaded c numbers k.starts)) → IsCounted j (with_signals g y)
    go (refused n b) i (Ok k) w l = absurd (let z : ◌≡◌ {A = ℕ} 0 1 = cc in omega arith)
    go (refused n b) i (Err x) w l = outcome_refused (refused n b) x w
    go (accepted c) i (Err x) w l = absurd (let z : ◌≡◌ {A = ℕ} 0 1 = cc in omega arith)
    go (accepted c) i (Ok k) w l =
        let es : k.counts.subnets ≡ length c.subnets = cc in
        let ep : k.counts.places ≡ length c.places = cc in
        let et : k.counts.transitions ≡ length c.transitions = cc in
        let eg : g ≡ c.signals = e ∙ (l c i).laid.signals in
        (c, refl, rw (es, ep, et, eg) refl)

-- the fresh state of an accepted card
pub record FreshNet (card : List ℕ) (l : Own) : Type 0 where
  pub net : Card
  pub meets : Meets net
  pub is : (x : Slices) → fresh_on card x ≡ fresh_in (accepted net) x
  pub places : l.places ≡ length net.places
  pub transitions : l.transitions ≡ length net.transitions
  pub state : l ≡ fresh_lent (flatten net)
  pub signals : l.signals ≡ net.signals

pub fresh_yes : (card : List ℕ) (l : Own) → IsFresh (fresh_call card) (Ok l) → FreshNet card l
unfolding fresh_call fresh_on flatten
fresh_yes card l h = go (judge card) refl h.answer h.state
  where
    go : (j : Judgement) → judge card ≡ j → IsAccepting (fresh_of j).0 → l ≡ (fresh_of j).1 → FreshNet card l
    go (refused n b) d w z = absurd w
    go (accepted c) d w z =
        record {
          net = c;
          meets = accepted_meets card c d;
          is = λ x. ap (λ (j : Judgement). fresh_in j x) d;
          places = ap (λ (k : Own). k.places) z ∙ length-map c.places flat_place_row;
          transitions = ap (λ (k : Own). k.transitions) z;
          state = z;
          signals = ap (λ (k : Own). k.signals) z;
        }
