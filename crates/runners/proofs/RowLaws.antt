-- A row call on a net answers as it is defined: the tests one after another, then the step. Assumes nothing.
use Rattle.std.proofs.Common.{◌≡◌, ℕ, ◌≤◌, true, not, List, length, sym, refl, ap, ◌∙◌, subst}
use Rattle.std.specs.Prelude.{Option, Some, None, Result, Ok, Err}
use mathlib.Core.Option as Math
use mathlib.Core.Option.{none}
use Rattle.card.specs.Card.{Card}
use Rattle.card.specs.Finite.{lowest}
use Rattle.hierarchy.specs.Conditions.{Meets}
use Rattle.flattening.specs.Flattening.{flatten}
use Rattle.runners.specs.Numbers.{RowOutcome, ok, refusal}
use Rattle.runners.specs.Step.{conflict, next}
use Rattle.runners.specs.Rows.{settle, effective, row_fault, row_next, row_refusal}
use Rattle.runners.specs.Calls.{view, store, valid, each_once}
use Rattle.runners.specs.Columns.{begun}
use Rattle.runners.specs.Visits.{posting, finding, moving}
use Rattle.runners.specs.inner.Rounds.{IsRound}
use Rattle.runners.specs.inner.Markings.{capacity, Filled}
use Rattle.runners.specs.inner.Steps.{with_degrees, refusal_in}
use Rattle.runners.specs.inner.Verdict.{covered_by, found_of}
use Rattle.runners.specs.declared.State.{State as Lent}
use Rattle.runners.specs.declared.Refusal.{Refusal}
use Rattle.runners.specs.declared.Refusal.TheVariants.{Conflict}
use Rattle.runners.specs.declared.work.Work.{Work}
use Rattle.runners.proofs.EffectiveLaws.{effective_fits}
use Rattle.runners.proofs.GuardLaws.{few_used}
use Rattle.runners.proofs.StepRow.{valid_counts, row_conflict, shown, made}

-- The step, on a card that is the net's.
module _ (c : Card) (m : Meets c) (l : Lent) (v : valid (flatten c) l ≡ true) (order : List ℕ) (o : each_once (length c.subnets) order ≡ true) (row : List ℕ) (d : Card) (ed : d ≡ c) (w k₁ k₂ : Work)
    (ew : w ≡ begun l) (r1 : IsRound posting order d row w k₁) (r2 : IsRound finding order d row k₁ k₂) (full : List ℕ) (fu : Filled capacity c full) (p : ℕ) (ep : p ≡ length d.places) (q : Option ℕ)
    (eq : found_of q ≡ lowest 0 p (λ i. not (covered_by full k₂.state.markings k₂.standing k₂.claimed i))) where
  first : IsRound posting order c row (begun l) k₁
  first = subst (λ (k : Card). IsRound posting order k row (begun l) k₁) ed (subst (λ (z : Work). IsRound posting order d row z k₁) ew r1)

  second : IsRound finding order c row k₁ k₂
  second = subst (λ (k : Card). IsRound finding order k row k₁ k₂) ed r2

  told : found_of q ≡ lowest 0 (length c.places) (λ i. not (covered_by full k₂.state.markings k₂.standing k₂.claimed i))
  told = eq ∙ ap (λ (i : ℕ). lowest 0 i (λ j. not (covered_by full k₂.state.markings k₂.standing k₂.claimed j))) (ep ∙ ap (λ (k : Card). length k.places) ed)

  abbrev Settled : RowOutcome × Lent → Type 0
  Settled x = x ≡ settle (Math.map Conflict (conflict (flatten c) (view l) row)) l (store l (next (flatten c) (view l) row))

  pub step_refused : (i : ℕ) → q ≡ Some i → Settled (refusal (Conflict i), l)
  step_refused i e = row_conflict (flatten c) (view l) row q (shown c m l v order o row k₁ k₂ first second full fu q told) i e l (store l (next (flatten c) (view l) row))

  pub step_made : q ≡ None → (third : List ℕ) (o₃ : each_once (length c.subnets) third ≡ true) (k₃ : Work) (r3 : IsRound moving third d row k₂ k₃) → length row ≡ c.signals
      → length l.markings ≡ 255 → length l.transfers ≡ 255 → (s : Lent) → s ≡ with_degrees k₃.state row → Settled (ok, s)
  step_made e third o₃ k₃ r3 rl ml xl s es =
      made c m l v order o row k₁ k₂ first second full fu q told e third o₃ k₃ (subst (λ (k : Card). IsRound moving third k row k₂ k₃) ed r3) rl ml xl s es

-- 20 and 21, then the step on the effective row
module _ (c : Card) (l : Lent) (row : List ℕ) (d : Card) (ed : d ≡ c) (r : Result (Unit {0}) Refusal) (e : refusal_in r ≡ row_fault (flatten d) row) where
  fault_is : row_fault (flatten c) row ≡ refusal_in r
  fault_is = sym (e ∙ ap (λ (k : Card). row_fault (flatten k) row) ed)

  abbrev Loaded : RowOutcome × Lent → Type 0
  Loaded x = x ≡ settle (row_refusal (flatten c) (view l) row) l (store l (row_next (flatten c) (view l) row))

  pub loaded_refused : (why : Refusal) → r ≡ Err why → Loaded (refusal why, l)
  unfolding row_refusal
  loaded_refused why n = rw (fault_is ∙ ap refusal_in n) refl

  passes : (u : Unit {0}) → r ≡ Ok u → row_fault (flatten c) row ≡ none
  passes u n = fault_is ∙ ap refusal_in n

  pub loaded_stepped : (u : Unit {0}) → r ≡ Ok u → (last row' : List ℕ) → last ≡ (view l).degrees → row' ≡ effective last row → (x : RowOutcome × Lent)
      → x ≡ settle (Math.map Conflict (conflict (flatten c) (view l) row')) l (store l (next (flatten c) (view l) row')) → Loaded x
  unfolding row_refusal
  loaded_stepped u n last row' el er x h =
      h ∙ ap (λ (k : List ℕ). settle (Math.map Conflict (conflict (flatten c) (view l) k)) l (store l (next (flatten c) (view l) k))) (er ∙ ap (λ (k : List ℕ). effective k row) el) ∙ rw (passes u n) refl

  pub loaded_long : Meets c → valid (flatten c) l ≡ true → (u : Unit {0}) → r ≡ Ok u → (last row' : List ℕ) → (l.signals ≤ 63 → length last ≡ l.signals) → row' ≡ effective last row → length row' ≡ c.signals
  loaded_long m v u n last row' el er =
      let h = valid_counts c l v in
      ap length er ∙ effective_fits c last row (el (few_used c m l h).1 ∙ h.signals) (passes u n)
