-- The effective row: what it has of the row that is lent and of the last degrees, and that a row, empty or not, keeps a state consistent.
-- Assumes nothing.
use Rattle.std.proofs.Common.{◌≡◌, ℕ, ◌<◌, ◌≤◌, Bool, true, false, ◌⊎◌, List, [], ◌∷◌, ◌++◌, length, take, drop, refl, ap, ◌∙◌, subst, inl, inr, arith, take_at}
use mathlib.Core.Option.{none, map}
use Rattle.card.specs.Card.{Card, transition_at}
use Rattle.flattening.specs.Flattening.{flatten}
use Rattle.runners.specs.State.{NetState, scale, entry}
use Rattle.runners.specs.Step.{candidate, conflict, asked, degree, moves, next}
use Rattle.runners.specs.Rows.{settle, effective, row_fault, row_next}
use Rattle.runners.specs.Calls.{view, store}
use Rattle.runners.specs.Answers.{IsRow}
use Rattle.runners.specs.inner.Steps.{with_degrees}
use Rattle.runners.specs.declared.State.{State as Lent}
use Rattle.runners.specs.declared.Refusal.TheVariants.{Conflict}
use Rattle.runners.specs.declared.RowAnswer.{RowAnswer}
use Rattle.runners.proofs.StartLaws.{start_one, start_whole}
use Rattle.runners.proofs.StateLaws.{Consistent, Sized, Fits, fault_is, next_sized, next_consistent}

-- AN EMPTY ROW EARNS NEITHER 20 NOR 21, nothing moves in it but what starts in it on a version 2 card, and the last degrees stay
pub empty_passes : (f : Card) → row_fault f [] ≡ none
empty_passes f = (fault_is f []).1 (inl refl, λ g l. omega arith)

pub empty_still : (f : Card) (s : NetState) (t : ℕ) → (candidate f s (effective s.degrees []) t ≡ false) ⊎ (f.version ≡ 1) → moves f s (effective s.degrees []) t ≡ 0
unfolding moves
empty_still f s t (inl e) = rw e (omega arith)
empty_still f s t (inr e) = omega (arith, still (candidate f s s.degrees t))
  where
    still : (b : Bool) → asked f b (degree f s.degrees t) (degree f s.degrees t) ≡ 0
    still true = omega (arith, start_one f (degree f s.degrees t) (degree f s.degrees t) (omega (arith, e)))
    still false = omega arith

pub empty_keeps : (f : Card) (s : NetState) → (row_next f s []).degrees ≡ s.degrees
unfolding next
empty_keeps f s = refl

-- the effective row of a row that passes 20 has a degree for each signal; of an empty one, where the last degrees have
effective_long : (last row : List ℕ) (n : ℕ) → (0 < length row) ⊎ (length last ≡ n) → (length row ≡ 0) ⊎ (length row ≡ n) → length (effective last row) ≡ n
effective_long last [] n (inl b) h = absurd (omega (arith, b))
effective_long last [] n (inr e) h = e
effective_long last (d ∷ ds) n k (inl h) = absurd (omega (arith, h))
effective_long last (d ∷ ds) n k (inr h) = h

-- AN ACCEPTED ROW KEEPS A CONSISTENT STATE CONSISTENT
module _ (f : Card) (s : NetState) (row : List ℕ) (h : Consistent f s) (k : Fits f s row) where
  effective_low : (g : ℕ) → g < f.signals → entry (effective s.degrees row) g ≤ scale f
  effective_low = go row k.degrees
    where
      go : (r : List ℕ) → ((g : ℕ) → g < f.signals → entry r g ≤ scale f) → (g : ℕ) → g < f.signals → entry (effective s.degrees r) g ≤ scale f
      go [] low = h.degrees
      go (d ∷ ds) low = low

  -- on version 2 a transition that starts in it moves by its degree there, which is its last one where the row is empty
  pub row_start : (t : ℕ) → (transition_at f t).signal < f.signals → candidate f s (effective s.degrees row) t ≡ true → 2 ≤ f.version
      → moves f s (effective s.degrees row) t ≡ degree f (effective s.degrees row) t
  row_start t l e v = start_whole f s (effective s.degrees row) t e (effective_low (transition_at f t).signal l) v

  pub row_consistent : Consistent f (row_next f s row)
  row_consistent = next_consistent f s (effective s.degrees row) h k.free effective_low

  pub row_sized : (0 < length row) ⊎ (length s.degrees ≡ f.signals) → Sized f (row_next f s row)
  row_sized e = next_sized f s (effective s.degrees row) (effective_long s.degrees row f.signals e k.long)

-- A row that passes 20 has an effective row with a degree for each signal.
pub effective_fits : (c : Card) (last row : List ℕ) → length last ≡ c.signals → row_fault (flatten c) row ≡ none → length (effective last row) ≡ c.signals
unfolding flatten
effective_fits c last row e f = effective_long last row c.signals (inr e) ((fault_is (flatten c) row).0 f).0

-- The row's degrees put over the last ones are the effective row, of a row that passes 20,
effective_put : (last row : List ℕ) (n : ℕ) → (length row ≡ 0) ⊎ (length row ≡ n) → take n (row ++ drop (length row) last) ≡ effective (take n last) row
effective_put last [] n h = refl
effective_put last (d ∷ ds) n (inl h) = absurd (omega (arith, h))
effective_put last (d ∷ ds) n (inr h) = take_at (d ∷ ds) (drop (length (d ∷ ds)) last) n h

-- and the step on it is the step on the effective row.
module _ (c : Card) (l after : Lent) (row : List ℕ) (x : RowAnswer) where
  abbrev Stepped : List ℕ → Type 0
  Stepped r = IsRow (settle (map Conflict (conflict (flatten c) (view l) r)) l (store l (next (flatten c) (view l) r))) x

  pub put_stepped : (n : ℕ) → after ≡ with_degrees l row → n ≡ l.signals → (length row ≡ 0) ⊎ (length row ≡ n) → Stepped (take n after.degrees) → Stepped (effective (view l).degrees row)
  put_stepped n e i h =
      subst Stepped (ap (λ (k : Lent). take n k.degrees) e ∙ effective_put l.degrees row n h ∙ ap (λ (m : ℕ). effective (take m l.degrees) row) i)
