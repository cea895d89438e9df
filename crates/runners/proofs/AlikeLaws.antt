-- Two visits that are equal in all they may read post, start and move the same, whatever stands elsewhere. Assumes nothing.
use Rattle.std.proofs.Common.{◌≡◌, ℕ, ◌%◌, List, sym, refl, ap, ◌∙◌, subst, arith}
use Rattle.card.specs.Card.{Card, draws, fills, subnet_at, first_transition}
use Rattle.runners.specs.Columns.{word, nothing}
use Rattle.runners.specs.declared.work.Work.{Work}
use Rattle.runners.specs.Visits.{OwnsTransition, Round, posting, finding, moving, Turn, effect, SameView, Does, turn_in, SameChange, SameOutcome, VisitsAlike}
use Rattle.runners.proofs.OwnerLaws.{next_first}
use Rattle.runners.proofs.MovedLaws.{moved_alike}

-- a turn is equal to itself
self_view : (r : Round) (s : ℕ) (i : Turn) → SameView r s i i
self_view r s i =
    record {
      first = refl;
      count = refl;
      transitions = λ t o. record { row = refl; arcs = λ n l. refl; transfers = refl };
      numbers = λ q n k. refl;
      places = λ e q n k. record { capacities = refl; markings = refl; owed = refl; due = refl };
      row = λ g l. refl;
      degrees = λ g l. refl;
      found = λ e t o. refl;
      version = λ e. refl;
    }

module _ (s : ℕ) (c d : Card) (a a' b b' : Work) (first : first_transition c s ≡ first_transition d s) (count : (subnet_at c s).transitions ≡ (subnet_at d s).transitions) where
  -- an own transition of one card is one of the other
  own_on : (t : ℕ) → OwnsTransition c s t → OwnsTransition d s t
  own_on t o = record { low = omega (arith, o.low, first); high = omega (arith, o.high, first, count, next_first c s, next_first d s) }

  -- a column that neither visit changes
  kept : (column : Work → List ℕ) (k l : Work) → a' ≡ k → b' ≡ l → column k ≡ column a → column l ≡ column b
      → SameChange (column a) (column a') (column b) (column b')
  kept column k l e f g h p x y = rw (e, f, g, h) (ap (λ (n : ℕ). n % word) (omega arith))

  -- two visits that do the same on any columns
  alike : (r : Round) (j : Turn) → j.card ≡ d → Does r s j a a' → Does r s j b b' → SameOutcome r s c a a' b b'
  alike posting j e x y =
      record {
        markings = kept (λ k. k.state.markings) _ _ x.only y.only refl refl;
        standing_owed = moved_alike a.standing.owed a'.standing.owed b.standing.owed b'.standing.owed nothing (effect posting s j draws) x.owed y.owed;
        standing_due = moved_alike a.standing.due a'.standing.due b.standing.due b'.standing.due nothing (effect posting s j fills) x.due y.due;
        claimed_owed = kept (λ k. k.claimed.owed) _ _ x.only y.only refl refl;
        claimed_due = kept (λ k. k.claimed.due) _ _ x.only y.only refl refl;
        candidates = λ z t o l k. absurd (let g : ◌≡◌ {A = ℕ} 0 1 = cc in omega arith);
        transfers = λ z t o l k. absurd (let g : ◌≡◌ {A = ℕ} 0 1 = cc in omega arith);
      }
  alike finding j e x y =
      record {
        markings = kept (λ k. k.state.markings) _ _ x.only y.only refl refl;
        standing_owed = kept (λ k. k.standing.owed) _ _ x.only y.only refl refl;
        standing_due = kept (λ k. k.standing.due) _ _ x.only y.only refl refl;
        claimed_owed = moved_alike a.claimed.owed a'.claimed.owed b.claimed.owed b'.claimed.owed nothing (effect finding s j draws) x.owed y.owed;
        claimed_due = moved_alike a.claimed.due a'.claimed.due b.claimed.due b'.claimed.due nothing (effect finding s j fills) x.due y.due;
        candidates = λ z t o l k. let u = subst (λ (q : Card). OwnsTransition q s t) (sym e) (own_on t o) in x.own t u l ∙ sym (y.own t u k);
        transfers = λ z t o l k. absurd (let g : ◌≡◌ {A = ℕ} 0 1 = cc in omega arith);
      }
  alike moving j e x y =
      record {
        markings = moved_alike a.state.markings a'.state.markings b.state.markings b'.state.markings (effect moving s j draws) (effect moving s j fills) x.markings y.markings;
        standing_owed = kept (λ k. k.standing.owed) _ _ x.only y.only refl refl;
        standing_due = kept (λ k. k.standing.due) _ _ x.only y.only refl refl;
        claimed_owed = kept (λ k. k.claimed.owed) _ _ x.only y.only refl refl;
        claimed_due = kept (λ k. k.claimed.due) _ _ x.only y.only refl refl;
        candidates = λ z t o l k. absurd (let g : ◌≡◌ {A = ℕ} 0 1 = cc in omega arith);
        transfers = λ z t o l k. let u = subst (λ (q : Card). OwnsTransition q s t) (sym e) (own_on t o) in x.own t u l ∙ sym (y.own t u k);
      }

-- FACT 2, OF ANY TWO VISITS: no visit's outcome hangs on a place that its subnet cannot see
pub visits_alike : VisitsAlike
visits_alike r s c d row row₂ a a' b b' one two m n l k v =
    alike s c d a a' b b' v.first v.count r (turn_in d row₂ b) refl ((one m l).local (turn_in d row₂ b) v) ((two n k).local (turn_in d row₂ b) (self_view r s (turn_in d row₂ b)))
