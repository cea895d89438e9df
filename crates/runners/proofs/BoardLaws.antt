-- What the columns of the board hold of a state and of the step. Assumes nothing.
use Rattle.std.proofs.Common.{◌≡◌, ℕ, ◌+◌, ◌*◌, ◌<◌, ◌≤◌, List, length, refl, ap, ◌∙◌, zero-add, arith, get_or-take}
use Rattle.card.specs.Finite.{sum_to}
use Rattle.card.specs.Card.{Card}
use Rattle.card.proofs.Sums.{sum_same}
use Rattle.hierarchy.specs.Conditions.{Meets}
use Rattle.flattening.specs.Flattening.{flatten}
use Rattle.runners.specs.State.{scale, entry, transfer, remaining, incidence, flow, owed, due, covered}
use Rattle.runners.specs.Calls.{view}
use Rattle.runners.specs.Columns.{Grown, begun}
use Rattle.runners.specs.Visits.{posting, turn_in}
use Rattle.runners.specs.inner.Transitions.{span_sum}
use Rattle.runners.specs.inner.Verdict.{covered_by}
use Rattle.runners.specs.inner.Counts.{Counts}
use Rattle.runners.specs.inner.Markings.{capacity, Filled}
use Rattle.runners.specs.declared.Transfer.{Transfer}
use Rattle.runners.specs.declared.Transfer.TheVariants.{Idle}
use Rattle.runners.specs.declared.State.{State as Lent}
use Rattle.runners.specs.declared.claims.Claims.{Claims as Posted}
use Rattle.runners.proofs.MovedLaws.{moved_exact}
use Rattle.runners.proofs.FewLaws.{claims_few}

-- a column of zeros that has grown by a flow holds it: it is so small that nothing goes round
pub board_exact : (c : Card) → Meets c → (amount : ℕ → ℕ) → ((t : ℕ) → t < length c.transitions → amount t ≤ scale (flatten c)) → (way : ℕ) (z o : List ℕ) → length z ≡ 255
    → ((p : ℕ) → entry z p ≡ 0) → Grown z o (flow (flatten c) amount way) → (p : ℕ) → p < length c.places → entry o p ≡ flow (flatten c) amount way p
board_exact c m amount few way z o long zeros g p l =
    let n = claims_few c m amount few way p in
    omega (arith, zeros p, n, moved_exact z o _ _ g p (omega (arith, long, m.wellformed.rows.few_places)) (omega arith) (omega (arith, zeros p, n)))

-- the entries of a lent state that the net uses
module _ (c : Card) (l : Lent) (h : Counts c l) where
  pub transfer_seen : (t : ℕ) → t < length c.transitions → transfer (view l).transfers t ≡ transfer l.transfers t
  transfer_seen t b = get_or-take l.transitions l.transfers t Idle (omega (arith, h.transitions))

  pub marking_seen : (p : ℕ) → p < length c.places → entry (view l).markings p ≡ entry l.markings p
  marking_seen p b = get_or-take l.places l.markings p 0 (omega (arith, h.places))

  pub degree_seen : (g : ℕ) → g < c.signals → entry (view l).degrees g ≡ entry l.degrees g
  degree_seen g b = get_or-take l.signals l.degrees g 0 (omega (arith, h.signals))

  -- what all transitions post for them
  pub posts_all : (row : List ℕ) (n way p : ℕ) → n ≡ length c.transitions
      → span_sum posting (turn_in c row (begun l)) 0 n way p ≡ flow (flatten c) (λ t. remaining (flatten c) (transfer (view l).transfers t)) way p
  unfolding flow flatten
  posts_all row n way p en =
      ap (λ (k : ℕ). sum_to k (λ i. remaining (flatten c) (transfer l.transfers (0 + i)) * incidence (flatten c) way (0 + i) p)) (omega (arith, en))
      ∙ sum_same (length c.transitions) _ _ (λ t b. rw (zero-add t, transfer_seen t b) refl)

-- a place is covered by the claims that the columns hold
pub covered_seen : (c : Card) (full ms vs : List ℕ) (xs : List Transfer) (s k : Posted) (p : ℕ) → p < length c.places → Filled capacity c full → entry vs p ≡ entry ms p
    → entry s.owed p + entry k.owed p ≡ owed (flatten c) xs p → entry s.due p + entry k.due p ≡ due (flatten c) xs p → covered_by full ms s k p ≡ covered (flatten c) vs xs p
unfolding covered
covered_seen c full ms vs xs s k p l f em eo ed = rw (eo, ed, em, f.first p l)
