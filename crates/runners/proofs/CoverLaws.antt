-- Whether each place of a lent state is covered, as the board shows that its transfers alone post on. Assumes nothing.
use Rattle.std.proofs.Common.{◌≡◌, ℕ, ◌<◌, not, List, length, replicate, refl, ap, ◌∙◌, arith}
use Rattle.std.specs.Prelude.{Option}
use Rattle.std.specs.Option.{is_some}
use lib.ListN.{length-replicate}
use Rattle.card.specs.Finite.{every, lowest}
use Rattle.card.specs.Card.{Card, draws, fills}
use Rattle.card.proofs.Turn.{zero_in}
use Rattle.hierarchy.specs.Conditions.{Meets}
use Rattle.flattening.specs.Flattening.{flatten}
use Rattle.runners.specs.State.{entry, transfer, remaining, flow, owed, due, covered}
use Rattle.runners.specs.Calls.{view}
use Rattle.runners.specs.Columns.{Grown, nothing, begun, no_claims}
use Rattle.runners.specs.Visits.{posting, turn_in}
use Rattle.runners.specs.inner.Transitions.{span_sum, IsSpan, PostsSpan}
use Rattle.runners.specs.inner.Verdict.{covered_by, found_of}
use Rattle.runners.specs.inner.Counts.{Counts}
use Rattle.runners.specs.inner.Markings.{capacity, Filled}
use Rattle.runners.specs.declared.State.{State as Lent}
use Rattle.runners.specs.declared.work.Work.{Work}
use Rattle.runners.proofs.FewLaws.{remaining_few}
use Rattle.runners.specs.inner.Changes.{moved_same}
use Rattle.runners.proofs.VerdictLaws.{verdict_is}
use Rattle.runners.proofs.BoardLaws.{board_exact, marking_seen, posts_all, covered_seen}

module _ (c : Card) (m : Meets c) (l : Lent) (h : Counts c l) (row : List ℕ) (k : Work) (all : IsSpan posting 0 (length c.transitions) c row (begun l) k) where
  abbrev left : ℕ → ℕ
  left t = remaining (flatten c) (transfer (view l).transfers t)

  done : PostsSpan 0 (length c.transitions) (turn_in c row (begun l)) (begun l) k
  done = all m (omega arith)

  posted_is : (way : ℕ) (o : List ℕ) → Grown (replicate 255 0) o (span_sum posting (turn_in c row (begun l)) 0 (length c.transitions) way) → (p : ℕ) → p < length c.places → entry o p ≡ flow (flatten c) left way p
  posted_is way o g =
      board_exact c m left (λ t b. remaining_few (flatten c) (transfer (view l).transfers t)) way (replicate 255 0) o (length-replicate {A = ℕ} 255 0) (zero_in 255)
      (moved_same (replicate 255 0) o nothing _ nothing (flow (flatten c) left way) (λ p. refl) (λ p. posts_all c l h row (length c.transitions) way p refl) g)

  module _ (full : List ℕ) (fu : Filled capacity c full) where
    covered_place : (p : ℕ) → p < length c.places → covered_by full l.markings k.standing no_claims p ≡ covered (flatten c) (view l).markings (view l).transfers p
    unfolding owed due
    covered_place p b =
        covered_seen c full l.markings (view l).markings (view l).transfers k.standing no_claims p b fu (marking_seen c l h p b)
        (omega (arith, zero_in 255 p, posted_is draws k.standing.owed done.owed p b)) (omega (arith, zero_in 255 p, posted_is fills k.standing.due done.due p b))

    -- that no place is found that is not covered
    pub all_covered : (r : Option ℕ) → found_of r ≡ lowest 0 (length c.places) (λ p. not (covered_by full l.markings k.standing k.claimed p))
        → not (is_some r) ≡ every (length c.places) (covered (flatten c) (view l).markings (view l).transfers)
    all_covered r e =
        verdict_is (length c.places) (covered_by full l.markings k.standing k.claimed) (covered (flatten c) (view l).markings (view l).transfers)
        (λ p b. ap (λ (w : Work). covered_by full l.markings k.standing w.claimed p) done.only ∙ covered_place p b) r e
