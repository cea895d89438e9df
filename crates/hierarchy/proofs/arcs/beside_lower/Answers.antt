use Rattle.std.proofs.Common.{◌∙◌, ℕ, length, not, ap, subst, sym, arith}
use Rattle.std.proofs.lemmas.List.{length_push}
use Rattle.std.proofs.lemmas.Iterator.Consumers.{YieldsList-at}
use Rattle.card.specs.Card.{Arc, Place, arc_at, transition_at, place_of}
use Rattle.card.specs.View.{arc_in}
use Rattle.card.proofs.RowListLaws.{arcs_yield, rows_taken, row_turn, row_end}
use Rattle.hierarchy.specs.Conditions.{IsPlace}
use Rattle.hierarchy.specs.Check.{repeats, loop_fits, single, loops_fit}
use Rattle.hierarchy.proofs.FirstLaws.{every_more}
use Rattle.hierarchy.proofs.arcs.beside_lower.Goals as goal

pub loop-lower-preserved : goal.loop-lower-preserved
loop-lower-preserved c =
    let d = c.args.card.now in
    let t = c.args.t in
    let j = c.args.j in
    let l = c.loop-lower in
    let h : ℕ = length l.yielded in
    let a = c.arc-a.ensures.value c.requires in
    let all = rows_taken j (transition_at d t).arcs (arc_at d t) (omega (arith, c.requires)) (YieldsList-at c.take-lower-items.ensures.source (arcs_yield d t _ c.arcs.ensures.rows)) c.take-lower-items.ensures.count in
    let b = (row_turn j (arc_at d t) (YieldsList-at c.into_iter-lower-iterator.ensures.into_iter_gives all) l.yielded _ l.yielded_by _ _ c.in-Some.lower c.in-Some.is c.next.ensures.steps).1 in
    record {
      single =
          rw (length_push l.yielded c.in-Some.lower)
          (every_more h (λ k. not (repeats (arc_at d t k) (arc_at d t j))) l.invariant.single
          (ap not (c.repeats.ensures ∙ ap (λ (x : Arc). repeats x (arc_in c.arc-a.result)) b ∙ ap (λ (x : Arc). repeats (arc_at d t h) x) a)));
      fits = λ p.
          let there = subst (λ (x : Arc). IsPlace d x.subnet x.place) (sym a) p in
          let capacity = ap (λ (x : Place). x.capacity) (c.place-capacity.ensures.value there) ∙ ap (λ (x : Arc). (place_of d x).capacity) a in
          rw (length_push l.yielded c.in-Some.lower)
          (every_more h (λ k. loop_fits (place_of d (arc_at d t j)).capacity (arc_at d t k) (arc_at d t j)) (l.invariant.fits p)
          (c.loop_fits.ensures ∙ ap (λ (x : ℕ). loop_fits x (arc_in c.in-Some.lower) (arc_in c.arc-a.result)) capacity
          ∙ ap (λ (x : Arc). loop_fits (place_of d (arc_at d t j)).capacity x (arc_in c.arc-a.result)) b
          ∙ ap (λ (x : Arc). loop_fits (place_of d (arc_at d t j)).capacity (arc_at d t h) x) a));
    }

pub returns-clause-single_value : goal.returns-clause-single_value
unfolding single
returns-clause-single_value c =
    let d = c.args.card.now in
    let t = c.args.t in
    let j = c.args.j in
    let l = c.loop-lower in
    let all = rows_taken j (transition_at d t).arcs (arc_at d t) (omega (arith, c.requires)) (YieldsList-at c.take-lower-items.ensures.source (arcs_yield d t _ c.arcs.ensures.rows)) c.take-lower-items.ensures.count in
    let n = row_end j (arc_at d t) (YieldsList-at c.into_iter-lower-iterator.ensures.into_iter_gives all) l.yielded _ l.yielded_by _ _ c.in-None.is c.next.ensures.steps in
    rw n at l.invariant.single

pub returns-clause-fits_value : goal.returns-clause-fits_value
unfolding loops_fit
returns-clause-fits_value c =
    let d = c.args.card.now in
    let t = c.args.t in
    let j = c.args.j in
    let l = c.loop-lower in
    let all = rows_taken j (transition_at d t).arcs (arc_at d t) (omega (arith, c.requires)) (YieldsList-at c.take-lower-items.ensures.source (arcs_yield d t _ c.arcs.ensures.rows)) c.take-lower-items.ensures.count in
    let n = row_end j (arc_at d t) (YieldsList-at c.into_iter-lower-iterator.ensures.into_iter_gives all) l.yielded _ l.yielded_by _ _ c.in-None.is c.next.ensures.steps in
    λ p. rw n at (l.invariant.fits p)
