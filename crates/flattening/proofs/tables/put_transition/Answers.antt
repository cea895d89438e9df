use Rattle.std.proofs.Common.{◌≡◌, ℕ, length, ap, arith}
use Rattle.std.proofs.lemmas.List.{length_push}
use Rattle.std.proofs.lemmas.Iterator.Consumers.{YieldsList-at}
use Rattle.card.specs.Card.{Arc, Transition, arc_at, transition_at}
use Rattle.card.proofs.RowListLaws.{arcs_yield, rows_numbered, row_turn, row_end}
use Rattle.flattening.proofs.FlatPut.{fills_then, fills_to, row_put, narrowed, arc_put, next_transition}
use Rattle.flattening.proofs.tables.put_transition.Goals as goal

pub loop-j-init : goal.loop-j-init
loop-j-init c = λ l. row_put _ c.args.t _ c.transition-transition.result _ _ l c.transition-transition.ensures c.requires.position c.put.ensures

pub loop-j-preserved : goal.loop-j-preserved
loop-j-preserved c = λ m.
    let d = c.args.card.now in
    let t = c.args.t in
    let l = c.loop-j in
    let a = c.in-Some.arc in
    let all = rows_numbered (transition_at d t).arcs (arc_at d t) (YieldsList-at c.enumerate-j-items.ensures.source (arcs_yield d t _ c.arcs.ensures.rows)) c.enumerate-j-items.ensures.count in
    let turn = row_turn _ _ (YieldsList-at c.into_iter-j-iterator.ensures.into_iter_gives all) l.yielded _ l.yielded_by _ _ (c.in-Some.j, a) c.in-Some.is c.next.ensures.steps in
    let j : c.in-Some.j ≡ length l.yielded = ap (λ (p : ℕ × Arc). p.0) turn.1 in
    rw (length_push l.yielded (c.in-Some.j, a))
    (fills_then (l.invariant m)
    (arc_put _ t (length l.yielded) _ _ _ a _ _ m turn.0 (ap (λ (p : ℕ × Arc). p.1) turn.1) (omega (arith, c.requires.position, j)) c.from.ensures
    (narrowed _ _ _ _ c.flat_place.ensures c.try_from.ensures c.unwrap_or-place.ensures) c.put-in-loop-j.ensures))

pub returns-clause-next : goal.returns-clause-next
returns-clause-next c =
    omega (arith, c.requires.position, next_transition c.args.card.now c.args.t, ap (λ (r : Transition). r.arcs) c.transition-transition.ensures)

pub returns-clause-filled : goal.returns-clause-filled
returns-clause-filled c =
    let d = c.args.card.now in
    let t = c.args.t in
    let l = c.loop-j in
    let all = rows_numbered (transition_at d t).arcs (arc_at d t) (YieldsList-at c.enumerate-j-items.ensures.source (arcs_yield d t _ c.arcs.ensures.rows)) c.enumerate-j-items.ensures.count in
    let end = row_end _ _ (YieldsList-at c.into_iter-j-iterator.ensures.into_iter_gives all) l.yielded _ l.yielded_by _ _ c.in-None.is c.next.ensures.steps in
    λ m. fills_to (l.invariant m) (λ k. omega (arith, next_transition d t, end))
