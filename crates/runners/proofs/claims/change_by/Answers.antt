-- `runners::claims::change_by` meets its contract.
use Rattle.std.proofs.Common.{rules, ◌+◌, ◌*◌, ℕ, length}
use Rattle.std.proofs.lemmas.List.{length_push}
use Rattle.std.proofs.lemmas.Iterator.Consumers.{YieldsList-at}
use Rattle.card.specs.Card.{transition_at, arc_at, draws, fills}
use Rattle.card.proofs.RowListLaws.{arcs_yield, row_turn, row_end}
use Rattle.flattening.specs.Flattening.{flatten}
use Rattle.runners.specs.State.{incidence}
use Rattle.runners.specs.Columns.{nothing}
use Rattle.runners.proofs.ClaimLaws.{weights, no_weights, weights_more, weights_all}
use Rattle.runners.proofs.claims.change_by.Goals as goal

pub loop-arc-init : goal.loop-arc-init
loop-arc-init g c =
    let a = c.args in
    g.met.C.ByPlace.changed_alike a.columns.now a.columns.now nothing nothing (λ p. a.part * weights a.card.now draws a.t 0 p) (λ p. a.part * weights a.card.now fills a.t 0 p)
    (no_weights a.card.now a.part a.t draws) (no_weights a.card.now a.part a.t fills) (g.met.C.ByPlace.unchanged a.columns.now)

pub loop-arc-preserved : goal.loop-arc-preserved
loop-arc-preserved g c =
    let a = c.args in
    let d = a.card.now in
    let z = c.loop-arc in
    let j : ℕ = length z.yielded in
    let x = c.in-Some.arc in
    let turn = row_turn (transition_at d a.t).arcs (arc_at d a.t) (YieldsList-at c.into_iter-arc-iterator.ensures.into_iter_gives (arcs_yield d a.t _ c.arcs-arc-items.ensures.rows)) z.yielded _ z.yielded_by _ _ x c.in-Some.is c.next.ensures.steps in
    let more = weights_more d a.t j x turn.1 a.part _ _ c.flat_place.ensures (search rules) in
    rw (length_push z.yielded x)
    (g.met.C.ByPlace.changed_alike a.columns.now _ _ _ (λ p. a.part * weights d draws a.t (j + 1) p) (λ p. a.part * weights d fills a.t (j + 1) p) (more draws) (more fills)
    (g.met.C.ByPlace.changed_then a.columns.now z.columns _ _ _ _ _ z.invariant c.change.ensures))

pub returns : goal.returns
returns g c =
    let a = c.args in
    let d = a.card.now in
    let z = c.loop-arc in
    let end = row_end (transition_at d a.t).arcs (arc_at d a.t) (YieldsList-at c.into_iter-arc-iterator.ensures.into_iter_gives (arcs_yield d a.t _ c.arcs-arc-items.ensures.rows)) z.yielded _ z.yielded_by _ _ c.in-None.is c.next.ensures.steps in
    let all = weights_all d a.part a.t (length z.yielded) end in
    g.met.C.ByPlace.changed_alike a.columns.now z.columns _ _ (λ p. a.part * incidence (flatten d) draws a.t p) (λ p. a.part * incidence (flatten d) fills a.t p) (all draws) (all fills) z.invariant
