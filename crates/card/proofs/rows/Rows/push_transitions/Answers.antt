-- Each transition's row and its arcs lie within the slices, and are put behind what the table holds.
use Rattle.std.proofs.Common.{ℕ, ◌≡◌, ◌+◌, ◌-◌, ◌*◌, take, drop, refl, ap, ◌∙◌, arith}
use Rattle.card.specs.Card.{transition_fields, arc_fields}
use Rattle.card.specs.Rows.{entry}
use Rattle.card.specs.inner.Runs.{arcs_before}
use Rattle.card.proofs.RunLaws.{place_start, place_arcs, place_more, place_done}
use Rattle.card.proofs.rows.Rows.push_transitions.Goals as goal

pub loop-t-init : goal.loop-t-init
loop-t-init c = place_start _ _ _ _ _ _ c.requires.begins

pub overflow_add-next-in-loop-t : goal.overflow_add-next-in-loop-t
overflow_add-next-in-loop-t c =
    omega (arith, place_arcs _ _ _ _ _ _ _ _ _ c.loop-t.invariant _ _ c.requires c.loop-t-test.true)

pub overflow_mul-arcs : goal.overflow_mul-arcs
overflow_mul-arcs c =
    omega (arith, place_arcs _ _ _ _ _ _ _ _ _ c.loop-t.invariant _ _ c.requires c.loop-t-test.true)

pub overflow_mul-arcs-in-loop-t : goal.overflow_mul-arcs-in-loop-t
overflow_mul-arcs-in-loop-t c =
    omega (arith, place_arcs _ _ _ _ _ _ _ _ _ c.loop-t.invariant _ _ c.requires c.loop-t-test.true)

pub offset_bounds-self-c : goal.offset_bounds-self-c
offset_bounds-self-c c =
    omega (arith, place_arcs _ _ _ _ _ _ _ _ _ c.loop-t.invariant _ _ c.requires c.loop-t-test.true)

pub slice_bounds-arcs-end : goal.slice_bounds-arcs-end
slice_bounds-arcs-end c =
    omega (arith, place_arcs _ _ _ _ _ _ _ _ _ c.loop-t.invariant _ _ c.requires c.loop-t-test.true)

pub loop-t-preserved : goal.loop-t-preserved
loop-t-preserved c =
    let a = c.args in
    let x = c.loop-t in
    let f = c.push-n in
    let g = c.push in
    let k : ℕ = entry a.self.now.transitions.now transition_fields x.t 1 in
    let y : transition_fields * x.t + transition_fields - transition_fields * x.t ≡ transition_fields = omega arith in
    let z : arc_fields * (x.c.arc + k) - arc_fields * x.c.arc ≡ arc_fields * k = omega arith in
    place_more _ _ _ _ _ _ _ _ _ x.invariant (omega arith) f.new.numbers g.new.numbers _ _ f.result g.result k refl
    (ap (λ (i : ℕ). take i (drop (transition_fields * x.t) a.self.now.transitions.now)) y) (ap (λ (i : ℕ). take i (drop (arc_fields * x.c.arc) a.self.now.arcs.now)) z)
    f.ensures.numbers_len_unchanged g.ensures.numbers_len_unchanged f.ensures.by_index g.ensures.by_index

pub returns-clause-arc_value : goal.returns-clause-arc_value
returns-clause-arc_value c =
    let e : c.loop-t.t ≡ c.args.first + c.args.count = omega arith in
    c.loop-t.invariant.is ∙ ap (arcs_before c.args.self.now.transitions.now) e

pub returns-clause-by_index : goal.returns-clause-by_index
returns-clause-by_index c = place_done _ _ _ _ _ _ _ _ _ c.loop-t.invariant _ (omega arith)
