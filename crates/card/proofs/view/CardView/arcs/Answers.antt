-- The arcs that the transition lists are held in the tables, one behind the other.
use Rattle.std.proofs.Common.{arith, refl, ap, map, ◌∙◌}
use Rattle.card.specs.View.{arc_in}
use Rattle.card.proofs.ViewLaws.{arcs_inside, arcs_held, no_arcs, arcs_few}
use Rattle.card.proofs.view.CardView.arcs.Goals as goal

pub returns-then-self-t-clause-rows : goal.returns-then-self-t-clause-rows
returns-then-self-t-clause-rows c =
    let x = c.self in
    ap (map arc_in) c.new.ensures ∙ no_arcs _ _ _ x.invariant x.view_is c.args.t c.if-self-t.true

pub returns-then-self-t-clause-few : goal.returns-then-self-t-clause-few
returns-then-self-t-clause-few c =
    let x = c.self in
    arcs_few _ _ _ x.invariant x.view_is c.args.t c.new.result
    (ap (map arc_in) c.new.ensures ∙ no_arcs _ _ _ x.invariant x.view_is c.args.t c.if-self-t.true)

pub slice_bounds-new-end-2 : goal.slice_bounds-new-end-2
slice_bounds-new-end-2 c =
    let x = c.self in
    let h = arcs_inside _ _ _ x.invariant x.view_is c.args.t _ c.transition.result c.transition.ensures c.if-self-t.false refl in
    omega (arith, h)

pub returns-clause-rows : goal.returns-clause-rows
returns-clause-rows c =
    let x = c.self in
    ap (map arc_in) c.new-2.ensures
    ∙ arcs_held _ _ _ x.invariant x.view_is c.args.t _ _ c.transition.result c.transition.ensures c.if-self-t.false refl (omega arith)

pub returns-clause-few : goal.returns-clause-few
returns-clause-few c =
    let x = c.self in
    arcs_few _ _ _ x.invariant x.view_is c.args.t c.new-2.result
    (ap (map arc_in) c.new-2.ensures
    ∙ arcs_held _ _ _ x.invariant x.view_is c.args.t _ _ c.transition.result c.transition.ensures c.if-self-t.false refl (omega arith))
