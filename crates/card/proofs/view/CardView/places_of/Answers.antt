-- The places that the subnet lists are held in the tables, one behind the other.
use Rattle.std.proofs.Common.{arith, refl, ap, map, ◌∙◌}
use Rattle.card.specs.View.{place_in}
use Rattle.card.proofs.ViewLaws.{places_inside, places_held, no_places, places_few}
use Rattle.card.proofs.view.CardView.places_of.Goals as goal

pub returns-then-self-s-clause-rows : goal.returns-then-self-s-clause-rows
returns-then-self-s-clause-rows c =
    let x = c.self in
    ap (map place_in) c.new.ensures ∙ no_places _ _ _ x.invariant x.view_is c.args.s c.if-self-s.true

pub returns-then-self-s-clause-few : goal.returns-then-self-s-clause-few
returns-then-self-s-clause-few c =
    let x = c.self in
    places_few _ _ _ x.invariant x.view_is c.args.s c.new.result
    (ap (map place_in) c.new.ensures ∙ no_places _ _ _ x.invariant x.view_is c.args.s c.if-self-s.true)

pub slice_bounds-new-end-2 : goal.slice_bounds-new-end-2
slice_bounds-new-end-2 c =
    let x = c.self in
    let h = places_inside _ _ _ x.invariant x.view_is c.args.s _ c.subnet.result c.subnet.ensures c.if-self-s.false refl in
    omega (arith, h)

pub returns-clause-rows : goal.returns-clause-rows
returns-clause-rows c =
    let x = c.self in
    ap (map place_in) c.new-2.ensures
    ∙ places_held _ _ _ x.invariant x.view_is c.args.s _ _ c.subnet.result c.subnet.ensures c.if-self-s.false refl (omega arith)

pub returns-clause-few : goal.returns-clause-few
returns-clause-few c =
    let x = c.self in
    places_few _ _ _ x.invariant x.view_is c.args.s c.new-2.result
    (ap (map place_in) c.new-2.ensures
    ∙ places_held _ _ _ x.invariant x.view_is c.args.s _ _ c.subnet.result c.subnet.ensures c.if-self-s.false refl (omega arith))
