-- A transition that is counted is held in the tables.
use Rattle.std.proofs.Common.{arith, refl}
use Rattle.card.proofs.ViewLaws.{transition_counted}
use Rattle.card.proofs.view.CardView.transition.Goals as goal

pub bounds-self-inside-row : goal.bounds-self-inside-row
bounds-self-inside-row c =
    let x = c.self in
    let h = transition_counted _ _ _ x.invariant x.view_is c.args.t _ c.if-self-t.false refl in
    omega (arith, h.inside)

pub bounds-self-inside-row-2 : goal.bounds-self-inside-row-2
bounds-self-inside-row-2 c =
    let x = c.self in
    let h = transition_counted _ _ _ x.invariant x.view_is c.args.t _ c.if-self-t.false refl in
    omega (arith, h.inside)

pub bounds-self-inside-row-3 : goal.bounds-self-inside-row-3
bounds-self-inside-row-3 c =
    let x = c.self in
    let h = transition_counted _ _ _ x.invariant x.view_is c.args.t _ c.if-self-t.false refl in
    omega (arith, h.inside)

pub returns : goal.returns
returns c =
    let x = c.self in
    let h = transition_counted _ _ _ x.invariant x.view_is c.args.t _ c.if-self-t.false refl in
    rw (h.signal, h.arcs, h.rank)
