use Rattle.std.proofs.Common.{◌≡◌, refl, sym, ◌∙◌, ◌&&◌, eqb, slice_index_or}
use Rattle.hierarchy.specs.Conditions.{is_child}
use Rattle.hierarchy.specs.inner.Ordinals.{ordinal}
use Rattle.hierarchy.proofs.WalkLaws.{part_holds}
use Rattle.hierarchy.proofs.ChildLaws.{both_kth_is}
use Rattle.hierarchy.proofs.types.Pair.both_kth.Goals as goal

pub returns : goal.returns
returns c =
    let a = c.args in
    let p = a.self.now in
    let d = p.card.now in
    let x = is_child d p.lower a.a in
    let y = is_child d p.upper a.b in
    let z = eqb (ordinal d p.upper a.b) (ordinal d p.lower a.a) in
    let k : slice_index_or p.ordinals.now a.a 0 ≡ ordinal d p.lower a.a = p.known p.lower a.a (sym c.if-not-is_child.ensures.value) in
    let l : slice_index_or p.ordinals.now a.b 0 ≡ ordinal d p.upper a.b = p.known p.upper a.b (sym c.if-not-is_child-2.ensures.value) in
    let e : eqb (slice_index_or p.ordinals.now a.b 0) (slice_index_or p.ordinals.now a.a 0) ≡ z = rw (k, l) refl in
    e ∙ part_holds z x (y && z) c.if-not-is_child.ensures.value (part_holds z y z c.if-not-is_child-2.ensures.value refl) ∙ sym (both_kth_is d p.lower p.upper a.a a.b p.as_many)
