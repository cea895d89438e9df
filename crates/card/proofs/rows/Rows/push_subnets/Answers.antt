-- Each subnet's row, its places and its transitions lie within the slices, and are put behind what the table holds.
use Rattle.std.proofs.Common.{ℕ, ◌≡◌, ◌+◌, ◌-◌, ◌*◌, take, drop, refl, ap, arith}
use Rattle.card.specs.Card.{subnet_fields, place_fields}
use Rattle.card.specs.Rows.{entry}
use Rattle.card.proofs.RunLaws.{lay_start, lay_places, lay_inside, lay_more, lay_done}
use Rattle.card.proofs.rows.Rows.push_subnets.Goals as goal

pub loop-s-init : goal.loop-s-init
loop-s-init c = lay_start _ _ _ _ _ _

pub overflow_add-next-in-loop-s : goal.overflow_add-next-in-loop-s
overflow_add-next-in-loop-s c =
    omega (arith, lay_places _ _ _ _ _ _ _ _ _ _ _ _ c.loop-s.invariant c.requires c.loop-s-test.true)

pub overflow_mul-place : goal.overflow_mul-place
overflow_mul-place c =
    omega (arith, lay_places _ _ _ _ _ _ _ _ _ _ _ _ c.loop-s.invariant c.requires c.loop-s-test.true)

pub overflow_mul-next : goal.overflow_mul-next
overflow_mul-next c =
    omega (arith, lay_places _ _ _ _ _ _ _ _ _ _ _ _ c.loop-s.invariant c.requires c.loop-s-test.true)

pub offset_bounds-self-place : goal.offset_bounds-self-place
offset_bounds-self-place c =
    omega (arith, lay_places _ _ _ _ _ _ _ _ _ _ _ _ c.loop-s.invariant c.requires c.loop-s-test.true)

pub slice_bounds-push-end-in-loop-s : goal.slice_bounds-push-end-in-loop-s
slice_bounds-push-end-in-loop-s c =
    omega (arith, lay_places _ _ _ _ _ _ _ _ _ _ _ _ c.loop-s.invariant c.requires c.loop-s-test.true)

pub push_transitions-c-requires : goal.push_transitions-c-requires
push_transitions-c-requires c = lay_inside _ _ _ _ _ _ _ _ _ _ _ _ c.loop-s.invariant c.requires c.loop-s-test.true _ refl

pub overflow_add-transition : goal.overflow_add-transition
overflow_add-transition c =
    omega (arith, (lay_inside _ _ _ _ _ _ _ _ _ _ _ _ c.loop-s.invariant c.requires c.loop-s-test.true _ refl).rows)

pub loop-s-preserved : goal.loop-s-preserved
loop-s-preserved c =
    let s = c.args.self.now in
    let x = c.loop-s in
    let f = c.push-m in
    let g = c.push-m-in-loop-s in
    let h = c.push_transitions-c in
    let i : ℕ = entry s.subnets.now subnet_fields x.s 2 in
    let k : ℕ = entry s.subnets.now subnet_fields x.s 3 in
    let y : subnet_fields * x.s + subnet_fields - subnet_fields * x.s ≡ subnet_fields = omega arith in
    let z : place_fields * (x.place + i) - place_fields * x.place ≡ place_fields * i = omega arith in
    lay_more _ _ _ _ _ _ _ _ _ _ _ _ x.invariant f.new.numbers g.new.numbers h.new.numbers _ _ f.result g.result h.result.filled i k h.result.arc refl refl
    (ap (λ (n : ℕ). take n (drop (subnet_fields * x.s) s.subnets.now)) y) (ap (λ (n : ℕ). take n (drop (place_fields * x.place) s.places.now)) z) h.ensures.arc_value
    f.ensures.numbers_len_unchanged g.ensures.numbers_len_unchanged h.ensures.numbers_len_unchanged f.ensures.by_index g.ensures.by_index h.ensures.by_index

pub returns-clause-by_index : goal.returns-clause-by_index
returns-clause-by_index c = lay_done _ _ _ _ _ _ _ _ _ _ _ _ c.loop-s.invariant (omega arith)
