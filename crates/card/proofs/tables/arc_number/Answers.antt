-- Field k stands k entries behind the arc's first.
use Rattle.std.proofs.Common.{◌≡◌, ◌+◌, arith}
use Rattle.card.specs.Index.{arc_field}
use Rattle.card.proofs.tables.arc_number.Goals as goal

pub returns : goal.returns
unfolding arc_field
returns c =
    let a = c.args in
    let e : c.arc_start.result + a.k ≡ arc_field a.row a.j a.k = omega (arith, c.arc_start.ensures.0) in
    rw (← e) c.number_at.ensures
