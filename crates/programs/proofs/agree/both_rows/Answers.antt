use Rattle.std.proofs.Common.{ap}
use mathlib.Core.Bool.{not}
use Rattle.runners.specs.Rows.{degrees, row}
use Rattle.programs.proofs.AgreeLaws.{flat_asked, subnet_asked, replies_part, states_part, both_left}
use Rattle.programs.proofs.agree.both_rows.Goals as goal

pub returns-then-not-same_reply : goal.returns-then-not-same_reply
returns-then-not-same_reply c =
    let a = c.args in
    let f = c.flat_row-flat in
    let u = c.subnet_row-subnet in
    replies_part a.card.now a.order.now (row (degrees a.row.now)) a.before f.result u.result (flat_asked a.card.now a.row.now a.before.flat f.result f.ensures)
    (subnet_asked a.card.now a.order.now a.row.now a.before.subnet u.result u.ensures) c.same_reply.result c.same_reply.ensures (ap not c.if-not-same_reply.true)

pub returns-then-not-same_state : goal.returns-then-not-same_state
returns-then-not-same_state c =
    let a = c.args in
    let f = c.flat_row-flat in
    let u = c.subnet_row-subnet in
    states_part a.card.now a.order.now (row (degrees a.row.now)) a.before f.result u.result (flat_asked a.card.now a.row.now a.before.flat f.result f.ensures)
    (subnet_asked a.card.now a.order.now a.row.now a.before.subnet u.result u.ensures) c.same_state.result c.same_state.ensures (ap not c.if-not-same_state.true)

pub returns : goal.returns
returns c =
    let a = c.args in
    let f = c.flat_row-flat in
    let u = c.subnet_row-subnet in
    both_left a.card.now a.order.now (row (degrees a.row.now)) a.before f.result u.result (flat_asked a.card.now a.row.now a.before.flat f.result f.ensures)
    (subnet_asked a.card.now a.order.now a.row.now a.before.subnet u.result u.ensures) c.same_reply.result c.same_state.result c.same_reply.ensures (ap not c.if-not-same_reply.false)
    c.same_state.ensures (ap not c.if-not-same_state.false)
