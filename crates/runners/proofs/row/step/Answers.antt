-- `runners::row::step` meets its contract.
use Rattle.std.proofs.Common.{rules, ◌≡◌, length}
use Rattle.runners.proofs.RowLaws.{step_refused, step_made}
use Rattle.runners.proofs.row.step.Goals as goal

pub returns-in-Some : goal.returns-in-Some
returns-in-Some c =
    let a = c.args in
    let k = c.card-card in
    let q = c.requires in
    step_refused a.net.now k.ensures.meets a.state.now q.valid a.order.now q.ordered a.row.now k.result.now k.ensures.value c.new-work.result c.visit_all.new.work c.visit_all-2.new.work c.new-work.ensures c.visit_all.ensures c.visit_all-2.ensures
    c.full.result.now c.full.ensures c.places.result c.places.ensures.value c.uncovered.result c.uncovered.ensures c.in-Some.p c.in-Some.is

pub returns : goal.returns
returns c =
    let a = c.args in
    let k = c.card-card in
    let q = c.requires in
    let ml : length a.state.now.markings ≡ 255 = search rules in
    let xl : length a.state.now.transfers ≡ 255 = search rules in
    step_made a.net.now k.ensures.meets a.state.now q.valid a.order.now q.ordered a.row.now k.result.now k.ensures.value c.new-work.result c.visit_all.new.work c.visit_all-2.new.work c.new-work.ensures c.visit_all.ensures c.visit_all-2.ensures
    c.full.result.now c.full.ensures c.places.result c.places.ensures.value c.uncovered.result c.uncovered.ensures (search rules) _ (search rules) c.visit_all-3.new.work c.visit_all-3.ensures q.long ml xl c.record_degrees.new.state c.record_degrees.ensures
