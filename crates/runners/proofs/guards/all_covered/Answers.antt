-- `runners::guards::all_covered` meets its contract.
use Rattle.std.proofs.Common.{[]}
use Rattle.runners.proofs.GuardLaws.{covered_told}
use Rattle.runners.proofs.guards.all_covered.Goals as goal

pub returns : goal.returns
returns c =
    let a = c.args in
    let k = c.card-card in
    λ h. covered_told a.net.now k.ensures.meets a.state.now h k.result.now k.ensures.value c.transitions.result c.transitions.ensures.value [] c.new-work.result c.each.new.work c.new-work.ensures c.each.ensures
    c.full.result.now c.full.ensures c.places.result c.places.ensures.value c.uncovered.result c.uncovered.ensures c.is_none.result c.is_none.ensures
