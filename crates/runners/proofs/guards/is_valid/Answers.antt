-- `runners::guards::is_valid` meets its contract.
use Rattle.runners.proofs.GuardLaws.{valid_fit}
use Rattle.runners.proofs.guards.is_valid.Goals as goal

pub returns-then-has_counts : goal.returns-then-has_counts
returns-then-has_counts c =
    let a = c.args in
    valid_fit a.net.now a.state.now c.card.result.now c.card.ensures.value _ c.has_counts.ensures c.if-has_counts.true _ c.is_consistent.ensures
