use Rattle.std.proofs.Common.{rules, refl}
use Rattle.runners.specs.Calls.{flat_call}
use Rattle.net_runner.proofs.SliceLaws.{flat_kept, flat_handed}
use Rattle.net_runner.proofs.lending.Lent.flat_row.Goals as goal

pub returns-in_err-state : goal.returns-in_err-state
returns-in_err-state c =
    let a = c.args in
    flat_kept a.self.now _ _ (search rules) a.card.now a.row.now c.in_err-state.field-0.0 (search rules) (search rules) refl

pub returns : goal.returns
returns c =
    let a = c.args in
    let l = c.in_ok-state.state in
    flat_handed a.self.now _ _ a.card.now a.row.now l (search rules) (c.hand_back.ensures (flat_call a.card.now l a.row.now) c.flat_row.ensures (search rules))
