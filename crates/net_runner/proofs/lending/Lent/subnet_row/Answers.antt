use Rattle.std.proofs.Common.{rules, refl}
use Rattle.runners.specs.Calls.{subnet_call}
use Rattle.net_runner.proofs.SliceLaws.{subnet_kept, subnet_handed}
use Rattle.net_runner.proofs.lending.Lent.subnet_row.Goals as goal

pub returns-in_err-state : goal.returns-in_err-state
returns-in_err-state c =
    let a = c.args in
    subnet_kept a.self.now _ _ (search rules) a.card.now a.order.now a.row.now c.in_err-state.field-0.0 (search rules) (search rules) refl

pub returns : goal.returns
returns c =
    let a = c.args in
    let l = c.in_ok-state.state in
    subnet_handed a.self.now _ _ a.card.now a.order.now a.row.now l (search rules) (c.hand_back.ensures (subnet_call a.card.now a.order.now l a.row.now) c.subnet_row.ensures (search rules))
