-- `runners::guards::transfers_in_range` meets its contract.
use Rattle.std.proofs.Common.{◌≡◌, Bool, true, false, rules, tests}
use Rattle.std.proofs.lemmas.Iterator.{cases_from_all, YieldsList-from_slice}
use Rattle.flattening.specs.Flattening.{flatten}
use Rattle.runners.specs.Calls.{in_range}
use Rattle.runners.specs.declared.Transfer.{Transfer}
use Rattle.runners.specs.declared.Transfer.TheVariants.{Idle}
use Rattle.runners.proofs.ListLaws.{every_item}
use Rattle.runners.proofs.guards.transfers_in_range.Goals as goal

pub returns : goal.returns
returns c =
    let a = c.args in
    let test : Transfer → Bool = in_range (flatten a.card.now) in
    every_item Idle test a.transfers.now c.all.result
    (cases_from_all _ _ c.all.result (λ x. test x ≡ true) (λ x. test x ≡ false) c.all.ensures.ran (YieldsList-from_slice a.transfers.now cc) (λ x q k. search (rules, tests)) (λ x q k. search (rules, tests)))
