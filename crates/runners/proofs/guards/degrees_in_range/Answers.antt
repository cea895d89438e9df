-- `runners::guards::degrees_in_range` meets its contract.
use Rattle.std.proofs.Common.{◌≡◌, ℕ, Bool, true, false, leb, rules, tests}
use Rattle.std.proofs.lemmas.Iterator.{cases_from_all, YieldsList-from_slice}
use Rattle.flattening.specs.Flattening.{flatten}
use Rattle.runners.specs.State.{scale}
use Rattle.runners.proofs.ListLaws.{every_item}
use Rattle.runners.proofs.guards.degrees_in_range.Goals as goal

pub returns : goal.returns
returns c =
    let a = c.args in
    let test : ℕ → Bool = λ d. leb d (scale (flatten a.card.now)) in
    every_item 0 test a.degrees.now c.all.result
    (cases_from_all _ _ c.all.result (λ d. test d ≡ true) (λ d. test d ≡ false) c.all.ensures.ran (YieldsList-from_slice a.degrees.now cc) (λ x q k. search (rules, tests)) (λ x q k. search (rules, tests)))
