-- `runners::guards::high_degree` meets its contract.
use Rattle.std.proofs.Common.{◌≡◌, ℕ, Bool, true, false, ltb, rules, tests}
use Rattle.std.proofs.lemmas.Iterator.{IsFirst-from_position, YieldsList-from_slice}
use Rattle.flattening.specs.Flattening.{flatten}
use Rattle.runners.specs.State.{scale}
use Rattle.runners.proofs.ListLaws.{lowest_item}
use Rattle.runners.proofs.guards.high_degree.Goals as goal

pub returns : goal.returns
returns c =
    let a = c.args in
    let test : ℕ → Bool = λ d. ltb (scale (flatten a.card.now)) d in
    lowest_item 0 test a.row.now c.position.result
    (IsFirst-from_position _ _ c.position.result (λ d. test d ≡ true) (λ d. test d ≡ false) c.position.ensures.ran (YieldsList-from_slice a.row.now cc) (λ x q k. search (rules, tests)) (λ x q k. search (rules, tests)))
