-- `runners::verdict::uncovered` meets its contract.
use Rattle.std.proofs.Common.{◌≡◌, not, true, false, rules, tests}
use Rattle.std.proofs.lemmas.Iterator.{first_from_Range}
use Rattle.runners.specs.inner.Verdict.{covered_by}
use Rattle.runners.proofs.ChainLaws.{lowest_range}
use Rattle.runners.proofs.verdict.uncovered.Goals as goal

pub returns : goal.returns
returns c =
    let a = c.args in
    lowest_range a.places (λ p. not (covered_by a.full.now a.markings.now a.standing.now a.claimed.now p)) c.find.result
    (first_from_Range _ _ _ c.find.result (λ p. not (covered_by a.full.now a.markings.now a.standing.now a.claimed.now p) ≡ true) (λ p. not (covered_by a.full.now a.markings.now a.standing.now a.claimed.now p) ≡ false) c.find.ensures.ran
    (λ x q k. search (rules, tests)) (λ x q k. search (rules, tests)))
