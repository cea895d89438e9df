-- A bit that is set, a further byte, or nothing: what `excess` says.
use Rattle.std.proofs.Common.{◌≡◌, ◌*◌, ℕ, Bool, true, false, eqb, rules, tests}
use Rattle.std.proofs.lemmas.Iterator.{first_from_Range}
use Rattle.card.specs.Bits.{bit, bit_field, bytes_for}
use Rattle.card.proofs.ReadLaws.{excess_found}
use Rattle.card.proofs.SearchLaws.{lowest_found}
use Rattle.card.proofs.reader.excess_at.Goals as goal

pub returns : goal.returns
returns c =
    let a = c.args in
    let test : ℕ → Bool = λ i. eqb (bit_field (bit a.card.now) i 1) 1 in
    excess_found a.card.now a.end c.find.result c.or.result
    (lowest_found a.end (8 * bytes_for a.end) test c.find.result
    (first_from_Range _ _ _ c.find.result (λ i. test i ≡ true) (λ i. test i ≡ false) c.find.ensures.ran (λ x q k. search (rules, tests)) (λ x q k. search (rules, tests))))
    (search rules)
