use Rattle.std.proofs.Common.{ap, refl, rules, sym, ◌∙◌, ◌+◌, ◌≡◌}
use borrow.Author.Tests.{tests}
use Rattle.std.proofs.lemmas.Iterator.Consumers.{YieldsList-at}
use Rattle.card.specs.Card.{Subnet, subnet_at, place_at, first_place}
use Rattle.card.proofs.RowListLaws.{places_yield}
use Rattle.hierarchy.specs.inner.Likeness.{place_alike}
use Rattle.hierarchy.proofs.AllBelow.{all_row_pairs, as_many}
use Rattle.hierarchy.proofs.types.alike_places.Goals as goal

pub returns-then-subnet : goal.returns-then-subnet
returns-then-subnet c =
    let a = c.args in
    let d = a.card.now in
    let lower : c.subnet.result.places ≡ (subnet_at d a.r).places = ap (λ (x : Subnet). x.places) c.subnet.ensures in
    let upper : c.subnet-2.result.places ≡ (subnet_at d a.s).places = ap (λ (x : Subnet). x.places) c.subnet-2.ensures in
    let same : (subnet_at d a.r).places ≡ (subnet_at d a.s).places = sym lower ∙ c.if-subnet.true ∙ upper in
    as_many (subnet_at d a.r).places (subnet_at d a.s).places (subnet_at d a.r).places (subnet_at d a.s).places (place_alike d a.r a.s) c.all.result refl refl same
    (all_row_pairs (subnet_at d a.r).places (subnet_at d a.s).places (λ n. place_at d (first_place d a.r + n)) (λ n. place_at d (first_place d a.s + n)) (place_alike d a.r a.s) _ _ c.all.result same
    c.all.ensures.ran
    (YieldsList-at c.zip.ensures.first (places_yield d a.r _ c.places_of.ensures.rows))
    (YieldsList-at c.zip.ensures.second (places_yield d a.s _ c.places_of-then-subnet.ensures.rows))
    (λ x b q k. (search (rules, tests), λ n l y z. search (rules, tests))))
