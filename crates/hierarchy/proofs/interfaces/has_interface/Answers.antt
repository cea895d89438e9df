use Rattle.std.proofs.Common.{◌+◌, eqb, not, rules}
use borrow.Author.Tests.{tests}
use Rattle.card.specs.Card.{normal, subnet_at, place_at, first_place}
use Rattle.card.proofs.RowListLaws.{places_yield}
use Rattle.hierarchy.specs.Conditions.{kind_of}
use Rattle.hierarchy.specs.Check.{has_interface}
use Rattle.hierarchy.proofs.AnyBelow.{any_row}
use Rattle.hierarchy.proofs.interfaces.has_interface.Goals as goal

pub returns : goal.returns
unfolding has_interface
returns c =
    let d = c.args.card.now in
    let i = c.args.i in
    any_row (subnet_at d i).places (λ n. place_at d (first_place d i + n)) (λ n. not (eqb (kind_of d i n) normal)) _ _ c.any.result c.any.ensures.ran (places_yield d i _ c.places_of.ensures.rows)
    (λ x b q k. (search (rules, tests), λ n l z. search (rules, tests)))
