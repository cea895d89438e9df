use Rattle.std.proofs.Common.{◌≡◌, refl, rules, arith, ℕ}
use borrow.Author.Tests.{tests, ne_eqb}
use Rattle.std.specs.List.{range_with_len}
use Rattle.std.proofs.lemmas.Iterator.{YieldsList-from_range}
use Rattle.std.proofs.lemmas.Iterator.Consumers.{YieldsList-at}
use Rattle.std.proofs.lemmas.List.FromFn.{length-range_with_len, get_or-range_with_len}
use Rattle.card.specs.Card.{subnet_at}
use Rattle.hierarchy.specs.Check.{alike_transitions}
use Rattle.hierarchy.specs.inner.Likeness.{transition_alike}
use Rattle.hierarchy.proofs.WalkLaws.{counts_differ}
use Rattle.hierarchy.proofs.AllBelow.{all_beside, as_many}
use Rattle.hierarchy.proofs.TypeLaws.{own_transitions}
use Rattle.hierarchy.proofs.types.Pair.alike_transitions.Goals as goal

pub returns-then-len : goal.returns-then-len
returns-then-len c =
    let p = c.args.self.now in
    let d = p.card.now in
    let v = c.transitions_of-lower in
    let w = c.transitions_of-upper in
    let n : ℕ = c.len.result in
    let lower : n ≡ (subnet_at d p.lower).transitions = omega (arith, c.len.ensures.value, own_transitions d p.lower _ _ v.ensures.start v.ensures.end) in
    let upper : c.len-2.result ≡ (subnet_at d p.upper).transitions = omega (arith, c.len-2.ensures.value, own_transitions d p.upper _ _ w.ensures.start w.ensures.end) in
    as_many (subnet_at d p.lower).transitions (subnet_at d p.upper).transitions n c.len-2.result (transition_alike d p.lower p.upper) c.all.result lower upper c.if-len.true
    (all_beside n (range_with_len v.result.start n) (range_with_len w.result.start n) (alike_transitions d p.lower p.upper) (transition_alike d p.lower p.upper) _ _ c.all.result c.all.ensures.ran
    (YieldsList-at c.zip.ensures.first (YieldsList-from_range v.result.start v.result.end n refl (omega (arith, c.len.ensures.value))))
    (YieldsList-at c.zip.ensures.second (YieldsList-from_range w.result.start w.result.end n refl (omega (arith, c.len-2.ensures.value, c.if-len.true))))
    (length-range_with_len v.result.start n) (length-range_with_len w.result.start n)
    (λ x b q k. search (rules, tests))
    (λ k l. rw (get_or-range_with_len v.result.start n k 0 l, get_or-range_with_len w.result.start n k 0 l, v.ensures.start, w.ensures.start) refl))

pub returns-else-len : goal.returns-else-len
returns-else-len c =
    let p = c.args.self.now in
    let d = p.card.now in
    let v = c.transitions_of-lower in
    let w = c.transitions_of-upper in
    let lower : c.len.result ≡ (subnet_at d p.lower).transitions = omega (arith, c.len.ensures.value, own_transitions d p.lower _ _ v.ensures.start v.ensures.end) in
    let upper : c.len-2.result ≡ (subnet_at d p.upper).transitions = omega (arith, c.len-2.ensures.value, own_transitions d p.upper _ _ w.ensures.start w.ensures.end) in
    rw (ne_eqb c.len.result c.len-2.result c.if-len.false) (counts_differ (subnet_at d p.lower).transitions (subnet_at d p.upper).transitions c.len.result c.len-2.result (transition_alike d p.lower p.upper) lower upper c.if-len.false)
