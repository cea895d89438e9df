use Rattle.std.proofs.Common.{◌≡◌, ℕ, List, length, refl, sym, ap, ◌∙◌, rules, arith}
use borrow.Author.Tests.{tests}
use Rattle.std.specs.List.{filter, range_with_len}
use Rattle.std.proofs.lemmas.Iterator.{YieldsList-from_range}
use Rattle.std.proofs.lemmas.Iterator.Consumers.{YieldsList-at, YieldsList-from_filter}
use Rattle.hierarchy.specs.Conditions.{is_child, children}
use Rattle.hierarchy.specs.Check.{same_type}
use Rattle.hierarchy.specs.inner.Likeness.{child_alike}
use Rattle.hierarchy.proofs.AllBelow.{all_beside, as_many}
use Rattle.hierarchy.proofs.ChildLaws.{child_counted, ordinal_filtered, children_filtered}
use Rattle.hierarchy.proofs.types.alike_children.Goals as goal

pub returns-then-ordinal : goal.returns-then-ordinal
returns-then-ordinal c =
    let a = c.args in
    let d = a.card.now in
    let m : ℕ = c.subnets-subnets.result in
    let n : ℕ = c.ordinal.result in
    let xs : List ℕ = filter (is_child d a.r) (range_with_len 0 m) in
    let ys : List ℕ = filter (is_child d a.s) (range_with_len 0 m) in
    let x : xs ≡ children d a.r = ap (λ (k : ℕ). filter (is_child d a.r) (range_with_len 0 k)) c.subnets-subnets.ensures.value ∙ sym (children_filtered d a.r) in
    let y : ys ≡ children d a.s = ap (λ (k : ℕ). filter (is_child d a.s) (range_with_len 0 k)) c.subnets-subnets.ensures.value ∙ sym (children_filtered d a.s) in
    as_many (length (children d a.r)) (length (children d a.s)) n c.ordinal-2.result (child_alike d a.r a.s) c.all.result
    (child_counted d m a.r n c.subnets-subnets.ensures.value c.ordinal.ensures) (child_counted d m a.s c.ordinal-2.result c.subnets-subnets.ensures.value c.ordinal-2.ensures) c.if-ordinal.true
    (all_beside n xs ys (same_type d) (child_alike d a.r a.s) _ _ c.all.result c.all.ensures.ran
    (YieldsList-at c.zip.ensures.first (YieldsList-from_filter _ (is_child d a.r) (YieldsList-at c.filter-lower.ensures.source (YieldsList-from_range 0 m m refl (omega arith))) c.filter-lower.ensures.closure (λ i b q k. search (rules, tests))))
    (YieldsList-at c.zip.ensures.second (YieldsList-from_filter _ (is_child d a.s) (YieldsList-at c.filter-upper.ensures.source (YieldsList-from_range 0 m m refl (omega arith))) c.filter-upper.ensures.closure (λ i b q k. search (rules, tests))))
    (sym (c.ordinal.ensures ∙ ordinal_filtered d a.r m)) (sym (c.if-ordinal.true ∙ c.ordinal-2.ensures ∙ ordinal_filtered d a.s m))
    (λ i b q k. search (rules, tests))
    (λ k l. rw (x, y) refl))
