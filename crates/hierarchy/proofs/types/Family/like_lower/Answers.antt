use Rattle.std.proofs.Common.{◌≡◌, ◌≤◌, ◌<◌, ℕ, Some, None, true, false, ◌∙◌, rules, arith}
use borrow.Author.Tests.{tests}
use Rattle.std.proofs.lemmas.Iterator.{first_from_Range}
use Rattle.hierarchy.specs.Check.{same_type}
use Rattle.hierarchy.proofs.LikeLaws.{like_lowest, none_lower}
use Rattle.hierarchy.proofs.types.Family.like_lower.Goals as goal

pub returns-in-Some : goal.returns-in-Some
returns-in-Some c =
    let a = c.args in
    let d = a.self.now.card.now in
    let r : ℕ = c.in-Some.r in
    let h : (0 ≤ r) × (r < a.s) × (same_type d r a.s ≡ true) × ((k : ℕ) → 0 ≤ k → k < r → same_type d k a.s ≡ false) =
    first_from_Range _ _ _ (Some r) (λ k. same_type d k a.s ≡ true) (λ k. same_type d k a.s ≡ false) c.in-Some.ensures.ran (λ x q k. search (rules, tests)) (λ x q k. search (rules, tests)) in
    λ w. c.alike.ensures ∙ like_lowest d a.s r h.1 (λ k l. h.3 k (omega arith) l) h.2 w

pub returns-in-None : goal.returns-in-None
returns-in-None c =
    let a = c.args in
    let d = a.self.now.card.now in
    let h : (k : ℕ) → 0 ≤ k → k < a.s → same_type d k a.s ≡ false =
    first_from_Range _ _ _ None (λ k. same_type d k a.s ≡ true) (λ k. same_type d k a.s ≡ false) c.in-None.ensures.ran (λ x q k. search (rules, tests)) (λ x q k. search (rules, tests)) in
    λ w. none_lower d a.s a.s (omega arith) (λ k l. h k (omega arith) l)
