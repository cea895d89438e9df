use Rattle.std.proofs.Common.{◌≡◌, ◌<◌, ℕ, length, true, false, sym, ap, ◌∙◌, arith}
use Rattle.card.specs.Card.{Card}
use Rattle.card.specs.Writing.{subnet_bit}
use Rattle.hierarchy.specs.Check.{like_lower}
use Rattle.hierarchy.specs.declared.CardFault.TheVariants.{Unlike}
use Rattle.hierarchy.proofs.WalkLaws.{Below, first_fails, first_passes}
use Rattle.hierarchy.proofs.types.types_fault.Goals as goal

pub returns-then-not-like_lower : goal.returns-then-not-like_lower
returns-then-not-like_lower c =
    let d = c.args.card.now in
    let s : ℕ = c.loop-s.s in
    let l : s < length d.subnets = omega arith in
    let h : Below s (like_lower c.of-family.result.card.now) true = rw c.of-family.ensures c.loop-s.invariant in
    let e : false ≡ like_lower d s = c.if-not-like_lower.ensures h ∙ ap (λ (x : Card). like_lower x s) c.of-family.ensures in
    rw c.at.ensures (first_fails (length d.subnets) s (subnet_bit d) (like_lower d) Unlike c.subnet_bit.result c.loop-s.invariant l (sym e) (c.subnet_bit.ensures.value l))

pub returns : goal.returns
returns c = let d = c.args.card.now in first_passes (length d.subnets) c.loop-s.s (subnet_bit d) (like_lower d) Unlike c.loop-s.invariant (omega arith)
