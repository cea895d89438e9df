use Rattle.std.proofs.Common.{false, inl, inr, refl, sym, ◌∙◌, arith}
use Rattle.programs.proofs.AgreeLaws.{agreed_never, fresh_refused, fresh_answer, counts_never, agreed_is}
use Rattle.programs.proofs.agree.agree.Goals as goal

pub returns-in_default : goal.returns-in_default
returns-in_default c =
    let h = rw c.in_default.is at c.fresh.ensures in
    agreed_never c.args.card.now c.args.file.now false (fresh_refused c.args.card.now _ h.fresh) refl

pub returns-then-subnets-lt1 : goal.returns-then-subnets-lt1
returns-then-subnets-lt1 c =
    let h = rw c.in-Ok.is at c.fresh.ensures in
    agreed_never c.args.card.now c.args.file.now false
    (counts_never c.args.card.now c.args.file.now c.in-Ok.first.counts c.in-Ok.first.state (h.answer ∙ fresh_answer c.args.card.now) h.fresh (λ x y z. elim c.then-subnets-lt1.either [
      | inl p ↦ omega (arith, c.from-subnets.ensures)
      | inr q ↦ elim q [ inl p ↦ omega (arith, c.from-subnets.ensures) | inr r ↦ omega arith ]
    ]))
    refl

pub returns : goal.returns
returns c =
    let h = rw c.in-Ok.is at c.fresh.ensures in
    agreed_is c.args.card.now c.args.file.now c.in-Ok.first.counts c.in-Ok.first.state (h.answer ∙ fresh_answer c.args.card.now) h.fresh c.agree_from.result
    (λ k eg es. c.agree_from.ensures k eg (es ∙ sym c.from-subnets.ensures))
