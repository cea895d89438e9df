-- A turn of the loop, by the lemmas of proofs/WriteTurn.antt: `Behind` says what is behind and what is still to be spelt.
use Rattle.std.proofs.Common.{Ok, refl, sym, ap, ◌∙◌, arith}
use borrow.Author.Tests.{leb-true, leb-false}
use Rattle.card.specs.declared.layout.Next.TheVariants.{More}
use Rattle.card.proofs.WriteTurn.{behind_start, behind_room, behind_wide, behind_bad, behind_more, behind_filled, behind_done, behind_all}
use Rattle.card.proofs.writer.spell_numbers.Goals as goal
use Rattle.card.proofs.writer.spell_numbers.Goals.{in-Some, in-None+in-Ok-More}

pub loop-n-init : goal.loop-n-init
loop-n-init c = rw c.start-l.ensures (behind_start c.args.numbers.now)

pub returns-then-too_wide : goal.returns-then-too_wide
returns-then-too_wide c =
    λ d k. absurd (behind_wide _ _ _ _ _ _ _ c.loop-n.invariant c.width-w.ensures.0 c.number_at-v.ensures (leb-true _ _ (sym c.too_wide.ensures ∙ c.if-too_wide.true)) d k)

pub put_field-requires-clause-inside : goal.put_field-requires-clause-inside
put_field-requires-clause-inside c = omega (arith, behind_room _ _ _ _ _ _ 0 c.loop-n.invariant c.width-w.ensures.0)

pub of-requires : goal.of-requires
of-requires c = (
  omega arith,
  (
    omega arith,
    behind_filled _ _ _ _ _ _ _ c.loop-n.invariant c.width-w.ensures.0 c.step.result c.put_field.new.out c.number_at-v.ensures
        (leb-false _ _ (sym c.too_wide.ensures ∙ c.if-too_wide.false)) c.put_field.ensures c.step.ensures,
  ),
)

pub returns-in-Ok-Done : goal.returns-in-Ok-Done
returns-in-Ok-Done c =
    λ d k. behind_done _ _ _ _ _ _ _ c.loop-n.invariant c.width-w.ensures.0 c.step.result c.put_field.new.out c.number_at-v.ensures
    (leb-false _ _ (sym c.too_wide.ensures ∙ c.if-too_wide.false)) c.put_field.ensures c.step.ensures _ (c.in-Ok-Done.is ∙ ap (λ x. Ok x) c.in-Ok-Done.field-0-is) d k _ c.of.ensures

pub returns-in-Err : goal.returns-in-Err
returns-in-Err c =
    λ d k. behind_bad _ _ _ _ _ _ _ c.loop-n.invariant c.width-w.ensures.0 c.step.result c.put_field.new.out c.number_at-v.ensures
    (leb-false _ _ (sym c.too_wide.ensures ∙ c.if-too_wide.false)) c.put_field.ensures c.step.ensures _ c.in-Err.is d k

pub loop-n-preserved : goal.loop-n-preserved
loop-n-preserved c =
    let fits = leb-false _ _ (sym c.too_wide.ensures ∙ c.if-too_wide.false) in
    elim c.match-arc_step.branch [
      | in-Some w ↦
          rw w.l-is (behind_more _ _ _ _ _ _ _ c.loop-n.invariant c.width-w.ensures.0 (Ok (More w.in-Some.m)) c.put_field.new.out c.number_at-v.ensures
          fits c.put_field.ensures (w.in-Some.ensures _ refl _) w.in-Some.m refl)
      | in-None+in-Ok-More w ↦
          rw w.l-is (behind_more _ _ _ _ _ _ _ c.loop-n.invariant c.width-w.ensures.0 w.step.result c.put_field.new.out c.number_at-v.ensures
          fits c.put_field.ensures w.step.ensures _ (w.in-Ok-More.is ∙ ap (λ x. Ok x) w.in-Ok-More.field-0-is))
    ]

-- no card has more numbers than the turns
pub returns : goal.returns
returns c = λ d k. absurd (behind_all _ _ _ _ _ c.loop-n.invariant (omega (arith, c.loop-n-test.false)))
