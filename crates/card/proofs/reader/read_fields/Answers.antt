-- A turn of the loop, by the lemmas of proofs/Turn.antt: `Left` says what is left to read.
use Rattle.std.proofs.Common.{Ok, refl, ap, ◌∙◌, arith}
use Rattle.card.specs.declared.layout.Next.TheVariants.{More}
use Rattle.card.proofs.Turn.{left_start, left_fits, left_ends, left_bad, left_more, left_done, left_arc}
use Rattle.card.proofs.ReadLaws.{refused_is, ended_is}
use Rattle.card.proofs.reader.read_fields.Goals as goal
use Rattle.card.proofs.reader.read_fields.Goals.{in-Some, in-None+in-Ok-More}

pub loop-h-init : goal.loop-h-init
loop-h-init c = rw c.start-l.ensures (left_start _ _ _ c.requires.0 c.requires.1)

pub loop-h-preserved-then-arc_ahead : goal.loop-h-preserved-then-arc_ahead
loop-h-preserved-then-arc_ahead c =
    let y = c.arc_ahead.ensures c.if-arc_ahead.true in
    rw c.arc_head_width-at.ensures (left_arc _ _ _ _ _ _ c.loop-h.invariant y.0 y.1 _ c.arc_head-h.ensures)

pub returns-then-card-at-clause-filled : goal.returns-then-card-at-clause-filled
returns-then-card-at-clause-filled c = refused_is _ _ _ _ (left_ends _ _ _ _ _ _ _ c.loop-h.invariant c.width-w.ensures.0 (omega arith))

pub bounds-numbers-n-else-arc_ahead : goal.bounds-numbers-n-else-arc_ahead
bounds-numbers-n-else-arc_ahead c = omega (arith, left_fits _ _ _ _ _ _ _ c.loop-h.invariant c.width-w.ensures.0 (omega arith))

pub returns-in-Ok-Done-clause-filled : goal.returns-in-Ok-Done-clause-filled
returns-in-Ok-Done-clause-filled c =
    let d = left_done _ _ _ _ _ _ _ c.loop-h.invariant c.width-w.ensures.0 c.bit_field-v.result c.step.result (omega arith) c.bit_field-v.ensures.0 c.step.ensures _ (c.in-Ok-Done.is ∙ ap (λ x. Ok x) c.in-Ok-Done.field-0-is) in
    ended_is _ _ _ _ _ c.ended.result d.0 d.3 d.1 c.ended.ensures

pub returns-in-Err-clause-filled : goal.returns-in-Err-clause-filled
returns-in-Err-clause-filled c =
    refused_is _ _ _ _ (left_bad _ _ _ _ _ _ _ c.loop-h.invariant c.width-w.ensures.0 c.bit_field-v.result c.step.result (omega arith) c.bit_field-v.ensures.0 c.step.ensures _ c.in-Err.is)

pub loop-h-preserved : goal.loop-h-preserved
loop-h-preserved c = elim c.match-arc_step.branch [
  | in-Some w ↦
      rw w.l-is (left_more _ _ _ _ _ _ _ c.loop-h.invariant c.width-w.ensures.0 c.bit_field-v.result (Ok (More w.in-Some.m)) (omega arith) c.bit_field-v.ensures.0
      (w.in-Some.ensures _ refl c.bit_field-v.result) w.in-Some.m refl)
  | in-None+in-Ok-More w ↦
      rw w.l-is (left_more _ _ _ _ _ _ _ c.loop-h.invariant c.width-w.ensures.0 c.bit_field-v.result w.step.result (omega arith) c.bit_field-v.ensures.0 w.step.ensures _
      (w.in-Ok-More.is ∙ ap (λ x. Ok x) w.in-Ok-More.field-0-is))
]
