-- The bits in front of an arc, within its transition's.
use Rattle.std.proofs.Common.{arith}
use Rattle.card.specs.Format.{size}
use Rattle.card.specs.Grammar.{transition, arc}
use Rattle.card.specs.Writing.{arc_bit}
use Rattle.card.proofs.Bounds.{since_small}
use Rattle.card.proofs.view.CardView.arc_bit.Goals as goal

pub overflow_add-result : goal.overflow_add-result
unfolding transition
overflow_add-result c = omega (arith, c.transition_bit.ensures.small, c.row_width.ensures, since_small 3 8 c.version.result)

pub overflow_add-result-2 : goal.overflow_add-result-2
unfolding transition arc
overflow_add-result-2 c =
    rw c.row_width-2.ensures (omega (arith, c.transition_bit.ensures.small, c.row_width.ensures, since_small 3 8 c.version.result))

pub returns-clause-value : goal.returns-clause-value
unfolding arc_bit size transition arc
returns-clause-value c = λ i l. rw (c.transition_bit.ensures.value i l, c.row_width.ensures, c.version.ensures, c.row_width-2.ensures) (omega arith)

pub returns-clause-past : goal.returns-clause-past
unfolding size transition arc
returns-clause-past c = λ l. rw (c.transition_bit.ensures.past l, c.row_width.ensures, c.version.ensures, c.row_width-2.ensures) (omega arith)
