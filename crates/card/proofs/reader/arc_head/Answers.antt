-- The parts of the number of 14 bits are the fields.
use Rattle.std.proofs.Common.{◌^◌, ap, ◌∙◌, arith}
use Rattle.card.specs.Grammar.{arc}
use Rattle.card.proofs.ReadLaws.{head_parts}
use Rattle.card.proofs.reader.arc_head.Goals as goal

pub bit_field-v-requires-clause-narrow : goal.bit_field-v-requires-clause-narrow
unfolding arc
bit_field-v-requires-clause-narrow c = omega arith

pub returns : goal.returns
unfolding arc
returns c =
    let h = head_parts c.args.card.now c.args.at c.bit_field-v.result c.arc_head_width.result c.pow2-p.result c.pow2-q.result c.bit_field-v.ensures.0 c.arc_head_width.ensures
    (c.pow2-p.ensures.0 ∙ ap (λ w. 2 ^ w) c.width_at.ensures.0) (c.pow2-q.ensures.0 ∙ ap (λ w. 2 ^ w) c.width_at-2.ensures.0) in
    record { direction = h.0; subnet = h.1; place = h.2 }
