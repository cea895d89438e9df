-- The bits in front of an arc, within its transition's.
use Rattle.std.proofs.Common.{arith}
use Rattle.card.specs.Format.{size}
use Rattle.card.specs.Grammar.{transition, arc}
use Rattle.card.proofs.tables.arc_bit.Goals as goal

pub returns : goal.returns
unfolding size transition arc
returns c = rw (c.transition_bit.ensures, c.row_width.ensures, c.version.ensures, c.row_width-2.ensures) (omega arith)
