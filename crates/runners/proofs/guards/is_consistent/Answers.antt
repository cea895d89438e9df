-- `runners::guards::is_consistent` meets its contract.
use Rattle.std.proofs.Common.{◌∙◌, sym}
use mathlib.Core.Bool.{false≢true}
use Rattle.runners.proofs.GuardLaws.{consistent_low, few_used}
use Rattle.runners.proofs.guards.is_consistent.Goals as goal
use Rattle.runners.proofs.guards.is_consistent.Goals.{then-all_covered, else-all_covered}

pub returns-then-transfers_in_range : goal.returns-then-transfers_in_range
returns-then-transfers_in_range c =
    let a = c.args in
    let k = c.card-then-transfers_in_range in
    λ h. elim c.if-all_covered.branch [
      | then-all_covered w ↦
          let few = few_used a.net.now k.ensures.meets a.state.now h in
          consistent_low a.net.now a.state.now h c.all_covered.result w.transfers_in_range.result c.degrees_in_range.result w.transfers.result.now c.degrees.result.now (c.all_covered.ensures h)
          (w.transfers.ensures.value, w.transfers.ensures.long few.0) (rw w.card.ensures.value at w.transfers_in_range.ensures) w.if-all_covered.true (sym w.value-is ∙ c.if-transfers_in_range.true)
          (c.degrees.ensures.value, c.degrees.ensures.long few.1) (rw k.ensures.value at c.degrees_in_range.ensures)
      | else-all_covered w ↦ absurd (false≢true (sym w.if-all_covered.false ∙ sym w.value-is ∙ c.if-transfers_in_range.true))
    ]
