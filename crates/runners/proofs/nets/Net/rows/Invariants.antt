-- The rows so far have left a state that is valid, and what is left of them goes on from there.
use Rattle.std.proofs.Common.{◌≡◌}
use Rattle.runners.proofs.NetLaws.{Going}
use Rattle.runners.proofs.nets.Net.rows.Given as goal

abbrev pub invariant-loop-row : goal.invariant-loop-row
invariant-loop-row l = Going l.self l.order l.initial.left l.rows l.left l.row-iterator.rest.now × (l.row-iterator.size ≡ l.self.signals)
