use Rattle.std.proofs.Common.{replicate, refl, rules}
use Rattle.card.proofs.room.in_table.Goals as goal

pub returns : goal.returns
returns g c =
    (replicate g.row.SIZE 0, _, search rules, record { shown = _; shows = refl; left = _; called = c.call.ensures; leaves = refl })
