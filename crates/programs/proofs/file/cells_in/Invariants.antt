use Rattle.std.proofs.Common.{◌≡◌, ◌-◌, ◌++◌, replicate}
use Rattle.programs.proofs.FileLaws.{cells_to}
use Rattle.programs.proofs.file.cells_in.Given as goal

abbrev pub invariant-loop-g : goal.invariant-loop-g
invariant-loop-g l = l.degrees ≡ cells_to l.bytes l.g ++ replicate (63 - l.g) 0
