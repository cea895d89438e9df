use Rattle.std.proofs.Common.{◌≡◌, ◌+◌, ◌*◌, ◌≤◌, ◌++◌, length, map, take}
use Rattle.card.specs.Text.{decimal}
use Rattle.programs.specs.Lines.{longest, spaced}
use Rattle.programs.proofs.line.put_markings.Given as goal

abbrev pub invariant-loop-marking : goal.invariant-loop-marking
invariant-loop-marking l = record {
  words : l.line ≡ take longest (l.initial.line ++ spaced (map decimal (take l.marking-index l.marking-items)));
  short : length l.line ≤ length l.initial.line + 11 * l.marking-index;
}
