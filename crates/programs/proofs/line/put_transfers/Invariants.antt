use Rattle.std.proofs.Common.{◌≡◌, ◌+◌, ◌*◌, ◌≤◌, ◌++◌, length, map, take}
use Rattle.programs.specs.Lines.{longest, spaced, transfer_word}
use Rattle.programs.proofs.line.put_transfers.Given as goal

abbrev pub invariant-loop-transfer : goal.invariant-loop-transfer
invariant-loop-transfer l = record {
  words : l.line ≡ take longest (l.initial.line ++ spaced (map transfer_word (take l.transfer-index l.transfer-items)));
  short : length l.line ≤ length l.initial.line + 6 * l.transfer-index;
}
