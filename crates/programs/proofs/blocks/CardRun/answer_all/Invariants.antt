use Rattle.std.proofs.Common.{◌≡◌, ◌*◌, ◌≤◌, ◌<◌, length, take}
use Rattle.programs.specs.Lines.{longest}
use Rattle.programs.specs.Runs.{run_in, call_in}
use Rattle.programs.proofs.BlockLaws.{Going}
use Rattle.programs.proofs.blocks.CardRun.answer_all.Given as goal

abbrev pub invariant-loop-byte : goal.invariant-loop-byte
invariant-loop-byte l = record {
  part : length l.self.left < l.size;
  long : length l.out ≡ length l.initial.out;
  room : l.written ≤ longest * l.byte-index;
  same_net : l.self.net ≡ l.initial.self.net;
  going : Going l.size (call_in l.initial.self) (run_in l.initial.self) (take l.byte-index l.block) l.initial.out l.written (run_in l.self) l.out;
}
