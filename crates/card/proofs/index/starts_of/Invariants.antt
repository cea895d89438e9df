use Rattle.std.proofs.Common.{◌≡◌, ◌*◌, ◌≤◌, length}
use Rattle.card.specs.Card.{Card}
use Rattle.card.specs.Index.{Laid, starts_size}
use Rattle.card.specs.Wellformed.{Wellformed}
use Rattle.card.proofs.IndexLaws.{Indexing}
use Rattle.card.proofs.index.starts_of.Given as goal

abbrev pub invariant-loop-s : goal.invariant-loop-s
invariant-loop-s l = record {
  long : length l.starts ≡ starts_size;
  places : l.place ≤ 65535 * l.s;
  transitions : l.transition ≤ 65535 * l.s;
  indexed : (c : Card) → Wellformed c → Laid c l.numbers → l.subnets ≡ length c.subnets → Indexing c l.starts l.p l.place l.transition l.s;
}
