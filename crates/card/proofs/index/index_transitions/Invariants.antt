use Rattle.std.proofs.Common.{◌≡◌, ℕ, length}
use Rattle.card.specs.Card.{Card}
use Rattle.card.specs.inner.Indexing.{AtSubnet}
use Rattle.card.proofs.IndexLaws.{Listing}
use Rattle.card.proofs.index.index_transitions.Given as goal

abbrev pub invariant-loop-t : goal.invariant-loop-t
invariant-loop-t l = record {
  long : length l.starts ≡ length l.initial.starts;
  listed : (c : Card) (s : ℕ) → AtSubnet c s l.numbers l.initial.starts l.fn.from l.fn.first l.fn.count → Listing c s l.initial.starts l.starts l.p l.t;
}
