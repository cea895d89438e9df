use Rattle.std.proofs.Common.{◌≡◌, ◌+◌, length}
use Rattle.std.specs.Slice.Iter.{chunks_exact_rest, chunks_exact_size}
use Rattle.card.specs.Card.{Card}
use Rattle.programs.proofs.AgreeLaws.{Going}
use Rattle.programs.proofs.agree.agree_from.Given as goal

abbrev pub invariant-loop-call : goal.invariant-loop-call
invariant-loop-call l =
    (goal.iterator-loop-call).can_next l.call-iterator
    × (goal.iterator-loop-call).is_finite l.call-iterator
    × (chunks_exact_size l.call-iterator ≡ l.row_size + l.subnets)
    × ((c : Card) → c.signals ≡ l.signals → length c.subnets ≡ l.subnets → Going l.card c l.file l.fn.first (chunks_exact_rest l.call-iterator) l.states)
