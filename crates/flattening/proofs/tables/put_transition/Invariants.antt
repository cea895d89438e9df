use Rattle.std.proofs.Common.{◌<◌, length}
use Rattle.flattening.specs.inner.FlatNumbers.{transition_position, arc_position, Fills}
use Rattle.flattening.proofs.tables.put_transition.Given as goal

abbrev pub invariant-loop-j : goal.invariant-loop-j
invariant-loop-j l = l.t < length l.card.transitions → Fills l.card (transition_position l.card l.t) (arc_position l.card l.t (length l.yielded)) l.fn.out l.out
