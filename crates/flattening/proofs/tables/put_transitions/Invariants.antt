use Rattle.std.proofs.Common.{◌≡◌, ◌≤◌, ◌+◌, ◌*◌}
use Rattle.flattening.specs.inner.FlatNumbers.{transition_position, Fills}
use Rattle.flattening.proofs.tables.put_transitions.Given as goal

abbrev pub invariant-loop-t : goal.invariant-loop-t
invariant-loop-t l =
    record {
      position : l.at ≡ transition_position l.card l.t;
      small : l.at ≤ 1000 + 300000 * l.t;
      filled : Fills l.card (transition_position l.card 0) (transition_position l.card l.t) l.fn.out l.out;
    }
