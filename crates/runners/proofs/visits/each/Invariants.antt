-- After the transitions up to t, their part of the round is done.
use Rattle.std.specs.Prelude.{◌≡◌, ◌≤◌}
use Rattle.hierarchy.specs.Conditions.{Meets}
use Rattle.runners.specs.Visits.{turn_in}
use Rattle.runners.specs.inner.Transitions.{DoesSpan}
use Rattle.runners.proofs.visits.each.Given as goal

abbrev pub invariant-loop-t : goal.invariant-loop-t
invariant-loop-t g l =
    record {
      end : l.t-iterator.end ≡ l.fn.transitions.end;
      from : l.fn.transitions.start ≤ l.t-iterator.start;
      within : l.fn.transitions.start ≤ l.fn.transitions.end → l.t-iterator.start ≤ l.fn.transitions.end;
      does : Meets l.card → DoesSpan g.R.Round.round l.fn.transitions.start l.t-iterator.start (turn_in l.card l.row l.initial.work) l.initial.work l.work;
    }
