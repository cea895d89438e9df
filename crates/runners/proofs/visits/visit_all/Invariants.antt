-- After the first visits, their subnets' part of the round is done.
use Rattle.runners.proofs.RoundLaws.{IsRoundTo}
use Rattle.runners.proofs.visits.visit_all.Given as goal

abbrev pub invariant-loop-s : goal.invariant-loop-s
invariant-loop-s g l = IsRoundTo g.R.Round.round l.order l.s-index l.card l.row l.initial.work l.work
