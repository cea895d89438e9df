-- After j arcs, what they change is changed.
use Rattle.std.specs.Prelude.{◌*◌, length}
use Rattle.card.specs.Card.{draws, fills}
use Rattle.runners.proofs.ClaimLaws.{weights}
use Rattle.runners.proofs.claims.change_by.Given as goal

abbrev pub invariant-loop-arc : goal.invariant-loop-arc
invariant-loop-arc g l = g.C.ByPlace.changed l.initial.columns l.columns (λ p. l.part * weights l.card draws l.t (length l.yielded) p) (λ p. l.part * weights l.card fills l.t (length l.yielded) p)
