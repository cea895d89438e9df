-- `runners::places::by_place` meets its contract.
use Rattle.runners.proofs.MarkingLaws.{filled_start}
use Rattle.runners.proofs.places.by_place.Goals as goal

pub loop-s-init : goal.loop-s-init
loop-s-init g c = filled_start g.N.PlaceNumber.number g.met.N.PlaceNumber.same c.args.card.now
