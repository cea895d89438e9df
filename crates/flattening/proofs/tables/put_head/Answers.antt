use Rattle.flattening.proofs.FlatPut.{head_put}
use Rattle.flattening.proofs.tables.put_head.Goals as goal

pub returns : goal.returns
returns c =
    head_put _ _ _ _ _ _ _ _ _ _ c.version.ensures c.signals.ensures.value c.limit.ensures c.scale.ensures c.places.ensures.value c.transitions.ensures.value c.put.ensures c.put-2.ensures
