use Rattle.std.proofs.Common.{◌∙◌}
use Rattle.flattening.proofs.FlatPut.{tables_put}
use Rattle.flattening.proofs.tables.flat_tables.Goals as goal

pub returns : goal.returns
returns c = λ zero.
    tables_put _ _ _ _ _ _ _ _ c.counts.ensures c.index.ensures.counts zero (c.put_transitions.auto.out ∙ c.put_places.auto.out ∙ c.put_head.auto.out) c.put_head.ensures c.put_places.ensures c.put_transitions.ensures c.index.ensures.starts
