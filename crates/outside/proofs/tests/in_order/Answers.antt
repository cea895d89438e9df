-- Where there are as many rows as the counts say, the slices have all of them.
use Rattle.std.proofs.Common.{sym, ◌∙◌}
use Rattle.card.specs.Rows.{tables_in}
use Rattle.card.proofs.RoundTrip.{counted_is}
use Rattle.card.proofs.TableSpell.{tables_inside}
use Rattle.outside.proofs.tests.in_order.Goals as goal

pub gather-requires-clause-tables_inside : goal.gather-requires-clause-tables_inside
gather-requires-clause-tables_inside c =
    let h = c.args.head in
    let s = c.args.rows.now in
    tables_inside h s.subnets.now s.places.now s.transitions.now s.arcs.now
    ((counted_is (tables_in h s.subnets.now s.places.now s.transitions.now s.arcs.now)).0 (sym (c.counts_match.ensures h) ∙ c.if-not-counts_match.false))
