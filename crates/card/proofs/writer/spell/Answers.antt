-- Tables that are not whole, do not count or do not fit are refused; else their numbers are those of the card that they make.
use Rattle.std.proofs.Common.{sym, ◌∙◌}
use Rattle.card.specs.Rows.{tables_in}
use Rattle.card.proofs.RoundTrip.{counted_is}
use Rattle.card.proofs.TableSpell.{tables_inside, rows_lines, rows_spelt}
use Rattle.card.proofs.writer.spell.Goals as goal

pub gather-numbers-requires-clause-tables_inside : goal.gather-numbers-requires-clause-tables_inside
gather-numbers-requires-clause-tables_inside c =
    let a = c.args in
    tables_inside a.head a.rows.now.subnets.now a.rows.now.places.now a.rows.now.transitions.now a.rows.now.arcs.now
    ((counted_is (tables_in a.head a.rows.now.subnets.now a.rows.now.places.now a.rows.now.transitions.now a.rows.now.arcs.now)).0 (sym (c.counts_match.ensures a.head) ∙ c.if-not-counts_match.false))

pub returns : goal.returns
returns c =
    let a = c.args in
    let n = sym (c.counts_match.ensures a.head) ∙ c.if-not-counts_match.false in
    let l = rows_lines a.head a.rows.now.subnets.now a.rows.now.places.now a.rows.now.transitions.now a.rows.now.arcs.now c.gather-numbers.result n (c.values_fit.ensures.0 c.if-not-values_fit.false) c.gather-numbers.ensures in
    rows_spelt _ _ _ _ _ (sym c.is_whole.ensures ∙ c.if-not-is_whole.false) n l.fit c.spell_numbers.result
    (c.spell_numbers.ensures (tables_in a.head a.rows.now.subnets.now a.rows.now.places.now a.rows.now.transitions.now a.rows.now.arcs.now) l)
