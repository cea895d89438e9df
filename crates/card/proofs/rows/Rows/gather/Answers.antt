-- The header's numbers and then the subnets' are put into a table of zeros.
use Rattle.std.proofs.Common.{ℕ, [], ◌∙◌}
use Rattle.std.proofs.lemmas.List.{length-replicate}
use Rattle.card.specs.Tables.{table_size}
use Rattle.card.specs.inner.Runs.{in_order}
use Rattle.card.proofs.TableSpell.{leads_gathered, leads_none}
use Rattle.card.proofs.rows.Rows.gather.Goals as goal

pub returns : goal.returns
unfolding in_order
returns c =
    let s = c.args.self.now in
    let f = c.push-n in
    let g = c.push_subnets in
    leads_gathered (in_order c.args.h s.subnets.now s.places.now s.transitions.now s.arcs.now) g.new.numbers g.result
    (g.ensures.numbers_len_unchanged ∙ f.ensures.numbers_len_unchanged ∙ length-replicate {A = ℕ} table_size 0) (g.ensures.by_index _ (f.ensures.by_index [] (leads_none _)))
