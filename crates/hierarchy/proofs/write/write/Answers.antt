use Rattle.std.proofs.Common.{Ok, sym, ap, ◌∙◌}
use Rattle.std.proofs.lemmas.Result.{err_from_is_err_and}
use Rattle.hierarchy.proofs.WriteLaws.{spelt_whole, spell_turned, check_turned, put_done}
use Rattle.hierarchy.proofs.write.write.Goals as goal

pub returns-in_err-text : goal.returns-in_err-text
returns-in_err-text c =
    let x = c.args in
    let p = err_from_is_err_and c.from_residual.result c.from_residual.ensures.1 in
    rw (p.1, p.2) (spell_turned x.head x.rows.now.subnets.now x.rows.now.places.now x.rows.now.transitions.now x.rows.now.arcs.now c.spell.result c.spell.ensures x.out.now _ c.in_err-text.was)

pub returns-in_err-check : goal.returns-in_err-check
returns-in_err-check c =
    let x = c.args in
    let p = err_from_is_err_and c.from_residual-in_err-check.result c.from_residual-in_err-check.ensures.1 in
    let s = spelt_whole x.head x.rows.now.subnets.now x.rows.now.places.now x.rows.now.transitions.now x.rows.now.arcs.now c.spell.result c.spell.ensures c.as_slice-card.result.now (c.in_ok-text.was ∙ ap (λ bytes. Ok bytes) (sym c.as_slice-card.ensures.bytes)) in
    rw (p.1, p.2) (check_turned x.head x.rows.now.subnets.now x.rows.now.places.now x.rows.now.transitions.now x.rows.now.arcs.now _ s x.out.now _ c.in_err-check.ensures)

pub returns : goal.returns
returns c =
    let x = c.args in
    let s = spelt_whole x.head x.rows.now.subnets.now x.rows.now.places.now x.rows.now.transitions.now x.rows.now.arcs.now c.spell.result c.spell.ensures c.as_slice-card.result.now (c.in_ok-text.was ∙ ap (λ bytes. Ok bytes) (sym c.as_slice-card.ensures.bytes)) in
    put_done x.head x.rows.now.subnets.now x.rows.now.places.now x.rows.now.transitions.now x.rows.now.arcs.now _ s _ c.in_ok-check.ensures _ _ _ c.put_written.ensures
