-- `runners::row::loaded_row` meets its contract.
use Rattle.std.proofs.lemmas.Result.{err_from_is_err_and}
use Rattle.runners.proofs.RowLaws.{loaded_refused, loaded_stepped, loaded_long}
use Rattle.runners.proofs.row.loaded_row.Goals as goal

pub returns-in_err-row_test : goal.returns-in_err-row_test
returns-in_err-row_test c =
    let a = c.args in
    let p = err_from_is_err_and c.from_residual.result c.from_residual.ensures.1 in
    rw (p.1, p.2) (loaded_refused a.net.now a.state.now a.row.now c.card.result.now c.card.ensures.value c.row_test.result c.row_test.ensures _ c.in_err-row_test.was)

pub step-requires-clause-long : goal.step-requires-clause-long
step-requires-clause-long c =
    let a = c.args in
    loaded_long a.net.now a.state.now a.row.now c.card.result.now c.card.ensures.value c.row_test.result c.row_test.ensures c.card.ensures.meets c.requires.valid _ c.in_ok-row_test.was
    c.degrees.result.now c.effective.result.now c.degrees.ensures.long c.effective.ensures

pub returns : goal.returns
returns c =
    let a = c.args in
    loaded_stepped a.net.now a.state.now a.row.now c.card.result.now c.card.ensures.value c.row_test.result c.row_test.ensures _ c.in_ok-row_test.was
    c.degrees.result.now c.effective.result.now c.degrees.ensures.value c.effective.ensures _ c.step.ensures
