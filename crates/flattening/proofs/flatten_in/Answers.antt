use Rattle.std.proofs.Common.{◌∙◌}
use Rattle.std.proofs.lemmas.Result.{err_from_is_err_and}
use Rattle.flattening.proofs.FlatWrite.{flatten_refused, flatten_done}
use Rattle.flattening.proofs.flatten_in.Goals as goal

pub returns-in_err-loaded : goal.returns-in_err-loaded
returns-in_err-loaded c =
    let p = err_from_is_err_and c.from_residual.result c.from_residual.ensures.1 in
    rw (p.1, p.2) (flatten_refused _ _ _ _ c.load_flat_into.ensures.flat_card c.in_err-loaded.was)

pub returns : goal.returns
returns c =
    flatten_done _ _ _ _ c.in_ok-loaded.ensures.flattened _ c.view.ensures _ (c.as_slice.ensures.bytes ∙ c.encode.ensures) _ _ _ c.put_written.ensures
