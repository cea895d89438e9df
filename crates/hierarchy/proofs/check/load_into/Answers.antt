use Rattle.std.proofs.lemmas.Result.{err_from_is_err_and}
use Rattle.hierarchy.proofs.CheckLaws.{table_read, unread, view, pass_refused, pass_accepted}
use Rattle.hierarchy.proofs.check.load_into.Goals as goal

pub returns-in_err-index-clause-checked : goal.returns-in_err-index-clause-checked
returns-in_err-index-clause-checked c =
    let p = err_from_is_err_and c.from_residual.result c.from_residual.ensures.1 in
    rw (p.1, p.2) (unread c.args.card.now _ c.read.ensures.read _ c.in_err-index.was)

pub view-requires : goal.view-requires
view-requires c =
    let t = table_read c.args.card.now _ _ _ c.requires c.read.ensures.lent c.read.ensures.numbers_len_unchanged in
    (view c.args.card.now _ c.read.ensures.read _ c.in_ok-index.was _ t).holds

pub returns-in_err-first_fault-clause-checked : goal.returns-in_err-first_fault-clause-checked
returns-in_err-first_fault-clause-checked c =
    let p = err_from_is_err_and c.from_residual-in_err-first_fault.result c.from_residual-in_err-first_fault.ensures.1 in
    let t = table_read c.args.card.now _ _ _ c.requires c.read.ensures.lent c.read.ensures.numbers_len_unchanged in
    rw (p.1, p.2) (pass_refused c.args.card.now _ c.read.ensures.read _ c.in_ok-index.was _ t _ c.view.ensures _ c.in_err-first_fault.ensures)

pub returns-clause-checked : goal.returns-clause-checked
returns-clause-checked c =
    let t = table_read c.args.card.now _ _ _ c.requires c.read.ensures.lent c.read.ensures.numbers_len_unchanged in
    (pass_accepted c.args.card.now _ c.read.ensures.read _ c.in_ok-index.was _ t _ c.view.ensures _ c.in_ok-first_fault.ensures).0

pub returns-clause-accepted : goal.returns-clause-accepted
returns-clause-accepted c =
    let t = table_read c.args.card.now _ _ _ c.requires c.read.ensures.lent c.read.ensures.numbers_len_unchanged in
    (pass_accepted c.args.card.now _ c.read.ensures.read _ c.in_ok-index.was _ t _ c.view.ensures _ c.in_ok-first_fault.ensures).1
