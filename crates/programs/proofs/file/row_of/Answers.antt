use borrow.Author.Tests.{both_ways}
use Rattle.std.proofs.Common.{List, ℕ, Some, ap, ◌∙◌}
use Rattle.programs.proofs.FileLaws.{row_marked, row_unmarked}
use Rattle.programs.proofs.file.row_of.Goals as goal

pub returns-then-is_marked-clause-row : goal.returns-then-is_marked-clause-row
returns-then-is_marked-clause-row c = λ f e l.
    ap (λ (xs : List ℕ). Some xs) c.empty.ensures
    ∙ row_marked f c.args.bytes.now c.args.signals e c.cells_of.result c.cells_of.ensures c.in_ok-row.row c.in_ok-row.was
    (rw c.degrees.ensures.value at (c.is_marked.ensures.0 c.if-is_marked.true))

pub returns-clause-row : goal.returns-clause-row
returns-clause-row c = λ f e l.
    row_unmarked f c.args.bytes.now c.args.signals e c.cells_of.result c.cells_of.ensures c.in_ok-row.row c.in_ok-row.was
    (λ a. both_ways c.is_marked.result c.if-is_marked.false ((rw c.degrees.ensures.value at c.is_marked.ensures).1 a))
