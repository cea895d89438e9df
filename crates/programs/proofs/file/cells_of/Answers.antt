use Rattle.std.proofs.Common.{◌-◌, ◌*◌, ℕ, List, Some, sym, ap, ◌∙◌}
use Rattle.card.specs.Fields.{field_at}
use Rattle.programs.proofs.FileLaws.{row_length, row_fill, row_cells}
use Rattle.programs.proofs.file.cells_of.Goals as goal

pub returns-then-bytes-n : goal.returns-then-bytes-n
returns-then-bytes-n c = sym (row_length c.args.bytes.now c.args.signals (λ e. c.if-bytes-n.true (e ∙ sym c.row_bytes-n.ensures)))

pub returns-then-field_at-ne0 : goal.returns-then-field_at-ne0
returns-then-field_at-ne0 c =
    let bytes = c.args.bytes.now in
    let g = c.args.signals in
    let e = c.row_bytes-n.ensures in
    sym (row_fill bytes g (c.if-bytes-n.false ∙ e) c.field_at.result (c.field_at.ensures ∙ ap (λ (n : ℕ). field_at bytes (10 * g) (8 * n - 10 * g)) e) c.if-field_at-ne0.true)

pub returns : goal.returns
returns c =
    let bytes = c.args.bytes.now in
    let g = c.args.signals in
    let e = c.row_bytes-n.ensures in
    ap (λ (xs : List ℕ). Some xs) c.cells_in.ensures
    ∙ sym (row_cells bytes g (c.if-bytes-n.false ∙ e) c.field_at.result (c.field_at.ensures ∙ ap (λ (n : ℕ). field_at bytes (10 * g) (8 * n - 10 * g)) e) c.if-field_at-ne0.false)
