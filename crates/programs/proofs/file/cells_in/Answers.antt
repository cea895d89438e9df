use Rattle.std.proofs.Common.{◌≡◌, ◌-◌, ◌++◌, ℕ, List, replicate, subst, arith}
use Rattle.programs.proofs.TextLaws.{filled_front, front_taken}
use Rattle.programs.proofs.FileLaws.{cells_to, cells_to_none, cells_to_long, cells_to_more}
use Rattle.programs.proofs.file.cells_in.Goals as goal

pub loop-g-init : goal.loop-g-init
loop-g-init c = cells_to_none c.args.bytes.now

pub loop-g-preserved : goal.loop-g-preserved
loop-g-preserved c = cells_to_more c.args.bytes.now c.loop-g.g _ _ c.loop-g.invariant (omega arith) c.field_at.ensures

-- all cells
whole : (bytes xs : List ℕ) (i g : ℕ) → xs ≡ cells_to bytes i ++ replicate (63 - i) 0 → i ≡ g → xs ≡ cells_to bytes g ++ replicate (63 - g) 0
whole bytes xs i g e s = subst (λ (k : ℕ). xs ≡ cells_to bytes k ++ replicate (63 - k) 0) s e

pub invariant_of-result : goal.invariant_of-result
invariant_of-result c =
    let bytes = c.args.bytes.now in
    let g = c.args.signals in
    filled_front 63 g (cells_to bytes g) _ (cells_to_long bytes g) c.requires (whole bytes _ c.loop-g.g g c.loop-g.invariant (omega arith))

pub returns : goal.returns
returns c =
    let bytes = c.args.bytes.now in
    let g = c.args.signals in
    front_taken 63 g (cells_to bytes g) _ (cells_to_long bytes g) (whole bytes _ c.loop-g.g g c.loop-g.invariant (omega arith))
