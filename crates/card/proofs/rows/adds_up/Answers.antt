-- What is left of the total is what the rest of the column adds up to.
use Rattle.std.proofs.Common.{◌≡◌, ◌∙◌, get_or, arith}
use Rattle.card.proofs.RowLaws.{unspent_more, unspent_short, unspent_done}
use Rattle.card.proofs.rows.adds_up.Goals as goal

pub returns-in_default : goal.returns-in_default
returns-in_default c =
    let l = c.loop-row in
    let x = c.in-Some.ensures.steps.1 in
    unspent_short _ _ _ _ _ _ _ _ l.invariant.0 x.0 (x.1 ∙ l.invariant.1) c.requires (omega (arith, c.from.ensures, c.in_default.ensures))

pub loop-row-preserved : goal.loop-row-preserved
loop-row-preserved c =
    let l = c.loop-row in
    let x = c.in-Some.ensures.steps.1 in
    let v = c.in-Some-checked_sub.ensures in
    let q : c.from.result ≡ get_or c.in-Some.row.now c.args.column 0 = c.from.ensures in
    (rw (v.1, q) (unspent_more _ _ _ _ _ _ _ _ l.invariant.0 x.0 (x.1 ∙ l.invariant.1) c.requires (omega (arith, q, v.0))), c.in-Some.ensures.steps.0 ∙ l.invariant.1)

pub returns : goal.returns
returns c =
    let l = c.loop-row in
    unspent_done _ _ _ _ _ _ l.invariant.0 (omega (arith, c.in-None.ensures.steps.1.0, l.invariant.1))
