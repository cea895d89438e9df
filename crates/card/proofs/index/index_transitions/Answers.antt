-- The walk stores where each transition of a subnet begins, and stays where a card can have rows.
use Rattle.std.proofs.Common.{◌+◌, refl, sym, ◌∙◌, arith}
use Rattle.std.proofs.lemmas.Bool.{false≢true}
use Rattle.card.proofs.IndexLaws.{set_long, list_start, list_on, list_few, list_more, list_done}
use Rattle.card.proofs.index.index_transitions.Goals as goal

pub returns-then-first-gt1000-clause-by_index : goal.returns-then-first-gt1000-clause-by_index
returns-then-first-gt1000-clause-by_index c = λ k s a.
    let b = c.args in
    let few = list_few k s b.numbers.now b.starts.now b.from b.first b.count a b.starts.now b.from b.first (list_start k s b.numbers.now b.starts.now b.from b.first b.count a) in
    absurd (omega (arith, few))

pub loop-t-init : goal.loop-t-init
loop-t-init c =
    let b = c.args in record {
      long = refl;
      listed = λ k s a. list_start k s b.numbers.now b.starts.now b.from b.first b.count a;
    }

pub returns-then-not-is_on_card-clause-by_index : goal.returns-then-not-is_on_card-clause-by_index
returns-then-not-is_on_card-clause-by_index c =
    let b = c.args in
    let x = c.loop-t in
    λ k s a. absurd (false≢true (sym c.if-not-is_on_card.true ∙ c.is_on_card.ensures.1 (list_on k s _ _ _ _ _ a _ _ _ (x.invariant.listed k s a))))

pub loop-t-preserved : goal.loop-t-preserved
loop-t-preserved c =
    let b = c.args in
    let x = c.loop-t in
    let row = c.put_entry in
    let bit = c.put_entry-in-loop-t in record {
      long = rw (bit.ensures, row.ensures) (set_long x.starts _ _ (132 + x.t) x.p.row (388 + x.t) x.p.bit refl refl ∙ x.invariant.long);
      listed = λ k s a. list_more k s _ _ _ _ _ a _ _ _ (x.invariant.listed k s a) c.loop-t-test.true c.arc_count.result c.arc_count.ensures _ _ c.after_transition-p.result row.ensures bit.ensures c.version.result c.version.ensures c.after_transition-p.ensures;
    }

pub returns-clause-by_index : goal.returns-clause-by_index
returns-clause-by_index c =
    let b = c.args in
    let x = c.loop-t in
    λ k s a. list_done k s _ _ _ _ _ a _ _ _ (x.invariant.listed k s a) c.loop-t-test.false
