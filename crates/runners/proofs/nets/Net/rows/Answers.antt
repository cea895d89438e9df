-- `runners::nets::Net::rows` meets its contract.
use Rattle.std.proofs.Common.{rules, ◌≡◌, true, false, ◌∙◌, subst}
use Rattle.std.specs.Prelude.{Ok, Err}
use Rattle.std.specs.Result.{is_err}
use Rattle.hierarchy.specs.Conditions.{Meets}
use Rattle.runners.proofs.NetLaws.{rows_refused, rows_valid, going_end, going_more}
use Rattle.runners.proofs.nets.Net.rows.Goals as goal

pub returns-then-is_err : goal.returns-then-is_err
returns-then-is_err c =
    let a = c.args in
    let n : is_err c.tested.result ≡ true = search rules in
    rows_refused a.self.now a.order.now a.state c.view-net.result c.view-net.ensures c.tested.result c.tested.ensures n _

pub loop-row-preserved-in-Ok : goal.loop-row-preserved-in-Ok
loop-row-preserved-in-Ok c =
    let a = c.args in
    let l = c.loop-row in
    let n : is_err c.tested.result ≡ false = search rules in (
      going_more a.self.now (subst Meets c.view-net.ensures c.card.ensures.meets) a.order.now a.state a.rows.now l.left l.row-iterator.rest.now l.invariant.0
          (rows_valid a.self.now a.order.now a.state c.view-net.result c.view-net.ensures c.tested.result c.tested.ensures n).1 c.in-Some.row.now c.next.new.self.rest.now l.row-iterator.size l.invariant.1 c.in-Some.ensures.steps.1
          (Ok c.in-Ok.next) (rw c.view-net.ensures at c.in-Ok.ensures),
      c.in-Some.ensures.steps.0 ∙ l.invariant.1,
    )

pub loop-row-preserved : goal.loop-row-preserved
loop-row-preserved c =
    let a = c.args in
    let l = c.loop-row in
    let n : is_err c.tested.result ≡ false = search rules in (
      going_more a.self.now (subst Meets c.view-net.ensures c.card.ensures.meets) a.order.now a.state a.rows.now l.left l.row-iterator.rest.now l.invariant.0
          (rows_valid a.self.now a.order.now a.state c.view-net.result c.view-net.ensures c.tested.result c.tested.ensures n).1 c.in-Some.row.now c.next.new.self.rest.now l.row-iterator.size l.invariant.1 c.in-Some.ensures.steps.1
          (Err c.in_default.field-0) (rw c.view-net.ensures at c.in_default.ensures),
      c.in-Some.ensures.steps.0 ∙ l.invariant.1,
    )

pub returns : goal.returns
returns c =
    let a = c.args in
    let l = c.loop-row in
    going_end a.self.now (subst Meets c.view-net.ensures c.card.ensures.meets) a.order.now a.state a.rows.now l.left l.row-iterator.rest.now l.invariant.0 c.in-None.ensures.steps.1.0
