use Rattle.std.proofs.Common.{◌≡◌, ◌+◌, List, ℕ, sym, ◌∙◌, subst, arith}
use Rattle.programs.specs.Agreeing.{IsBoth, call_size, call_of}
use Rattle.programs.proofs.AgreeLaws.{row_size_is, size_is, going_end, going_no, going_more}
use Rattle.programs.proofs.agree.agree_from.Goals as goal

pub returns-in_default : goal.returns-in_default
returns-in_default c = λ k eg es.
    let a = c.args in
    let l = c.loop-call in
    let n = c.row_bytes-row_size in
    let size : call_size k ≡ n.result + a.subnets = size_is k n.result a.signals a.subnets eg es n.ensures in
    let steps = c.in-Some.ensures.steps in
    let both = c.both_calls.ensures k eg (row_size_is k n.result a.signals eg n.ensures ∙ sym c.split_at.ensures.front_len) in
    let here = subst (λ (u : List ℕ). IsBoth a.card.now (call_of k u) l.states c.both_calls.result) (sym c.split_at.ensures.by_index.0) both in
    going_no a.card.now k a.file.now a.first _ l.states (l.invariant.3 k eg es) c.in-Some.call.now _ steps.1.0 (omega (arith, size, c.requires.some_subnets))
    (steps.1.1 ∙ l.invariant.2 ∙ sym size) (rw c.in_default.is at here)

pub loop-call-preserved : goal.loop-call-preserved
loop-call-preserved c =
    let a = c.args in
    let l = c.loop-call in
    let n = c.row_bytes-row_size in
    let steps = c.in-Some.ensures.steps in (
      let same = steps.0 in omega (arith, same, l.invariant.2, c.requires.some_subnets),
      tt,
      steps.0 ∙ l.invariant.2,
      λ k eg es.
          let size : call_size k ≡ n.result + a.subnets = size_is k n.result a.signals a.subnets eg es n.ensures in
          let both = c.both_calls.ensures k eg (row_size_is k n.result a.signals eg n.ensures ∙ sym c.split_at.ensures.front_len) in
          let here = subst (λ (u : List ℕ). IsBoth a.card.now (call_of k u) l.states c.both_calls.result) (sym c.split_at.ensures.by_index.0) both in
          going_more a.card.now k a.file.now a.first _ l.states (l.invariant.3 k eg es) c.in-Some.call.now _ steps.1.0 (omega (arith, size, c.requires.some_subnets))
          (steps.1.1 ∙ l.invariant.2 ∙ sym size) c.in-Some-both_calls.after (rw c.in-Some-both_calls.is at here),
    )

pub returns : goal.returns
returns c = λ k eg es.
    let a = c.args in
    let l = c.loop-call in
    let n = c.row_bytes-row_size in
    let size : call_size k ≡ n.result + a.subnets = size_is k n.result a.signals a.subnets eg es n.ensures in
    going_end a.card.now k a.file.now a.first _ l.states (l.invariant.3 k eg es) (omega (arith, size, l.invariant.2, c.in-None.ensures.steps.1.0))
