-- `programs::blocks::begin` meets its contract.
use Rattle.std.proofs.Common.{[], sym, ap, ◌∙◌}
use Rattle.std.specs.Prelude.{Err}
use Rattle.hierarchy.specs.Judgement.{accepted, judge}
use Rattle.runners.specs.declared.State.{State as Lent}
use Rattle.programs.specs.Runs.{Run}
use Rattle.programs.specs.declared.blocks.CardRun.{CardRun}
use Rattle.programs.proofs.StoryLaws.{story, no_first_text}
use Rattle.programs.proofs.BlockLaws.{fresh_refused, flat_refused, turned_back, turned_ok, turned_err, begun}
use Rattle.programs.proofs.blocks.begin.Goals as goal

pub returns-in_err-first-clause-turned_back : goal.returns-in_err-first-clause-turned_back
returns-in_err-first-clause-turned_back c =
    let card = c.args.card.now in
    turned_err card _ _ c.map_err.ensures.cases _ c.from_residual.result (λ e q. let h = rw q at c.fresh.ensures in fresh_refused card e h.fresh) c.in_err-first.was c.from_residual.ensures.1

pub returns-in-Err-clause-turned_back : goal.returns-in-Err-clause-turned_back
returns-in-Err-clause-turned_back c =
    let card = c.args.card.now in
    turned_back {A = CardRun} card c.in-Err.why (Err c.turned_back_line.result) (flat_refused (judge card) _ _ (rw c.in-Err.is at c.flat_net.ensures)) c.turned_back_line.ensures

pub returns-in-Ok-clause-begun : goal.returns-in-Ok-clause-begun
returns-in-Ok-clause-begun c =
    let card = c.args.card.now in
    let net = (rw c.in-Ok.is at c.flat_net.ensures) ∙ ap accepted (sym c.on.ensures.net) in
    let first = rw (turned_ok card _ _ c.map_err.ensures.cases _ c.in_ok-first.was) at c.fresh.ensures in
    let run = c.on.ensures.run ∙ ap {B = Run} (λ (s : Lent). record { number = 1; state = s; left = [] }) first.fresh.state in
    let is = begun (judge card) _ net in
    record {
      accepted = is;
      net = net;
      run = run;
      program = λ room calls last h e fit. story card [] _ room calls last (no_first_text (judge card) is) run h e fit;
    }
