use Rattle.programs.proofs.AgreeLaws.{states_same}
use Rattle.programs.proofs.same.same_state.Goals as goal

pub returns : goal.returns
returns c =
    states_same c.args.a.now c.args.b.now _ _ _ _ _ _ c.markings.ensures.value c.markings-2.ensures.value c.transfers.ensures.value c.transfers-2.ensures.value
    c.degrees.ensures.value c.degrees-2.ensures.value c.eq.result c.eq.ensures
