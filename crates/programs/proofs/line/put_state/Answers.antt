use Rattle.std.proofs.Common.{[], ◌∷◌, arith}
use Rattle.runners.specs.Calls.{view}
use Rattle.programs.specs.Lines.{longest}
use Rattle.programs.proofs.LineLaws.{appended_few, appended_fits, state_words_is}
use Rattle.programs.proofs.line.put_state.Goals as goal

pub put_markings-requires : goal.put_markings-requires
put_markings-requires c = appended_fits longest c.args.line.now (111 ∷ 107 ∷ []) _ c.extend_from_slice.ensures

pub put_transfers-requires : goal.put_transfers-requires
put_transfers-requires c = appended_fits longest c.put_markings.new.line (32 ∷ 124 ∷ []) _ c.extend_from_slice-2.ensures

pub returns : goal.returns
returns c = record {
  words =
      state_words_is (view c.args.state.now) longest c.args.line.now _ _ _ _ c.extend_from_slice.ensures c.put_markings.ensures.words c.extend_from_slice-2.ensures
      c.put_transfers.ensures.words;
  short = omega (
    arith,
    appended_few longest c.args.line.now (111 ∷ 107 ∷ []) _ c.extend_from_slice.ensures,
    c.put_markings.ensures.short,
    appended_few longest c.put_markings.new.line (32 ∷ 124 ∷ []) _ c.extend_from_slice-2.ensures,
    c.put_transfers.ensures.short,
  );
}
