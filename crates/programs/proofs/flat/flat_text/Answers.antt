use Rattle.std.proofs.Common.{ap₂, sym, ◌∙◌, arith}
use Rattle.programs.specs.Programs.{card_line}
use Rattle.programs.proofs.FlatTextLaws.{flat_wrote, flat_refused}
use Rattle.programs.proofs.flat.flat_text.Goals as goal

pub of-requires : goal.of-requires
of-requires c = (omega arith, (omega arith, (flat_wrote c.args.card.now _ _ c.flatten.ensures _ c.in-Ok.is).0))

pub returns-in-Ok : goal.returns-in-Ok
returns-in-Ok c = c.of.ensures ∙ (flat_wrote c.args.card.now _ _ c.flatten.ensures _ c.in-Ok.is).1

pub returns-in-Err : goal.returns-in-Err
returns-in-Err c =
    c.refusal_text.ensures ∙ ap₂ card_line c.number.ensures c.value.ensures ∙ sym (flat_refused c.args.card.now _ _ c.flatten.ensures _ c.in-Err.is)
