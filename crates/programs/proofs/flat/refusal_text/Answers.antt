use Rattle.std.proofs.Common.{length, ap, ◌∙◌, arith}
use Rattle.card.specs.Tables.{card_bytes}
use Rattle.programs.proofs.TextLaws.{whole_appended}
use Rattle.programs.proofs.flat.refusal_text.Goals as goal

pub returns : goal.returns
returns c =
    whole_appended card_bytes c.new-text.result c.as_slice.result.now _ _ c.new-text.ensures (c.as_slice.ensures.bytes ∙ c.refusal_line.ensures)
    (omega (arith, ap length c.as_slice.ensures.bytes, c.as_slice.ensures.fits)) c.extend_from_slice.ensures
