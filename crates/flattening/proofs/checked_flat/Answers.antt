use Rattle.flattening.proofs.FlatCardLaws.{both_told, none_told}
use Rattle.flattening.proofs.checked_flat.Goals as goal

pub returns-in-Ok-clause-checked : goal.returns-in-Ok-clause-checked
returns-in-Ok-clause-checked c = both_told c.args.card.now _ c.load_flat.ensures.flat_card _ c.in-Ok.is

pub returns-in-Err-clause-checked : goal.returns-in-Err-clause-checked
returns-in-Err-clause-checked c = none_told c.args.card.now _ c.load_flat.ensures.flat_card _ c.in-Err.is _ c.checked-read.ensures.checked.starts
