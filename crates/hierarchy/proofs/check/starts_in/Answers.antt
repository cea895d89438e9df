use Rattle.card.specs.Parsing.{read_card}
use Rattle.hierarchy.proofs.CheckLaws.{starts_none}
use Rattle.hierarchy.proofs.check.starts_in.Goals as goal

pub returns-in-Err-clause-starts : goal.returns-in-Err-clause-starts
returns-in-Err-clause-starts c = starts_none (read_card c.args.card.now) _ c.read.ensures.read _ c.in-Err.is
