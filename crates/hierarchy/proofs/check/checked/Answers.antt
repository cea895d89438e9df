use Rattle.std.proofs.Common.{sym, ap, ◌∙◌}
use Rattle.hierarchy.specs.Numbers.{check_outcome}
use Rattle.hierarchy.specs.Judgement.{counts_of}
use Rattle.hierarchy.proofs.CheckLaws.{starts_accepted}
use Rattle.hierarchy.proofs.check.checked.Goals as goal

pub returns-in-Ok-clause-checked : goal.returns-in-Ok-clause-checked
returns-in-Ok-clause-checked c =
    let h = c.load.ensures.checked in
    record {
      answer = sym (ap (λ z. check_outcome (counts_of z)) c.in-Ok.is) ∙ h.answer;
      starts = starts_accepted c.args.card.now _ h _ c.in-Ok.is;
    }
