-- Of a refused card the table is cleared again; else the starts are found in it.
use Rattle.std.proofs.Common.{ℕ, refl, ap, ◌∙◌, replicate}
use Rattle.card.proofs.ReadLaws.{cleared_long, fill_refused, fill_whole}
use Rattle.card.proofs.reader.read_into.Goals as goal

pub returns-in-Err-clause-read : goal.returns-in-Err-clause-read
returns-in-Err-clause-read c = (fill_refused _ _ _ 0 _ _ c.read_fields.ensures.filled c.in-Err.is refl).0

pub returns-in-Err-clause-table : goal.returns-in-Err-clause-table
returns-in-Err-clause-table c =
    (fill_refused _ _ _ _ _ _ c.read_fields.ensures.filled c.in-Err.is
    (c.fill-in-Err.ensures.after (λ y e. e) ∙ ap (λ (n : ℕ). replicate n 0) (cleared_long _ _ _ (c.fill.ensures.after (λ y e. e)) c.read_fields.ensures.numbers_len_unchanged))).1

pub returns-in-Ok-clause-read : goal.returns-in-Ok-clause-read
returns-in-Ok-clause-read c = (fill_whole _ _ _ _ _ _ c.read_fields.ensures.filled c.in-Ok.is refl c.index.ensures.counts c.index.ensures.starts).0
