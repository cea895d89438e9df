-- `runners::work::Work::allows` meets its contract.
use Rattle.std.proofs.Common.{◌∙◌}
use Rattle.card.specs.View.{place_in}
use Rattle.runners.proofs.AllowLaws.{place_there, allows_draws, allows_fills}
use Rattle.runners.proofs.work.Work.allows.Goals as goal

pub returns-in-Draws : goal.returns-in-Draws
returns-in-Draws c =
    let a = c.args in
    λ t j m l e. allows_draws a.card.now t j a.arc e a.self.now.state.markings a.self.now.standing c.flat_place-p.result c.entry_at-m.result c.from.result c.from-scale.result
    c.flat_place-p.ensures c.entry_at-m.ensures.value c.from.ensures (c.from-scale.ensures ∙ c.scale.ensures) c.entry_at.result c.entry_at.ensures.value c.in-Draws.is

pub returns-in-Fills : goal.returns-in-Fills
returns-in-Fills c =
    let a = c.args in
    λ t j m l e. allows_fills a.card.now t j a.arc e a.self.now.state.markings a.self.now.standing c.flat_place-p.result c.entry_at-m.result c.from.result c.from-scale.result
    c.flat_place-p.ensures c.entry_at-m.ensures.value c.from.ensures (c.from-scale.ensures ∙ c.scale.ensures) c.entry_at-in-Fills.result c.from-k.result (place_in c.place.result) c.entry_at-in-Fills.ensures.value
    (c.place.ensures.value (place_there a.card.now m t j l a.arc e)) c.from-k.ensures c.in-Fills.is
