use Rattle.std.proofs.Common.{rules, refl}
use Rattle.net_runner.specs.Copies.{held}
use Rattle.net_runner.proofs.SliceLaws.{fresh_fits, fresh_refused, fresh_unlike, fresh_put}
use Rattle.net_runner.proofs.lending.Lent.fresh.Goals as goal

pub returns-in_err-first : goal.returns-in_err-first
returns-in_err-first c = fresh_refused c.args.self.now _ _ (search rules) c.args.card.now c.in_err-first.field-0.0 (search rules) (search rules) refl

pub returns-then-not-is_sized_as : goal.returns-then-not-is_sized_as
returns-then-not-is_sized_as c = fresh_unlike c.args.self.now _ _ (search rules) c.args.card.now c.in_ok-first.first.state (search rules) (search rules) (search rules) refl

pub returns : goal.returns
returns c =
    let a = c.args in
    let l = c.in_ok-first.first.state in
    fresh_put a.self.now _ _ c.put.ensures.same a.card.now l (search rules) (search rules) refl (c.put.ensures.numbers (fresh_fits a.card.now l (search rules) (held a.self.now) (search rules)))
