use Rattle.std.proofs.Common.{◌≡◌, ◌+◌, ℕ, length, ap, arith}
use Rattle.std.proofs.lemmas.List.{length_push}
use Rattle.std.proofs.lemmas.Iterator.Consumers.{YieldsList-at}
use Rattle.card.specs.Card.{Place, subnet_at, place_at, first_place}
use Rattle.card.proofs.RowListLaws.{places_yield, rows_numbered, row_turn, row_end}
use Rattle.flattening.proofs.FlatPut.{fills_then, fills_to, place_put, place_after}
use Rattle.flattening.proofs.tables.put_places.Goals as goal

pub loop-n-preserved : goal.loop-n-preserved
loop-n-preserved c =
    let d = c.args.card.now in
    let s = c.loop-s.s in
    let l = c.loop-n in
    let all = rows_numbered (subnet_at d s).places (λ n. place_at d (first_place d s + n)) (YieldsList-at c.enumerate-n-items.ensures.source (places_yield d s _ c.places_of.ensures.rows)) c.enumerate-n-items.ensures.count in
    let turn = row_turn _ _ (YieldsList-at c.into_iter-n-iterator.ensures.into_iter_gives all) l.yielded _ l.yielded_by _ _ (c.in-Some.n, c.in-Some.place) c.in-Some.is c.next.ensures.steps in
    let n : c.in-Some.n ≡ length l.yielded = ap (λ (p : ℕ × Place). p.0) turn.1 in
    rw (length_push l.yielded (c.in-Some.n, c.in-Some.place))
    (fills_then l.invariant
    (place_put _ s (length l.yielded) _ c.in-Some.place _ _ (omega arith) turn.0 (ap (λ (p : ℕ × Place). p.1) turn.1) (omega (arith, c.first_place.ensures.value, n)) c.put.ensures))

pub loop-s-preserved : goal.loop-s-preserved
loop-s-preserved c =
    let d = c.args.card.now in
    let s = c.loop-s.s in
    let l = c.loop-n in
    let all = rows_numbered (subnet_at d s).places (λ n. place_at d (first_place d s + n)) (YieldsList-at c.enumerate-n-items.ensures.source (places_yield d s _ c.places_of.ensures.rows)) c.enumerate-n-items.ensures.count in
    let end = row_end _ _ (YieldsList-at c.into_iter-n-iterator.ensures.into_iter_gives all) l.yielded _ l.yielded_by _ _ c.in-None.is c.next.ensures.steps in
    fills_to l.invariant (λ m. omega (arith, place_after d s, end))
