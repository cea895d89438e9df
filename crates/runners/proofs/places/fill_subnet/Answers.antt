-- `runners::places::fill_subnet` meets its contract.
use Rattle.std.proofs.Common.{◌≡◌, ◌+◌, ◌*◌, ◌∙◌, ℕ, suc, length, ap, ap₂, arith}
use Rattle.std.proofs.lemmas.List.{length_push}
use Rattle.std.proofs.lemmas.Iterator.Consumers.{YieldsList-at}
use Rattle.card.specs.Card.{Place, subnet_at, place_at, first_place}
use Rattle.card.proofs.RowListLaws.{places_yield, rows_numbered, row_turn, row_end}
use Rattle.runners.proofs.MarkingLaws.{few_places, subnet_more, subnet_end}
use Rattle.flattening.proofs.FlatPut.{next_place}
use Rattle.runners.proofs.places.fill_subnet.Goals as goal

pub bounds-column-first : goal.bounds-column-first
bounds-column-first g c =
    let k = c.args.card.now in
    let s = c.args.s in
    let l = c.loop-n in
    let m = c.requires.meets in
    let all = rows_numbered (subnet_at k s).places (λ n. place_at k (first_place k s + n)) (YieldsList-at c.enumerate-n-items.ensures.source (places_yield k s _ c.places_of.ensures.rows)) c.enumerate-n-items.ensures.count in
    let turn = row_turn _ _ (YieldsList-at c.into_iter-n-iterator.ensures.into_iter_gives all) l.yielded _ l.yielded_by _ _ (c.in-Some.n, c.in-Some.place) c.in-Some.is c.next.ensures.steps in
    let n : c.in-Some.n ≡ length l.yielded = ap (λ (p : ℕ × Place). p.0) turn.1 in
    omega (arith, n, turn.0, c.first_place-first.ensures.value, l.invariant.long, few_places k m (suc s) (omega (arith, c.requires.there)), next_place k s)

pub loop-n-preserved : goal.loop-n-preserved
loop-n-preserved g c =
    let k = c.args.card.now in
    let s = c.args.s in
    let l = c.loop-n in
    let all = rows_numbered (subnet_at k s).places (λ n. place_at k (first_place k s + n)) (YieldsList-at c.enumerate-n-items.ensures.source (places_yield k s _ c.places_of.ensures.rows)) c.enumerate-n-items.ensures.count in
    let turn = row_turn _ _ (YieldsList-at c.into_iter-n-iterator.ensures.into_iter_gives all) l.yielded _ l.yielded_by _ _ (c.in-Some.n, c.in-Some.place) c.in-Some.is c.next.ensures.steps in
    let n : c.in-Some.n ≡ length l.yielded = ap (λ (p : ℕ × Place). p.0) turn.1 in
    rw (length_push l.yielded (c.in-Some.n, c.in-Some.place), n, c.first_place-first.ensures.value)
    (subnet_more g.N.PlaceNumber.number g.met.N.PlaceNumber.same k c.requires.meets s (length l.yielded) _ l.column c.requires.there turn.0
    (ap₂ (λ (x y : ℕ). x * y) (c.from.ensures ∙ c.scale.ensures) (c.from-in-loop-n.ensures ∙ c.of.ensures ∙ ap g.N.PlaceNumber.number (ap (λ (p : ℕ × Place). p.1) turn.1))) l.invariant)

pub returns : goal.returns
returns g c =
    let k = c.args.card.now in
    let s = c.args.s in
    let l = c.loop-n in
    let all = rows_numbered (subnet_at k s).places (λ n. place_at k (first_place k s + n)) (YieldsList-at c.enumerate-n-items.ensures.source (places_yield k s _ c.places_of.ensures.rows)) c.enumerate-n-items.ensures.count in
    let end = row_end _ _ (YieldsList-at c.into_iter-n-iterator.ensures.into_iter_gives all) l.yielded _ l.yielded_by _ _ c.in-None.is c.next.ensures.steps in
    subnet_end g.N.PlaceNumber.number g.met.N.PlaceNumber.same k c.requires.meets s (length l.yielded) l.column end l.invariant
