use Rattle.std.proofs.Common.{◌≡◌, ◌∙◌, ℕ, sym, ap, length, replicate}
use Rattle.card.proofs.ReadLaws.{lent_is}
use Rattle.flattening.proofs.FlatCardLaws.{flat_room_is, flat_refused, flat_told, flat_filled, flat_views}
use Rattle.flattening.proofs.load_flat_into.Goals as goal

pub returns-in_err-index-clause-flat_table : goal.returns-in_err-index-clause-flat_table
returns-in_err-index-clause-flat_table c =
    (flat_refused c.args.card.now _ c.load.ensures.checked _ (length c.args.flat.now) _ c.in_err-index.was (c.fill.ensures.after (λ y e. e))).1

pub returns : goal.returns
returns c =
    let a = c.args in
    let x = c.load in
    let t = c.flat_tables in
    let room = flat_room_is (length a.card.now) (length a.numbers.now) (length a.flat.now) c.requires in
    let accepted = c.in_ok-index.ensures.accepted room.0 in
    let long : length t.new.out ≡ length a.flat.now = t.auto.out ∙ c.fill.auto.self in
    let same : length t.new.out ≡ length x.new.numbers = long ∙ sym room.1 ∙ sym x.auto.numbers in
    let tables = t.ensures (c.fill.ensures.after (λ y e. e) ∙ ap (λ (n : ℕ). replicate n 0) (sym c.fill.auto.self)) in
    record {
      numbers_len_unchanged = x.ensures.numbers_len_unchanged;
      flat_len_unchanged = long;
      flat_card = flat_told a.card.now _ _ accepted _ c.view.ensures _ _ same tables _ x.ensures.checked c.in_ok-index.was;
      table = lent_is _ _ a.numbers.now x.new.numbers x.ensures.lent room.0;
      flat_table = flat_filled a.card.now _ _ accepted _ c.view.ensures _ _ same tables _ long;
      flattened = flat_views a.card.now _ _ accepted _ c.view.ensures _ _ same tables;
    }
