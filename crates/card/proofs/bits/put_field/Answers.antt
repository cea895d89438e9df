-- The three bytes of the patched span, stored, write the field.
use Rattle.std.proofs.Common.{ℕ, List, ◌≡◌, ◌+◌, ◌/◌, ◌%◌, get_or, set, ap, ◌∙◌, rules, arith}
use Rattle.std.specs.Int.{w32, to_be_bytes}
use Rattle.card.proofs.Patch.{field_put}
use Rattle.card.proofs.bits.put_field.Goals as goal

pub returns : goal.returns
returns c =
    let y = c.patched-y.result in
    let at = c.args.at / 8 in
    let high : get_or (to_be_bytes w32 y) 1 0 ≡ y / 65536 = omega (arith, c.patched-y.ensures.1) in
    let first : get_or c.to_be_bytes.result 1 0 ≡ y / 65536 = ap (λ (b : List ℕ). get_or b 1 0) c.to_be_bytes.ensures ∙ high in
    let second : get_or c.to_be_bytes.result 2 0 ≡ y / 256 % 256 = search rules in
    let third : get_or c.to_be_bytes.result 3 0 ≡ y % 256 = search rules in
    let one : c.put_entry.new.slice ≡ set c.args.out.now at (y / 65536) = c.put_entry.ensures ∙ ap (set c.args.out.now at) first in
    let two : c.put_entry-2.new.slice ≡ set c.put_entry.new.slice (at + 1) (y / 256 % 256) = c.put_entry-2.ensures ∙ ap (set c.put_entry.new.slice (at + 1)) second in
    let three : c.put_entry-3.new.slice ≡ set c.put_entry-2.new.slice (at + 2) (y % 256) = c.put_entry-3.ensures ∙ ap (set c.put_entry-2.new.slice (at + 2)) third in
    search (field_put, one, two, three, rules)
