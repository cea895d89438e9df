use lib.Arith.{lt_of_le-ne}
use Rattle.std.proofs.Common.{◌≡◌, ◌+◌, ◌<◌, ◌++◌, [], ◌∷◌, ℕ, length, take, refl, sym, ap, ◌∙◌, arith, rules, length-append, get_or}
use Rattle.std.proofs.Math.Seq.{take_all}
use Rattle.std.proofs.lemmas.List.{take_more}
use Rattle.card.specs.Card.{Card}
use Rattle.hierarchy.specs.Judgement.{accepted}
use Rattle.programs.specs.Feeds.{file_call}
use Rattle.programs.specs.Runs.{Run, FileCall, run_in, call_in, answered}
use Rattle.programs.proofs.BlockLaws.{byte_kept, going_start, going_kept, going_row, going_end}
use Rattle.programs.proofs.blocks.CardRun.answer_all.Goals as goal
use Rattle.programs.proofs.blocks.CardRun.answer_all.Goals.{then-len-size, else-len-size}

pub loop-byte-init : goal.loop-byte-init
loop-byte-init c = record {
  part = c.requires.part_of_a_row;
  long = refl;
  room = omega arith;
  same_net = refl;
  going = going_start c.args.size (call_in c.args.self.now) (run_in c.args.self.now) c.args.out.now;
}

pub loop-byte-preserved : goal.loop-byte-preserved
loop-byte-preserved c =
    let l = c.loop-byte in
    let block = c.args.block.now in
    let size = c.args.size in
    let b = get_or block l.byte-index 0 in
    let kept : c.push.new.self ≡ l.self.left ++ (b ∷ []) = byte_kept size b l.self.left _ l.invariant.part c.requires.fits c.push.ensures in
    let long : length c.push.new.self ≡ length l.self.left + 1 = omega (arith, ap length kept, length-append l.self.left (b ∷ [])) in
    let next : take (l.byte-index + 1) block ≡ take l.byte-index block ++ (b ∷ []) = take_more block l.byte-index 0 c.loop-byte-test.true in
    elim c.if-len-size.branch [
      | then-len-size w ↦
          let line = w.answer_row-line in
          let copied = w.copy_from_slice.ensures.after ∙ w.as_slice.ensures.bytes in
          rw (w.self-is, w.out-is, w.written-is, next) (record {
            part = omega (arith, line.ensures.no_bytes, l.invariant.part);
            long = search rules;
            room = omega (arith, w.len-then-len-size.ensures.fits, l.invariant.room);
            same_net = line.ensures.same_net ∙ l.invariant.same_net;
            going =
                let here : Run = record { number = l.self.number; state = l.self.state; left = c.push.new.self } in
                let same : call_in l.self ≡ call_in c.args.self.now = ap (λ (k : Card). file_call (accepted k)) l.invariant.same_net in
                going_row size (call_in c.args.self.now) (run_in c.args.self.now) c.args.out.now (take l.byte-index block) l.written (run_in l.self) l.out l.invariant.going b c.push.new.self
                _ _ _ _ kept (copied ∙ line.ensures.line ∙ ap (λ (call : FileCall). (answered call here).0) same) (line.ensures.next ∙ ap (λ (call : FileCall). (answered call here).1) same) (omega (arith, long, c.len.ensures.value, w.if-len-size.true))
                (ap (λ (k : ℕ). l.written + k) (w.len-then-len-size.ensures.value ∙ ap length (sym copied))) refl;
          })
      | else-len-size w ↦
          let part : length c.push.new.self < size = lt_of_le-ne (omega (arith, long, l.invariant.part)) (λ e. w.if-len-size.false (c.len.ensures.value ∙ e)) in
          rw (w.self-is, w.out-is, w.written-is, next) (record {
            part = part;
            long = l.invariant.long;
            room = omega (arith, l.invariant.room);
            same_net = l.invariant.same_net;
            going =
                going_kept size (call_in c.args.self.now) (run_in c.args.self.now) c.args.out.now (take l.byte-index block) l.written (run_in l.self) l.out l.invariant.going b c.push.new.self kept
                (omega (arith, long, part));
          })
    ]

pub returns-clause-turn : goal.returns-clause-turn
returns-clause-turn c =
    let l = c.loop-byte in
    let whole : take l.byte-index c.args.block.now ≡ c.args.block.now = take_all l.byte-index c.args.block.now c.loop-byte-test.false in
    going_end c.args.size (call_in c.args.self.now) (run_in c.args.self.now) c.args.out.now c.args.block.now l.written l.self l.out (rw whole at l.invariant.going)
    (omega (arith, l.invariant.room, l.auto.byte-index-end, c.requires.room))
