-- The walk stores where each subnet begins and indexes its transitions, and stays where a card can have rows.
use Rattle.std.proofs.Common.{ℕ, ◌≡◌, List, length, refl, sym, ap, subst, ◌∙◌, arith}
use Rattle.std.proofs.lemmas.List.{length-replicate}
use Rattle.card.specs.Format.{count, size}
use Rattle.card.specs.Grammar.{header}
use Rattle.std.proofs.lemmas.Bool.{false≢true}
use Rattle.card.specs.Index.{starts_size}
use Rattle.card.specs.inner.Indexing.{AtSubnet, TransitionsIndexed}
use Rattle.card.proofs.IndexLaws.{put_same, index_start, index_on, index_at, index_more, index_done, Indexing}
use Rattle.card.proofs.index.starts_of.Goals as goal

pub loop-s-init : goal.loop-s-init
unfolding count size header
loop-s-init c = record {
  long = length-replicate {A = ℕ} starts_size 0;
  places = omega arith;
  transitions = omega arith;
  indexed = λ k w d e. index_start k w c.args.numbers.now d _ c.version.result c.version.ensures refl (omega arith);
}

pub returns-then-not-is_on_card : goal.returns-then-not-is_on_card
returns-then-not-is_on_card c =
    let x = c.loop-s in
    λ k w d e. absurd (false≢true (sym c.if-not-is_on_card.true ∙ c.is_on_card.ensures.1 (index_on k w _ d _ _ _ _ _ (x.invariant.indexed k w d e) (omega arith))))

pub loop-s-preserved : goal.loop-s-preserved
loop-s-preserved c =
    let x = c.loop-s in
    let one = c.put_subnet in
    let n = c.place_count-n in
    let m = c.transition_count-k in
    let q = c.after_places in
    let t = c.index_transitions-p in record {
      long = t.ensures.starts_len_unchanged ∙ ap length one.ensures ∙ put_same x.starts x.s x.p.row x.p.bit x.place x.transition ∙ x.invariant.long;
      places = omega (arith, x.invariant.places);
      transitions = omega (arith, x.invariant.transitions);
      indexed = λ k w d e.
          let v = x.invariant.indexed k w d e in
          let at = index_at k w _ d _ _ _ _ _ v (omega arith) n.result m.result n.ensures m.ensures q.result q.ensures in
          index_more k w _ d _ _ _ _ _ v (omega arith) n.result m.result n.ensures m.ensures q.result q.ensures t.new.starts t.result
          (subst (λ (xs : List ℕ). TransitionsIndexed k x.s xs t.new.starts t.result) one.ensures (t.ensures.by_index k x.s (subst (λ (xs : List ℕ). AtSubnet k x.s c.args.numbers.now xs q.result x.transition m.result) (sym one.ensures) at)));
    }

pub returns : goal.returns
returns c =
    let x = c.loop-s in
    let e : x.s ≡ c.args.subnets = omega arith in
    λ k w d q. c.put_subnet-2.ensures ∙ index_done k w _ d _ _ _ _ _ (subst (λ (i : ℕ). Indexing k x.starts x.p x.place x.transition i) e (x.invariant.indexed k w d q)) (omega arith)
