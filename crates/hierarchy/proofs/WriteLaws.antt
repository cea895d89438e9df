-- What the writer does is what writing tables says. Assumes nothing.
use Prim.Native.Nat.{ℕ}
use mathlib.Core.Path.{◌≡◌, refl, sym, ap, subst, ◌∙◌}
use mathlib.Core.Bool.{Bool, true, false, cond}
use mathlib.Core.List.{List}
use mathlib.Core.Option.{Option, none, some}
use native.Mathlib.Omega.{arith}
use Rattle.card.specs.Card.{Card}
use Rattle.card.specs.Numbers
use Rattle.card.specs.Parsing.{Parsing, read_card}
use Rattle.card.specs.Writing.{encode, read_tables}
use Rattle.card.specs.Rows.{tables_in, whole_rows, read_rows}
use Rattle.card.specs.Spelling.{spell_outcome, outcome_of, IsSpelt}
use Rattle.card.specs.declared.Counts.{Counts}
use Rattle.card.specs.declared.FormatFault.TheVariants.{BadTable}
use Rattle.card.specs.declared.FormatRefusal.{FormatRefusal}
use Rattle.std.specs.Prelude.{Result, Ok, Err}
use Rattle.card.proofs.RoundTrip.{read_write}
use Rattle.hierarchy.specs.Numbers.{as_refusal, check_outcome, write_outcome}
use Rattle.hierarchy.specs.Check.{Found, check}
use Rattle.hierarchy.specs.Judgement.{Judgement, accepted, refused, checked, judged, judge, answer}
use Rattle.hierarchy.specs.Judgement as judgement
use Rattle.hierarchy.specs.Output.{written, write_rows, IsWritten}
use Rattle.hierarchy.specs.declared.CardRefusal.{CardRefusal}
use Rattle.hierarchy.specs.declared.WriteRefusal.{WriteRefusal}
use Rattle.hierarchy.specs.declared.WriteRefusal.TheVariants.{Card as Turned}
use Rattle.card.specs.declared.Head.{Head}

module _ (head : Head) (subnets places transitions arcs : List ℕ) where
  -- the tables make a card, whose bytes these are
  pub record Spelt (bytes : List ℕ) : Type 0 where
    pub card : Card
    pub end : ℕ
    pub is : read_rows head subnets places transitions arcs ≡ Parsing.whole card end
    pub reads : read_card (encode card) ≡ Parsing.whole card end
    pub holds : bytes ≡ encode card

  -- what is spelt is a card's
  reads_back : (c : Card) (end : ℕ) → read_rows head subnets places transitions arcs ≡ Parsing.whole c end → read_card (encode c) ≡ Parsing.whole c end
  unfolding read_rows
  reads_back c end e = go (whole_rows subnets places transitions arcs) refl e
    where
      go : (b : Bool) → whole_rows subnets places transitions arcs ≡ b → cond b (read_tables (tables_in head subnets places transitions arcs)) (Parsing.refused (Numbers.number BadTable) 0) ≡ Parsing.whole c end
          → read_card (encode c) ≡ Parsing.whole c end
      go true p q = let x = read_write (tables_in head subnets places transitions arcs) c end q in subst (λ (d : Card). read_card (encode d) ≡ Parsing.whole d end) (sym x.0) x.1.reads
      go false p q = absurd (let z : ◌≡◌ {A = ℕ} 0 1 = cc in omega arith)

  module _ (w : Result (List ℕ) FormatRefusal) (h : IsSpelt (read_rows head subnets places transitions arcs) w) where
    pub spelt_whole : (bytes : List ℕ) → w ≡ Ok bytes → Spelt bytes
    spelt_whole bytes e = go (read_rows head subnets places transitions arcs) refl (sym (ap spell_outcome e) ∙ h)
      where
        go : (x : Parsing Card) → read_rows head subnets places transitions arcs ≡ x → spell_outcome (Ok bytes) ≡ outcome_of x → Spelt bytes
        go (Parsing.refused m at) p q = absurd (let z : ◌≡◌ {A = ℕ} 0 1 = cc in omega arith)
        go (Parsing.whole c end) p q = record { card = c; end = end; is = p; reads = reads_back c end p; holds = cc }

    pub spell_turned : (buffer : List ℕ) (r : FormatRefusal) → w ≡ Err r → IsWritten (write_rows head subnets places transitions arcs buffer) (Err (Turned (as_refusal r))) buffer
    unfolding write_rows
    spell_turned buffer r e = go (read_rows head subnets places transitions arcs) (sym (ap spell_outcome e) ∙ h)
      where
        go : (x : Parsing Card) → spell_outcome (Err r) ≡ outcome_of x → IsWritten (Rattle.hierarchy.specs.Output.delivered (judged x) encode buffer) (Err (Turned (as_refusal r))) buffer
        go (Parsing.refused n i) q =
            let a : Numbers.number r.fault ≡ n = cc in
            let b : r.bit ≡ i = cc in
            rw (← a, ← b) (record { answer = refl; bytes = refl })
        go (Parsing.whole d end) q = absurd (let z : ◌≡◌ {A = ℕ} 0 1 = cc in omega arith)

  module _ (bytes : List ℕ) (s : Spelt bytes) where
    -- the check of the bytes judges the tables
    judged_is : judge bytes ≡ judged (read_rows head subnets places transitions arcs)
    unfolding judge
    judged_is = rw (s.holds, s.reads, s.is)

    pub check_turned : (buffer : List ℕ) (r : CardRefusal) → check_outcome (Err r) ≡ answer bytes → IsWritten (write_rows head subnets places transitions arcs buffer) (Err (Turned r)) buffer
    unfolding write_rows
    check_turned buffer r e = go (judged (read_rows head subnets places transitions arcs)) (e ∙ ap judgement.outcome_of judged_is)
      where
        go : (x : Judgement) → check_outcome (Err r) ≡ judgement.outcome_of x → IsWritten (Rattle.hierarchy.specs.Output.delivered x encode buffer) (Err (Turned r)) buffer
        go (refused m i) q =
            let a : Rattle.hierarchy.specs.Numbers.number r.fault ≡ m = cc in
            let b : r.bit ≡ i = cc in
            rw (← a, ← b) (record { answer = refl; bytes = refl })
        go (accepted d) q = absurd (let z : ◌≡◌ {A = ℕ} 0 1 = cc in omega arith)

    pub put_done : (k : Counts) → check_outcome (Ok k) ≡ answer bytes → (buffer out : List ℕ) (r : Result ℕ WriteRefusal) → IsWritten (written bytes buffer) r out
        → IsWritten (write_rows head subnets places transitions arcs buffer) r out
    unfolding write_rows
    put_done k e buffer out r h = rw s.is (go (check s.card) refl (e ∙ ap judgement.outcome_of (judged_is ∙ ap judged s.is)))
      where
        go : (y : Option Found) → check s.card ≡ y → check_outcome (Ok k) ≡ judgement.outcome_of (checked y s.card)
            → IsWritten (Rattle.hierarchy.specs.Output.delivered (checked y s.card) encode buffer) r out
        go (some f) p q = absurd (let z : ◌≡◌ {A = ℕ} 0 1 = cc in omega arith)
        go none p q = rw s.holds at h
