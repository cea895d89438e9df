-- Writing the bytes of the flat card is flattening. Assumes nothing.
use Prim.Native.Nat.{ℕ}
use mathlib.Core.Path.{◌≡◌, refl, sym, ap, ◌∙◌}
use mathlib.Core.List.{List}
use native.Mathlib.Omega.{arith}
use Rattle.std.specs.Prelude.{Result, Err}
use Rattle.card.specs.Card.{Card}
use Rattle.card.specs.Rows.{tables_in, on_slices, rows_of}
use Rattle.card.specs.View.{card_in}
use Rattle.card.specs.Writing.{encode}
use Rattle.card.proofs.SliceLaws.{rows_tables, read_rows_is}
use Rattle.hierarchy.specs.Conditions.{Meets}
use Rattle.hierarchy.specs.Judgement.{Judgement, accepted, refused, judged, judge, judge_tables, outcome_of}
use Rattle.hierarchy.specs.Numbers.{number, check_outcome}
use Rattle.hierarchy.specs.Output.{written, delivered, write_rows, IsWritten}
use Rattle.hierarchy.specs.declared.CardRefusal.{CardRefusal}
use Rattle.hierarchy.specs.declared.WriteRefusal.{WriteRefusal}
use Rattle.hierarchy.specs.declared.WriteRefusal.TheVariants.{Card as Turned}
use Rattle.flattening.specs.Flattening.{flatten, flatten_call}
use Rattle.flattening.proofs.FlatLaws.{flat_taken}
use Rattle.flattening.specs.FlatCards.{flat_counts, IsFlatCard, IsFlattened}
use Rattle.flattening.specs.declared.FlatCard.{FlatCard}

-- THE ROWS OF THE FLAT CARD ARE ITS TABLES,
pub flat_tables : (c : Card) → on_slices tables_in (rows_of (flatten c)) ≡ flatten c
flat_tables c = rows_tables (flatten c)

-- and writing them is delivering the flat card's bytes
pub flat_written : (c : Card) → Meets c → (buffer : List ℕ) → on_slices write_rows (rows_of (flatten c)) buffer ≡ delivered (accepted c) (λ d. encode (flatten d)) buffer
unfolding write_rows judge_tables
flat_written c m buffer = ap (λ (j : Judgement). delivered j encode buffer) (ap judged (read_rows_is (flatten c)) ∙ flat_taken c m)

pub flatten_refused : (bytes buffer : List ℕ) (e : CardRefusal) (r : Result FlatCard CardRefusal) → IsFlatCard bytes r → r ≡ Err e → IsWritten (flatten_call bytes buffer) (Err (Turned e)) buffer
unfolding flatten_call
flatten_refused bytes buffer e r h q = go (judge bytes) (sym (ap (λ (z : Result FlatCard CardRefusal). check_outcome (flat_counts z)) q) ∙ h.answer)
  where
    go : (x : Judgement) → check_outcome (Err e) ≡ outcome_of x → IsWritten (delivered x (λ d. encode (flatten d)) buffer) (Err (Turned e)) buffer
    go (refused n i) q =
        let a : number e.fault ≡ n = cc in
        let b : e.bit ≡ i = cc in
        rw (← a, ← b) (record { answer = refl; bytes = refl })
    go (accepted d) q = absurd (let z : ◌≡◌ {A = ℕ} 0 1 = cc in omega arith)

-- THE BYTES OF THE FLAT CARD, IN THE BUFFER
pub flatten_done : (bytes numbers flat : List ℕ) (k : FlatCard) → IsFlattened bytes numbers flat k → (v : Card) → v ≡ card_in flat → (text : List ℕ) → text ≡ encode v
    → (buffer out : List ℕ) (r : Result ℕ WriteRefusal) → IsWritten (written text buffer) r out → IsWritten (flatten_call bytes buffer) r out
unfolding flatten_call
flatten_done bytes numbers flat k h v is text spelt buffer out r w = rw (h.judged, ← (spelt ∙ ap encode (is ∙ h.flattened))) w
