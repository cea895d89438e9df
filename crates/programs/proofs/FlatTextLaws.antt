-- What the flatten program writes, from what the flattening answers. Assumes nothing.
use Prim.Native.Nat.{ℕ, ◌-◌, ◌≤◌}
use mathlib.Core.Path.{◌≡◌, refl, sym, ap, ap₂, ◌∙◌}
use Rattle.std.specs.Prelude.{Result, Ok, Err}
use mathlib.Core.Bool.{true}
use mathlib.Core.List.{List, ◌++◌}
use native.Mathlib.Omega.{arith}
use lib.ListN.{length, take, replicate, length-replicate}
use Rattle.std.proofs.lemmas.List.{drop-replicate}
use lib.Dec.{leb}
use borrow.Author.Tests.{le-leb}
use Rattle.card.specs.Card.{Card}
use Rattle.card.specs.Tables.{card_bytes}
use Rattle.card.specs.Spelling.{put_into}
use Rattle.card.specs.Writing.{encode}
use Rattle.card.proofs.Length.{bytes_few}
use Rattle.hierarchy.specs.Numbers.{WriteOutcome, write_outcome, write_number, write_value}
use Rattle.hierarchy.specs.Judgement.{Judgement, accepted, refused, judge}
use Rattle.hierarchy.specs.Output.{delivered, IsWritten}
use Rattle.hierarchy.specs.declared.WriteRefusal.{WriteRefusal}
use Rattle.hierarchy.proofs.Accepted.{accepted_meets}
use Rattle.flattening.specs.Flattening.{flatten, flatten_call}
use Rattle.flattening.proofs.FlatLaws.{flat_meets}
use Rattle.programs.specs.Programs.{card_line, flattens, flatten_program}
use Rattle.card.specs.Rooms.{IsFilled}
use Rattle.programs.proofs.TextLaws.{filled_front, front_taken}

abbrev zeros : ℕ → List ℕ
zeros n = replicate n 0

module _ (card : List ℕ) (r : Result ℕ WriteRefusal) (after : List ℕ) (w : IsWritten (flatten_call card (zeros card_bytes)) r after) where
  abbrev call : Judgement → WriteOutcome × List ℕ
  call j = delivered j (λ c. encode (flatten c)) (zeros card_bytes)

  few : (c : Card) → judge card ≡ accepted c → length (encode (flatten c)) ≤ card_bytes
  few c e = bytes_few (flatten c) (flat_meets c (accepted_meets card c e)).wellformed

  wrote_text : (c : Card) → judge card ≡ accepted c → call (accepted c) ≡ (write_outcome (Ok (length (encode (flatten c)))), encode (flatten c) ++ replicate (card_bytes - length (encode (flatten c))) 0)
  unfolding put_into
  wrote_text c e =
      let fits : leb (length (encode (flatten c))) (length (zeros card_bytes)) ≡ true = le-leb (length (encode (flatten c))) (length (zeros card_bytes)) (omega (arith, few c e, length-replicate {A = ℕ} card_bytes 0)) in
      rw fits (ap (λ (xs : List ℕ). (write_outcome (Ok (length (encode (flatten c)))), encode (flatten c) ++ xs)) (drop-replicate (length (encode (flatten c))) card_bytes 0))

  pub flat_wrote : (n : ℕ) → r ≡ Ok n → IsFilled card_bytes after n × (take n after ≡ flatten_program card)
  unfolding flatten_program flatten_call
  flat_wrote n e = go (judge card) refl (sym (ap write_outcome e) ∙ w.answer) w.bytes
    where
      go : (j : Judgement) → judge card ≡ j → write_outcome (Ok n) ≡ (call j).0 → after ≡ (call j).1 → IsFilled card_bytes after n × (take n after ≡ flattens j)
      go (accepted c) i q b =
          let o : write_outcome (Ok n) ≡ write_outcome (Ok (length (encode (flatten c)))) = q ∙ ap (λ (x : WriteOutcome × List ℕ). x.0) (wrote_text c i) in
          let k : n ≡ length (encode (flatten c)) = cc in
          let text = encode (flatten c) in
          let whole : after ≡ text ++ replicate (card_bytes - n) 0 = b ∙ ap (λ (x : WriteOutcome × List ℕ). x.1) (wrote_text c i) ∙ ap (λ (m : ℕ). text ++ replicate (card_bytes - m) 0) (sym k) in
          (filled_front card_bytes n text after (sym k) (omega (arith, k, few c i)) whole, front_taken card_bytes n text after (sym k) whole)
      go (refused m at) i q b = absurd (let z : ◌≡◌ {A = ℕ} 0 1 = cc in omega arith)

  pub flat_refused : (why : WriteRefusal) → r ≡ Err why → flatten_program card ≡ card_line (write_number why) (write_value why)
  unfolding flatten_program flatten_call
  flat_refused why e = go (judge card) refl (sym (ap write_outcome e) ∙ w.answer)
    where
      go : (j : Judgement) → judge card ≡ j → WriteOutcome.refused (write_number why) (write_value why) ≡ (call j).0 → flattens j ≡ card_line (write_number why) (write_value why)
      go (accepted c) i q =
          let o : WriteOutcome.refused (write_number why) (write_value why) ≡ write_outcome (Ok (length (encode (flatten c)))) = q ∙ ap (λ (x : WriteOutcome × List ℕ). x.0) (wrote_text c i) in
          absurd (let z : ◌≡◌ {A = ℕ} 0 1 = cc in omega arith)
      go (refused n b) i q =
          let u : write_number why ≡ n = cc in
          let v : write_value why ≡ b = cc in
          sym (ap₂ card_line u v)

  pub refusal_written : (why : WriteRefusal) (text : List ℕ) → r ≡ Err why → text ≡ card_line (write_number why) (write_value why) → text ≡ flatten_program card
  refusal_written why text e h = h ∙ sym (flat_refused why e)
