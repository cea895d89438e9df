-- Reading and writing undo each other, of the slices that the writer takes. Assumes nothing.
use Prim.Native.Nat.{ℕ, ◌≤◌, ◌<◌}
use mathlib.Core.Path.{◌≡◌, refl}
use mathlib.Core.Bool.{Bool, true, false, cond}
use mathlib.Core.List.{List}
use native.Mathlib.Omega.{arith}
use lib.ListN.{length, get_or, take}
use lib.Dec.{leb}
use borrow.Author.Tests.{le-leb, leb-true}
use Rattle.card.specs.Card.{Card}
use Rattle.card.specs.Numbers
use Rattle.card.specs.Parsing
use Rattle.card.specs.Writing.{encode, read_tables}
use Rattle.card.specs.Rows.{tables_in, CardSlices, on_slices, rows_of, whole_rows, read_rows}
use Rattle.card.specs.Spelling.{put_into}
use Rattle.card.specs.declared.FormatFault.TheVariants.{BadTable}
use Rattle.card.proofs.Copy.{put_front}
use Rattle.card.proofs.SliceLaws.{tables_rows, read_rows_is}
use Rattle.hierarchy.specs.Numbers.{WriteOutcome}
use Rattle.hierarchy.specs.Judgement.{Judgement, accepted, refused, judged, judge, judge_tables}
use Rattle.hierarchy.specs.Output.{fitted, delivered, write_rows}
use Rattle.hierarchy.proofs.Accepted.{not_accepted, accepted_written, written_accepted}

-- THE SLICES OF AN ACCEPTED CARD ARE WRITTEN AS ITS BYTES
pub slices_written : (bytes : List ℕ) → ((k : ℕ) → get_or bytes k 0 < 256) → (c : Card) → judge bytes ≡ accepted c → (buffer : List ℕ) → length bytes ≤ length buffer
    → on_slices write_rows (rows_of c) buffer ≡ (WriteOutcome.wrote (length bytes), put_into bytes buffer)
unfolding write_rows judge_tables
slices_written bytes small c e buffer l =
    let w = accepted_written bytes small c e in
    rw (read_rows_is c, w.1, w.0, le-leb (length bytes) (length buffer) l)

-- slices that are accepted are those of the card, which is accepted from its bytes
rows_accepted : (x : CardSlices) (c : Card) → judged (on_slices read_rows x) ≡ accepted c → (rows_of c ≡ x) × (judge (encode c) ≡ accepted c)
unfolding read_rows judge_tables
rows_accepted x c e = go (whole_rows x.subnets x.places x.transitions x.arcs) refl e
  where
    go : (b : Bool) → whole_rows x.subnets x.places x.transitions x.arcs ≡ b
        → judged (cond b (read_tables (on_slices tables_in x)) (Parsing.refused (Numbers.number BadTable) 0)) ≡ accepted c → (rows_of c ≡ x) × (judge (encode c) ≡ accepted c)
    go false p q = absurd (not_accepted _ _ _ q)
    go true p q =
        let w = written_accepted (on_slices tables_in x) c q in
        rw w.0 (tables_rows x p, w.1)

-- slices are those of an accepted card, and its bytes are the first n of the buffer
pub record WroteCard (x : CardSlices) (buffer : List ℕ) (n : ℕ) (after : List ℕ) : Type 0 where
  pub card : Card
  pub rows : rows_of card ≡ x
  pub reads : judge (encode card) ≡ accepted card
  pub long : n ≡ length (encode card)
  pub bytes : after ≡ put_into (encode card) buffer
  pub first : take n after ≡ encode card

-- WHAT THE WRITER WROTE IS READ AS THE CARD OF THESE SLICES
pub written_slices : (x : CardSlices) (buffer : List ℕ) (n : ℕ) → (on_slices write_rows x buffer).0 ≡ WriteOutcome.wrote n → WroteCard x buffer n (on_slices write_rows x buffer).1
unfolding write_rows
written_slices x buffer n e = go (judged (on_slices read_rows x)) refl e
  where
    fits : (c : Card) (b : Bool) → judged (on_slices read_rows x) ≡ accepted c → leb (length (encode c)) (length buffer) ≡ b → fitted b (length (encode c)) ≡ WriteOutcome.wrote n
        → WroteCard x buffer n (put_into (encode c) buffer)
    fits c false p q r = absurd (let z : ◌≡◌ {A = ℕ} 0 1 = cc in omega arith)
    fits c true p q r =
        let a = rows_accepted x c p in
        let l : n ≡ length (encode c) = cc in
        record { card = c; rows = a.0; reads = a.1; long = l; bytes = refl; first = rw l (put_front (encode c) buffer _ (leb-true (length (encode c)) (length buffer) q) refl) }

    go : (j : Judgement) → judged (on_slices read_rows x) ≡ j → (delivered j encode buffer).0 ≡ WriteOutcome.wrote n → WroteCard x buffer n (delivered j encode buffer).1
    go (refused m at) p q = absurd (let z : ◌≡◌ {A = ℕ} 0 1 = cc in omega arith)
    go (accepted c) p q = fits c (leb (length (encode c)) (length buffer)) p refl q
