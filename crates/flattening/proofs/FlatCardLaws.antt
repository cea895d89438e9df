-- A card that was loaded with its flat card. Assumes nothing.
use Prim.Native.Nat.{ℕ, ◌≤◌}
use mathlib.Core.Path.{◌≡◌, refl, sym, ap, subst, ◌∙◌}
use mathlib.Core.Bool.{Bool, true, false, ◌&&◌}
use mathlib.Core.List.{List}
use native.Mathlib.Omega.{arith}
use lib.ListN.{length, replicate}
use lib.Dec.{eqb}
use borrow.Author.Tests.{eqb-true}
use Rattle.card.specs.Card.{Card}
use Rattle.card.specs.Index.{Loaded, starts_of, starts_size}
use Rattle.card.specs.Parsing.{read_card}
use Rattle.card.specs.Tables.{numbers_of, numbers_table, has_room, IsTable}
use Rattle.card.specs.View.{card_in, IsCounted}
use Rattle.card.proofs.ReadLaws.{blank_table, tables_loaded}
use Rattle.card.proofs.ViewLaws.{card_in_table, table_holds}
use Rattle.hierarchy.specs.Numbers.{check_outcome}
use Rattle.hierarchy.specs.Judgement.{Judgement, accepted, refused, judge, answer, outcome_of, counts_of, starts_read, IsChecked, IsAccepted}
use Rattle.hierarchy.specs.declared.CardRefusal.{CardRefusal}
use Rattle.std.specs.Prelude.{Result, Ok, Err, IfOk, IsOkAnd}
use Rattle.card.specs.declared.index.CardIndex.{CardIndex}
use Rattle.hierarchy.proofs.Accepted.{accepted_meets, accepted_read, checked_accepted}
use Rattle.hierarchy.specs.Conditions.{Meets}
use Rattle.flattening.specs.Flattening.{flatten}
use Rattle.flattening.specs.FlatCards.{flat_table, flat_counts, flat_starts, IsFlatTable, IsFlatCard, IsFlattened, flat_room, IsLentFlat, IsCheckedFlatCard}
use Rattle.flattening.specs.inner.FlatNumbers.{FlatTables}
use Rattle.flattening.specs.declared.FlatCard.{FlatCard}
use Rattle.flattening.specs.declared.CheckedFlatCard.{CheckedFlatCard}
use Rattle.flattening.proofs.FlatLaws.{flat_meets}
use Rattle.flattening.proofs.FlatNumberLaws.{flat_few}
use Rattle.hierarchy.proofs.CheckLaws.{accepted_same, starts_accepted}

pub flat_room_is : (bytes n m : ℕ) → flat_room bytes n m ≡ true → (has_room bytes n ≡ true) × (n ≡ m)
flat_room_is bytes n m e = go (has_room bytes n) refl e
  where
    go : (b : Bool) → has_room bytes n ≡ b → b && eqb n m ≡ true → (has_room bytes n ≡ true) × (n ≡ m)
    go true p q = (p, eqb-true n m q)
    go false p q = absurd (let z : ◌≡◌ {A = ℕ} 0 1 = cc in omega arith)

module _ (bytes : List ℕ) (size : ℕ) (numbers : List ℕ) (tables : IsTable (read_card bytes) size numbers) where
  -- an accepted card was read, and its table has room for its numbers
  accepted_fits : (c : Card) → judge bytes ≡ accepted c → length (numbers_of c) ≤ size
  accepted_fits c e = accepted_read bytes c e (λ end p. tables.fits c end p)

-- what the check says of a card
module _ (bytes : List ℕ) (r : Result CardIndex CardRefusal) (h : IsChecked bytes r) where
  told : (y : Result CardIndex CardRefusal) → r ≡ y → check_outcome (counts_of y) ≡ answer bytes
  told y e = sym (ap (λ (z : Result CardIndex CardRefusal). check_outcome (counts_of z)) e) ∙ h.answer

  pub flat_refused : (e : CardRefusal) (n : ℕ) (flat : List ℕ) → r ≡ Err e → flat ≡ replicate n 0 → IsFlatCard bytes (Err e) × IsFlatTable (judge bytes) n flat
  flat_refused e n flat q z = (record { answer = told (Err e) q; starts = λ c j. tt; flat = λ c j. tt; flat_counts = λ c j. tt }, go (judge bytes) (told (Err e) q))
    where
      go : (j : Judgement) → check_outcome (Err e) ≡ outcome_of j → IsFlatTable j n flat
      go (refused m i) p = z ∙ blank_table n
      go (accepted c) p = absurd (let z : ◌≡◌ {A = ℕ} 0 1 = cc in omega arith)

-- THE TABLES OF AN ACCEPTED CARD, AND THOSE OF ITS FLAT CARD, ARE VIEWS
module _ (bytes : List ℕ) (k : CardIndex) (numbers : List ℕ) (a : IsAccepted bytes numbers k) (d : Card) (is : d ≡ card_in numbers) (flat : List ℕ) (i : CardIndex) (same : length flat ≡ length numbers) (t : FlatTables d flat i) where
  abbrev c : Card
  c = card_in numbers

  abbrev whole : FlatCard
  whole = record { card = k; flat = i }

  meets : Meets c
  meets = accepted_meets bytes c a.judged

  room : length (numbers_of (flatten c)) ≤ length flat
  room = omega (arith, flat_few c meets, a.holds.fits, same)

  tables : FlatTables c flat i
  tables = subst (λ (x : Card). FlatTables x flat i) is t

  flat_is : flat ≡ numbers_table (length flat) (flatten c)
  flat_is = tables.numbers meets room

  starts_are : i.starts ≡ starts_of (flatten c)
  starts_are = tables.rows meets room

  read : card_in flat ≡ flatten c
  read = ap card_in flat_is ∙ card_in_table (length flat) (flatten c) (flat_meets c meets).wellformed room

  pub flat_views : IsFlattened bytes numbers flat whole
  flat_views =
      record {
        judged = a.judged;
        holds = a.holds;
        flattened = read;
        flat_holds = rw read (rw (flat_is, starts_are) (table_holds (length flat) (flatten c) i.counts (flat_meets c meets).wellformed room tables.counts));
      }

  pub flat_filled : (n : ℕ) → length flat ≡ n → IsFlatTable (judge bytes) n flat
  flat_filled n e = flat_is ∙ ap (λ (i : ℕ). numbers_table i (flatten c)) e ∙ ap (flat_table n) (sym a.judged)

  pub flat_told : (r : Result CardIndex CardRefusal) → IsChecked bytes r → r ≡ Ok k → IsFlatCard bytes (Ok whole)
  flat_told r h e =
      record {
        answer = told bytes r h (Ok k) e;
        starts = λ x j. subst (λ (y : Result CardIndex CardRefusal). IfOk y (λ z. z.starts ≡ starts_of x)) e (h.starts x j);
        flat = λ x j. starts_are ∙ ap (λ (y : Card). starts_of (flatten y)) (accepted_same c x (sym a.judged ∙ j));
        flat_counts = λ x j. subst (λ (y : Card). IsCounted (flatten y) i.counts) (accepted_same c x (sym a.judged ∙ j)) tables.counts;
      }

  pub flat_accepted : (r : Result CardIndex CardRefusal) → IsChecked bytes r → r ≡ Ok k → (n : ℕ) → length flat ≡ n → IsFlatCard bytes (Ok whole) × IsFlatTable (judge bytes) n flat
  flat_accepted r h e n l = (flat_told r h e, flat_filled n l)

-- both lent tables are filled, or as they were
pub lent_flat : (bytes : List ℕ) (room : Bool) (n n' f f' : List ℕ) → room ≡ true → IsTable (read_card bytes) (length n) n' → IsFlatTable (judge bytes) (length f) f' → IsLentFlat bytes room n n' f f'
lent_flat bytes room n n' f f' e h g = rw e (h, g)

pub lent_flat_kept : (bytes : List ℕ) (room : Bool) (n f : List ℕ) → room ≡ false → IsLentFlat bytes room n n f f
lent_flat_kept bytes room n f e = rw e (refl, refl)

-- the flat table holds the flat card's rows
flat_rows : (bytes : List ℕ) (size n : ℕ) (numbers flat starts : List ℕ) → IsTable (read_card bytes) size numbers → IsFlatTable (judge bytes) n flat → size ≡ n
    → (c : Card) → judge bytes ≡ accepted c → starts ≡ starts_of (flatten c) → Loaded (flatten c) flat starts
flat_rows bytes size n numbers flat starts t f same c e b =
    let m = accepted_meets bytes c e in
    let a : flat ≡ numbers_table n (flatten c) = f ∙ ap (flat_table n) e in
    rw (a, b) (tables_loaded n (flatten c) (flat_meets c m).wellformed (omega (arith, accepted_fits bytes size numbers t c e, flat_few c m, same)))

-- `flat_loaded`: THE TWO TABLES HOLD THE FLAT CARD'S ROWS
pub flat_loaded : (bytes : List ℕ) (r : Result FlatCard CardRefusal) (size n : ℕ) (numbers flat : List ℕ) → IsFlatCard bytes r → IsTable (read_card bytes) size numbers → IsFlatTable (judge bytes) n flat → size ≡ n
    → (c : Card) → judge bytes ≡ accepted c → IsOkAnd r (λ k. Loaded (flatten c) flat k.flat.starts)
flat_loaded bytes r size n numbers flat h t f same c e = go r (h.answer ∙ ap outcome_of e) (h.flat c e)
  where
    go : (y : Result FlatCard CardRefusal) → check_outcome (flat_counts y) ≡ outcome_of (accepted c) → IfOk y (λ k. k.flat.starts ≡ starts_of (flatten c))
        → IsOkAnd y (λ k. Loaded (flatten c) flat k.flat.starts)
    go (Ok k) q b = flat_rows bytes size n numbers flat k.flat.starts t f same c e b
    go (Err x) q b = absurd (let z : ◌≡◌ {A = ℕ} 0 1 = cc in omega arith)

-- `checked_flat_loaded`: THEY DO SO FROM WHERE `checked_flat` SAYS THAT THE ROWS BEGIN
pub checked_flat_loaded : (bytes : List ℕ) (r : CheckedFlatCard) (size n : ℕ) (numbers flat : List ℕ) → IsCheckedFlatCard bytes r → IsTable (read_card bytes) size numbers → IsFlatTable (judge bytes) n flat → size ≡ n
    → (c : Card) → judge bytes ≡ accepted c → Loaded (flatten c) flat r.flat_starts
checked_flat_loaded bytes r size n numbers flat h t f same c e = flat_rows bytes size n numbers flat r.flat_starts t f same c e (h.flat ∙ ap flat_starts e)

-- `flat_checked`: WHAT WAS ACCEPTED AND FLATTENED ARE TWO VIEWS, in whatever tables have the numbers of both cards
pub flat_checked : (bytes : List ℕ) (k : FlatCard) (size n : ℕ) (numbers flat : List ℕ) → IsFlatCard bytes (Ok k) → IsTable (read_card bytes) size numbers → IsFlatTable (judge bytes) n flat → size ≡ n
    → IsFlattened bytes numbers flat k
flat_checked bytes k size n numbers flat h t f same =
    let a = checked_accepted bytes k.card size numbers (record { answer = h.answer; starts = h.starts }) t in
    let c = card_in numbers in
    let m = accepted_meets bytes c a.judged in
    let w = (flat_meets c m).wellformed in
    let room : length (numbers_of (flatten c)) ≤ n = omega (arith, accepted_fits bytes size numbers t c a.judged, flat_few c m, same) in
    let is : flat ≡ numbers_table n (flatten c) = f ∙ ap (flat_table n) a.judged in
    let s : k.flat.starts ≡ starts_of (flatten c) = h.flat c a.judged in
    let v : card_in flat ≡ flatten c = ap card_in is ∙ card_in_table n (flatten c) w room in
    record { judged = a.judged; holds = a.holds; flattened = v; flat_holds = rw v (rw (is, s) (table_holds n (flatten c) k.flat.counts w room (h.flat_counts c a.judged))) }

-- WHERE THE ROWS OF BOTH CARDS BEGIN IS TOLD WHATEVER THE ANSWER IS
module _ (bytes : List ℕ) (r : Result FlatCard CardRefusal) (h : IsFlatCard bytes r) where
  flat_answer : (y : Result FlatCard CardRefusal) → r ≡ y → check_outcome (flat_counts y) ≡ answer bytes
  flat_answer y e = sym (ap (λ (z : Result FlatCard CardRefusal). check_outcome (flat_counts z)) e) ∙ h.answer

  pub both_told : (k : FlatCard) → r ≡ Ok k → IsCheckedFlatCard bytes (record { answer = Ok k.card.counts; starts = k.card.starts; flat_starts = k.flat.starts })
  both_told k e =
      record {
        answer = flat_answer (Ok k) e;
        starts = starts_accepted bytes (Ok k.card) own k.card refl;
        flat = go (judge bytes) refl (flat_answer (Ok k) e);
      }
    where
      own : IsChecked bytes (Ok k.card)
      own = record { answer = flat_answer (Ok k) e; starts = λ c j. subst (λ (y : Result FlatCard CardRefusal). IfOk y (λ z. z.card.starts ≡ starts_of c)) e (h.starts c j) }

      go : (j : Judgement) → judge bytes ≡ j → check_outcome (Ok k.card.counts) ≡ outcome_of j → k.flat.starts ≡ flat_starts j
      go (accepted c) p q = subst (λ (y : Result FlatCard CardRefusal). IfOk y (λ z. z.flat.starts ≡ starts_of (flatten c))) e (h.flat c p)
      go (refused n at) p q = absurd (let z : ◌≡◌ {A = ℕ} 0 1 = cc in omega arith)

  pub none_told : (e : CardRefusal) → r ≡ Err e → (s : List ℕ) → s ≡ starts_read (read_card bytes) → IsCheckedFlatCard bytes (record { answer = Err e; starts = s; flat_starts = replicate starts_size 0 })
  none_told e q s p = record { answer = flat_answer (Err e) q; starts = p; flat = go (judge bytes) (flat_answer (Err e) q) }
    where
      go : (j : Judgement) → check_outcome (Err e) ≡ outcome_of j → replicate starts_size 0 ≡ flat_starts j
      go (accepted c) w = absurd (let z : ◌≡◌ {A = ℕ} 0 1 = cc in omega arith)
      go (refused n at) w = blank_table starts_size
