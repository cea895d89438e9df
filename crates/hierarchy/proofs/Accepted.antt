-- A card is accepted just where it is well formed and meets the conditions. Assumes nothing.
use Prim.Native.Nat.{ℕ, ◌<◌}
use mathlib.Core.Path.{◌≡◌, refl, sym, ap, subst, ◌∙◌}
use mathlib.Core.List.{List}
use mathlib.Core.Option.{Option, none, some}
use mathlib.Core.Logic.{◌↔◌}
use native.Mathlib.Omega.{arith}
use lib.ListN.{length, get_or}
use Rattle.card.specs.Card.{Card}
use Rattle.card.specs.Index.{Loaded, starts_of}
use Rattle.std.specs.Prelude.{Result, Ok, Err, IfOk, IsOkAnd}
use Rattle.card.specs.Parsing.{Parsing, read_card}
use Rattle.card.specs.Tables.{numbers_table, table_of, IsTable}
use Rattle.card.specs.View.{card_in, IsCounted}
use Rattle.card.specs.Writing.{encode, read_tables}
use Rattle.card.proofs.Ranges.{read_wellformed}
use Rattle.card.proofs.ReadLaws.{read_loaded}
use Rattle.card.proofs.ViewLaws.{card_in_table, table_holds}
use Rattle.card.proofs.RoundTrip.{read_write, write_read, wellformed_reads, wellformed_tables}
use Rattle.hierarchy.specs.Conditions.{Meets}
use Rattle.hierarchy.specs.Check.{Found, check}
use Rattle.hierarchy.specs.Judgement.{Judgement, accepted, refused, checked, judged, judge, judge_tables, outcome_of, counts_of, starts_read, IsChecked, IsAccepted, IsCheckedCard}
use Rattle.hierarchy.specs.Numbers.{check_outcome}
use Rattle.hierarchy.specs.declared.CardRefusal.{CardRefusal}
use Rattle.hierarchy.specs.declared.check.CheckedCard.{CheckedCard}
use Rattle.card.specs.declared.index.CardIndex.{CardIndex}
use Rattle.hierarchy.proofs.Agree.{check_is}

pub not_accepted : (n at : ℕ) (c : Card) → refused n at ≡ accepted c → ⊥
not_accepted n at c e = let z : ◌≡◌ {A = ℕ} 0 1 = cc in omega arith

pub accepted_meets : (bytes : List ℕ) (c : Card) → judge bytes ≡ accepted c → Meets c
unfolding judge
accepted_meets bytes c e = go (read_card bytes) refl e
  where
    found : (d : Card) (end : ℕ) (x : Option Found) → read_card bytes ≡ Parsing.whole d end → check d ≡ x → checked x d ≡ accepted c → Meets c
    found d end (some f) p q r = absurd (not_accepted _ _ _ r)
    found d end none p q r =
        let s : d ≡ c = cc in
        subst Meets s (record { wellformed = read_wellformed bytes d end p; conditions = (check_is d).0 q })

    go : (x : Parsing Card) → read_card bytes ≡ x → judged x ≡ accepted c → Meets c
    go (Parsing.refused n at) p q = absurd (not_accepted _ _ _ q)
    go (Parsing.whole d end) p q = found d end (check d) p refl q

-- the card's bytes, where they are accepted
accepted_bytes : (bytes : List ℕ) → ((k : ℕ) → get_or bytes k 0 < 256) → (c : Card) → judge bytes ≡ accepted c → encode c ≡ bytes
unfolding judge
accepted_bytes bytes small c e = go (read_card bytes) refl e
  where
    found : (d : Card) (end : ℕ) (x : Option Found) → read_card bytes ≡ Parsing.whole d end → checked x d ≡ accepted c → encode c ≡ bytes
    found d end (some f) p r = absurd (not_accepted _ _ _ r)
    found d end none p r = let s : d ≡ c = cc in subst (λ (x : Card). encode x ≡ bytes) s (write_read bytes small d end p)

    go : (x : Parsing Card) → read_card bytes ≡ x → judged x ≡ accepted c → encode c ≡ bytes
    go (Parsing.refused n at) p q = absurd (not_accepted _ _ _ q)
    go (Parsing.whole d end) p q = found d end (check d) p q

-- A CARD THAT MEETS ALL THAT IS ASKED IS ACCEPTED, from its bytes and from its tables
pub meets_accepted : (c : Card) → Meets c → judge (encode c) ≡ accepted c
unfolding judge
meets_accepted c m = rw (wellformed_reads c m.wellformed, (check_is c).1 m.conditions)

pub meets_written : (c : Card) → Meets c → judge_tables c ≡ accepted c
unfolding judge_tables
meets_written c m = rw (wellformed_tables c m.wellformed, (check_is c).1 m.conditions)

-- `accepted_iff`: BYTES ARE ACCEPTED JUST WHERE THEY ARE THE ENCODING OF A CARD THAT MEETS ALL THAT IS ASKED
pub accepted_iff : (bytes : List ℕ) → ((k : ℕ) → get_or bytes k 0 < 256) → (c : Card) → (judge bytes ≡ accepted c) ↔ (Meets c × (encode c ≡ bytes))
accepted_iff bytes small c =
    (λ e. (accepted_meets bytes c e, accepted_bytes bytes small c e), λ h. subst (λ (b : List ℕ). judge b ≡ accepted c) h.1 (meets_accepted c h.0))

-- `write_read` for accepted cards: the tables of a card that the check accepts are accepted, and make its bytes
pub accepted_written : (bytes : List ℕ) → ((k : ℕ) → get_or bytes k 0 < 256) → (c : Card) → judge bytes ≡ accepted c → (encode c ≡ bytes) × (judge_tables c ≡ accepted c)
accepted_written bytes small c e = (accepted_bytes bytes small c e, meets_written c (accepted_meets bytes c e))

-- `read_write` for accepted cards: the bytes of tables that the writer accepts are accepted, as the card that the tables are
pub written_accepted : (c d : Card) → judge_tables c ≡ accepted d → (d ≡ c) × (judge (encode c) ≡ accepted c)
unfolding judge judge_tables
written_accepted c d e = go (read_tables c) refl e
  where
    found : (x : Card) (end : ℕ) (y : Option Found) → read_tables c ≡ Parsing.whole x end → check x ≡ y → checked y x ≡ accepted d → (d ≡ c) × (judged (read_card (encode c)) ≡ accepted c)
    found x end (some f) p q r = absurd (not_accepted _ _ _ r)
    found x end none p q r =
        let s : x ≡ d = cc in
        let w = read_write c x end p in
        let k : check c ≡ none = ap check (sym w.0) ∙ q in
        (sym s ∙ w.0, rw (w.1.reads, k))

    go : (x : Parsing Card) → read_tables c ≡ x → judged x ≡ accepted d → (d ≡ c) × (judged (read_card (encode c)) ≡ accepted c)
    go (Parsing.refused n at) p q = absurd (not_accepted _ _ _ q)
    go (Parsing.whole x end) p q = found x end (check x) p refl q

-- an accepted card is the one that was read
pub accepted_read : {A : Type 0} (bytes : List ℕ) (c : Card) → judge bytes ≡ accepted c → ((end : ℕ) → read_card bytes ≡ Parsing.whole c end → A) → A
unfolding judge
accepted_read {A} bytes c e f = go (read_card bytes) refl e
  where
    found : (d : Card) (end : ℕ) (x : Option Found) → read_card bytes ≡ Parsing.whole d end → checked x d ≡ accepted c → A
    found d end (some g) p q = absurd (not_accepted _ _ _ q)
    found d end none p q = let s : d ≡ c = cc in f end (p ∙ ap (λ (x : Card). Parsing.whole x end) s)

    go : (x : Parsing Card) → read_card bytes ≡ x → judged x ≡ accepted c → A
    go (Parsing.refused n at) p q = absurd (not_accepted _ _ _ q)
    go (Parsing.whole d end) p q = found d end (check d) p q

-- the check's answer to a card's bytes, and the tables that it left
pub record Checked (j : Judgement) (r : Result CardIndex CardRefusal) (numbers : List ℕ) : Type 0 where
  pub answer : check_outcome (counts_of r) ≡ outcome_of j
  pub loaded : (c : Card) → j ≡ accepted c → IsOkAnd r (λ k. Loaded c numbers k.starts)

-- `accepted_loaded`: THE TABLES THAT THE CHECK LEAVES HOLD AN ACCEPTED CARD'S ROWS
pub accepted_loaded : (bytes : List ℕ) (r : Result CardIndex CardRefusal) (size : ℕ) (numbers : List ℕ) → IsChecked bytes r → IsTable (read_card bytes) size numbers
    → Checked (judge bytes) r numbers
accepted_loaded bytes r size numbers h t = record { answer = h.answer; loaded = λ c e. go c e r (h.answer ∙ ap outcome_of e) (h.starts c e) }
  where
    go : (c : Card) → judge bytes ≡ accepted c → (y : Result CardIndex CardRefusal) → check_outcome (counts_of y) ≡ outcome_of (accepted c) → IfOk y (λ k. k.starts ≡ starts_of c)
        → IsOkAnd y (λ k. Loaded c numbers k.starts)
    go c e (Ok k) q s = accepted_read bytes c e (λ end p. read_loaded bytes c end size numbers k.starts p s t)
    go c e (Err w) q s = absurd (let z : ◌≡◌ {A = ℕ} 0 1 = cc in omega arith)

-- the same of what is told whatever the answer is
pub record CheckedRows (j : Judgement) (r : CheckedCard) (numbers : List ℕ) : Type 0 where
  pub answer : check_outcome r.answer ≡ outcome_of j
  pub loaded : (c : Card) → j ≡ accepted c → Loaded c numbers r.starts

-- `checked_loaded`: THEY DO SO FROM WHERE `checked` SAYS THAT THE ROWS BEGIN
pub checked_loaded : (bytes : List ℕ) (r : CheckedCard) (size : ℕ) (numbers : List ℕ) → IsCheckedCard bytes r → IsTable (read_card bytes) size numbers
    → CheckedRows (judge bytes) r numbers
checked_loaded bytes r size numbers h t =
    record { answer = h.answer; loaded = λ c e. accepted_read bytes c e (λ end p. read_loaded bytes c end size numbers r.starts p (h.starts ∙ ap starts_read p) t) }

-- `checked_accepted`: WHAT THE CHECK ACCEPTED IS A VIEW, in whatever table has the numbers that were read
pub checked_accepted : (bytes : List ℕ) (k : CardIndex) (size : ℕ) (numbers : List ℕ) → IsChecked bytes (Ok k) → IsTable (read_card bytes) size numbers → IsAccepted bytes numbers k
checked_accepted bytes k size numbers h t = go (judge bytes) refl h.answer
  where
    view : (c : Card) (end : ℕ) → judge bytes ≡ accepted c → IsCounted c k.counts → read_card bytes ≡ Parsing.whole c end → IsAccepted bytes numbers k
    view c end p n r =
        let w = (accepted_meets bytes c p).wellformed in
        let few = t.fits c end r in
        let is : numbers ≡ numbers_table size c = t.is ∙ ap (table_of size) r in
        let s : k.starts ≡ starts_of c = h.starts c p in
        let v : card_in numbers ≡ c = ap card_in is ∙ card_in_table size c w few in
        record { judged = p ∙ ap accepted (sym v); holds = rw v (rw (is, s) (table_holds size c k.counts w few n)) }

    go : (j : Judgement) → judge bytes ≡ j → check_outcome (Ok k.counts) ≡ outcome_of j → IsAccepted bytes numbers k
    go (refused n at) p q = absurd (let z : ◌≡◌ {A = ℕ} 0 1 = cc in omega arith)
    go (accepted c) p q =
        let es : k.counts.subnets ≡ length c.subnets = cc in
        let ep : k.counts.places ≡ length c.places = cc in
        let et : k.counts.transitions ≡ length c.transitions = cc in
        accepted_read bytes c p (λ end r. view c end p (record { subnets = es; places = ep; transitions = et }) r)
