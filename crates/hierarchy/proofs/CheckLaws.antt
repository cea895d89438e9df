-- What the check found is what judging a card says. Assumes nothing.
use Prim.Native.Nat.{ℕ}
use mathlib.Core.Path.{◌≡◌, refl, sym, ap, subst, ◌∙◌}
use mathlib.Core.Bool.{Bool, true, false}
use mathlib.Core.List.{List}
use mathlib.Core.Option.{Option, none, some}
use native.Mathlib.Omega.{arith}
use lib.ListN.{length, replicate}
use Rattle.card.specs.Finite.{◌otherwise◌}
use Rattle.card.specs.Card.{Card}
use Rattle.card.specs.Index.{starts_of, starts_size}
use Rattle.card.specs.Parsing.{Parsing, read_card}
use Rattle.card.specs.Tables.{read_outcome, outcome_of, IsRead, IsTable, IsLent}
use Rattle.card.specs.Numbers
use Rattle.card.specs.declared.FormatRefusal.{FormatRefusal}
use Rattle.card.specs.declared.index.CardIndex.{CardIndex}
use Rattle.std.specs.Prelude.{Result, Ok, Err, IfOk}
use Rattle.card.specs.View.{card_in}
use Rattle.card.proofs.ReadLaws.{lent_is, blank_table}
use Rattle.card.proofs.ViewLaws.{View, read_holds}
use Rattle.hierarchy.specs.Check.{Found, finding_of, check}
use Rattle.hierarchy.specs.Numbers.{as_refusal, check_outcome}
use Rattle.hierarchy.specs.Judgement.{judge, judged, checked, accepted, answer, counts_of, starts_read, IsChecked, IsAccepted}
use Rattle.hierarchy.specs.Judgement
use Rattle.hierarchy.specs.declared.CardRefusal.{CardRefusal}

-- what a pass of the code finds
abbrev pub Finding : Type 0
Finding = Result (Unit {0}) CardRefusal

-- one pass after another: the first finding is the check's
module _ (r : Finding) (a b : Option Found) (h : finding_of r ≡ a) where
  pub found_first : (e : CardRefusal) → r ≡ Err e → finding_of (Err e) ≡ a otherwise b
  found_first e q = rw (← h, q)

  pub found_later : (u : Unit {0}) → r ≡ Ok u → (x : Option Found) → x ≡ b → x ≡ a otherwise b
  found_later u e x q = rw (← h, e) q

same_counts : (a b d x y z : ℕ) → a ≡ x → b ≡ y → d ≡ z → Rattle.hierarchy.specs.Numbers.CheckOutcome.accepted a b d ≡ Rattle.hierarchy.specs.Numbers.CheckOutcome.accepted x y z
same_counts a b d x y z p q r = rw (p, q, r)

pub accepted_same : (c d : Card) → accepted c ≡ accepted d → c ≡ d
accepted_same c d e = cc

-- a lent table with room, after a reading
pub table_read : (bytes : List ℕ) (room : Bool) (before after : List ℕ) → room ≡ true → IsLent (read_card bytes) room before after → length after ≡ length before
    → IsTable (read_card bytes) (length after) after
table_read bytes room before after e h long = rw long (lent_is (read_card bytes) room before after h e)

module _ (bytes : List ℕ) (r : Result CardIndex FormatRefusal) (h : IsRead (read_card bytes) r) where
  pub answer_unread : (e : FormatRefusal) → r ≡ Err e → check_outcome (Err (as_refusal e)) ≡ answer bytes
  unfolding judge
  answer_unread e q = go (read_card bytes) (sym (ap read_outcome q) ∙ h.answer)
    where
      go : (x : Parsing Card) → read_outcome (Err e) ≡ outcome_of x → check_outcome (Err (as_refusal e)) ≡ Judgement.outcome_of (judged x)
      go (Parsing.refused n i) q =
          let a : Numbers.number e.fault ≡ n = cc in
          let b : e.bit ≡ i = cc in
          rw (← a, ← b)
      go (Parsing.whole d end) q = absurd (let z : ◌≡◌ {A = ℕ} 0 1 = cc in omega arith)

  pub unread : (e : FormatRefusal) → r ≡ Err e → IsChecked bytes (Err (as_refusal e))
  unread e q = record { answer = answer_unread e q; starts = λ c p. tt }

  module _ (k : CardIndex) (e : r ≡ Ok k) (numbers : List ℕ) (t : IsTable (read_card bytes) (length numbers) numbers) where
    pub view : View bytes numbers k
    view = read_holds bytes r k (length numbers) numbers h e t

    starts_are : k.starts ≡ starts_of (card_in numbers)
    starts_are = subst (λ (y : Result CardIndex FormatRefusal). IfOk y (λ z. z.starts ≡ starts_of (card_in numbers))) e (h.starts (card_in numbers) view.end view.read)

    -- what the three passes find is the check's answer
    module _ (d : Card) (s : d ≡ card_in numbers) where
      pub answer_refused : (f : CardRefusal) → finding_of (Err f) ≡ check d → check_outcome (Err f) ≡ answer bytes
      unfolding judge
      answer_refused f x = let g : finding_of (Err f) ≡ check (card_in numbers) = x ∙ ap check s in rw (view.read, ← g)

      pub answer_accepted : (u : Unit {0}) → finding_of (Ok u) ≡ check d → check_outcome (Ok k.counts) ≡ answer bytes
      unfolding judge
      answer_accepted u x =
          let g : finding_of (Ok u) ≡ check (card_in numbers) = x ∙ ap check s in
          let n = view.holds.counts in
          rw (view.read, ← g) (same_counts _ _ _ _ _ _ n.subnets n.places n.transitions)

    pub pass_refused : (d : Card) → d ≡ card_in numbers → (f : CardRefusal) → finding_of (Err f) ≡ check d → IsChecked bytes (Err f)
    pass_refused d s f x = record { answer = answer_refused d s f x; starts = λ c p. tt }

    pub pass_accepted : (d : Card) → d ≡ card_in numbers → (u : Unit {0}) → finding_of (Ok u) ≡ check d
        → IsChecked bytes (Ok k) × IsAccepted bytes numbers k
    unfolding judge
    pass_accepted d s u x =
        let g : finding_of (Ok u) ≡ check (card_in numbers) = x ∙ ap check s in
        let j : judged (read_card bytes) ≡ accepted (card_in numbers) = rw (view.read, ← g) in (
          record { answer = answer_accepted d s u x; starts = λ c p. starts_are ∙ ap starts_of (let y : card_in numbers ≡ c = accepted_same _ _ (sym j ∙ p) in y) },
          record { judged = j; holds = view.holds },
        )

-- WHERE THE ROWS BEGIN IS TOLD OF EACH CARD THAT PASS ONE READS
module _ (x : Parsing Card) (r : Result CardIndex FormatRefusal) (h : IsRead x r) where
  pub starts_whole : (k : CardIndex) → r ≡ Ok k → k.starts ≡ starts_read x
  starts_whole k e = go x refl (sym (ap read_outcome e) ∙ h.answer)
    where
      go : (y : Parsing Card) → x ≡ y → read_outcome (Ok k) ≡ outcome_of y → k.starts ≡ starts_read y
      go (Parsing.whole c end) p q = subst (λ (z : Result CardIndex FormatRefusal). IfOk z (λ i. i.starts ≡ starts_of c)) e (h.starts c end p)
      go (Parsing.refused n at) p q = absurd (let z : ◌≡◌ {A = ℕ} 0 1 = cc in omega arith)

  pub starts_none : (e : FormatRefusal) → r ≡ Err e → replicate starts_size 0 ≡ starts_read x
  starts_none e q = go x (sym (ap read_outcome q) ∙ h.answer)
    where
      go : (y : Parsing Card) → read_outcome (Err e) ≡ outcome_of y → replicate starts_size 0 ≡ starts_read y
      go (Parsing.whole c end) p = absurd (let z : ◌≡◌ {A = ℕ} 0 1 = cc in omega arith)
      go (Parsing.refused n at) p = blank_table starts_size

module _ (bytes : List ℕ) (r : Result CardIndex CardRefusal) (h : IsChecked bytes r) (k : CardIndex) (e : r ≡ Ok k) where
  told : check_outcome (Ok k.counts) ≡ answer bytes
  told = sym (ap (λ (z : Result CardIndex CardRefusal). check_outcome (counts_of z)) e) ∙ h.answer

  pub starts_accepted : k.starts ≡ starts_read (read_card bytes)
  unfolding judge
  starts_accepted = go (read_card bytes) refl
    where
      apart : (j : Judgement.Judgement) → judge bytes ≡ j → check_outcome (Ok k.counts) ≡ Judgement.outcome_of j
      apart j p = told ∙ ap Judgement.outcome_of p

      found : (c : Card) (x : Option Found) → judge bytes ≡ checked x c → check_outcome (Ok k.counts) ≡ Judgement.outcome_of (checked x c) → k.starts ≡ starts_of c
      found c none p q = subst (λ (z : Result CardIndex CardRefusal). IfOk z (λ i. i.starts ≡ starts_of c)) e (h.starts c p)
      found c (some f) p q = absurd (let z : ◌≡◌ {A = ℕ} 0 1 = cc in omega arith)

      unread_not : (n at : ℕ) → check_outcome (Ok k.counts) ≡ Judgement.outcome_of (Judgement.refused n at) → k.starts ≡ starts_read (Parsing.refused n at)
      unread_not n at q = absurd (let z : ◌≡◌ {A = ℕ} 0 1 = cc in omega arith)

      go : (y : Parsing Card) → read_card bytes ≡ y → k.starts ≡ starts_read y
      go (Parsing.whole c end) p = let j : judge bytes ≡ checked (check c) c = ap judged p in found c (check c) j (apart _ j)
      go (Parsing.refused n at) p = let j : judge bytes ≡ Judgement.refused n at = ap judged p in unread_not n at (apart _ j)

-- a table that is filled a second time
pub lent_again : (x : Parsing Card) (room : Bool) (a b c : List ℕ) → length b ≡ length a → IsLent x room a b → IsLent x room b c → IsLent x room a c
lent_again x true a b c e h k = subst (λ (n : ℕ). IsTable x n c) e k
lent_again x false a b c e h k = k ∙ h
