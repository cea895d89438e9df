-- The net of a card, and rows on it. Assumes nothing.
use Rattle.std.proofs.Common.{◌≡◌, ℕ, ◌+◌, ◌<◌, ◌≤◌, min, Bool, true, false, ◌⊎◌, List, [], ◌∷◌, ◌++◌, length, take, drop, sym, refl, ap, ◌∙◌, subst, ap₂, inl, inr, arith, length-append, append-nil, take_at, take_all, drop_at, drop_of_length-le}
use Rattle.std.specs.Prelude.{Result, Ok, Err, IfOk, IsOkAnd}
use Rattle.std.specs.Result.{is_err}
use mathlib.Core.Bool.{false≢true}
use mathlib.Core.Option.{none, some, some-ne-none}
use Rattle.std.proofs.lemmas.Bool.{cases_lt}
use Rattle.std.proofs.lemmas.List.{nil_from_length}
use Rattle.card.specs.Finite.{some_unless, ◌otherwise◌}
use Rattle.card.specs.Card.{Card}
use Rattle.card.specs.Index.{Indexed, Loaded, starts_of}
use Rattle.card.specs.Parsing.{read_card}
use Rattle.card.specs.Tables.{IsTable}
use Rattle.card.specs.View.{card_in, IsCounted, Holds}
use Rattle.card.proofs.IndexLaws.{starts_indexed}
use Rattle.hierarchy.specs.Conditions.{Meets}
use Rattle.hierarchy.specs.Numbers.{check_outcome}
use Rattle.hierarchy.specs.Judgement.{Judgement, accepted, refused, judge, outcome_of, IsChecked, IsAccepted}
use Rattle.hierarchy.specs.declared.CardRefusal.{CardRefusal}
use Rattle.hierarchy.proofs.Accepted.{not_accepted, accepted_meets, accepted_loaded}
use Rattle.card.specs.declared.index.CardIndex.{CardIndex}
use Rattle.flattening.specs.Flattening.{flatten}
use Rattle.flattening.specs.FlatCards.{IsFlatTable, IsFlatCard, IsFlattened}
use Rattle.flattening.specs.declared.FlatCard.{FlatCard}
use Rattle.flattening.proofs.FlatLaws.{flat_meets}
use Rattle.flattening.proofs.FlatCardLaws.{flat_loaded}
use Rattle.runners.specs.Numbers.{RowOutcome}
use Rattle.runners.specs.Rows.{settle, row_next, row_refusal, pieces}
use Rattle.runners.specs.Calls.{view, store, valid, each_once, called, in_order, flat_call, subnet_call}
use Rattle.runners.specs.Answers.{IsRow}
use Rattle.runners.specs.Nets.{flat_judged, IsNet, leaves}
use Rattle.runners.specs.inner.Markings.{capacity, Filled}
use Rattle.runners.specs.inner.Steps.{IsLoaded, refusal_in, answer_of}
use Rattle.runners.specs.declared.RowAnswer.{RowAnswer}
use Rattle.runners.specs.declared.State.{State as Lent}
use Rattle.runners.specs.declared.Refusal.{Refusal}
use Rattle.runners.specs.declared.Refusal.TheVariants.{BadState, BadOrder}
use Rattle.runners.proofs.TraceLaws.{valid_is, kept}
use Rattle.runners.proofs.PieceLaws.{pieces_none, pieces_more}
use Rattle.runners.proofs.CallLaws.{outcome_refused, flat_called}

-- many rows: where no row changes the state it is left as it is
leaves_still : {S C : Type 0} (call : S → C → RowOutcome × S) (s : S) (rows : List C) → ((row : C) → (call s row).1 ≡ s) → s ≡ leaves call s rows
unfolding leaves
leaves_still call s [] h = refl
leaves_still call s (row ∷ rows) h = rw (h row) (leaves_still call s rows h)

-- tests 25 and 23
module _ (c : Card) (order : List ℕ) (l : Lent) (d : Card) (ed : d ≡ c) (r : Result (Unit {0}) Refusal)
    (e : refusal_in r ≡ (some_unless (valid (flatten d) l) BadState otherwise some_unless (each_once (length d.subnets) order) BadOrder)) where
  abbrev call : Lent → List ℕ → RowOutcome × Lent
  call = called (in_order order) (accepted c)

  tests_are : refusal_in r ≡ (some_unless (valid (flatten c) l) BadState otherwise some_unless (each_once (length c.subnets) order) BadOrder)
  tests_are = e ∙ ap (λ (k : Card). some_unless (valid (flatten k) l) BadState otherwise some_unless (each_once (length k.subnets) order) BadOrder) ed

  refuses : (z : Result (Unit {0}) Refusal) → refusal_in z ≡ none → is_err z ≡ false
  refuses (Ok u) q = refl
  refuses (Err why) q = absurd (some-ne-none why q)

  pub rows_refused : is_err r ≡ true → (rows : List (List ℕ)) → l ≡ leaves call l rows
  rows_refused n rows = go (valid (flatten c) l) (each_once (length c.subnets) order) refl refl
    where
      go : (v o : Bool) → valid (flatten c) l ≡ v → each_once (length c.subnets) order ≡ o → l ≡ leaves call l rows
      go false o p q = leaves_still call l rows (λ row. rw p refl)
      go true false p q = leaves_still call l rows (λ row. rw (p, q) refl)
      go true true p q = absurd (false≢true (sym (refuses r (tests_are ∙ rw (p, q) refl)) ∙ n))

  fails : (z : Result (Unit {0}) Refusal) (why : Refusal) → refusal_in z ≡ some why → is_err z ≡ true
  fails (Ok u) why q = absurd (some-ne-none why (sym q))
  fails (Err x) why q = refl

  pub rows_valid : is_err r ≡ false → (valid (flatten c) l ≡ true) × (each_once (length c.subnets) order ≡ true)
  rows_valid n = go (valid (flatten c) l) (each_once (length c.subnets) order) refl refl
    where
      go : (v o : Bool) → valid (flatten c) l ≡ v → each_once (length c.subnets) order ≡ o → (v ≡ true) × (o ≡ true)
      go true true p q = (refl, refl)
      go true false p q = absurd (false≢true (sym n ∙ fails r BadOrder (tests_are ∙ rw (p, q) refl)))
      go false o p q = absurd (false≢true (sym n ∙ fails r BadState (tests_are ∙ rw p refl)))

-- what is left of the rows decides the state
pub record Going (c : Card) (order : List ℕ) (first : Lent) (rows : List ℕ) (l : Lent) (rest : List ℕ) : Type 0 where
  pub valid : valid (flatten c) l ≡ true
  pub left : leaves (called (in_order order) (accepted c)) first (pieces c.signals rows) ≡ leaves (called (in_order order) (accepted c)) l (pieces c.signals rest)

pub going_start : (c : Card) (order : List ℕ) (first : Lent) (rows rest : List ℕ) → rest ≡ rows → valid (flatten c) first ≡ true → Going c order first rows first rest
going_start c order first rows rest e v = record { valid = v; left = ap (λ (k : List ℕ). leaves (called (in_order order) (accepted c)) first (pieces c.signals k)) (sym e) }

module _ (c : Card) (m : Meets c) (order : List ℕ) (first : Lent) (rows : List ℕ) (l : Lent) (rest : List ℕ) (g : Going c order first rows l rest) where
  pub going_end : length rest ≡ 0 → l ≡ leaves (called (in_order order) (accepted c)) first (pieces c.signals rows)
  unfolding leaves
  going_end e = sym (g.left ∙ rw (nil_from_length rest e, pieces_none c.signals (omega (arith, m.wellformed.some_signals))) refl)

  -- a row more, which is cut off the rest, and what it answers
  module _ (o : each_once (length c.subnets) order ≡ true) (row rest' : List ℕ) (size : ℕ) (es : size ≡ c.signals) (cut : (rest ≡ row ++ rest') × (length row ≡ min size (length rest)) × (0 < length rest)) where
    long : length rest ≡ length row + length rest'
    long = ap length cut.0 ∙ length-append row rest'

    row_is : take c.signals rest ≡ row
    row_is = go (cases_lt (length rest) size)
      where
        go : (length rest < size) ⊎ (size ≤ length rest) → take c.signals rest ≡ row
        go (inl h) =
            let e : rest' ≡ [] = nil_from_length rest' (omega (arith, long, cut.1)) in
            take_all c.signals rest (omega arith) ∙ cut.0 ∙ ap (λ (xs : List ℕ). row ++ xs) e ∙ append-nil row
        go (inr h) = ap (take c.signals) cut.0 ∙ take_at row rest' c.signals (omega (arith, cut.1))

    rest_is : drop c.signals rest ≡ rest'
    rest_is = go (cases_lt (length rest) size)
      where
        go : (length rest < size) ⊎ (size ≤ length rest) → drop c.signals rest ≡ rest'
        go (inl h) = drop_of_length-le rest (omega arith) ∙ sym (nil_from_length rest' (omega (arith, long, cut.1)))
        go (inr h) = ap (drop c.signals) cut.0 ∙ drop_at row rest' c.signals (omega (arith, cut.1))

    some_signals : 0 < c.signals
    some_signals = omega (arith, m.wellformed.some_signals)

    pub going_more : (r : Result Lent Refusal) → answer_of l r ≡ settle (row_refusal (flatten c) (view l) row) l (store l (row_next (flatten c) (view l) row)) → Going c order first rows (answer_of l r).1 rest'
    unfolding leaves
    going_more r h =
        let q : answer_of l r ≡ called (in_order order) (accepted c) l row = h ∙ sym (rw (g.valid, o) refl) in
        record {
          valid = rw h ((valid_is (flatten c) _).1 (kept (flatten c) l row true (omega (arith, cut.1, some_signals, cut.2)) ((valid_is (flatten c) l).0 g.valid)));
          left =
              g.left ∙ ap (leaves (called (in_order order) (accepted c)) l) (pieces_more c.signals rest some_signals cut.2 ∙ ap₂ (λ (x y : List ℕ). x ∷ pieces c.signals y) row_is rest_is)
              ∙ ap (λ (x : RowOutcome × Lent). leaves (called (in_order order) (accepted c)) x.1 (pieces c.signals rest')) (sym q);
        }

-- an accepted card meets the conditions
pub loaded_meets : (bytes numbers : List ℕ) (k : CardIndex) → IsAccepted bytes numbers k → Meets (card_in numbers)
loaded_meets bytes numbers k h = accepted_meets bytes (card_in numbers) h.judged

-- and its index is whole
pub loaded_starts : (bytes numbers : List ℕ) (r : Result CardIndex CardRefusal) (k : CardIndex) → IsChecked bytes r → r ≡ Ok k → IsAccepted bytes numbers k → k.starts ≡ starts_of (card_in numbers)
loaded_starts bytes numbers r k h e a = subst (λ (x : Result CardIndex CardRefusal). IfOk x (λ k. k.starts ≡ starts_of (card_in numbers))) e (h.starts (card_in numbers) a.judged)

-- numbers that an index holds a card with hold it with the whole index, too
pub whole_holds : (c : Card) (numbers : List ℕ) (i k : CardIndex) → Holds c numbers i → k.counts ≡ i.counts → k.starts ≡ starts_of c → Holds c numbers k
whole_holds c numbers i k h n s =
    record {
      wellformed = h.wellformed;
      fits = h.fits;
      entries = h.entries;
      loaded = record { laid = h.loaded.laid; indexed = subst (Indexed c) (sym s) (starts_indexed c h.wellformed) };
      counts = subst (IsCounted c) (sym n) h.counts;
    }

-- what a load leaves is the net of what the card was judged to be
pub net_refused : (j : Judgement) (e : CardRefusal) → check_outcome (Err e) ≡ outcome_of j → IsNet j (Err e)
net_refused j e h = outcome_refused j e h

pub net_accepted : (bytes numbers : List ℕ) (k : CardIndex) (full : List ℕ) → IsAccepted bytes numbers k → Filled capacity (card_in numbers) full
    → IsNet (judge bytes) (Ok (card_in numbers)) × IsLoaded (card_in numbers) numbers k full
net_accepted bytes numbers k full h f = (h.judged, record { holds = h.holds; net = record { meets = loaded_meets bytes numbers k h; filled = f } })

-- a card that was checked is loaded, and its flat card with it
pub card_loaded : (bytes : List ℕ) (r : Result CardIndex CardRefusal) (size : ℕ) (numbers : List ℕ) → IsChecked bytes r → IsTable (read_card bytes) size numbers
    → (c : Card) → judge bytes ≡ accepted c → Meets c × IsOkAnd r (λ k. Loaded c numbers k.starts)
card_loaded bytes r size numbers h t c e = (accepted_meets bytes c e, (accepted_loaded bytes r size numbers h t).loaded c e)

pub flat_card_loaded : (bytes : List ℕ) (r : Result FlatCard CardRefusal) (size n : ℕ) (numbers flat : List ℕ) → IsFlatCard bytes r → IsTable (read_card bytes) size numbers → IsFlatTable (judge bytes) n flat → size ≡ n
    → (c : Card) → flat_judged (judge bytes) ≡ accepted c → Meets c × IsOkAnd r (λ k. Loaded c flat k.flat.starts)
flat_card_loaded bytes r size n numbers flat h t f same d e = go (judge bytes) refl e
  where
    go : (j : Judgement) → judge bytes ≡ j → flat_judged j ≡ accepted d → Meets d × IsOkAnd r (λ k. Loaded d flat k.flat.starts)
    go (refused m b) p q = absurd (not_accepted _ _ _ q)
    go (accepted c) p q =
        let s : flatten c ≡ d = cc in
        subst (λ (x : Card). Meets x × IsOkAnd r (λ k. Loaded x flat k.flat.starts)) s (flat_meets c (accepted_meets bytes c p), flat_loaded bytes r size n numbers flat h t f same c p)

-- a call on the flat card's net, in the order that names its one subnet, is the flat runner's
pub flat_net_called : (j : Judgement) (l : Lent) (row : List ℕ) → called (in_order (0 ∷ [])) (flat_judged j) l row ≡ called (λ c. true) j l row
flat_net_called (accepted c) l row = flat_called c l row
flat_net_called (refused n at) l row = refl

pub flat_net_row : (bytes row : List ℕ) (l : Lent) (x : RowAnswer) → IsRow (called (in_order (0 ∷ [])) (flat_judged (judge bytes)) l row) x → IsRow (flat_call bytes l row) x
unfolding flat_call
flat_net_row bytes row l x h = subst (λ (z : RowOutcome × Lent). IsRow z x) (flat_net_called (judge bytes) l row) h

-- and one on the card's own net the subnet runner's
pub own_net_row : (bytes order row : List ℕ) (l : Lent) (x : RowAnswer) → IsRow (called (in_order order) (judge bytes) l row) x → IsRow (subnet_call bytes order l row) x
unfolding subnet_call
own_net_row bytes order row l x h = h

-- the flat card of an accepted card meets them too
module _ (bytes numbers flat : List ℕ) (k : FlatCard) (h : IsFlattened bytes numbers flat k) where
  pub flat_loaded_meets : Meets (card_in flat)
  flat_loaded_meets = rw h.flattened (flat_meets (card_in numbers) (accepted_meets bytes (card_in numbers) h.judged))

pub flat_loaded_starts : (bytes numbers flat : List ℕ) (r : Result FlatCard CardRefusal) (k : FlatCard) → IsFlatCard bytes r → r ≡ Ok k → IsFlattened bytes numbers flat k
    → k.flat.starts ≡ starts_of (card_in flat)
flat_loaded_starts bytes numbers flat r k h e a =
    subst (λ (x : Result FlatCard CardRefusal). IfOk x (λ k. k.flat.starts ≡ starts_of (flatten (card_in numbers)))) e (h.flat (card_in numbers) a.judged) ∙ ap starts_of (sym a.flattened)
