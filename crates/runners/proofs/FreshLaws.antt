-- The fresh state is made as it is defined. Assumes nothing.
use Rattle.std.proofs.Common.{◌≡◌, ℕ, zero, suc, ◌+◌, ◌-◌, ◌*◌, ◌<◌, ◌≤◌, ◌⊎◌, List, ◌∷◌, ◌++◌, length, get_or, drop, replicate, sym, refl, ap, ◌∙◌, inl, inr, arith, length-append, length-drop, get_or-drop, get_or-append-add, ext_get_or}
use Rattle.std.specs.Prelude.{Ok, Err}
use lib.ListN.{length-replicate, get_or-append}
use Rattle.std.proofs.lemmas.Bool.{cases_lt}
use Rattle.std.proofs.lemmas.List.{length-map}
use Rattle.card.specs.Card.{Card, place_at}
use Rattle.card.specs.Finite.{table}
use Rattle.card.proofs.Sums.{table_length, table_at}
use Rattle.card.proofs.Turn.{zero_in}
use Rattle.hierarchy.specs.Numbers.{check_outcome}
use Rattle.hierarchy.specs.Conditions.{Meets}
use Rattle.hierarchy.specs.Judgement.{accepted, judge, answer, outcome_of}
use Rattle.hierarchy.specs.declared.CardRefusal.{CardRefusal}
use Rattle.flattening.specs.Flattening.{flat_place_row, flatten}
use Rattle.runners.specs.State.{scale, fresh}
use Rattle.runners.specs.Calls.{fresh_lent, fresh_call}
use Rattle.runners.specs.declared.State.{State as Lent}
use Rattle.runners.specs.declared.Transfer.TheVariants.{Idle}
use Rattle.runners.specs.Answers.{IsFreshState}
use Rattle.card.specs.declared.Counts.{Counts}
use Rattle.runners.specs.inner.Markings.{tokens, Filled}
use Rattle.runners.proofs.CallLaws.{judged_refused}

-- the same entry again and again
fill : {A : Type 0} (x : A) (from n m : ℕ) → n ≤ m → table from n (λ i. x) ++ drop n (replicate m x) ≡ replicate m x
unfolding table
fill x from zero m l = refl
fill x from (suc n) zero l = absurd (omega arith)
fill x from (suc n) (suc m) l = ap (λ xs. x ∷ xs) (fill x (suc from) n m (omega arith))

first_are : (c : Card) (markings : List ℕ) → Filled tokens c markings → length c.places ≤ 255
    → markings ≡ table 0 (length c.places) (λ p. scale (flatten c) * (place_at (flatten c) p).tokens) ++ drop (length c.places) (replicate 255 0)
first_are c markings h l =
    ext_get_or 0 markings (xs ++ drop P (replicate 255 0)) long (λ i b. at i (omega (arith, b, h.long)) (cases_lt i P))
  where
    P : ℕ
    P = length c.places

    xs : List ℕ
    xs = table 0 P (λ p. scale (flatten c) * (place_at (flatten c) p).tokens)

    long : length markings ≡ length (xs ++ drop P (replicate 255 0))
    long = omega (arith, h.long, length-append xs (drop P (replicate 255 0)), table_length 0 P (λ p. scale (flatten c) * (place_at (flatten c) p).tokens), length-drop P (replicate {A = ℕ} 255 0), length-replicate {A = ℕ} 255 0, l)

    at : (i : ℕ) → i < 255 → (i < P) ⊎ (P ≤ i) → get_or markings i 0 ≡ get_or (xs ++ drop P (replicate 255 0)) i 0
    at i b (inl g) =
        h.first i g ∙ sym (table_at P (λ p. scale (flatten c) * (place_at (flatten c) p).tokens) 0 i g)
        ∙ sym (get_or-append xs (drop P (replicate 255 0)) 0 i (omega (arith, table_length 0 P (λ p. scale (flatten c) * (place_at (flatten c) p).tokens))))
    at i b (inr g) =
        let e : length xs + (i - P) ≡ i = omega (arith, table_length 0 P (λ p. scale (flatten c) * (place_at (flatten c) p).tokens)) in
        h.zeros i g ∙ sym (ap (λ (j : ℕ). get_or (xs ++ drop P (replicate 255 0)) j 0) (sym e) ∙ get_or-append-add xs (drop P (replicate 255 0)) (i - P) 0 ∙ get_or-drop P (replicate 255 0) (i - P) 0 ∙ zero_in 255 (P + (i - P)))

-- the state that is made is the fresh one
pub fresh_is : (c : Card) (markings : List ℕ) (p t g : ℕ) → Meets c → Filled tokens c markings → p ≡ length c.places → t ≡ length c.transitions → g ≡ c.signals
    → record { markings = markings; transfers = replicate 255 Idle; degrees = replicate 63 0; places = p; transitions = t; signals = g } ≡ fresh_lent (flatten c)
unfolding fresh flatten
fresh_is c markings p t g m h ep et eg =
    let w = m.wellformed in
    rw (ep, et, eg, length-map c.places flat_place_row, fill Idle 0 (length c.transitions) 255 w.rows.few_transitions, fill {A = ℕ} 0 0 c.signals 63 w.few_signals)
    (ap (λ (xs : List ℕ). whole xs) (unfold flatten in first_are c markings h w.rows.few_places))
  where
    whole : List ℕ → Lent
    whole xs = record { markings = xs; transfers = replicate 255 Idle; degrees = replicate 63 0; places = length c.places; transitions = length c.transitions; signals = c.signals }

module _ (bytes : List ℕ) where
  pub fresh_refused : (e : CardRefusal) → check_outcome (Err e) ≡ answer bytes → IsFreshState (fresh_call bytes) (Err e)
  unfolding fresh_call
  fresh_refused e h = rw (judged_refused bytes e h) (record { answer = refl; fresh = record { answer = refl; state = tt } })

  pub fresh_accepted : (c : Card) → judge bytes ≡ accepted c → (d : Card) → d ≡ c → (k : Counts) → check_outcome (Ok k) ≡ answer bytes → (s : Lent) → s ≡ fresh_lent (flatten d)
      → IsFreshState (fresh_call bytes) (Ok (record { counts = k; state = s }))
  unfolding fresh_call
  fresh_accepted c e d ed k q s h =
      let w : check_outcome (Ok k) ≡ outcome_of (accepted c) = q ∙ ap outcome_of e in
      rw e (record { answer = w; fresh = record { answer = tt; state = h ∙ ap (λ (x : Card). fresh_lent (flatten x)) ed } })
