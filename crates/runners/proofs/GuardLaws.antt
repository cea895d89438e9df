-- What the tests in front of a step decide, over plain values. Assumes nothing.
use Rattle.std.proofs.Common.{◌≡◌, ℕ, ◌<◌, ◌≤◌, Bool, true, false, not, ◌&&◌, eqb, ltb, leb, ◌⊎◌, List, length, sym, refl, ap, ◌∙◌, subst, ap₂, inl, inr, arith, le-ltb, ne_eqb, eq-eqb}
use Rattle.std.specs.Prelude.{Option}
use Rattle.std.specs.Option.{is_some}
use mathlib.Core.Bool.{or-true}
use mathlib.Core.Option as Math
use lib.ListN.{get_or-eq_default}
use mathlib.Core.Option.{none, some}
use Rattle.std.proofs.Math.Bool.{and-false}
use Rattle.std.proofs.lemmas.List.{nil_from_length, length-map}
use Rattle.std.proofs.lemmas.Bool.{cases_lt}
use Rattle.std.proofs.lemmas.Bool.Decides.{Decides-eqb, Decides-and}
use Rattle.card.specs.Finite.{every, lowest}
use Rattle.card.specs.Card.{Card}
use Rattle.hierarchy.specs.Conditions.{Meets}
use Rattle.flattening.specs.Flattening.{flat_place_row, flatten}
use Rattle.runners.specs.State.{scale, entry, transfer, covered}
use Rattle.runners.specs.Rows.{row_fault}
use Rattle.runners.specs.Calls.{view, in_range, consistent, valid_in, in_state, valid}
use Rattle.runners.specs.inner.Counts.{Counts}
use Rattle.runners.specs.Columns.{begun}
use Rattle.runners.specs.Visits.{posting}
use Rattle.runners.specs.inner.Transitions.{IsSpan}
use Rattle.runners.specs.inner.Markings.{capacity, Filled}
use Rattle.runners.specs.inner.Verdict.{covered_by, found_of}
use Rattle.runners.specs.declared.work.Work.{Work}
use Rattle.runners.specs.declared.Transfer.{Transfer}
use Rattle.runners.specs.declared.State.{State as Lent}
use Rattle.runners.specs.declared.Refusal.TheVariants.{BadRow, BadDegree}
use Rattle.hierarchy.proofs.WalkLaws.{Below}
use Rattle.runners.proofs.EffectiveLaws.{empty_passes}
use Rattle.runners.proofs.CoverLaws.{all_covered}

-- a row's degrees: past the last one there is none above the full degree
abbrev pub high : (u : ℕ) → (row : List ℕ) → (g : ℕ) → Bool
high u row g = ltb u (entry row g)

pub high_past : (u : ℕ) (row : List ℕ) (g n : ℕ) → Below g (high u row) false → length row ≤ g → Below n (high u row) false
high_past u row g n h l k b = go (cases_lt k g)
  where
    go : (k < g) ⊎ (g ≤ k) → high u row k ≡ false
    go (inl d) = h k d
    go (inr d) = le-ltb u (entry row k) (omega (arith, get_or-eq_default row 0 {n = k} (omega arith)))

-- 20 and 21
pub same_places : (c : Card) → length (flatten c).places ≡ length c.places
unfolding flatten
same_places c = length-map c.places flat_place_row

pub same_transitions : (c : Card) → length (flatten c).transitions ≡ length c.transitions
unfolding flatten
same_transitions c = refl

pub same_signals : (c : Card) → (flatten c).signals ≡ c.signals
unfolding flatten
same_signals c = refl

module _ (f : Card) (row : List ℕ) where
  pub row_empty : length row ≡ 0 → none ≡ row_fault f row
  row_empty e = rw (nil_from_length row e) (sym (empty_passes f))

  pub row_long : ¬ (length row ≡ 0) → ¬ (length row ≡ f.signals) → some BadRow ≡ row_fault f row
  unfolding row_fault
  row_long z d = rw (ne_eqb (length row) 0 z, ne_eqb (length row) f.signals d)

  pub row_high : length row ≡ f.signals → (r : Option ℕ) → found_of r ≡ lowest 0 (length row) (high (scale f) row) → Math.map BadDegree (found_of r) ≡ row_fault f row
  unfolding row_fault
  row_high e r q =
      rw (eq-eqb (length row) f.signals e, or-true (eqb (length row) 0)) (ap (Math.map BadDegree) (q ∙ ap (λ (n : ℕ). lowest 0 n (high (scale f) row)) e))

-- 25, part after part
pub flat_fits : (c : Card) (l : Lent) → in_state.fits (flatten c) l ≡ (eqb l.places (length c.places) && eqb l.transitions (length c.transitions) && eqb l.signals c.signals)
unfolding flatten
flat_fits c l = rw (same_places c)

pub fit_counts : (c : Card) (l : Lent) → in_state.fits (flatten c) l ≡ true → Counts c l
fit_counts c l e =
    let d = (Decides-and _ _ (Decides-and _ _ (Decides-eqb l.places (length c.places)) (Decides-eqb l.transitions (length c.transitions))) (Decides-eqb l.signals c.signals)).0 (sym (flat_fits c l) ∙ e) in
    record { places = d.0.0; transitions = d.0.1; signals = d.1 }

told : (b r z : Bool) → r ≡ not b → not r ≡ z → b ≡ z
told true r z e n = sym (ap not e) ∙ n
told false r z e n = sym (ap not e) ∙ n

-- what is found on the board that all transitions post on
pub covered_told : (c : Card) → Meets c → (l : Lent) → Counts c l → (d : Card) → d ≡ c → (n : ℕ) → n ≡ length d.transitions → (row : List ℕ) (w k : Work) → w ≡ begun l → IsSpan posting 0 n d row w k
    → (full : List ℕ) → Filled capacity c full → (p : ℕ) → p ≡ length d.places → (r : Option ℕ) → found_of r ≡ lowest 0 p (λ q. not (covered_by full l.markings k.standing k.claimed q))
    → (b : Bool) → is_some r ≡ not b → b ≡ every (length c.places) (covered (flatten c) (view l).markings (view l).transfers)
covered_told c m l h d ed n en row w k ew x full fu p ep r er b eb =
    told b (is_some r) _ eb (all_covered c m l h row k span full fu r (er ∙ ap (λ (i : ℕ). lowest 0 i (λ q. not (covered_by full l.markings k.standing k.claimed q))) (ep ∙ ap (λ (q : Card). length q.places) ed)))
  where
    span : IsSpan posting 0 (length c.transitions) c row (begun l) k
    span =
        subst (λ (i : ℕ). IsSpan posting 0 i c row (begun l) k) (en ∙ ap (λ (q : Card). length q.transitions) ed)
        (subst (λ (q : Card). IsSpan posting 0 n q row (begun l) k) ed (subst (λ (z : Work). IsSpan posting 0 n d row z k) ew x))

-- the net's tests, on the entries that it uses
module _ (c : Card) (l : Lent) (h : Counts c l) where
  flat_consistent : consistent (flatten c) (view l)
      ≡ (every (length c.places) (covered (flatten c) (view l).markings (view l).transfers) && every (length c.transitions) (λ t. in_range (flatten c) (transfer (view l).transfers t))
      && every c.signals (λ g. leb (entry (view l).degrees g) (scale (flatten c))))
  unfolding consistent
  flat_consistent = rw (same_places c, same_transitions c, same_signals c) refl

  module _ (a b d : Bool) (xs : List Transfer) (ds : List ℕ) (ea : a ≡ every (length c.places) (covered (flatten c) (view l).markings (view l).transfers)) where
    pub none_covered : a ≡ false → a ≡ consistent (flatten c) (view l)
    none_covered n = n ∙ sym (flat_consistent ∙ rw (← ea, n) refl)

    module _ (ex : (xs ≡ (view l).transfers) × (length xs ≡ l.transitions)) (eb : b ≡ every (length xs) (λ t. in_range (flatten c) (transfer xs t))) where
      ranged : b ≡ every (length c.transitions) (λ t. in_range (flatten c) (transfer (view l).transfers t))
      ranged = eb ∙ ap₂ (λ (n : ℕ) (ys : List Transfer). every n (λ t. in_range (flatten c) (transfer ys t))) (ex.1 ∙ h.transitions) ex.0

      pub none_ranged : b ≡ false → b ≡ consistent (flatten c) (view l)
      none_ranged n = n ∙ sym (flat_consistent ∙ rw (← ranged, n, and-false) refl)

      pub consistent_low : a ≡ true → b ≡ true → (ds ≡ (view l).degrees) × (length ds ≡ l.signals) → d ≡ every (length ds) (λ g. leb (entry ds g) (scale (flatten c))) → d ≡ consistent (flatten c) (view l)
      consistent_low p q ed e =
          let low : d ≡ every c.signals (λ g. leb (entry (view l).degrees g) (scale (flatten c))) =
          e ∙ ap₂ (λ (n : ℕ) (ys : List ℕ). every n (λ g. leb (entry ys g) (scale (flatten c)))) (ed.1 ∙ h.signals) ed.0 in
          sym (flat_consistent ∙ rw (← ea, ← ranged, ← low, p, q) refl)

module _ (c : Card) (l : Lent) (d : Card) (ed : d ≡ c) (x : Bool) (e : x ≡ in_state.fits (flatten d) l) where
  fits_is : x ≡ in_state.fits (flatten c) l
  fits_is = e ∙ ap (λ (k : Card). in_state.fits (flatten k) l) ed

  pub valid_fit : x ≡ true → (r : Bool) → (Counts c l → r ≡ consistent (flatten c) (view l)) → r ≡ valid (flatten c) l
  unfolding valid_in
  valid_fit n r f = f (fit_counts c l (sym fits_is ∙ n)) ∙ ap (λ (b : Bool). b && consistent (flatten c) (view l)) (sym (sym fits_is ∙ n))

  pub unfit : x ≡ false → x ≡ valid (flatten c) l
  unfolding valid_in
  unfit n = n ∙ ap (λ (b : Bool). b && consistent (flatten c) (view l)) (sym (sym fits_is ∙ n))

-- a state with the counts of a net uses no more entries than there are
pub few_used : (c : Card) → Meets c → (l : Lent) → Counts c l → (l.transitions ≤ 255) × (l.signals ≤ 63)
few_used c m l h = (omega (arith, h.transitions, m.wellformed.rows.few_transitions), omega (arith, h.signals, m.wellformed.few_signals))
