-- What the functions that store the flat card's numbers promise, out of what the functions that they call promise. Assumes nothing.
use Prim.Native.Nat.{ℕ, suc, ◌+◌, ◌≤◌, ◌<◌}
use mathlib.Core.Path.{◌≡◌, refl, sym, ap, subst, ◌∙◌}
use mathlib.Core.Logic.{◌⊎◌, inl, inr}
use mathlib.Core.List.{List, [], ◌∷◌}
use native.Mathlib.Omega.{arith}
use native.Mathlib.Numerals.{add-one}
use lib.ListN.{length, get_or, replicate, get_or-eq_default}
use lib.Seq.{ext_get_or}
use Rattle.std.specs.Result.{OkIff, result_unwrap_or}
use Rattle.std.specs.Prelude.{Result}
use Rattle.std.proofs.lemmas.Result.{Ok-from_Ok_iff}
use Rattle.std.proofs.lemmas.Bool.{cases_lt}
use Rattle.std.proofs.lemmas.List.{length-map}
use Rattle.card.specs.Finite.{sum_to}
use Rattle.card.specs.Card.{Place, Transition, Arc, Card, subnet_at, place_at, transition_at, arc_at, first_place, first_arc, flat_place}
use Rattle.card.specs.Index.{Laid, starts_of}
use Rattle.card.specs.Tables.{numbers_of, numbers_table}
use Rattle.card.specs.View.{IsCounted, place_in, transition_in, arc_in, direction_number}
use Rattle.card.specs.Wellformed.{Wellformed}
use Rattle.card.specs.declared.Counts.{Counts}
use Rattle.card.specs.declared.index.CardIndex.{CardIndex}
use Rattle.card.specs.declared.view.Place.{Place as HeldPlace}
use Rattle.card.specs.declared.view.Transition.{Transition as HeldTransition}
use Rattle.card.specs.declared.view.Arc.{Arc as HeldArc}
use Rattle.card.proofs.Prefix.{places_below}
use Rattle.card.proofs.Positions.{arc_order, counted, laid}
use Rattle.card.proofs.Sums.{table_length, table_at}
use Rattle.card.proofs.Turn.{zero_in}
use Rattle.hierarchy.specs.Conditions.{Meets}
use Rattle.flattening.specs.Flattening.{flat_place_row, flatten}
use Rattle.flattening.specs.inner.FlatNumbers.{flat_number, place_position, transition_position, arc_position, stored, Filled, Fills, FlatTables}
use Rattle.flattening.proofs.FlatLaws.{flat_meets, home, arc_below}
use Rattle.flattening.proofs.FlatNumberLaws.{fill_row, header_row, main_numbers, place_numbers, transition_numbers, arc_numbers, flat_long}

-- nothing more is stored; one stretch is stored after another; a position by another name
pub fills_none : {c : Card} {a b : ℕ} {x : List ℕ} → a ≡ b → Fills c a b x x
fills_none {c} {a} {b} {x} e = record { filled = λ m f. subst (λ (i : ℕ). Filled c i x) e f }

pub fills_then : {c : Card} {a b d : ℕ} {x y z : List ℕ} → Fills c a b x y → Fills c b d y z → Fills c a d x z
fills_then g h = record { filled = λ m f. h.filled m (g.filled m f) }

pub fills_to : {c : Card} {a b d : ℕ} {x y : List ℕ} → Fills c a b x y → (Meets c → b ≡ d) → Fills c a d x y
fills_to {c} {a} {b} {d} {x} {y} g e = record { filled = λ m f. subst (λ (i : ℕ). Filled c i y) (e m) (g.filled m f) }

-- where the next row stands
pub next_place : (c : Card) (s : ℕ) → first_place c (suc s) ≡ first_place c s + (subnet_at c s).places
unfolding first_place sum_to
next_place c s = refl

pub place_after : (c : Card) (s : ℕ) → first_place c (s + 1) ≡ first_place c s + (subnet_at c s).places
place_after c s = rw add-one (next_place c s)

pub next_arc : (c : Card) (t : ℕ) → first_arc c (suc t) ≡ first_arc c t + (transition_at c t).arcs
unfolding first_arc sum_to
next_arc c t = refl

pub no_place_before : (c : Card) → first_place c 0 ≡ 0
unfolding first_place sum_to
no_place_before c = refl

pub no_arc_before : (c : Card) → first_arc c 0 ≡ 0
unfolding first_arc sum_to
no_arc_before c = refl

pub next_transition : (c : Card) (t : ℕ) → transition_position c (suc t) ≡ arc_position c t (transition_at c t).arcs
next_transition c t = omega (arith, next_arc c t)

-- the header and the row of the one subnet
pub head_put : (c : Card) (v g l q p t : ℕ) (x y z : List ℕ) → v ≡ c.version → g ≡ c.signals → l ≡ c.limit → q ≡ c.scale → p ≡ length c.places → t ≡ length c.transitions
    → (0 + 5 ≤ length x → y ≡ stored (v ∷ 1 ∷ g ∷ l ∷ q ∷ []) 0 x) → (5 + 4 ≤ length y → z ≡ stored (0 ∷ 0 ∷ p ∷ t ∷ []) 5 y) → Fills c 0 (place_position 0) x z
head_put c v g l q p t x y z ev eg el eq ep et h₁ h₂ =
    record {
      filled = λ m f.
          let long = flat_long c m in
          let f₁ : Filled c 5 y = fill_row c 0 5 (v ∷ 1 ∷ g ∷ l ∷ q ∷ []) x f (rw (ev, eg, el, eq) (header_row c m)) refl (omega arith) y h₁ in
          fill_row c 5 9 (0 ∷ 0 ∷ p ∷ t ∷ []) y f₁ (rw (ep, et) (main_numbers c m)) refl (omega arith) z h₂;
    }

-- A place more is stored,
pub place_more : (c : Card) → Meets c → (p k w : ℕ) (rows after : List ℕ) → p < length c.places → k ≡ (place_at c p).capacity → w ≡ (place_at c p).tokens → Filled c (place_position p) rows
    → (place_position p + 3 ≤ length rows → after ≡ stored (0 ∷ k ∷ w ∷ []) (place_position p) rows) → Filled c (place_position (p + 1)) after
place_more c m p k w rows after l ek ew f h =
    let r = place_numbers c m p l in
    fill_row c (place_position p) (place_position (p + 1)) (0 ∷ k ∷ w ∷ []) rows f (r.0, (ek ∙ r.1.0, (ew ∙ r.1.1.0, tt))) (omega arith) (omega (arith, flat_long c m)) after h

-- one of a subnet,
pub place_put : (c : Card) (s n at : ℕ) (r : HeldPlace) (x y : List ℕ) → s < length c.subnets → n < (subnet_at c s).places → place_in r ≡ place_at c (first_place c s + n) → at ≡ place_position (first_place c s + n)
    → (at + 3 ≤ length x → y ≡ stored (0 ∷ r.capacity ∷ r.tokens ∷ []) at x) → Fills c (place_position (first_place c s + n)) (place_position (first_place c s + (n + 1))) x y
place_put c s n at r x y l b er ea h =
    record {
      filled = λ m f.
          let p = first_place c s + n in
          let d : p < length c.places = omega (arith, places_below c (counted c m.wellformed) (suc s) l, next_place c s) in
          let q : p + 1 ≡ first_place c s + (n + 1) = omega arith in
          subst (λ (i : ℕ). Filled c (place_position i) y) q
          (place_more c m p r.capacity r.tokens x y d (ap (λ (k : Place). k.capacity) er) (ap (λ (k : Place). k.tokens) er) f (rw ea at h));
    }

pub all_places : (c : Card) (s : ℕ) → s ≡ length c.subnets → Meets c → place_position (first_place c s) ≡ place_position (length c.places)
all_places c s e m = omega (arith, ap (first_place c) e, m.wellformed.rows.place_count)

-- a transition without its arcs, and an arc of it
inside : (c : Card) (m : Meets c) (t : ℕ) → t < length c.transitions → transition_position c (suc t) ≤ length (numbers_of (flatten c))
inside c m t l = omega (arith, flat_long c m, arc_order c (suc t) (length c.transitions) l)

pub transition_more : (c : Card) → Meets c → (t g k v : ℕ) (rows after : List ℕ) → t < length c.transitions → g ≡ (transition_at c t).signal → k ≡ (transition_at c t).arcs → v ≡ (transition_at c t).rank
    → Filled c (transition_position c t) rows → (transition_position c t + 3 ≤ length rows → after ≡ stored (g ∷ k ∷ v ∷ []) (transition_position c t) rows) → Filled c (arc_position c t 0) after
transition_more c m t g k v rows after l eg ek ev f h =
    let w = transition_numbers c m t l in
    fill_row c (transition_position c t) (arc_position c t 0) (g ∷ k ∷ v ∷ []) rows f (eg ∙ w.0, (ek ∙ w.1.0, (ev ∙ w.1.1.0, tt))) (omega arith) (omega (arith, inside c m t l, next_arc c t)) after h

pub row_put : (c : Card) (t at : ℕ) (r : HeldTransition) (x y : List ℕ) → t < length c.transitions → transition_in r ≡ transition_at c t → at ≡ transition_position c t
    → (at + 3 ≤ length x → y ≡ stored (r.signal ∷ r.arcs ∷ r.rank ∷ []) at x) → Fills c (transition_position c t) (arc_position c t 0) x y
row_put c t at r x y l er ea h =
    record {
      filled = λ m f.
          transition_more c m t r.signal r.arcs r.rank x y l (ap (λ (k : Transition). k.signal) er) (ap (λ (k : Transition). k.arcs) er) (ap (λ (k : Transition). k.rank) er) f (rw ea at h);
    }

-- a number that fits 16 bits is the same there
pub narrowed : {E : Type 0} (r : Result ℕ E) (v w p : ℕ) → v ≡ w → OkIff r (v < 65536) v → p ≡ result_unwrap_or r 0 → w < 65536 → p ≡ w
narrowed r v w p e h q l = q ∙ ap (λ x. result_unwrap_or x 0) (Ok-from_Ok_iff r _ v h (omega arith)) ∙ e

pub arc_more : (c : Card) → Meets c → (t j d p w : ℕ) (rows after : List ℕ) → t < length c.transitions → j < (transition_at c t).arcs → d ≡ (arc_at c t j).direction → p ≡ flat_place c (arc_at c t j) → w ≡ (arc_at c t j).weight
    → Filled c (arc_position c t j) rows → (arc_position c t j + 4 ≤ length rows → after ≡ stored (d ∷ 0 ∷ p ∷ w ∷ []) (arc_position c t j) rows) → Filled c (arc_position c t (j + 1)) after
arc_more c m t j d p w rows after l b ed ep ew f h =
    let r = arc_numbers c m t l j b in
    fill_row c (arc_position c t j) (arc_position c t (j + 1)) (d ∷ 0 ∷ p ∷ w ∷ []) rows f (ed ∙ r.0, (r.1.0, (ep ∙ r.1.1.0, (ew ∙ r.1.1.1.0, tt)))) (omega arith) (omega (arith, inside c m t l, next_arc c t)) after h

pub arc_put : (c : Card) (t j at d p : ℕ) (a : HeldArc) (x y : List ℕ) → t < length c.transitions → j < (transition_at c t).arcs → arc_in a ≡ arc_at c t j → at ≡ arc_position c t j
    → d ≡ direction_number a.direction → (flat_place c (arc_in a) < 65536 → p ≡ flat_place c (arc_in a))
    → (at + 4 ≤ length x → y ≡ stored (d ∷ 0 ∷ p ∷ a.weight ∷ []) at x) → Fills c (arc_position c t j) (arc_position c t (j + 1)) x y
arc_put c t j at d p a x y l b er ea ed ep h =
    record {
      filled = λ m f.
          let q : flat_place c (arc_in a) ≡ flat_place c (arc_at c t j) = ap (flat_place c) er in
          let small = arc_below c m t (home c m t l) j b in
          arc_more c m t j d p a.weight x y l b (ed ∙ ap (λ (k : Arc). k.direction) er) (ep (omega (arith, q, small, m.wellformed.rows.few_places)) ∙ q) (ap (λ (k : Arc). k.weight) er) f (rw ea at h);
    }

-- BOTH TABLES ARE THE FLAT CARD'S
module _ (c : Card) (m : Meets c) (out : List ℕ) (f : Filled c (length (numbers_of (flatten c))) out) where
  all_held : (i : ℕ) → get_or out i 0 ≡ flat_number c i
  all_held i = go (cases_lt i (length (numbers_of (flatten c))))
    where
      go : (i < length (numbers_of (flatten c))) ⊎ (length (numbers_of (flatten c)) ≤ i) → get_or out i 0 ≡ flat_number c i
      go (inl l) = f.stored i l
      go (inr l) = f.empty i l ∙ sym (get_or-eq_default (numbers_of (flatten c)) 0 l)

  pub all_numbers : out ≡ numbers_table (length out) (flatten c)
  unfolding numbers_table
  all_numbers = ext_get_or 0 out _ (sym (table_length 0 (length out) _)) (λ i l. all_held i ∙ sym (table_at (length out) (flat_number c) 0 i l))

  pub all_laid : Laid (flatten c) out
  all_laid = laid (flatten c) (flat_meets c m).wellformed out all_held

flat_counted : (c : Card) (k : Counts) → IsCounted c k → IsCounted (flatten c) (record k { subnets = 1 })
unfolding flatten
flat_counted c k h = record { subnets = refl; places = h.places ∙ sym (length-map c.places flat_place_row); transitions = h.transitions }

pub tables_put : (c : Card) (a : ℕ) (w x y z : List ℕ) (i : CardIndex) (k : Counts) → IsCounted c k → i.counts ≡ record k { subnets = 1 } → w ≡ replicate (length w) 0 → length z ≡ length w → Fills c 0 a w x → Fills c a (place_position (length c.places)) x y
    → Fills c (transition_position c 0) (transition_position c (length c.transitions)) y z
    → ((d : Card) → Wellformed d → Laid d z → 1 ≡ length d.subnets → i.starts ≡ starts_of d) → FlatTables c z i
tables_put c a w x y z i k counted one zero same h₁ h₂ h₃ s =
    record { numbers = λ m room. all_numbers c m z (all m room); rows = λ m room. s (flatten c) (flat_meets c m).wellformed (all_laid c m z (all m room)) (unfold flatten in refl); counts = rw one (flat_counted c k counted) }
  where
    all : Meets c → length (numbers_of (flatten c)) ≤ length z → Filled c (length (numbers_of (flatten c))) z
    all m room =
        let f₀ : Filled c 0 w = record { room = omega arith; stored = λ i k. absurd (omega arith); empty = λ i k. ap (λ (xs : List ℕ). get_or xs i 0) zero ∙ zero_in (length w) i } in
        let f₂ = h₂.filled m (h₁.filled m f₀) in
        let f₃ = h₃.filled m (subst (λ (i : ℕ). Filled c i y) (let q : place_position (length c.places) ≡ transition_position c 0 = omega (arith, no_arc_before c) in q) f₂) in
        subst (λ (i : ℕ). Filled c i z) (flat_long c m) f₃
