-- No sum over the transitions of an accepted card comes near 32 bits: at most 255 transitions, each with at most one arc of a direction at a
-- place, of a weight below 256. Assumes nothing.
use Rattle.std.proofs.Common.{◌≡◌, ℕ, zero, suc, ◌+◌, ◌*◌, ◌<◌, ◌≤◌, Bool, true, false, cond, ◌&&◌, eqb, List, [], ◌∷◌, length, get_or, sym, refl, ◌∙◌, mul-le-mul, arith}
use Rattle.std.proofs.lemmas.Bool.Decides.{Decides-eqb, Decides-and}
use Rattle.card.specs.Finite.{sum_to, All}
use Rattle.card.specs.Card.{Arc, Card, transition_at, arc_at, first_arc, no_arc}
use Rattle.card.specs.Wellformed.{ArcRow}
use Rattle.card.proofs.Sums.{sum_zero}
use Rattle.hierarchy.specs.Conditions.{Meets}
use Rattle.flattening.specs.Flattening.{flatten}
use Rattle.flattening.proofs.FlatLaws.{arc_flat, home, flat_meets}
use Rattle.runners.specs.State.{scale, remaining, incidence, flow}
use Rattle.runners.specs.declared.Transfer.{Transfer}
use Rattle.runners.specs.declared.Transfer.TheVariants.{Idle, Carrying}
use Rattle.runners.proofs.ScaleLaws.{scale_few}

sum_few : (n : ℕ) (a : ℕ → ℕ) (b : ℕ) → ((i : ℕ) → i < n → a i ≤ b) → sum_to n a ≤ n * b
unfolding sum_to
sum_few zero a b h = omega arith
sum_few (suc n) a b h = omega (arith, sum_few n a b (λ i l. h i (omega arith)), h n (omega arith))

-- a sum of which at most one term counts
sum_one : (n : ℕ) (hit : ℕ → Bool) (w : ℕ → ℕ) (b : ℕ) → ((i : ℕ) → i < n → hit i ≡ true → w i ≤ b) → ((i j : ℕ) → i < j → j < n → hit i ≡ true → hit j ≡ true → ⊥)
    → sum_to n (λ i. cond (hit i) (w i) 0) ≤ b
unfolding sum_to
sum_one zero hit w b few one = omega arith
sum_one (suc n) hit w b few one = go (hit n) refl (sum_one n hit w b (λ i l. few i (omega arith)) (λ i j k l. one i j k (omega arith)))
  where
    others : hit n ≡ true → (i : ℕ) → i < n → (x : Bool) → hit i ≡ x → cond x (w i) 0 ≡ 0
    others e i l true h = absurd (one i n l (omega arith) h e)
    others e i l false h = refl

    go : (x : Bool) → hit n ≡ x → sum_to n (λ i. cond (hit i) (w i) 0) ≤ b → sum_to n (λ i. cond (hit i) (w i) 0) + cond x (w n) 0 ≤ b
    go true e r = omega (arith, few n (omega arith) e, sum_zero n (λ i. cond (hit i) (w i) 0) (λ i l. others e i l (hit i) refl))
    go false e r = omega arith

-- an arc is in its ranges, past the last one too
pub arc_row : (xs : List Arc) → All ArcRow xs → (i : ℕ) → ArcRow (get_or xs i no_arc)
arc_row [] h i = record { direction = omega arith; subnet = omega arith; place = omega arith; weight = omega arith }
arc_row (x ∷ xs) h zero = h.0
arc_row (x ∷ xs) h (suc i) = arc_row xs h.1 i

-- what remains of a transfer is at most the whole
pub remaining_few : (f : Card) (x : Transfer) → remaining f x ≤ scale f
remaining_few f Idle = omega arith
remaining_few f (Carrying c) = omega arith

module _ (c : Card) (m : Meets c) where
  abbrev f : Card
  f = flatten c

  flat : Meets f
  flat = flat_meets c m

  -- the arcs of transition t of a direction at place p
  abbrev hits : (way p t j : ℕ) → Bool
  hits way p t j = eqb (arc_at f t j).direction way && eqb (arc_at f t j).place p

  hit_is : (way p t j : ℕ) → hits way p t j ≡ true → ((arc_at f t j).direction ≡ way) × ((arc_at f t j).place ≡ p)
  hit_is way p t j = (Decides-and _ _ (Decides-eqb (arc_at f t j).direction way) (Decides-eqb (arc_at f t j).place p)).0

  -- all arcs of the flat card name subnet 0
  pub one_subnet : (t i j : ℕ) → (arc_at f t i).subnet ≡ (arc_at f t j).subnet
  one_subnet t i j = rw (arc_flat c t i, arc_flat c t j) refl

  single : (way p t i j : ℕ) → t < length f.transitions → i < j → j < (transition_at f t).arcs → hits way p t i ≡ true → hits way p t j ≡ true → ⊥
  single way p t i j l k b x y =
      let u = hit_is way p t i x in
      let v = hit_is way p t j y in
      (home f flat t l).sound.single i j k b (record { direction = u.0 ∙ sym v.0; subnet = one_subnet t i j; place = u.1 ∙ sym v.1 })

  -- the incidence is the weight of one arc, or 0
  pub incidence_most : (way t p b : ℕ) → t < length f.transitions
      → ((j : ℕ) → j < (transition_at f t).arcs → (arc_at f t j).direction ≡ way → (arc_at f t j).place ≡ p → (arc_at f t j).weight ≤ b)
      → incidence f way t p ≤ b
  unfolding incidence
  incidence_most way t p b l few =
      sum_one (transition_at f t).arcs (hits way p t) (λ j. (arc_at f t j).weight) b (λ j k h. let u = hit_is way p t j h in few j k u.0 u.1) (λ i j. single way p t i j l)

  incidence_few : (way t p : ℕ) → t < length f.transitions → incidence f way t p ≤ 255
  incidence_few way t p l = incidence_most way t p 255 l (λ j k d q. omega (arith, (arc_row f.arcs flat.wellformed.rows.arcs (first_arc f t + j)).weight))

  flow_few : (amount : ℕ → ℕ) (b : ℕ) → ((t : ℕ) → t < length f.transitions → amount t ≤ b) → (way p : ℕ) → flow f amount way p ≤ 65025 * b
  unfolding flow
  flow_few amount b h way p =
      let s = sum_few (length f.transitions) (λ t. amount t * incidence f way t p) (b * 255) (λ t l. mul-le-mul (h t l) (incidence_few way t p l)) in
      let n : length f.transitions * (b * 255) ≤ 255 * (b * 255) = mul-le-mul flat.wellformed.rows.few_transitions (omega arith) in
      omega (arith, s, n)

  -- the claims of an accepted card, and what a row moves, on its flat net: at most 255 × 255 × 10000
  pub claims_few : (amount : ℕ → ℕ) → ((t : ℕ) → t < length c.transitions → amount t ≤ scale f) → (way p : ℕ) → flow f amount way p ≤ 650250000
  unfolding flatten
  claims_few amount h way p = omega (arith, flow_few amount (scale f) h way p, scale_few f)
