-- CR 2 turns back the right cards: a transition with a loop that fails the test of 26 is never a candidate, a loop within the capacity has a
-- marking at which both arcs allow a start, and each transition of an accepted card can start. Assumes nothing.
use Rattle.std.proofs.Common.{◌≡◌, ℕ, suc, ◌+◌, ◌-◌, ◌*◌, ◌<◌, ◌≤◌, Bool, true, false, eqb, ltb, ◌≢◌, List, length, sym, refl, ap, ◌∙◌, inr, mul-le-mul_left, zero-add, arith, ltb-false, ltb-true, eq-eqb, eqb-true}
use mathlib.Core.Option.{none}
use native.Mathlib.Nat.{le_of_mul-le-mul_left}
use borrow.Author.Tests.{eqb-false}
use Rattle.std.proofs.lemmas.Bool.{false≢true, false_from_ne_true}
use Rattle.std.proofs.lemmas.Bool.Decides.{Decides-ltb, Decides-and}
use Rattle.std.specs.Bool.{Decides}
use Rattle.card.specs.Finite.{sum_to, table}
use Rattle.card.specs.Card.{Arc, Card, draws, fills, place_at, transition_at, arc_at, first_place, first_arc, flat_place, place_of, no_transition}
use Rattle.card.specs.Wellformed.{TransitionRow, Wellformed}
use Rattle.card.specs.Parsing.{read_card}
use Rattle.card.specs.Parsing
use Rattle.card.proofs.Ranges.{read_wellformed}
use Rattle.card.proofs.Sums.{sum_mono, table_at, table_length, all_at}
use Rattle.card.proofs.Decides.{le_is, every_is}
use Rattle.hierarchy.specs.Conditions.{SelfLoop, Meets}
use Rattle.hierarchy.specs.Check.{loops_fit}
use Rattle.hierarchy.specs.Judgement.{refused, judge}
use Rattle.hierarchy.proofs.Agree.{loops_fit_is}
use Rattle.hierarchy.proofs.DeadLoopLaws.{DeadAt, told_26}
use Rattle.flattening.specs.Flattening.{flatten}
use Rattle.flattening.proofs.FlatLaws.{arc_flat, net_flat, Home, home, flat_below, flat_meets}
use Rattle.runners.specs.State.{NetState, scale, entry, transfer, remaining, weight_at, incidence, flow, owed, due, full_marking, Claims, claims}
use Rattle.runners.specs.Step.{idle, allows, candidate_on, candidate}
use Rattle.runners.specs.Rows.{row_fault}
use Rattle.runners.specs.Calls.{consistent}
use Rattle.runners.specs.declared.Transfer.TheVariants.{Idle}
use Rattle.runners.proofs.ScaleLaws.{scale_some}
use Rattle.runners.proofs.StepLaws.{Covered}
use Rattle.runners.proofs.StateLaws.{Consistent, consistent_is, Sized, no_flow, fault_is}
use Rattle.runners.proofs.FewLaws.{arc_row, one_subnet, incidence_most}

-- what a candidate is
candidate_is : (f : Card) (s : NetState) (row : List ℕ) (t : ℕ)
    → Decides (candidate f s row t) (((idle (transfer s.transfers t) ≡ true) × (0 < entry row (transition_at f t).signal))
    × ((j : ℕ) → j < (transition_at f t).arcs → allows f (claims f s.transfers) s.markings (arc_at f t j) ≡ true))
unfolding candidate candidate_on
candidate_is f s row t =
    Decides-and _ _ (Decides-and _ _ (λ e. e, λ e. e) (Decides-ltb 0 (entry row (transition_at f t).signal))) (every_is _ _ _ (λ j. (λ e. e, λ e. e)))

-- what an arc asks of its place's marking
module _ (f : Card) (k : Claims) (ms : List ℕ) (a : Arc) where
  draws_is : a.direction ≡ draws → Decides (allows f k ms a) (k.owed a.place + scale f * a.weight ≤ entry ms a.place)
  unfolding allows
  draws_is e = rw (eq-eqb a.direction draws e) (le_is (k.owed a.place + scale f * a.weight) (entry ms a.place))

  fills_is : a.direction ≡ fills → Decides (allows f k ms a) (entry ms a.place + k.due a.place + scale f * a.weight ≤ full_marking f a.place)
  unfolding allows
  fills_is e = rw e (le_is (entry ms a.place + k.due a.place + scale f * a.weight) (full_marking f a.place))

-- an arc that draws from a place and one that fills it
module _ (f : Card) (a b : Arc) (d : a.direction ≡ draws) (u : b.direction ≡ fills) (e : b.place ≡ a.place) where
  abbrev p : ℕ
  p = a.place

  -- allow a start together only where both weights are within the capacity together, whatever is there and whatever is claimed,
  pub loop_within : (k : Claims) (ms : List ℕ) → allows f k ms a ≡ true → allows f k ms b ≡ true → a.weight + b.weight ≤ (place_at f p).capacity
  loop_within k ms x y =
      let v = (draws_is f k ms a d).0 x in
      let w : entry ms p + k.due p + scale f * b.weight ≤ full_marking f p = rw e at ((fills_is f k ms b u).0 y) in
      let x : scale f * (a.weight + b.weight) ≤ scale f * (place_at f p).capacity = omega (arith, v, w) in
      le_of_mul-le-mul_left x (scale_some f)

  -- and there a marking of the place allows both, where nothing is claimed: as many tokens as are drawn.
  pub loop_allowed : a.weight + b.weight ≤ (place_at f p).capacity
      → (m : ℕ) × (m ≤ full_marking f p)
      × ((k : Claims) (ms : List ℕ) → k.owed p ≡ 0 → k.due p ≡ 0 → entry ms p ≡ m → (allows f k ms a ≡ true) × (allows f k ms b ≡ true))
  loop_allowed l = (scale f * a.weight, omega (arith, mul-le-mul_left (scale f) l), both)
    where
      both : (k : Claims) (ms : List ℕ) → k.owed p ≡ 0 → k.due p ≡ 0 → entry ms p ≡ scale f * a.weight → (allows f k ms a ≡ true) × (allows f k ms b ≡ true)
      both k ms o n m =
          let w : entry ms p + k.due p + scale f * b.weight ≤ full_marking f p = omega (arith, n, m, mul-le-mul_left (scale f) l) in
          ((draws_is f k ms a d).1 (omega (arith, o, m)), (fills_is f k ms b u).1 (rw e w))

-- A TRANSITION WITH A LOOP THAT FAILS THE TEST OF 26 IS A CANDIDATE IN NO STATE AND NO ROW, be they valid or not
module _ (c : Card) (t : ℕ) where
  abbrev flat_arc : ℕ → Arc
  flat_arc = arc_at (flatten c) t

  module _ (h j : ℕ) (o : SelfLoop (arc_at c t h) (arc_at c t j)) where
    met : (flat_arc h).place ≡ (flat_arc j).place
    met = (net_flat c).places t h ∙ rw (o.subnet, o.place) refl ∙ sym ((net_flat c).places t j)

    capacity_there : (place_at (flatten c) (flat_arc j).place).capacity ≡ (place_of c (arc_at c t j)).capacity
    capacity_there = rw ((net_flat c).places t j) ((net_flat c).capacities (flat_place c (arc_at c t j)))

    -- arcs of which one draws and one fills, both allowed
    module _ (k : Claims) (ms : List ℕ) (x : allows (flatten c) k ms (flat_arc h) ≡ true) (y : allows (flatten c) k ms (flat_arc j) ≡ true) where
      abbrev Within : Type 0
      Within = (arc_at c t h).weight + (arc_at c t j).weight ≤ (place_of c (arc_at c t j)).capacity

      draws_first : (arc_at c t h).direction ≡ draws → (arc_at c t j).direction ≡ fills → Within
      draws_first d u =
          let w = loop_within (flatten c) (flat_arc h) (flat_arc j) ((net_flat c).directions t h ∙ d) ((net_flat c).directions t j ∙ u) (sym met) k ms x y in
          let q = ap (λ (p : ℕ). (place_at (flatten c) p).capacity) met in
          omega (arith, w, q, capacity_there, (net_flat c).weights t h, (net_flat c).weights t j)

      fills_first : (arc_at c t h).direction ≡ fills → (arc_at c t j).direction ≡ draws → Within
      fills_first u d =
          let w = loop_within (flatten c) (flat_arc j) (flat_arc h) ((net_flat c).directions t j ∙ d) ((net_flat c).directions t h ∙ u) met k ms y x in
          omega (arith, w, capacity_there, (net_flat c).weights t h, (net_flat c).weights t j)

      within : (arc_at c t h).direction ≤ fills → (arc_at c t j).direction ≤ fills → Within
      within a b = go (eqb (arc_at c t h).direction draws) refl
        where
          go : (z : Bool) → eqb (arc_at c t h).direction draws ≡ z → Within
          go true e =
              let d = eqb-true (arc_at c t h).direction draws e in
              let n : (arc_at c t j).direction ≢ draws = λ q. o.directions (d ∙ sym q) in
              draws_first d (omega (arith, b, n))
          go false e =
              let u : (arc_at c t h).direction ≡ fills = omega (arith, a, eqb-false (arc_at c t h).direction draws e) in
              let n : (arc_at c t j).direction ≢ fills = λ q. o.directions (u ∙ sym q) in
              fills_first u (omega (arith, b, n))

  module _ (w : Wellformed c) (j : ℕ) (l : j < (transition_at c t).arcs) (s : NetState) (row : List ℕ) where
    -- arc j of a candidate passes the test of 26
    candidate_fits : candidate (flatten c) s row t ≡ true → loops_fit c t j ≡ true
    unfolding flatten
    candidate_fits e =
        let x = ((candidate_is (flatten c) s row t).0 e).1 in
        (loops_fit_is c t j).1 (λ h m o. within h j o (claims (flatten c) s.transfers) s.markings (x h (omega arith)) (x j l) (arc_row c.arcs w.rows.arcs _).direction (arc_row c.arcs w.rows.arcs _).direction)

    pub loop_never : loops_fit c t j ≡ false → candidate (flatten c) s row t ≡ false
    loop_never f = false_from_ne_true _ (λ e. false≢true (sym f ∙ candidate_fits e))

-- BYTES THAT ARE REFUSED WITH 26 HAVE A TRANSITION THAT IS A CANDIDATE IN NO STATE AND NO ROW, and the bit is that of an arc of it
pub refused_never : (bytes : List ℕ) (c : Card) (end at : ℕ) → read_card bytes ≡ Parsing.whole c end → judge bytes ≡ refused 26 at
    → (d : DeadAt c at) × ((s : NetState) (row : List ℕ) → candidate (flatten c) s row d.transition ≡ false)
refused_never bytes c end at p e =
    let d = told_26 bytes c end at p e in
    (d, λ s row. loop_never c d.transition (read_wellformed bytes c end p) d.arc d.there s row d.fails)

-- a valid state and a row in which a transition is a candidate
pub record Starts (f : Card) (t : ℕ) : Type 0 where
  pub state : NetState
  pub row : List ℕ
  pub sized : Sized f state
  pub valid : consistent f state ≡ true
  pub taken : row_fault f row ≡ none
  pub starts : candidate f state row t ≡ true

-- EACH TRANSITION OF AN ACCEPTED CARD CAN START
module _ (c : Card) (m : Meets c) (t : ℕ) (l : t < length c.transitions) where
  abbrev f : Card
  f = flatten c

  below : t < length f.transitions
  unfolding flatten
  below = l

  abbrev arcs : ℕ
  arcs = (transition_at f t).arcs

  abbrev drawn : ℕ → ℕ
  drawn = incidence f draws t

  abbrev capacity_at : ℕ → ℕ
  capacity_at p = (place_at f p).capacity

  flat : Meets f
  flat = flat_meets c m

  abbrev at : Home f flat t
  at = home f flat t below

  own_capacity : (j : ℕ) → (place_of f (arc_at f t j)).capacity ≡ capacity_at (arc_at f t j).place
  unfolding first_place sum_to
  own_capacity j = rw (arc_flat c t j, zero-add) refl

  -- what it draws from a place is within the capacity, at least what one arc draws, and leaves room for what an arc fills
  drawn_most : (p : ℕ) → drawn p ≤ capacity_at p
  drawn_most p = incidence_most c m draws t p (capacity_at p) below (λ j k d q. let w = (at.sound.weighted j k).fits in omega (arith, w, own_capacity j, ap capacity_at q))

  drawn_least : (j : ℕ) → j < arcs → (arc_at f t j).direction ≡ draws → (arc_at f t j).weight ≤ drawn (arc_at f t j).place
  unfolding incidence sum_to
  drawn_least j k d =
      let x : weight_at draws (arc_at f t j).place (arc_at f t j) ≡ (arc_at f t j).weight = rw (d, eq-eqb (arc_at f t j).place (arc_at f t j).place refl) in
      omega (arith, x, sum_mono (suc j) arcs (λ i. weight_at draws (arc_at f t j).place (arc_at f t i)) k)

  module _ (i j : ℕ) (k : i < arcs) (n : j < arcs) (d : (arc_at f t i).direction ≡ draws) (u : (arc_at f t j).direction ≡ fills) (e : (arc_at f t i).place ≡ (arc_at f t j).place) where
    abbrev Both : Type 0
    Both = (arc_at f t i).weight + (arc_at f t j).weight ≤ capacity_at (arc_at f t j).place

    both : Both
    both = go (ltb i j) refl (ltb j i) refl
      where
        go : (x : Bool) → ltb i j ≡ x → (y : Bool) → ltb j i ≡ y → Both
        go true p y q =
            let w = at.sound.loops i j (ltb-true i j p) n (record { directions = λ z. omega (arith, z, d, u); subnet = one_subnet c m t i j; place = e }) in
            omega (arith, w, own_capacity j)
        go false p true q =
            let w = at.sound.loops j i (ltb-true j i q) k (record { directions = λ z. omega (arith, z, d, u); subnet = one_subnet c m t j i; place = sym e }) in
            omega (arith, w, own_capacity i, ap capacity_at e)
        go false p false q =
            let z : i ≡ j = omega (arith, ltb-false i j p, ltb-false j i q) in
            absurd (omega (arith, d, u, ap (λ (v : ℕ). (arc_at f t v).direction) z))

  drawn_beside : (j : ℕ) → j < arcs → (arc_at f t j).direction ≡ fills → drawn (arc_at f t j).place + (arc_at f t j).weight ≤ capacity_at (arc_at f t j).place
  drawn_beside j n u =
      let p = (arc_at f t j).place in
      let w = (at.sound.weighted j n).fits in
      let x = incidence_most c m draws t p (capacity_at p - (arc_at f t j).weight) below (λ i k d q. omega (arith, both i j k n d u q)) in
      omega (arith, w, x, own_capacity j)

  -- the state and the row: nothing carries, each place has what the transition draws from it, and all signals are up
  ready : NetState
  ready =
      record {
        markings = table 0 (length f.places) (λ p. scale f * drawn p);
        transfers = table 0 (length f.transitions) (λ u. Idle);
        degrees = table 0 f.signals (λ g. 0);
      }

  full : List ℕ
  full = table 0 f.signals (λ g. scale f)

  no_claim : (way p : ℕ) → flow f (λ u. remaining f (transfer ready.transfers u)) way p ≡ 0
  unfolding ready
  no_claim way p = no_flow f ready.transfers way p (λ u k. table_at (length f.transitions) (λ v. Idle) Idle u k)

  marked : (p : ℕ) → p < length f.places → entry ready.markings p ≡ scale f * drawn p
  unfolding ready
  marked p k = table_at (length f.places) (λ q. scale f * drawn q) 0 p k

  ready_covered : (p : ℕ) → p < length f.places → Covered f ready.markings ready.transfers p
  unfolding owed due
  ready_covered p k =
      record {
        has = omega (arith, no_claim draws p);
        space = omega (arith, no_claim fills p, marked p k, mul-le-mul_left (scale f) (drawn_most p));
      }

  ready_consistent : Consistent f ready
  unfolding ready
  ready_consistent =
      record {
        places = ready_covered;
        transfers = λ u k. rw (table_at (length f.transitions) (λ v. Idle) Idle u k) tt;
        degrees = λ g k. omega (arith, table_at {A = ℕ} f.signals (λ h. 0) 0 g k);
      }

  full_at : (g : ℕ) → g < f.signals → entry full g ≡ scale f
  unfolding full
  full_at g k = table_at f.signals (λ h. scale f) 0 g k

  full_taken : row_fault f full ≡ none
  unfolding full
  full_taken = (fault_is f full).1 (inr (table_length _ _ _), λ g k. omega (arith, full_at g k))

  module _ (j : ℕ) (k : j < arcs) where
    abbrev place : ℕ
    place = (arc_at f t j).place

    here : place < length f.places
    here = omega (arith, flat_below f flat at.subnet _ _ at.below (at.sound.sees j k))

    allowed : allows f (claims f ready.transfers) ready.markings (arc_at f t j) ≡ true
    unfolding owed due
    allowed = go (eqb (arc_at f t j).direction draws) refl
      where
        go : (z : Bool) → eqb (arc_at f t j).direction draws ≡ z → allows f (claims f ready.transfers) ready.markings (arc_at f t j) ≡ true
        go true e =
            let d = eqb-true (arc_at f t j).direction draws e in
            let w = mul-le-mul_left (scale f) (drawn_least j k d) in
            (draws_is f (claims f ready.transfers) ready.markings (arc_at f t j) d).1 (omega (arith, no_claim draws place, marked place here, w))
        go false e =
            let u : (arc_at f t j).direction ≡ fills = omega (arith, (arc_row f.arcs flat.wellformed.rows.arcs (first_arc f t + j)).direction, eqb-false (arc_at f t j).direction draws e) in
            let w = mul-le-mul_left (scale f) (drawn_beside j k u) in
            (fills_is f (claims f ready.transfers) ready.markings (arc_at f t j) u).1 (omega (arith, no_claim fills place, marked place here, w))

  ready_starts : candidate f ready full t ≡ true
  unfolding ready
  ready_starts =
      let g = (all_at (TransitionRow f.version f.signals) f.transitions no_transition flat.wellformed.rows.transitions t below).signal in
      let i = ap idle (table_at (length f.transitions) (λ v. Idle) Idle t below) in
      let d : 0 < entry full (transition_at f t).signal = omega (arith, full_at _ g, scale_some f) in
      (candidate_is f ready full t).1 ((i, d), allowed)

  pub can_start : Starts f t
  unfolding ready
  can_start =
      record {
        state = ready;
        row = full;
        sized = record { markings = table_length _ _ _; transfers = table_length _ _ _; degrees = table_length _ _ _ };
        valid = (consistent_is f ready).1 ready_consistent;
        taken = full_taken;
        starts = ready_starts;
      }
