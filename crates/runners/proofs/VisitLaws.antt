-- What a visit does depends only on what it may read, and changes nothing elsewhere: the three facts follow for every visit that does what its
-- own turn gives; and the visits of all subnets together are the whole step. Assumes nothing.
use Rattle.std.proofs.Common.{◌≡◌, ℕ, zero, suc, ◌+◌, ◌*◌, ◌<◌, Bool, true, false, cond, ◌&&◌, eqb, ltb, ◌≢◌, List, length, refl, ap, ◌∙◌, ap₂, arith, ne_eqb}
use Rattle.card.specs.Finite.{sum_to, every}
use Rattle.card.specs.Card.{Arc, Card, draws, fills, subnet_at, place_at, transition_at, arc_at, first_transition, flat_place, no_transition}
use Rattle.card.specs.Wellformed.{TransitionRow}
use Rattle.card.proofs.Sums.{sum_same, sum_zero, sum_append, all_at}
use Rattle.hierarchy.specs.Conditions.{Sees, Meets}
use Rattle.flattening.specs.Flattening.{flat_arc, flatten}
use Rattle.flattening.proofs.FlatLaws.{place_flat, arc_flat}
use Rattle.runners.specs.State.{NetState, entry, transfer, remaining, weight_at, incidence, flow}
use Rattle.runners.specs.Step.{idle, allows, candidate_on, started_on, start_move, asked_on, moves_on, advanced, arrives_on}
use Rattle.runners.specs.Columns.{Moved, Grown, nothing}
use Rattle.runners.specs.declared.work.Work.{Work}
use Rattle.runners.specs.Visits.{OwnsTransition, Round, posting, finding, moving, Turn, amount, effect, SameView, step_turn, InTurn, Unseen, Does, SameElsewhere, turn_in, Facts}
use Rattle.runners.specs.declared.Transfer.{Transfer}
use Rattle.runners.specs.declared.Transfer.TheVariants.{Idle, Carrying}
use Rattle.runners.proofs.ScaleLaws.{scale_same}
use Rattle.runners.proofs.OwnerLaws.{next_first, own, owned_below}
use Rattle.runners.specs.inner.Changes.{moved_same}

pub every_same : (n : ℕ) (f g : ℕ → Bool) → ((k : ℕ) → k < n → f k ≡ g k) → every n f ≡ every n g
unfolding every
every_same zero f g h = refl
every_same (suc n) f g h = ap₂ (λ (a b : Bool). a && b) (every_same n f g (λ k l. h k (omega arith))) (h n (omega arith))

pub remaining_same : (c d : Card) (x : Transfer) → remaining c x ≡ remaining d x
remaining_same c d Idle = refl
remaining_same c d (Carrying k) = rw (scale_same c d)

advanced_same : (c d : Card) (x : Transfer) (k : ℕ) → advanced c x k ≡ advanced d x k
advanced_same c d Idle k = refl
advanced_same c d (Carrying n) k = rw (scale_same c d)

started_same : (i j : Turn) (t : ℕ) → i.found t ≡ j.found t → transfer i.state.transfers t ≡ transfer j.state.transfers t
    → started_on i.found i.state.transfers t ≡ started_on j.found j.state.transfers t
started_same i j t a b = rw (a, b)

module _ (r : Round) (s : ℕ) (i j : Turn) (m : Meets i.card) (below : s < length i.card.subnets) (v : SameView r s i j) where
  abbrev f : Card
  f = flatten i.card

  abbrev g : Card
  g = flatten j.card

  seen_arc : (t n : ℕ) → OwnsTransition i.card s t → n < (transition_at i.card t).arcs
      → Sees i.card s (arc_at i.card t n).subnet (arc_at i.card t n).place
  seen_arc t n o l = (m.conditions.transitions s t below o.low o.high).sees n l

  -- an own arc is the same on the flat cards
  arc_same : (t n : ℕ) → OwnsTransition i.card s t → n < (transition_at i.card t).arcs → arc_at f t n ≡ arc_at g t n
  arc_same t n o l =
      let a = (v.transitions t o).arcs n l in
      let p = v.numbers _ _ (seen_arc t n o l) in
      rw (arc_flat i.card t n, arc_flat j.card t n, ← a) (ap (λ (k : ℕ). record { direction = (arc_at i.card t n).direction; subnet = 0; place = k; weight = (arc_at i.card t n).weight }) p)

  incidence_same : (direction t p : ℕ) → OwnsTransition i.card s t → incidence f direction t p ≡ incidence g direction t p
  unfolding incidence flatten
  incidence_same direction t p o =
      rw (← (v.transitions t o).row) (sum_same (transition_at i.card t).arcs _ _ (λ n l. ap (weight_at direction p) (arc_same t n o l)))

  signal_below : (t : ℕ) → OwnsTransition i.card s t → (transition_at i.card t).signal < i.card.signals
  signal_below t o =
      (all_at (TransitionRow i.card.version i.card.signals) i.card.transitions no_transition m.wellformed.rows.transitions t
      (owned_below i.card m s t below o)).signal

  degree_same : (t : ℕ) → OwnsTransition i.card s t → entry i.row (transition_at i.card t).signal ≡ entry j.row (transition_at j.card t).signal
  degree_same t o = rw (← (v.transitions t o).row) (v.row (transition_at i.card t).signal (signal_below t o))

  last_same : (t : ℕ) → OwnsTransition i.card s t → entry i.state.degrees (transition_at i.card t).signal ≡ entry j.state.degrees (transition_at j.card t).signal
  last_same t o = rw (← (v.transitions t o).row) (v.degrees (transition_at i.card t).signal (signal_below t o))

  -- the second visit
  capacity_flat : (c : Card) (p : ℕ) → (place_at (flatten c) p).capacity ≡ (place_at c p).capacity
  capacity_flat c p = rw (place_flat c p)

  allows_same : r ≡ finding → (t n : ℕ) → OwnsTransition i.card s t → n < (transition_at i.card t).arcs
      → allows f i.standing i.state.markings (arc_at f t n) ≡ allows g j.standing j.state.markings (arc_at g t n)
  unfolding allows
  allows_same e t n o l =
      let a = (v.transitions t o).arcs n l in
      let k = v.places e _ _ (seen_arc t n o l) in
      let q : flat_place i.card (arc_at i.card t n) ≡ flat_place j.card (arc_at i.card t n) = v.numbers _ _ (seen_arc t n o l) in
      rw (
        arc_flat i.card t n,
        arc_flat j.card t n,
        ← a,
        capacity_flat i.card (flat_place i.card (arc_at i.card t n)),
        capacity_flat j.card (flat_place j.card (arc_at i.card t n)),
        k.capacities,
        k.markings,
        k.owed,
        k.due,
        scale_same f g,
      )

  candidate_same : r ≡ finding → (t : ℕ) → OwnsTransition i.card s t
      → candidate_on f i.standing i.state i.row t ≡ candidate_on g j.standing j.state j.row t
  unfolding candidate_on flatten
  candidate_same e t o =
      let k = v.transitions t o in
      rw (degree_same t o, k.transfers, ← k.row) (ap (λ (b : Bool). idle (transfer j.state.transfers t) && ltb 0 (entry j.row (transition_at i.card t).signal) && b)
      (every_same (transition_at i.card t).arcs _ _ (λ n l. allows_same e t n o l)))

  -- the third visit
  asked_same : r ≡ moving → (t : ℕ) → OwnsTransition i.card s t → asked_on f i.found i.state.degrees i.row t ≡ asked_on g j.found j.state.degrees j.row t
  unfolding flatten start_move
  asked_same e t o = rw (v.found e t o, v.version e, degree_same t o, last_same t o)

  moves_same : r ≡ moving → (t : ℕ) → OwnsTransition i.card s t → moves_on f i.found i.state i.row t ≡ moves_on g j.found j.state j.row t
  moves_same e t o =
      rw (asked_same e t o, started_same i j t (v.found e t o) (v.transitions t o).transfers, remaining_same f g (started_on j.found j.state.transfers t))

  arrives_same : r ≡ moving → (t : ℕ) → OwnsTransition i.card s t → arrives_on f i.found i.state i.row t ≡ arrives_on g j.found j.state j.row t
  arrives_same e t o =
      ap₂ (advanced f) (started_same i j t (v.found e t o) (v.transitions t o).transfers) (moves_same e t o)
      ∙ advanced_same f g (started_on j.found j.state.transfers t) (moves_on g j.found j.state j.row t)

  -- an own transition of one card is one of the other
  own_back : (t : ℕ) → OwnsTransition j.card s t → OwnsTransition i.card s t
  own_back t o =
      record {
        low = omega (arith, o.low, v.first);
        high = omega (arith, o.high, v.first, v.count, next_first i.card s, next_first j.card s);
      }

module _ (s : ℕ) (i j : Turn) (m : Meets i.card) (below : s < length i.card.subnets) where
  amount_same : (r : Round) → SameView r s i j → (t : ℕ) → OwnsTransition i.card s t → amount r i t ≡ amount r j t
  amount_same posting v t o = rw (v.transitions t o).transfers (remaining_same (flatten i.card) (flatten j.card) (transfer j.state.transfers t))
  amount_same finding v t o = rw (candidate_same finding s i j m below v refl t o, scale_same (flatten i.card) (flatten j.card))
  amount_same moving v t o = moves_same moving s i j m below v refl t o

  effect_same : (r : Round) → SameView r s i j → (direction p : ℕ) → effect r s i direction p ≡ effect r s j direction p
  unfolding effect
  effect_same r v direction p =
      rw (← v.count, ← v.first) (sum_same (subnet_at i.card s).transitions _ _ (λ k l. ap₂ (λ (a b : ℕ). a * b)
      (amount_same r v (first_transition i.card s + k) (own i.card s k l))
      (incidence_same r s i j m below v direction (first_transition i.card s + k) p (own i.card s k l))))

  effects_moved : (r : Round) → SameView r s i j → (a b : List ℕ) → Moved a b (effect r s i draws) (effect r s i fills) → Moved a b (effect r s j draws) (effect r s j fills)
  effects_moved r v a b h =
      moved_same a b (effect r s i draws) (effect r s i fills) (effect r s j draws) (effect r s j fills) (effect_same r v draws) (effect_same r v fills) h

  effects_grown : (r : Round) → SameView r s i j → (way : ℕ) (a b : List ℕ) → Grown a b (effect r s i way) → Grown a b (effect r s j way)
  effects_grown r v way a b h = moved_same a b nothing (effect r s i way) nothing (effect r s j way) (λ p. refl) (effect_same r v way) h

  -- a visit that does what one turn gives does what every turn gives that is equal in all it may read
  pub does_same : (r : Round) → SameView r s i j → (a a' : Work) → Does r s i a a' → Does r s j a a'
  does_same posting v a a' h =
      record {
        only = h.only;
        owed = effects_grown posting v draws a.standing.owed a'.standing.owed h.owed;
        due = effects_grown posting v fills a.standing.due a'.standing.due h.due;
      }
  does_same finding v a a' h =
      record {
        only = h.only;
        owed = effects_grown finding v draws a.claimed.owed a'.claimed.owed h.owed;
        due = effects_grown finding v fills a.claimed.due a'.claimed.due h.due;
        long = h.long;
        own = λ t o l. let u = own_back finding s i j m below v t o in h.own t u l ∙ candidate_same finding s i j m below v refl t u;
      }
  does_same moving v a a' h =
      record {
        only = h.only;
        markings = effects_moved moving v a.state.markings a'.state.markings h.markings;
        long = h.long;
        own = λ t o l. let u = own_back moving s i j m below v t o in h.own t u l ∙ arrives_same moving s i j m below v refl t u;
      }

-- the turn of a subnet is, in all that its visit may read, the step's
pub turn_view : (r : Round) (s : ℕ) (i : Turn) (before : NetState) → InTurn r s i before → SameView r s i (step_turn i.card before i.row)
turn_view r s i before h =
    record {
      first = refl;
      count = refl;
      transitions = λ t o. record { row = refl; arcs = λ n l. refl; transfers = h.transfers t o };
      numbers = λ q n k. refl;
      places = h.places;
      row = λ g l. refl;
      degrees = h.degrees;
      found = h.found;
      version = λ e. refl;
    }

-- at a place that is not seen no own arc has a weight
no_weight : (direction p : ℕ) (a : Arc) → a.place ≢ p → weight_at direction p a ≡ 0
no_weight direction p a n = rw (ne_eqb a.place p n) (go (eqb a.direction direction))
  where
    go : (b : Bool) → cond (b && false) a.weight 0 ≡ 0
    go true = refl
    go false = refl

pub no_effect : (r : Round) (s : ℕ) (i : Turn) → Meets i.card → s < length i.card.subnets → (direction p : ℕ) → Unseen i.card s p
    → effect r s i direction p ≡ 0
unfolding effect incidence flatten
no_effect r s i m below direction p u = sum_zero (subnet_at i.card s).transitions _ (λ k l. rw (nothing_there (first_transition i.card s + k) (own i.card s k l)) (omega arith))
  where
    nothing_there : (t : ℕ) → OwnsTransition i.card s t → incidence (flatten i.card) direction t p ≡ 0
    nothing_there t o =
        sum_zero (transition_at i.card t).arcs _ (λ n l. rw (arc_flat i.card t n) (no_weight direction p (flat_arc i.card (arc_at i.card t n))
        (u _ _ ((m.conditions.transitions s t below o.low o.high).sees n l))))

-- THE THREE FACTS HOLD OF A VISIT THAT DOES WHAT ITS OWN TURN GIVES, and leaves other transitions as they were
pub facts : (r : Round) (s : ℕ) (c : Card) (row : List ℕ) (a a' : Work) → Meets c → s < length c.subnets → Does r s (turn_in c row a) a a' → SameElsewhere c s a a'
    → Facts r s c row a a'
facts r s c row a a' m below d e =
    record {
      right = λ before h. does_same s (turn_in c row a) (step_turn c before row) m below r (turn_view r s (turn_in c row a) before h) a a' d;
      local = λ j v. does_same s (turn_in c row a) j m below r v a a' d;
      elsewhere = e;
    }

-- ALL SUBNETS TOGETHER POST AND MOVE WHAT ALL TRANSITIONS DO
sum_ranges : (S : ℕ) (count a : ℕ → ℕ) → sum_to (sum_to S count) a ≡ sum_to S (λ s. sum_to (count s) (λ k. a (sum_to s count + k)))
unfolding sum_to
sum_ranges zero count a = refl
sum_ranges (suc S) count a = omega (arith, sum_append (sum_to S count) (count S) a, sum_ranges S count a)

pub effects_sum : (r : Round) (i : Turn) → Meets i.card → (direction p : ℕ)
    → flow (flatten i.card) (amount r i) direction p ≡ sum_to (length i.card.subnets) (λ s. effect r s i direction p)
unfolding flow flatten first_transition effect
effects_sum r i m direction p =
    ap (λ (n : ℕ). sum_to n (λ t. amount r i t * incidence (flatten i.card) direction t p)) m.wellformed.rows.transition_count
    ∙ sum_ranges (length i.card.subnets) (λ s. (subnet_at i.card s).transitions) (λ t. amount r i t * incidence (flatten i.card) direction t p)
