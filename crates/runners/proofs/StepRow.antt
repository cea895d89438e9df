-- Three rounds of visits, with the verdict in front of the third, are the step; and each visit of a row is in its turn. Assumes nothing.
use Rattle.std.proofs.Common.{◌≡◌, ℕ, zero, suc, ◌+◌, ◌-◌, ◌<◌, ◌≤◌, Bool, true, false, cond, not, ◌⊎◌, List, ◌++◌, length, get_or, drop, sym, refl, ap, ◌∙◌, subst, ap₂, inl, inr, mul-le-mul, arith, length-append, length-drop, get_or-drop, get_or-append-add, ext_get_or}
use Rattle.std.specs.Prelude as Std
use mathlib.Core.Bool.{false≢true}
use mathlib.Core.Option as Math
use mathlib.Core.Option.{Option, none}
use lib.ListN.{get_or-append, length-replicate}
use Rattle.std.proofs.lemmas.Bool.{cases_lt, and_parts}
use Rattle.card.specs.Finite.{table, some_if, first_of, lowest, ◌otherwise◌}
use Rattle.card.specs.Card.{Card, draws, fills, place_at, first_place}
use Rattle.card.proofs.Sums.{sum_zero, table_at, table_length}
use Rattle.card.proofs.Turn.{zero_in}
use Rattle.hierarchy.specs.Conditions.{Meets}
use Rattle.flattening.specs.Flattening.{flatten}
use Rattle.flattening.proofs.FlatLaws.{flat_below, flat_place_fits}
use Rattle.runners.specs.State.{NetState, scale, entry, transfer, remaining, flow, owed, due, full_marking, covered}
use Rattle.runners.specs.Step.{idle, candidate_on, candidate, started, conflict, moves, arrives_on, next}
use Rattle.runners.specs.Numbers.{ok, refusal}
use Rattle.runners.specs.Rows.{settle}
use Rattle.runners.specs.Calls.{view, store, valid, each_once}
use Rattle.runners.specs.Columns.{Moved, noted, no_claims, begun}
use Rattle.runners.specs.Visits.{posting, finding, moving, amount, step_turn, InTurn, turn_in}
use Rattle.runners.specs.inner.Rounds.{AllPost, AllFind, AllMove, IsRound}
use Rattle.runners.specs.inner.Verdict.{covered_by, found_of}
use Rattle.runners.specs.inner.Markings.{capacity, Filled}
use Rattle.runners.specs.inner.Counts.{Counts}
use Rattle.runners.specs.inner.Steps.{with_degrees}
use Rattle.runners.specs.declared.Transfer.{Transfer}
use Rattle.runners.specs.declared.Transfer.TheVariants.{Idle, Carrying}
use Rattle.runners.specs.declared.State.{State as Lent}
use Rattle.runners.specs.declared.Refusal.TheVariants.{Conflict}
use Rattle.runners.specs.declared.work.Work.{Work}
use Rattle.runners.specs.declared.claims.Claims.{Claims}
use Rattle.runners.proofs.ScaleLaws.{scale_few}
use Rattle.runners.proofs.OwnerLaws.{owned_below}
use Rattle.runners.proofs.MovedLaws.{moved_exact}
use Rattle.runners.proofs.TraceLaws.{valid_is}
use Rattle.runners.proofs.StepLaws.{conflict_is, flow_split, started_at, owed_split, due_split}
use Rattle.runners.proofs.VisitLaws.{no_effect, effects_sum}
use Rattle.runners.proofs.FewLaws.{remaining_few}
use Rattle.runners.proofs.BoardLaws.{board_exact, transfer_seen, marking_seen, degree_seen, covered_seen}
use Rattle.runners.proofs.GuardLaws.{same_places, same_transitions}

-- a list by its first entries and those behind them
pub joined : {A : Type 0} (d : A) (xs ys : List A) (n : ℕ) (f : ℕ → A) → n ≤ length ys → length xs ≡ length ys → ((i : ℕ) → i < n → get_or xs i d ≡ f i)
    → ((i : ℕ) → n ≤ i → get_or xs i d ≡ get_or ys i d) → xs ≡ table 0 n f ++ drop n ys
joined d xs ys n f l e a b = ext_get_or d xs (table 0 n f ++ drop n ys) long (λ i k. at i (cases_lt i n))
  where
    long : length xs ≡ length (table 0 n f ++ drop n ys)
    long = omega (arith, e, length-append (table 0 n f) (drop n ys), table_length 0 n f, length-drop n ys)

    at : (i : ℕ) → (i < n) ⊎ (n ≤ i) → get_or xs i d ≡ get_or (table 0 n f ++ drop n ys) i d
    at i (inl g) = a i g ∙ sym (table_at n f d i g) ∙ sym (get_or-append (table 0 n f) (drop n ys) d i (omega (arith, table_length 0 n f)))
    at i (inr g) =
        let q : length (table 0 n f) + (i - n) ≡ i = omega (arith, table_length 0 n f) in
        let j : n + (i - n) ≡ i = omega arith in
        b i g ∙ sym (ap (λ (k : ℕ). get_or (table 0 n f ++ drop n ys) k d) (sym q) ∙ get_or-append-add (table 0 n f) (drop n ys) (i - n) d ∙ get_or-drop n ys (i - n) d ∙ ap (λ (k : ℕ). get_or ys k d) j)

lowest_same : (from n : ℕ) (a b : ℕ → Bool) → ((p : ℕ) → from ≤ p → p < from + n → a p ≡ b p) → lowest from n a ≡ lowest from n b
unfolding first_of
lowest_same from zero a b h = refl
lowest_same from (suc n) a b h =
    ap₂ (λ (x : Bool) (y : Option ℕ). some_if x from otherwise y) (h from (omega arith) (omega arith)) (lowest_same (suc from) n a b (λ p l m. h p (omega arith) (omega arith)))

idle_rest : (f : Card) (x : Transfer) → idle x ≡ true → remaining f x ≡ 0
idle_rest f Idle e = refl
idle_rest f (Carrying c) e = absurd (false≢true e)

candidate_idle : (f : Card) (s : NetState) (row : List ℕ) (t : ℕ) → candidate f s row t ≡ true → idle (transfer s.transfers t) ≡ true
unfolding candidate candidate_on
candidate_idle f s row t e = (and_parts _ _ (and_parts _ _ e).0).0

-- a valid state has the card's counts
pub valid_counts : (c : Card) (l : Lent) → valid (flatten c) l ≡ true → Counts c l
unfolding flatten
valid_counts c l e =
    let v = (valid_is (flatten c) l).0 e in
    record { places = v.counts.places ∙ same_places c; transitions = v.counts.transitions; signals = v.counts.signals }

-- What a row works on begins with a state: it has its markings, transfers and degrees, and the board is of zeros.
pub record Blank (k : Claims) : Type 0 where
  pub owed_long : length k.owed ≡ 255
  pub owed : (p : ℕ) → entry k.owed p ≡ 0
  pub due_long : length k.due ≡ 255
  pub due : (p : ℕ) → entry k.due p ≡ 0

pub record Begins (c : Card) (before : NetState) (k : Work) : Type 0 where
  pub markings : (p : ℕ) → p < length c.places → entry k.state.markings p ≡ entry before.markings p
  pub transfers : (t : ℕ) → t < length c.transitions → transfer k.state.transfers t ≡ transfer before.transfers t
  pub degrees : (g : ℕ) → g < c.signals → entry k.state.degrees g ≡ entry before.degrees g
  pub standing : Blank k.standing
  pub claimed : Blank k.claimed

blank_claims : Blank no_claims
blank_claims =
    record { owed_long = length-replicate {A = ℕ} 255 0; owed = λ p. zero_in 255 p; due_long = length-replicate {A = ℕ} 255 0; due = λ p. zero_in 255 p }

-- so does a row from a lent state with the card's counts
pub begins : (c : Card) (l : Lent) → Counts c l → Begins c (view l) (begun l)
begins c l h =
    record {
      markings = λ p b. sym (marking_seen c l h p b);
      transfers = λ t b. sym (transfer_seen c l h t b);
      degrees = λ g b. sym (degree_seen c l h g b);
      standing = blank_claims;
      claimed = blank_claims;
    }

-- The first two rounds of a row, from any such beginning.
module _ (c : Card) (m : Meets c) (was : NetState) (row : List ℕ) (k₀ : Work) (h : Begins c was k₀) where
  abbrev f : Card
  f = flatten c

  abbrev P : ℕ
  P = length c.places

  abbrev T : ℕ
  T = length c.transitions

  same_T : length f.transitions ≡ T
  same_T = same_transitions c

  -- EACH FIRST VISIT IS IN ITS TURN
  pub turn_post : (s : ℕ) → s < length c.subnets → InTurn posting s (turn_in c row k₀) was
  turn_post s b =
      record {
        transfers = λ t w. h.transfers t (owned_below c m s t b w);
        degrees = h.degrees;
        places = λ e q n w. absurd (let i : ◌≡◌ {A = ℕ} 0 1 = cc in omega arith);
        found = λ e t w. absurd (let i : ◌≡◌ {A = ℕ} 0 1 = cc in omega arith);
      }

  module _ (k₁ : Work) (p1 : AllPost (step_turn c was row) k₀ k₁) where
    state_1 : k₁.state ≡ k₀.state
    state_1 = ap (λ (k : Work). k.state) p1.only

    owed_1 : (p : ℕ) → p < P → entry k₁.standing.owed p ≡ owed f was.transfers p
    unfolding owed
    owed_1 = board_exact c m (amount posting (step_turn c was row)) (λ t b. remaining_few f (transfer was.transfers t)) draws k₀.standing.owed k₁.standing.owed h.standing.owed_long h.standing.owed p1.owed

    due_1 : (p : ℕ) → p < P → entry k₁.standing.due p ≡ due f was.transfers p
    unfolding due
    due_1 = board_exact c m (amount posting (step_turn c was row)) (λ t b. remaining_few f (transfer was.transfers t)) fills k₀.standing.due k₁.standing.due h.standing.due_long h.standing.due p1.due

    -- EACH SECOND VISIT IS IN ITS TURN
    pub turn_find : (s : ℕ) → s < length c.subnets → InTurn finding s (turn_in c row k₁) was
    turn_find s b =
        record {
          transfers = λ t w. ap (λ (k : Lent). transfer k.transfers t) state_1 ∙ h.transfers t (owned_below c m s t b w);
          degrees = λ g w. ap (λ (k : Lent). entry k.degrees g) state_1 ∙ h.degrees g w;
          places = λ e q n w. record {
            capacities = refl;
            markings = ap (λ (k : Lent). entry k.markings (first_place c q + n)) state_1 ∙ h.markings (first_place c q + n) (flat_below c m s q n b w);
            owed = owed_1 (first_place c q + n) (flat_below c m s q n b w);
            due = due_1 (first_place c q + n) (flat_below c m s q n b w);
          };
          found = λ e t w. absurd (let i : ◌≡◌ {A = ℕ} 0 1 = cc in omega arith);
        }

    module _ (k₂ : Work) (p2 : AllFind (step_turn c was row) k₁ k₂) where
      state_2 : k₂.state ≡ k₀.state
      state_2 = ap (λ (k : Work). k.state) p2.only ∙ state_1

      found_is : length k₀.candidates ≡ 255 → (t : ℕ) → t < T → noted k₂.candidates t ≡ candidate f was row t
      unfolding candidate
      found_is long t b =
          p2.noted t b (omega (arith, ap (λ (k : Work). length k.candidates) p1.only, long, m.wellformed.rows.few_transitions))

      -- what remains of a transfer with the candidates started
      rest_is : (t : ℕ) → t < T → remaining f (transfer (started f was row) t) ≡ remaining f (transfer was.transfers t) + amount finding (step_turn c was row) t
      rest_is t b = rw (started_at f was row t (omega (arith, same_T))) (go (candidate f was row t) refl)
        where
          go : (e : Bool) → candidate f was row t ≡ e → remaining f (cond e (Carrying 0) (transfer was.transfers t)) ≡ remaining f (transfer was.transfers t) + amount finding (step_turn c was row) t
          go true e = omega (arith, idle_rest f (transfer was.transfers t) (candidate_idle f was row t e), claimed e)
            where
              claimed : candidate f was row t ≡ true → amount finding (step_turn c was row) t ≡ scale f
              claimed q = (unfold candidate in rw q refl)
          go false e = omega (arith, unclaimed e)
            where
              unclaimed : candidate f was row t ≡ false → amount finding (step_turn c was row) t ≡ 0
              unclaimed q = (unfold candidate in rw q refl)

      few_2 : (t : ℕ) → t < T → amount finding (step_turn c was row) t ≤ scale f
      few_2 t b = small (candidate_on f (step_turn c was row).standing was row t)
        where
          small : (e : Bool) → cond e (scale f) 0 ≤ scale f
          small true = omega arith
          small false = omega arith

      flow_started : (way p : ℕ) → flow f (λ t. remaining f (transfer (started f was row) t)) way p
          ≡ flow f (λ t. remaining f (transfer was.transfers t)) way p + flow f (amount finding (step_turn c was row)) way p
      flow_started way p = flow_split f _ _ (amount finding (step_turn c was row)) way p (λ t b. rest_is t (omega (arith, same_T)))

      blank : Blank k₁.claimed
      blank = subst Blank (sym (ap (λ (k : Work). k.claimed) p1.only)) h.claimed

      owed_2 : (p : ℕ) → p < P → entry k₁.standing.owed p + entry k₂.claimed.owed p ≡ owed f (started f was row) p
      unfolding owed
      owed_2 p b =
          omega (arith, owed_1 p b, flow_started draws p, board_exact c m (amount finding (step_turn c was row)) few_2 draws k₁.claimed.owed k₂.claimed.owed blank.owed_long blank.owed p2.owed p b)

      due_2 : (p : ℕ) → p < P → entry k₁.standing.due p + entry k₂.claimed.due p ≡ due f (started f was row) p
      unfolding due
      due_2 p b =
          omega (arith, due_1 p b, flow_started fills p, board_exact c m (amount finding (step_turn c was row)) few_2 fills k₁.claimed.due k₂.claimed.due blank.due_long blank.due p2.due p b)

      -- the verdict is the step's
      module _ (full : List ℕ) (fu : Filled capacity c full) where
        covered_is : (p : ℕ) → p < P → covered_by full k₂.state.markings k₂.standing k₂.claimed p ≡ covered f was.markings (started f was row) p
        covered_is p b =
            rw (ap (λ (k : Work). k.standing) p2.only, state_2) (covered_seen c full k₀.state.markings was.markings (started f was row) k₁.standing k₂.claimed p b fu (sym (h.markings p b)) (owed_2 p b) (due_2 p b))

        pub verdict : (n : ℕ) (r : Std.Option ℕ) → n ≡ P → found_of r ≡ lowest 0 n (λ p. not (covered_by full k₂.state.markings k₂.standing k₂.claimed p)) → found_of r ≡ conflict f was row
        unfolding conflict started flatten
        verdict n r e q =
            rw e at q
            ∙ lowest_same 0 P (λ p. not (covered_by full k₂.state.markings k₂.standing k₂.claimed p)) (λ p. not (covered (flatten c) was.markings (started (flatten c) was row) p)) (λ p a b. ap not (covered_is p (omega arith)))
            ∙ ap (λ (k : ℕ). lowest 0 k (λ p. not (covered (flatten c) was.markings (started (flatten c) was row) p))) (sym (same_places c))

-- EACH THIRD VISIT IS IN ITS TURN, on whatever has the transfers and degrees of the state before and its candidates
pub turn_move : (c : Card) (m : Meets c) (was : NetState) (row : List ℕ) (k : Work) → ((t : ℕ) → t < length c.transitions → transfer k.state.transfers t ≡ transfer was.transfers t)
    → ((g : ℕ) → g < c.signals → entry k.state.degrees g ≡ entry was.degrees g) → ((t : ℕ) → t < length c.transitions → noted k.candidates t ≡ candidate (flatten c) was row t)
    → (s : ℕ) → s < length c.subnets → InTurn moving s (turn_in c row k) was
turn_move c m was row k transfers degrees found s b =
    record {
      transfers = λ t w. transfers t (owned_below c m s t b w);
      degrees = degrees;
      places = λ e q n w. absurd (let i : ◌≡◌ {A = ℕ} 0 1 = cc in omega arith);
      found = λ e t w. found t (owned_below c m s t b w);
    }

-- The third round, from a lent state with the card's counts, where the board shows no conflict.
module _ (c : Card) (m : Meets c) (l : Lent) (h : Counts c l) (row : List ℕ) (k₂ k₃ : Work) (state_2 : k₂.state ≡ l) (p3 : AllMove (step_turn c (view l) row) k₂ k₃) (rl : length row ≡ c.signals)
    (free : conflict (flatten c) (view l) row ≡ none) (ml : length l.markings ≡ 255) (xl : length l.transfers ≡ 255) where
  abbrev flat : Card
  flat = flatten c

  abbrev was : NetState
  was = view l

  abbrev ms' : List ℕ
  ms' = k₃.state.markings

  abbrev xs' : List Transfer
  xs' = k₃.state.transfers

  state_3 : k₃.state ≡ record l { markings = ms'; transfers = xs' }
  state_3 = ap (λ (k : Work). k.state) p3.only ∙ ap (λ (s : Lent). let r : Lent = record s { markings = ms'; transfers = xs' } in r) state_2

  moved_3 : Moved l.markings ms' (flow flat (amount moving (step_turn c was row)) draws) (flow flat (amount moving (step_turn c was row)) fills)
  moved_3 = subst (λ (s : Lent). Moved s.markings ms' (flow flat (amount moving (step_turn c was row)) draws) (flow flat (amount moving (step_turn c was row)) fills)) state_2 p3.markings

  few_p : (p : ℕ) → p < length c.places → p < 255
  few_p p b = omega (arith, m.wellformed.rows.few_places)

  room : (p : ℕ) → p < length c.places → full_marking flat p ≤ 2550000
  room p b = let k : (place_at flat p).capacity ≤ 255 = (flat_place_fits c m p b).capacity in mul-le-mul (scale_few flat) k

  flow_past : (way p : ℕ) → length c.places ≤ p → flow flat (amount moving (step_turn c was row)) way p ≡ 0
  flow_past way p b =
      effects_sum moving (step_turn c was row) m way p
      ∙ sum_zero (length c.subnets) _ (λ s a. no_effect moving s (step_turn c was row) m a way p (λ u n w e. omega (arith, flat_below c m s u n a w)))

  flow_moves : (way p : ℕ) → flow flat (amount moving (step_turn c was row)) way p ≡ flow flat (moves flat was row) way p
  unfolding moves
  flow_moves way p = refl

  abbrev marked : ℕ → ℕ
  marked p = entry was.markings p + flow flat (moves flat was row) fills p - flow flat (moves flat was row) draws p

  marking_3 : (p : ℕ) → p < length c.places → entry ms' p ≡ marked p
  marking_3 p b =
      let a = (conflict_is flat was row).0 free p (omega (arith, same_places c)) in
      let e = marking_seen c l h p b in
      let g = moved_exact l.markings ms' _ _ moved_3 p (omega (arith, ml, few_p p b)) (omega (arith, a.has, owed_split flat was row p, flow_moves draws p, e))
      (omega (arith, a.space, due_split flat was row p, flow_moves fills p, e, room p b)) in
      omega (arith, g, e, flow_moves draws p, flow_moves fills p, a.has, owed_split flat was row p)

  markings_is : ms' ≡ (next flat was row).markings ++ drop l.places l.markings
  unfolding next
  markings_is =
      let n : length flat.places ≡ l.places = same_places c ∙ sym h.places in
      joined 0 ms' l.markings (length flat.places) marked (omega (arith, same_places c, ml, m.wellformed.rows.few_places)) moved_3.long (λ p b. marking_3 p (omega (arith, same_places c)))
      (λ p b. moved_3.kept p (flow_past draws p (omega (arith, same_places c))) (flow_past fills p (omega (arith, same_places c))))
      ∙ ap (λ (q : ℕ). table 0 (length flat.places) marked ++ drop q l.markings) n

  transfers_is : xs' ≡ (next flat was row).transfers ++ drop l.transitions l.transfers
  unfolding next moves
  transfers_is =
      let n : length flat.transitions ≡ l.transitions = same_transitions c ∙ sym h.transitions in
      let e = ap (λ (s : Lent). length s.transfers) state_2 in
      joined Idle xs' l.transfers (length flat.transitions) (arrives_on flat (candidate flat was row) was row) (omega (arith, same_transitions c, xl, m.wellformed.rows.few_transitions)) (p3.long ∙ e)
      (λ t b. p3.transfers t (omega (arith, same_transitions c)) (omega (arith, e, xl, same_transitions c, m.wellformed.rows.few_transitions)))
      (λ t b. p3.others t (omega (arith, same_transitions c)) ∙ ap (λ (s : Lent). transfer s.transfers t) state_2)
      ∙ ap (λ (q : ℕ). table 0 (length flat.transitions) (arrives_on flat (candidate flat was row) was row) ++ drop q l.transfers) n

  pub stored : with_degrees k₃.state row ≡ store l (next flat was row)
  unfolding next
  stored =
      let g : length row ≡ l.signals = rl ∙ sym h.signals in
      ap (λ (s : Lent). with_degrees s row) state_3 ∙ rw (markings_is, transfers_is, g) refl

  -- THE STEP IS MADE
  pub row_moved : (s : Lent) → s ≡ with_degrees k₃.state row → (ok, s) ≡ settle (Math.map Conflict (conflict flat was row)) l (store l (next flat was row))
  row_moved s e = rw free (ap (λ (x : Lent). (ok, x)) (e ∙ stored))

-- IT IS REFUSED where a place is found in conflict, whatever the next state would be
pub row_conflict : (f : Card) (before : NetState) (row : List ℕ) (q : Std.Option ℕ) → found_of q ≡ conflict f before row → (p : ℕ) → q ≡ Std.Some p → (l after : Lent)
    → (refusal (Conflict p), l) ≡ settle (Math.map Conflict (conflict f before row)) l after
row_conflict f before row q e p n l after = rw (sym e ∙ ap found_of n) refl

-- THE ROW FROM A VALID STATE, in a valid order
module _ (c : Card) (m : Meets c) (l : Lent) (v : valid (flatten c) l ≡ true) (order : List ℕ) (o : each_once (length c.subnets) order ≡ true) (row : List ℕ) (k₁ k₂ : Work)
    (r1 : IsRound posting order c row (begun l) k₁) (r2 : IsRound finding order c row k₁ k₂) (full : List ℕ) (fu : Filled capacity c full) (q : Std.Option ℕ)
    (eq : found_of q ≡ lowest 0 (length c.places) (λ p. not (covered_by full k₂.state.markings k₂.standing k₂.claimed p))) where
  counts : Counts c l
  counts = valid_counts c l v

  first : AllPost (step_turn c (view l) row) (begun l) k₁
  first = r1 (view l) m o (turn_post c m (view l) row (begun l) (begins c l counts))

  second : AllFind (step_turn c (view l) row) k₁ k₂
  second = r2 (view l) m o (turn_find c m (view l) row (begun l) (begins c l counts) k₁ first)

  -- what the board shows after two rounds is the step's conflict,
  pub shown : found_of q ≡ conflict (flatten c) (view l) row
  shown = verdict c m (view l) row (begun l) (begins c l counts) k₁ first k₂ second full fu (length c.places) q refl eq

  -- and where it shows none, the third round, in any order that names each subnet once, makes the next state
  pub made : q ≡ Std.None → (third : List ℕ) → each_once (length c.subnets) third ≡ true → (k₃ : Work) → IsRound moving third c row k₂ k₃ → length row ≡ c.signals → length l.markings ≡ 255 → length l.transfers ≡ 255 → (s : Lent) → s ≡ with_degrees k₃.state row
      → (ok, s) ≡ settle (Math.map Conflict (conflict (flatten c) (view l) row)) l (store l (next (flatten c) (view l) row))
  made n third o₃ k₃ r3 rl ml xl =
      let still = ap (λ (k : Work). k.state) second.only ∙ ap (λ (k : Work). k.state) first.only in
      let state = begins c l counts in
      let found = found_is c m (view l) row (begun l) state k₁ first k₂ second (length-replicate {A = Bool} 255 false) in
      let moved =
      r3 (view l) m o₃
      (turn_move c m (view l) row k₂ (λ t b. ap (λ (k : Lent). transfer k.transfers t) still ∙ state.transfers t b) (λ g b. ap (λ (k : Lent). entry k.degrees g) still ∙ state.degrees g b) found) in
      row_moved c m l counts row k₂ k₃ still moved rl (sym shown ∙ ap found_of n) ml xl
