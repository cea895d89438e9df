-- The layout machine goes through the shape of the grammar. Assumes nothing.
use Prim.Native.Nat.{ℕ, suc, ◌+◌, ◌-◌, ◌≤◌}
use mathlib.Core.Path.{◌≡◌, refl, sym, ap, ◌∙◌}
use mathlib.Core.Bool.{Bool, true, false}
use mathlib.Core.List.{[], ◌∷◌}
use mathlib.Core.Option.{none}
use native.Mathlib.Omega.{arith}
use native.Mathlib.Numerals.{add-one}
use lib.Dec.{ltb}
use borrow.Author.Tests.{ltb-true, ltb-false}
use Rattle.std.proofs.lemmas.Bool.Decides.{Decides-and}
use Rattle.card.specs.Format.{Format, done, get, ◌>>=◌}
use Rattle.card.specs.Grammar.{max_count, header, subnet, place, transition, arc, max_subnets}
use Rattle.card.specs.inner.Layout.{fed, width_at, fault_at, start_of, layout_at, pick, move_at}
use Rattle.card.specs.declared.layout.Phase.{Phase}
use Rattle.card.specs.declared.layout.Phase.TheVariants.{Version, SubnetCount, SignalCount, Limit, Scale, Parent, SubnetType, PlaceCount, TransitionCount, Kind, Capacity, Tokens, Signal, ArcCount, Rank, Direction, ArcSubnet, ArcPlace, Weight}
use Rattle.card.specs.declared.layout.Layout.{Layout}
use Rattle.card.specs.declared.Counts.{Counts}
use Rattle.card.specs.declared.layout.Next.{Next}
use Rattle.card.specs.declared.layout.Next.TheVariants.{More, Done}
use Rattle.card.proofs.Decides.{le_is, some_unless_is}
use Rattle.card.proofs.Shape.{One, strip, times, arc_s, place_s, transition_s, subnet_s, subnets_s, card_s}

-- what comes after the subnet, the transitions, the places and the arcs at hand
abbrev rest_subnets : Layout → (places transitions : ℕ) → Format One Counts
rest_subnets l p t = subnets_s l.version l.signals l.subnets (suc l.subnet) p t

abbrev rest_transitions : Layout → Format One Counts
rest_transitions l = times l.transition_rows (transition_s l.version l.signals) (rest_subnets l l.places l.transitions)

abbrev rest_places : Layout → Format One Counts
rest_places l = times l.place_rows (place_s l.subnet) (transition_s l.version l.signals (rest_transitions l))

abbrev rest_arcs : Layout → Format One Counts
rest_arcs l = times l.arc_rows arc_s (rest_transitions l)

abbrev head_s : Layout → Format One Counts
head_s l = strip header >>= (λ h. subnets_s h.version h.signals h.subnets l.subnet l.places l.transitions)

abbrev row_s : Layout → Format One Counts
row_s l = subnet_s l.version l.signals l.subnet l.places l.transitions (rest_subnets l)

abbrev count_s : Layout → Format One Counts
count_s l =
    strip (subnet l.subnet 0 l.transitions)
    >>= (λ r. times (suc l.place_rows) (place_s l.subnet) (times r.transitions (transition_s l.version l.signals) (rest_subnets l l.places (l.transitions + r.transitions))))

-- what a layout stands for: all that is still to be read
abbrev pub denote_at : Phase → Layout → Format One Counts
denote_at Version l = head_s l
denote_at SubnetCount l = fed (head_s l) (l.version ∷ [])
denote_at SignalCount l = fed (head_s l) (l.version ∷ suc l.subnets ∷ [])
denote_at Limit l = fed (head_s l) (l.version ∷ suc l.subnets ∷ l.signals ∷ [])
denote_at Scale l = fed (head_s l) (l.version ∷ suc l.subnets ∷ l.signals ∷ 0 ∷ [])
denote_at Parent l = row_s l
denote_at SubnetType l = fed (row_s l) (0 ∷ [])
denote_at PlaceCount l = fed (row_s l) (0 ∷ 0 ∷ [])
denote_at TransitionCount l = fed (count_s l) (0 ∷ 0 ∷ 0 ∷ [])
denote_at Kind l = place_s l.subnet (rest_places l)
denote_at Capacity l = fed (place_s l.subnet (rest_places l)) (0 ∷ [])
denote_at Tokens l = fed (place_s l.subnet (rest_places l)) (0 ∷ l.capacity ∷ [])
denote_at Signal l = transition_s l.version l.signals (rest_transitions l)
denote_at ArcCount l = fed (transition_s l.version l.signals (rest_transitions l)) (0 ∷ [])
denote_at Rank l = fed (transition_s l.version l.signals (rest_transitions l)) (0 ∷ suc l.arc_rows ∷ [])
denote_at Direction l = arc_s (rest_arcs l)
denote_at ArcSubnet l = fed (arc_s (rest_arcs l)) (0 ∷ [])
denote_at ArcPlace l = fed (arc_s (rest_arcs l)) (0 ∷ 0 ∷ [])
denote_at Weight l = fed (arc_s (rest_arcs l)) (0 ∷ 0 ∷ 0 ∷ [])

abbrev pub denote : Layout → Format One Counts
denote l = denote_at l.phase l

abbrev pub move_f : Next → Format One Counts
move_f (More m) = denote m
move_f (Done k) = done k

abbrev pub next_of : Format One Counts → ℕ → Format One Counts
next_of (done a) v = done a
next_of (get w value fault next) v = next v

-- a layout waits for a field of its width, with its faults
pub waits : (p : Phase) (l : Layout) → denote_at p l ≡ get (width_at p l.version) (λ u. 0) (fault_at p l) (next_of (denote_at p l))
unfolding header subnet place transition arc
waits Version l = refl
waits SubnetCount l = refl
waits SignalCount l = refl
waits Limit l = refl
waits Scale l = refl
waits Parent l = refl
waits SubnetType l = refl
waits PlaceCount l = refl
waits TransitionCount l = refl
waits Kind l = refl
waits Capacity l = refl
waits Tokens l = refl
waits Signal l = refl
waits ArcCount l = refl
waits Rank l = refl
waits Direction l = refl
waits ArcSubnet l = refl
waits ArcPlace l = refl
waits Weight l = refl

less_one : (n : ℕ) → 1 ≤ n → n ≡ suc (n - 1)
less_one n h = omega arith

-- behind an arc
after_subnet : (l : Layout) (b : Bool) → ltb 0 l.subnets ≡ b
    → rest_subnets l l.places l.transitions
    ≡ move_f (pick b (More (layout_at Parent l.version l.signals (l.subnets - 1) (l.subnet + 1) l.places l.transitions l.place_rows l.transition_rows l.arc_rows l.capacity))
    (Done (record { subnets = l.subnet + 1; places = l.places; transitions = l.transitions })))
unfolding subnets_s
after_subnet l true e =
    ap (λ (n : ℕ). subnets_s l.version l.signals n (suc l.subnet) l.places l.transitions) (less_one l.subnets (ltb-true 0 l.subnets e))
    ∙ ap (λ (s : ℕ). subnets_s l.version l.signals (suc (l.subnets - 1)) s l.places l.transitions) (sym (add-one l.subnet))
after_subnet l false e =
    let z : l.subnets ≡ 0 = omega (arith, ltb-false 0 l.subnets e) in
    ap (λ (n : ℕ). subnets_s l.version l.signals n (suc l.subnet) l.places l.transitions) z
    ∙ ap (λ (s : ℕ). subnets_s l.version l.signals 0 s l.places l.transitions) (sym (add-one l.subnet))

-- so many times, or none
times_more : (n : ℕ) (one : Format One Counts → Format One Counts) (k : Format One Counts) (x y : Next) (b : Bool) → ltb 0 n ≡ b
    → (b ≡ true → one (times (n - 1) one k) ≡ move_f x) → (b ≡ false → k ≡ move_f y) → times n one k ≡ move_f (pick b x y)
times_more n one k x y true e f g = ap (λ (i : ℕ). times i one k) (less_one n (ltb-true 0 n e)) ∙ f refl
times_more n one k x y false e f g =
    let z : n ≡ 0 = omega (arith, ltb-false 0 n e) in
    ap (λ (i : ℕ). times i one k) z ∙ g refl

after_transition : (l : Layout) → rest_transitions l ≡ move_f (pick (ltb 0 l.transition_rows)
    (More (layout_at Signal l.version l.signals l.subnets l.subnet l.places l.transitions l.place_rows (l.transition_rows - 1) l.arc_rows l.capacity))
    (pick (ltb 0 l.subnets)
    (More (layout_at Parent l.version l.signals (l.subnets - 1) (l.subnet + 1) l.places l.transitions l.place_rows l.transition_rows l.arc_rows l.capacity))
    (Done (record { subnets = l.subnet + 1; places = l.places; transitions = l.transitions }))))
after_transition l =
    times_more l.transition_rows (transition_s l.version l.signals) (rest_subnets l l.places l.transitions) _ _ (ltb 0 l.transition_rows) refl (λ e. refl)
    (λ e. after_subnet l (ltb 0 l.subnets) refl)

after_arc : (l : Layout) (v : ℕ) → rest_arcs l ≡ move_f (move_at Weight l v)
after_arc l v = times_more l.arc_rows arc_s (rest_transitions l) _ _ (ltb 0 l.arc_rows) refl (λ e. refl) (λ e. after_transition l)

after_place : (l : Layout) (v : ℕ) → rest_places l ≡ move_f (move_at Tokens l v)
after_place l v =
    times_more l.place_rows (place_s l.subnet) (transition_s l.version l.signals (rest_transitions l)) _ _ (ltb 0 l.place_rows) refl (λ e. refl) (λ e. refl)

-- a number that is not at fault leads where the grammar goes on
pub sim : (p : Phase) (l : Layout) (v : ℕ) → fault_at p l v ≡ none → next_of (denote_at p l) v ≡ move_f (move_at p l v)
unfolding header subnet place transition arc subnets_s
sim Version l v e = refl
sim SubnetCount l v e =
    let h = (some_unless_is _ _ _ (Decides-and _ _ (le_is 1 v) (le_is v max_subnets))).0 e in
    ap (λ (n : ℕ). fed (head_s l) (l.version ∷ n ∷ [])) (less_one v h.0)
sim SignalCount l v e = refl
sim Limit l v e = refl
sim Scale l v e = refl
sim Parent l v e = refl
sim SubnetType l v e = refl
sim PlaceCount l v e =
    let h = (some_unless_is _ _ _ (Decides-and _ _ (le_is 1 v) (le_is (l.places + v) max_count))).0 e in
    ap (λ (n : ℕ). fed (strip (subnet l.subnet 0 l.transitions) >>= (λ r. times n (place_s l.subnet) (times r.transitions (transition_s l.version l.signals) (rest_subnets l (l.places + v) (l.transitions + r.transitions))))) (0 ∷ 0 ∷ 0 ∷ []))
    (less_one v h.0)
sim TransitionCount l v e =
    let h = (some_unless_is _ _ _ (Decides-and _ _ (le_is 1 v) (le_is (l.transitions + v) max_count))).0 e in
    ap (λ (n : ℕ). times (suc l.place_rows) (place_s l.subnet) (times n (transition_s l.version l.signals) (rest_subnets l l.places (l.transitions + v)))) (less_one v h.0)
sim Kind l v e = refl
sim Capacity l v e = refl
sim Tokens l v e = after_place l v
sim Signal l v e = refl
sim ArcCount l v e =
    let h = (some_unless_is _ _ _ (le_is 1 v)).0 e in
    ap (λ (n : ℕ). fed (transition_s l.version l.signals (rest_transitions l)) (0 ∷ n ∷ [])) (less_one v h)
sim Rank l v e = refl
sim Direction l v e = refl
sim ArcSubnet l v e = refl
sim ArcPlace l v e = refl
sim Weight l v e = after_arc l v

pub denote_start : denote start_of ≡ card_s
unfolding card_s
denote_start = refl
