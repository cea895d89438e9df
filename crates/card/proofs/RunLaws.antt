-- The runs of numbers that make a card, put into a table one after another. Assumes nothing.
use Prim.Native.Nat.{ℕ, zero, suc, ◌+◌, ◌-◌, ◌*◌, ◌/◌, ◌≤◌, ◌<◌}
use mathlib.Core.Path.{◌≡◌, refl, sym, ap, subst, ◌∙◌}
use mathlib.Core.List.{List, ◌++◌, append-nil, append_assoc, flatten}
use native.Mathlib.Omega.{arith}
use native.Mathlib.Nat.{add-zero, zero-add}
use native.Mathlib.Numerals.{add-one}
use lib.ListN.{length, take, drop}
use Rattle.card.specs.Finite.{sum_to, table}
use Rattle.card.specs.Rows.{entry}
use Rattle.card.specs.inner.Runs.{Leads, arcs_before, transition_run, runs, RunsInside, places_before, transitions_before, subnet_run, TablesInside}
use Rattle.card.specs.Card.{subnet_fields, place_fields, transition_fields, arc_fields}
use Rattle.card.proofs.Sums.{sum_mono}

pub runs_suc : (from n : ℕ) (run : ℕ → List ℕ) → runs from (suc n) run ≡ runs from n run ++ run (from + n)
unfolding runs table flatten
runs_suc from zero run = append-nil (run from) ∙ ap run (sym (add-zero from))
runs_suc from (suc n) run =
    let e : suc from + n ≡ from + suc n = omega arith in
    ap (λ xs. run from ++ xs) (unfold runs in runs_suc (suc from) n run)
    ∙ sym (append_assoc (run from) (flatten (table (suc from) n run)) (run (suc from + n)))
    ∙ ap (λ (i : ℕ). (run from ++ flatten (table (suc from) n run)) ++ run i) e

-- the numbers of the transitions from first to t stand in the table
module _ (transitions arcs old : List ℕ) (n first : ℕ) where
  abbrev run : ℕ → List ℕ
  run = transition_run transitions arcs

  pub record Placing (numbers : List ℕ) (m b t : ℕ) : Type 0 where
    pub is : b ≡ arcs_before transitions t
    pub long : length numbers ≡ length old
    pub leads : (xs : List ℕ) → Leads xs old n → Leads (xs ++ runs first (t - first) run) numbers m

  pub place_start : (arc : ℕ) → arc ≡ arcs_before transitions first → Placing old n arc first
  unfolding runs table flatten
  place_start arc e =
      let z : first - first ≡ 0 = omega arith in
      record { is = e; long = refl; leads = λ xs h. rw (z, append-nil xs) h }

  module _ (numbers : List ℕ) (m b t : ℕ) (x : Placing numbers m b t) where
    -- the arcs of the next transition lie within the slice
    pub place_arcs : (count arc : ℕ) → RunsInside transitions arcs first count arc → t < first + count → arc_fields * (b + entry transitions transition_fields t 1) ≤ length arcs
    place_arcs count arc r l =
        let q : sum_to (suc t) (λ u. entry transitions transition_fields u 1) ≡ arcs_before transitions t + entry transitions transition_fields t 1 = unfold sum_to in refl in
        omega (arith, x.is, q, r.ends, sum_mono (suc t) (first + count) (λ u. entry transitions transition_fields u 1) l)

    pub place_more : first ≤ t → (one two s1 s2 : List ℕ) (m1 m2 k : ℕ) → k ≡ entry transitions transition_fields t 1 → s1 ≡ take transition_fields (drop (transition_fields * t) transitions) → s2 ≡ take (arc_fields * k) (drop (arc_fields * b) arcs)
        → length one ≡ length numbers → length two ≡ length one → ((ys : List ℕ) → Leads ys numbers m → Leads (ys ++ s1) one m1) → ((ys : List ℕ) → Leads ys one m1 → Leads (ys ++ s2) two m2)
        → Placing two m2 (b + k) (t + 1)
    unfolding transition_run
    place_more l one two s1 s2 m1 m2 k ek e1 e2 l1 l2 f g =
        let q : sum_to (suc t) (λ u. entry transitions transition_fields u 1) ≡ arcs_before transitions t + entry transitions transition_fields t 1 = unfold sum_to in refl in
        let z : t + 1 ≡ suc t = add-one t in
        let d : t + 1 - first ≡ suc (t - first) = omega arith in
        let w : first + (t - first) ≡ t = omega arith in
        let s : run t ≡ s1 ++ s2 = rw (e1, e2, ek, x.is) in
        record {
          is = rw z (omega (arith, x.is, ek, q));
          long = l2 ∙ l1 ∙ x.long;
          leads = λ xs h.
              let p : ((xs ++ runs first (t - first) run) ++ s1) ++ s2 ≡ xs ++ runs first (t + 1 - first) run =
              append_assoc (xs ++ runs first (t - first) run) s1 s2
              ∙ append_assoc xs (runs first (t - first) run) (s1 ++ s2)
              ∙ ap (λ ys. xs ++ ys) (ap (λ ys. runs first (t - first) run ++ ys) (sym s ∙ ap run (sym w)) ∙ sym (runs_suc first (t - first) run) ∙ ap (λ (i : ℕ). runs first i run) (sym d)) in
              subst (λ ys. Leads ys two m2) p (g _ (f _ (x.leads xs h)));
        }

    pub place_done : (count : ℕ) → t ≡ first + count → (xs : List ℕ) → Leads xs old n → Leads (xs ++ runs first count run) numbers m
    place_done count e xs h =
        let z : t - first ≡ count = omega arith in
        rw z at (x.leads xs h)

-- the numbers of the subnets before s stand in the table
module _ (subnets places transitions arcs old : List ℕ) (n : ℕ) where
  abbrev net_run : ℕ → List ℕ
  net_run = subnet_run subnets places transitions arcs

  pub record Laying (numbers : List ℕ) (m place transition arc s : ℕ) : Type 0 where
    pub is_place : place ≡ places_before subnets s
    pub is_transition : transition ≡ transitions_before subnets s
    pub is_arc : arc ≡ arcs_before transitions transition
    pub long : length numbers ≡ length old
    pub leads : (xs : List ℕ) → Leads xs old n → Leads (xs ++ runs 0 s net_run) numbers m

  pub lay_start : Laying old n 0 0 0 0
  unfolding runs table flatten sum_to
  lay_start = record { is_place = refl; is_transition = refl; is_arc = refl; long = refl; leads = λ xs h. rw (append-nil xs) h }

  module _ (numbers : List ℕ) (m place transition arc s : ℕ) (x : Laying numbers m place transition arc s) where
    pub lay_places : TablesInside subnets places transitions arcs → s < length subnets / subnet_fields → place_fields * (place + entry subnets subnet_fields s 2) ≤ length places
    lay_places r l =
        let q : sum_to (suc s) (λ u. entry subnets subnet_fields u 2) ≡ places_before subnets s + entry subnets subnet_fields s 2 = unfold sum_to in refl in
        omega (arith, x.is_place, q, r.place_rows, sum_mono (suc s) (length subnets / subnet_fields) (λ u. entry subnets subnet_fields u 2) l)

    pub lay_inside : TablesInside subnets places transitions arcs → s < length subnets / subnet_fields → (k : ℕ) → k ≡ entry subnets subnet_fields s 3 → RunsInside transitions arcs transition k arc
    lay_inside r l k e =
        let q : sum_to (suc s) (λ u. entry subnets subnet_fields u 3) ≡ transitions_before subnets s + entry subnets subnet_fields s 3 = unfold sum_to in refl in
        let w : transition + k ≤ transitions_before subnets (length subnets / subnet_fields) = omega (arith, x.is_transition, q, e, sum_mono (suc s) (length subnets / subnet_fields) (λ u. entry subnets subnet_fields u 3) l) in
        record {
          begins = x.is_arc;
          rows = omega (arith, r.transition_rows);
          ends = omega (arith, r.arc_rows, sum_mono (transition + k) (transitions_before subnets (length subnets / subnet_fields)) (λ u. entry transitions transition_fields u 1) w);
        }

    pub lay_more : (one two three s1 s2 : List ℕ) (m1 m2 m3 p k end : ℕ) → p ≡ entry subnets subnet_fields s 2 → k ≡ entry subnets subnet_fields s 3 → s1 ≡ take subnet_fields (drop (subnet_fields * s) subnets)
        → s2 ≡ take (place_fields * p) (drop (place_fields * place) places) → end ≡ arcs_before transitions (transition + k)
        → length one ≡ length numbers → length two ≡ length one → length three ≡ length two
        → ((ys : List ℕ) → Leads ys numbers m → Leads (ys ++ s1) one m1) → ((ys : List ℕ) → Leads ys one m1 → Leads (ys ++ s2) two m2)
        → ((ys : List ℕ) → Leads ys two m2 → Leads (ys ++ runs transition k (transition_run transitions arcs)) three m3) → Laying three m3 (place + p) (transition + k) end (s + 1)
    unfolding subnet_run
    lay_more one two three s1 s2 m1 m2 m3 p k end ep ek e1 e2 ee l1 l2 l3 f g h =
        let q : sum_to (suc s) (λ u. entry subnets subnet_fields u 2) ≡ places_before subnets s + entry subnets subnet_fields s 2 = unfold sum_to in refl in
        let t : sum_to (suc s) (λ u. entry subnets subnet_fields u 3) ≡ transitions_before subnets s + entry subnets subnet_fields s 3 = unfold sum_to in refl in
        let z : s + 1 ≡ suc s = add-one s in
        let w : net_run s ≡ s1 ++ (s2 ++ runs transition k (transition_run transitions arcs)) = rw (e1, e2, ep, ek, x.is_place, x.is_transition) in
        record {
          is_place = rw z (omega (arith, x.is_place, ep, q));
          is_transition = rw z (omega (arith, x.is_transition, ek, t));
          is_arc = ee;
          long = l3 ∙ l2 ∙ l1 ∙ x.long;
          leads = λ xs a.
              let v : (((xs ++ runs 0 s net_run) ++ s1) ++ s2) ++ runs transition k (transition_run transitions arcs) ≡ xs ++ runs 0 (s + 1) net_run =
              append_assoc ((xs ++ runs 0 s net_run) ++ s1) s2 _
              ∙ append_assoc (xs ++ runs 0 s net_run) s1 _
              ∙ append_assoc xs (runs 0 s net_run) _
              ∙ ap (λ ys. xs ++ ys) (ap (λ ys. runs 0 s net_run ++ ys) (sym w ∙ ap net_run (sym (zero-add s))) ∙ sym (runs_suc 0 s net_run) ∙ ap (λ (i : ℕ). runs 0 i net_run) (sym z)) in
              subst (λ ys. Leads ys three m3) v (h _ (g _ (f _ (x.leads xs a))));
        }

    pub lay_done : s ≡ length subnets / subnet_fields → (xs : List ℕ) → Leads xs old n → Leads (xs ++ runs 0 (length subnets / subnet_fields) net_run) numbers m
    lay_done e xs h = rw e at (x.leads xs h)
