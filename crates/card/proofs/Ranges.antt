-- What is read is well formed: pass one asks all that 'The card' says of a card's rows. Assumes nothing.
use Prim.Native.Nat.{ℕ, suc, ◌+◌, ◌-◌, ◌≤◌, ◌<◌, ◌^◌}
use mathlib.Core.Path.{◌≡◌, refl, ap, ◌∙◌}
use mathlib.Core.Bool.{Bool, true, false}
use mathlib.Core.List.{List, [], ◌∷◌, ◌++◌, map, flatten}
use mathlib.Core.Option.{Option, none, some}
use native.Mathlib.Omega.{arith}
use lib.ListN.{length, get_or, length-append, get_or-append}
use lib.Seq.{get_or-append_seam, get_or-append-add}
use lib.Dec.{eqb}
use borrow.Author.Tests.{eqb-true, eqb-false}
use Rattle.std.proofs.lemmas.List.{length-map}
use Rattle.std.proofs.lemmas.Bool.Decides.{Decides-eqb, Decides-ltb, Decides-and}
use Rattle.card.specs.Finite.{sum_to, All}
use Rattle.card.specs.Card.{Header, Subnet, Place, Transition, Arc, Card, normal, header_of, subnet_at, place_at, transition_at, arc_at, first_place, first_transition, first_arc, no_place, no_transition}
use Rattle.card.specs.Format.{of, each, grow}
use Rattle.card.specs.Grammar.{max_version, max_count, header, subnet, place, transition, arc, whole_transition, with, whole_subnet, card, max_subnets, max_signals, limit_width, scale_width, header_alone}
use Rattle.card.specs.Parsing.{Parsing, refused, whole, read, excess, closed, ended, read_card}
use Rattle.card.specs.Wellformed.{SubnetRow, PlaceRow, TransitionRow, ArcRow, Rows, Wellformed}
use Rattle.card.proofs.Decides.{le_is, implies_is, cond_is, some_unless_is}
use Rattle.card.proofs.Sums.{sum_same, sum_mono, sum_list, total, total_append, all_append, all_map, all_more, all_at}
use Rattle.card.proofs.Yields.{Yields, Listed, not_whole, yields_read, yields_more, yields_then, yields_of, yields_each, yields_grow}

-- the rows by themselves
pub record HeaderRow (h : Header) : Type 0 where
  pub version : (1 ≤ h.version) × (h.version ≤ max_version)
  pub some_subnets : 1 ≤ h.subnets
  pub few_subnets : h.subnets ≤ max_subnets
  pub some_signals : 1 ≤ h.signals
  pub few_signals : h.signals ≤ max_signals
  pub limit : h.limit < 2 ^ limit_width h.version
  pub scale : h.scale < 2 ^ scale_width h.version

header_yields : Yields header HeaderRow
unfolding header
header_yields =
    λ v lv ev s ls es g lg eg m lm em q lq eq.
    let k = (some_unless_is _ _ _ (Decides-and _ _ (le_is 1 s) (le_is s max_subnets))).0 es in
    record {
      version = (some_unless_is _ _ _ (Decides-and _ _ (le_is 1 v) (le_is v max_version))).0 ev;
      some_subnets = k.0;
      few_subnets = k.1;
      some_signals = (some_unless_is _ _ _ (le_is 1 g)).0 eg;
      few_signals = omega (arith, lg);
      limit = lm;
      scale = lq;
    }

pub record SubnetAfter (s p t : ℕ) (r : Subnet) : Type 0 where
  pub row : SubnetRow s r
  pub few_places : p + r.places ≤ max_count
  pub few_transitions : t + r.transitions ≤ max_count

subnet_yields : (s p t : ℕ) → Yields (subnet s p t) (SubnetAfter s p t)
unfolding subnet
subnet_yields s p t =
    λ parent lparent eparent type ltype etype places lplaces eplaces transitions ltransitions etransitions.
    let a = (some_unless_is _ _ _ (cond_is _ _ _ _ _ _ (Decides-eqb s 0) (Decides-eqb parent 0) (Decides-ltb parent s))).0 eparent in
    let b = (some_unless_is _ _ _ (implies_is _ _ _ _ (Decides-eqb s 0) (Decides-eqb type 0))).0 etype in
    let c = (some_unless_is _ _ _ (Decides-and _ _ (le_is 1 places) (le_is (p + places) max_count))).0 eplaces in
    let d = (some_unless_is _ _ _ (Decides-and _ _ (le_is 1 transitions) (le_is (t + transitions) max_count))).0 etransitions in
    record {
      row = record { main = λ e. (a.0 e, b e); parent = a.1; type = ltype; places = c.0; transitions = d.0 };
      few_places = c.1;
      few_transitions = d.1;
    }

place_yields : (s : ℕ) → Yields (place s) (PlaceRow s)
unfolding place
place_yields s =
    λ kind lkind ekind capacity lcapacity ecapacity tokens ltokens etokens.
    record {
      main = (some_unless_is _ _ _ (implies_is _ _ _ _ (Decides-eqb s 0) (Decides-eqb kind normal))).0 ekind;
      kind = omega arith;
      positive = (some_unless_is _ _ _ (le_is 1 capacity)).0 ecapacity;
      capacity = omega arith;
      tokens = (some_unless_is _ _ _ (le_is tokens capacity)).0 etokens;
    }

transition_yields : (version signals : ℕ) → Yields (transition version signals) (TransitionRow version signals)
unfolding transition
transition_yields version signals =
    λ signal lsignal esignal arcs larcs earcs rank lrank erank.
    record {
      signal = (some_unless_is _ _ _ (Decides-ltb signal signals)).0 esignal;
      positive = (some_unless_is _ _ _ (le_is 1 arcs)).0 earcs;
      arcs = omega (arith, larcs);
      rank = lrank;
    }

arc_yields : Yields arc ArcRow
unfolding arc
arc_yields = λ d ld ed s ls es p lp ep w lw ew. record { direction = omega arith; subnet = ls; place = lp; weight = lw }

-- a transition with its arcs
pub record TransitionArcs (version signals : ℕ) (x : Transition × List Arc) : Type 0 where
  pub row : TransitionRow version signals x.0
  pub arcs : Listed ArcRow x.0.arcs x.1

pub whole_transition_yields : (version signals t : ℕ) → Yields (whole_transition version signals t) (TransitionArcs version signals)
unfolding whole_transition
whole_transition_yields version signals t =
    yields_then (of (λ c. transition_at c t) (transition version signals)) _ (TransitionRow version signals) (TransitionArcs version signals)
    (yields_of _ (transition version signals) _ (transition_yields version signals))
    (λ row h. yields_then (each 0 row.arcs (λ j. of (λ (c : Card). arc_at c t j) arc)) _ (Listed ArcRow row.arcs) (TransitionArcs version signals)
    (yields_each 0 row.arcs _ ArcRow (λ j. yields_of _ arc _ arc_yields)) (λ arcs k. record { row = h; arcs = k }))

-- one subnet more: the rows so far keep their places
flatten_length : (version signals : ℕ) (ts : List (Transition × List Arc)) → All (TransitionArcs version signals) ts
    → length (flatten (map (λ t. t.1) ts)) ≡ total (λ t. t.arcs) (map (λ t. t.0) ts)
unfolding flatten
flatten_length version signals [] h = refl
flatten_length version signals (x ∷ ts) h =
    length-append x.1 (flatten (map (λ t. t.1) ts)) ∙ omega (arith, h.0.arcs.long, flatten_length version signals ts h.1)

flatten_all : (version signals : ℕ) (ts : List (Transition × List Arc)) → All (TransitionArcs version signals) ts → All ArcRow (flatten (map (λ t. t.1) ts))
unfolding flatten
flatten_all version signals [] h = tt
flatten_all version signals (x ∷ ts) h = all_append ArcRow x.1 _ h.0.arcs.members (flatten_all version signals ts h.1)

module _ (c : Card) (r : Subnet) (ps : List Place) (ts : List (Transition × List Arc)) where
  more : Card
  more = with c r ps ts

  abbrev S : ℕ
  S = length c.subnets

  subnets_long : length more.subnets ≡ suc S
  unfolding more
  subnets_long = length-append c.subnets (r ∷ []) ∙ omega arith

  subnet_old : (s : ℕ) → s < S → subnet_at more s ≡ subnet_at c s
  unfolding more
  subnet_old s l = get_or-append c.subnets (r ∷ []) _ s l

  subnet_new : subnet_at more S ≡ r
  unfolding more
  subnet_new = get_or-append_seam c.subnets r [] _

  -- a count over the subnets, before and with the new one
  first_old : (f : Subnet → ℕ) (s : ℕ) → s ≤ S → sum_to s (λ i. f (subnet_at more i)) ≡ sum_to s (λ i. f (subnet_at c i))
  first_old f s l = sum_same s _ _ (λ i m. ap f (subnet_old i (omega arith)))

  first_new : (f : Subnet → ℕ) → sum_to (suc S) (λ i. f (subnet_at more i)) ≡ sum_to S (λ i. f (subnet_at c i)) + f r
  unfolding sum_to
  first_new f = omega (arith, first_old f S (omega arith), ap f subnet_new)

  place_old : (p : ℕ) → p < length c.places → place_at more p ≡ place_at c p
  unfolding more
  place_old p l = get_or-append c.places ps _ p l

  place_new : (k : ℕ) → place_at more (length c.places + k) ≡ get_or ps k no_place
  unfolding more
  place_new k = get_or-append-add c.places ps k _

  module _ (old : Rows c) (new : SubnetAfter S (length c.places) (length c.transitions) r)
      (nps : Listed (PlaceRow S) r.places ps) (nts : Listed (TransitionArcs c.version c.signals) r.transitions ts) where
    places_long : length more.places ≡ length c.places + r.places
    unfolding more
    places_long = length-append c.places ps ∙ ap (λ (n : ℕ). length c.places + n) nps.long

    transitions_long : length more.transitions ≡ length c.transitions + r.transitions
    unfolding more
    transitions_long =
        length-append c.transitions (map (λ t. t.0) ts)
        ∙ ap (λ (n : ℕ). length c.transitions + n) (length-map ts (λ t. t.0) ∙ nts.long)

    more_place_count : length more.places ≡ first_place more (length more.subnets)
    unfolding first_place
    more_place_count = rw subnets_long (places_long ∙ omega (arith, old.place_count, first_new (λ x. x.places)))

    more_transition_count : length more.transitions ≡ first_transition more (length more.subnets)
    unfolding first_transition
    more_transition_count = rw subnets_long (transitions_long ∙ omega (arith, old.transition_count, first_new (λ x. x.transitions)))

    more_arc_count : length more.arcs ≡ first_arc more (length more.transitions)
    unfolding first_arc more
    more_arc_count =
        length-append c.arcs (flatten (map (λ t. t.1) ts)) ∙ omega (
          arith,
          old.arc_count,
          flatten_length c.version c.signals ts nts.members,
          sum_list (λ t. t.arcs) c.transitions no_transition,
          total_append (λ t. t.arcs) c.transitions (map (λ t. t.0) ts),
          sum_list (λ t. t.arcs) (c.transitions ++ map (λ t. t.0) ts) no_transition,
        )

    more_subnet : (s : ℕ) → s < length more.subnets → SubnetRow s (subnet_at more s)
    more_subnet s l = go (eqb s S) refl
      where
        go : (b : Bool) → eqb s S ≡ b → SubnetRow s (subnet_at more s)
        go true e = rw (eqb-true s S e, subnet_new) new.row
        go false e = rw (subnet_old s (omega (arith, subnets_long, eqb-false s S e))) (old.subnet s (omega (arith, subnets_long, eqb-false s S e)))

    more_place : (s p : ℕ) → s < length more.subnets → first_place more s ≤ p → p < first_place more (suc s) → PlaceRow s (place_at more p)
    unfolding first_place
    more_place s p l low high = go (eqb s S) refl
      where
        at : (k : ℕ) → p ≡ length c.places + k → k < r.places → PlaceRow S (place_at more p)
        at k e m = rw (e, place_new k) (all_at (PlaceRow S) ps _ nps.members k (omega (arith, nps.long)))

        go : (b : Bool) → eqb s S ≡ b → PlaceRow s (place_at more p)
        go true e =
            let q : s ≡ S = eqb-true s S e in
            let a : sum_to S (λ i. (subnet_at more i).places) ≤ p = rw q at low in
            let b : p < sum_to (suc S) (λ i. (subnet_at more i).places) = rw q at high in
            rw q (at (p - length c.places) (omega (arith, old.place_count, first_old (λ x. x.places) S (omega arith)))
            (omega (arith, old.place_count, first_new (λ x. x.places), first_old (λ x. x.places) S (omega arith))))
        go false e =
            let m : s < S = omega (arith, subnets_long, eqb-false s S e) in
            let a = first_old (λ x. x.places) s (omega arith) in
            let b = first_old (λ x. x.places) (suc s) (omega arith) in
            let d = sum_mono (suc s) S (λ i. (subnet_at c i).places) (omega arith) in
            rw (place_old p (omega (arith, old.place_count))) (old.place s p m (omega arith) (omega arith))

    more_rows : Rows more
    unfolding more
    more_rows =
        record {
          place_count = more_place_count;
          transition_count = more_transition_count;
          arc_count = more_arc_count;
          few_places = omega (arith, places_long, new.few_places);
          few_transitions = omega (arith, transitions_long, new.few_transitions);
          subnet = more_subnet;
          place = more_place;
          transitions = all_append _ c.transitions _ old.transitions (all_map _ _ ts (all_more _ _ (λ x h. h.row) ts nts.members));
          arcs = all_append ArcRow c.arcs _ old.arcs (flatten_all c.version c.signals ts nts.members);
        }

-- after i subnets
pub record After (h : Header) (i : ℕ) (c : Card) : Type 0 where
  pub version : c.version ≡ h.version
  pub signals : c.signals ≡ h.signals
  pub limit : c.limit ≡ h.limit
  pub scale : c.scale ≡ h.scale
  pub subnets : length c.subnets ≡ i
  pub rows : Rows c

pub whole_subnet_yields : (h : Header) (i : ℕ) (c : Card) → After h i c → Yields (whole_subnet c) (After h (suc i))
unfolding whole_subnet
whole_subnet_yields h i c a =
    yields_then (of (λ (k : Card). subnet_at k s) (subnet s p t)) _ (SubnetAfter s p t) (After h (suc i)) (yields_of _ (subnet s p t) _ (subnet_yields s p t))
    (λ r new. yields_then (each p r.places (λ k. of (λ (d : Card). place_at d k) (place s))) _ (Listed (PlaceRow s) r.places) (After h (suc i))
    (yields_each p r.places _ (PlaceRow s) (λ k. yields_of _ (place s) _ (place_yields s)))
    (λ ps nps. yields_then (each t r.transitions (whole_transition c.version c.signals)) _ (Listed (TransitionArcs c.version c.signals) r.transitions) (After h (suc i))
    (yields_each t r.transitions _ (TransitionArcs c.version c.signals) (whole_transition_yields c.version c.signals))
    (λ ts nts. record {
      version = a.version;
      signals = a.signals;
      limit = a.limit;
      scale = a.scale;
      subnets = unfold more in subnets_long c r ps ts ∙ ap suc a.subnets;
      rows = unfold more in more_rows c r ps ts a.rows new nps nts;
    })))
  where
    s : ℕ
    s = length c.subnets

    p : ℕ
    p = length c.places

    t : ℕ
    t = length c.transitions

unfoldable pub start : Header → Card
start h = header_alone h

pub no_rows : (h : Header) → Rows (start h)
unfolding start first_place first_transition first_arc sum_to
no_rows h =
    record {
      place_count = refl;
      transition_count = refl;
      arc_count = refl;
      few_places = omega arith;
      few_transitions = omega arith;
      subnet = λ s l. absurd (omega arith);
      place = λ s p l. absurd (omega arith);
      transitions = tt;
      arcs = tt;
    }

pub no_subnets : (h : Header) → After h 0 (start h)
unfolding start
no_subnets h = record { version = refl; signals = refl; limit = refl; scale = refl; subnets = refl; rows = no_rows h }

pub grow_yields : (h : Header) → Yields (grow h.subnets whole_subnet (start h)) (After h (0 + h.subnets))
grow_yields h = yields_grow h.subnets whole_subnet (After h) (whole_subnet_yields h) 0 (start h) (no_subnets h)

pub card_yields : Yields card Wellformed
unfolding card start
card_yields =
    yields_then (of header_of header) _ HeaderRow Wellformed (yields_of header_of header HeaderRow header_yields)
    (λ h row. yields_more (grow h.subnets whole_subnet (start h)) (After h (0 + h.subnets)) Wellformed (λ c a. record {
      version = rw a.version row.version;
      some_subnets = omega (arith, a.subnets, row.some_subnets);
      few_subnets = omega (arith, a.subnets, row.few_subnets);
      some_signals = omega (arith, a.signals, row.some_signals);
      few_signals = omega (arith, a.signals, row.few_signals);
      limit = rw (a.limit, a.version) row.limit;
      scale = rw (a.scale, a.version) row.scale;
      rows = a.rows;
    }) (grow_yields h))

-- WHAT IS READ IS WELL FORMED
pub read_wellformed : (bytes : List ℕ) (c : Card) (end : ℕ) → read_card bytes ≡ whole c end → Wellformed c
unfolding read_card
read_wellformed bytes c end e = go (read bytes card 0) refl e
  where
    here : (d : Card) (at : ℕ) (x : Option ℕ) → read bytes card 0 ≡ whole d at → closed x d at ≡ whole c end → Wellformed c
    here d at none p q = yields_read bytes card Wellformed card_yields 0 at c (cc)
    here d at (some i) p q = absurd (not_whole _ _ _ _ q)

    go : (x : Parsing Card) → read bytes card 0 ≡ x → ended bytes x ≡ whole c end → Wellformed c
    go (refused n at) p q = absurd (not_whole _ _ _ _ q)
    go (whole d at) p q = here d at (excess bytes at) p q
