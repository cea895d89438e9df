-- No number of a well-formed card is at fault. Assumes nothing.
use Prim.Native.Nat.{ℕ, suc, ◌+◌, ◌^◌, ◌≤◌, ◌<◌}
use mathlib.Core.Path.{◌≡◌, refl}
use mathlib.Core.Bool.{Bool, true, false}
use native.Mathlib.Omega.{arith}
use lib.ListN.{length}
use lib.Dec.{eqb}
use borrow.Author.Tests.{eqb-true, eqb-false}
use Rattle.std.proofs.lemmas.Bool.Decides.{Decides-eqb, Decides-ltb, Decides-and}
use Rattle.card.specs.Card.{Header, Subnet, Place, Transition, Arc, Card, normal, header_of, subnet_at, place_at, transition_at, arc_at, first_place, first_transition, first_arc}
use Rattle.card.specs.Grammar.{max_count, header, subnet, place, transition, arc, card, max_version, max_subnets, max_signals}
use Rattle.card.specs.Wellformed.{PlaceRow, TransitionRow, ArcRow, Rows, Wellformed}
use Rattle.card.proofs.Decides.{le_is, implies_is, cond_is, some_unless_is}
use Rattle.card.proofs.Sums.{sum_below, all_at}
use Rattle.card.proofs.Ranges.{HeaderRow, SubnetAfter}
use Rattle.card.proofs.Walk.{Every, Proper}
use Rattle.card.proofs.EachRow.{TransitionHas, SubnetHas, rows_card}
use Rattle.card.proofs.Prefix.{Counted, places_below, transitions_below, first_place_suc, first_transition_suc}

clean_header : (h : Header) → HeaderRow h → Every Proper header h
unfolding header
clean_header h r = (
  ((some_unless_is _ _ _ (Decides-and _ _ (le_is 1 h.version) (le_is h.version max_version))).1 r.version, omega (arith, r.version)),
  (
    ((some_unless_is _ _ _ (Decides-and _ _ (le_is 1 h.subnets) (le_is h.subnets max_subnets))).1 (r.some_subnets, r.few_subnets), omega (arith, r.few_subnets)),
    (((some_unless_is _ _ _ (le_is 1 h.signals)).1 r.some_signals, omega (arith, r.few_signals)), ((refl, r.limit), ((refl, r.scale), tt))),
  ),
)

clean_subnet : (s p t : ℕ) (x : Subnet) → s < 32 → SubnetAfter s p t x → Every Proper (subnet s p t) x
unfolding subnet
clean_subnet s p t x l r = (
  ((some_unless_is _ _ _ (cond_is _ _ _ _ _ _ (Decides-eqb s 0) (Decides-eqb x.parent 0) (Decides-ltb x.parent s))).1 (λ e. (r.row.main e).0, r.row.parent), parent_small (eqb s 0) refl),
  (
    ((some_unless_is _ _ _ (implies_is _ _ _ _ (Decides-eqb s 0) (Decides-eqb x.type 0))).1 (λ e. (r.row.main e).1), r.row.type),
    (
      ((some_unless_is _ _ _ (Decides-and _ _ (le_is 1 x.places) (le_is (p + x.places) max_count))).1 (r.row.places, r.few_places), omega (arith, r.few_places)),
      (((some_unless_is _ _ _ (Decides-and _ _ (le_is 1 x.transitions) (le_is (t + x.transitions) max_count))).1 (r.row.transitions, r.few_transitions), omega (arith, r.few_transitions)), tt),
    ),
  ),
)
  where
    parent_small : (b : Bool) → eqb s 0 ≡ b → x.parent < 2 ^ 5
    parent_small true e = omega (arith, (r.row.main (eqb-true s 0 e)).0)
    parent_small false e = omega (arith, r.row.parent (eqb-false s 0 e))

clean_place : (s : ℕ) (x : Place) → PlaceRow s x → Every Proper (place s) x
unfolding place
clean_place s x r = (
  ((some_unless_is _ _ _ (implies_is _ _ _ _ (Decides-eqb s 0) (Decides-eqb x.kind normal))).1 r.main, omega (arith, r.kind)),
  (
    ((some_unless_is _ _ _ (le_is 1 x.capacity)).1 r.positive, omega (arith, r.capacity)),
    (((some_unless_is _ _ _ (le_is x.tokens x.capacity)).1 r.tokens, omega (arith, r.tokens, r.capacity)), tt),
  ),
)

clean_transition : (v g : ℕ) (x : Transition) → g ≤ max_signals → TransitionRow v g x → Every Proper (transition v g) x
unfolding transition
clean_transition v g x l r = (
  ((some_unless_is _ _ _ (Decides-ltb x.signal g)).1 r.signal, omega (arith, r.signal)),
  (((some_unless_is _ _ _ (le_is 1 x.arcs)).1 r.positive, omega (arith, r.arcs)), ((refl, r.rank), tt)),
)

clean_arc : (x : Arc) → ArcRow x → Every Proper arc x
unfolding arc
clean_arc x r = ((refl, omega (arith, r.direction)), ((refl, r.subnet), ((refl, r.place), ((refl, r.weight), tt))))

pub rows_counted : (c : Card) → Rows c → Counted c
rows_counted c r = record { places = r.place_count; transitions = r.transition_count; arcs = r.arc_count }

module _ (c : Card) (w : Wellformed c) where
  abbrev n : Counted c
  n = rows_counted c w.rows

  arc_row : (u j : ℕ) → u < length c.transitions → j < (transition_at c u).arcs → ArcRow (arc_at c u j)
  unfolding first_arc
  arc_row u j l m = all_at ArcRow c.arcs _ w.rows.arcs (first_arc c u + j) (omega (arith, w.rows.arc_count, sum_below (length c.transitions) (λ v. (transition_at c v).arcs) u j l m))

  header_row : HeaderRow (header_of c)
  header_row = record { version = w.version; some_subnets = w.some_subnets; few_subnets = w.few_subnets; some_signals = w.some_signals; few_signals = w.few_signals; limit = w.limit; scale = w.scale }

  transition_clean : (u : ℕ) → u < length c.transitions → TransitionHas Proper c c.version c.signals u
  transition_clean u l =
      record {
        row = clean_transition c.version c.signals (transition_at c u) w.few_signals (all_at (TransitionRow c.version c.signals) c.transitions _ w.rows.transitions u l);
        arcs = λ j m. clean_arc (arc_at c u j) (arc_row u j l m);
      }

  subnet_clean : (i : ℕ) → i < length c.subnets → SubnetHas Proper c c.version c.signals i (first_place c i) (first_transition c i)
  subnet_clean i l =
      let after : SubnetAfter i (first_place c i) (first_transition c i) (subnet_at c i) = record {
        row = w.rows.subnet i l;
        few_places = omega (arith, first_place_suc c n i, places_below c n (suc i) (omega arith), w.rows.few_places);
        few_transitions = omega (arith, first_transition_suc c n i, transitions_below c n (suc i) (omega arith), w.rows.few_transitions);
      } in
      record {
        row = clean_subnet i (first_place c i) (first_transition c i) (subnet_at c i) (omega (arith, w.few_subnets)) after;
        places = λ k a b. clean_place i (place_at c k) (w.rows.place i k l a (omega (arith, first_place_suc c n i)));
        transitions = λ u a b. transition_clean u (omega (arith, first_transition_suc c n i, transitions_below c n (suc i) (omega arith)));
      }

  -- NO NUMBER OF A WELL-FORMED CARD IS AT FAULT
  pub clean_card : Every Proper card c
  clean_card = rows_card Proper c n (record { header = clean_header (header_of c) header_row; subnets = subnet_clean })
