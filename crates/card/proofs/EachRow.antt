-- A property of each number of a card is one of each number of its rows. Assumes nothing.
use Prim.Native.Nat.{ℕ, zero, suc, ◌+◌, ◌≤◌, ◌<◌}
use mathlib.Core.Path.{◌≡◌, refl, sym, subst}
use mathlib.Core.Bool.{Bool, true, false}
use mathlib.Core.Option.{Option}
use native.Mathlib.Omega.{arith}
use lib.ListN.{length}
use lib.Dec.{eqb}
use borrow.Author.Tests.{eqb-true, eqb-false}
use Rattle.card.specs.Card.{Card, header_of, subnet_at, place_at, transition_at, arc_at, first_place, first_transition}
use Rattle.card.specs.Format.{of, each, grow}
use Rattle.card.specs.Grammar.{header, subnet, place, transition, arc, whole_transition, whole_subnet, card}
use Rattle.card.specs.declared.FormatFault.{FormatFault}
use Rattle.card.proofs.Walk.{Every, built_of, every_then, every_of, every_each, then_every, of_every, each_every}
use Rattle.card.proofs.Prefix.{Counted, prefix, built_header, built_subnet, built_transition, prefix_none, prefix_subnets, prefix_places, prefix_transitions, built_more}

module _ (P : ℕ → ℕ → Option FormatFault → Type 0) (c : Card) where
  -- transition t with its arcs
  pub record TransitionHas (v g t : ℕ) : Type 0 where
    pub row : Every P (transition v g) (transition_at c t)
    pub arcs : (j : ℕ) → j < (transition_at c t).arcs → Every P arc (arc_at c t j)

  -- subnet s, with its places from p and its transitions from t on
  pub record SubnetHas (v g s p t : ℕ) : Type 0 where
    pub row : Every P (subnet s p t) (subnet_at c s)
    pub places : (i : ℕ) → p ≤ i → i < p + (subnet_at c s).places → Every P (place s) (place_at c i)
    pub transitions : (u : ℕ) → t ≤ u → u < t + (subnet_at c s).transitions → TransitionHas v g u

  pub record RowsHave : Type 0 where
    pub header : Every P header (header_of c)
    pub subnets : (s : ℕ) → s < length c.subnets → SubnetHas c.version c.signals s (first_place c s) (first_transition c s)

  transition_whole : (v g t : ℕ) → TransitionHas v g t → Every P (whole_transition v g t) c
  unfolding whole_transition
  transition_whole v g t r =
      every_then P (of (λ (d : Card). transition_at d t) (transition v g)) _ c (every_of P (λ (d : Card). transition_at d t) (transition v g) c r.row)
      (rw (built_of (λ (d : Card). transition_at d t) (transition v g) c, built_transition v g (transition_at c t))
      (every_then P (each 0 (transition_at c t).arcs (λ j. of (λ (d : Card). arc_at d t j) arc)) _ c
      (every_each P 0 (transition_at c t).arcs _ c (λ j a b. every_of P (λ (d : Card). arc_at d t j) arc c (r.arcs j (omega arith)))) tt))

  whole_transition_has : (v g t : ℕ) → Every P (whole_transition v g t) c → TransitionHas v g t
  unfolding whole_transition
  whole_transition_has v g t h =
      let x = then_every P (of (λ (d : Card). transition_at d t) (transition v g)) _ c h in
      let y = rw (built_of (λ (d : Card). transition_at d t) (transition v g) c, built_transition v g (transition_at c t)) at x.1 in
      let z = then_every P (each 0 (transition_at c t).arcs (λ j. of (λ (d : Card). arc_at d t j) arc)) _ c y in
      record {
        row = of_every P (λ (d : Card). transition_at d t) (transition v g) c x.0;
        arcs = λ j l. of_every P (λ (d : Card). arc_at d t j) arc c (each_every P 0 (transition_at c t).arcs _ c z.0 j (omega arith) (omega arith));
      }

  module _ (sofar : Card) where
    abbrev v : ℕ
    v = sofar.version

    abbrev g : ℕ
    g = sofar.signals

    abbrev s : ℕ
    s = length sofar.subnets

    abbrev p : ℕ
    p = length sofar.places

    abbrev t : ℕ
    t = length sofar.transitions

    subnet_whole : SubnetHas v g s p t → Every P (whole_subnet sofar) c
    unfolding whole_subnet
    subnet_whole r =
        every_then P (of (λ (d : Card). subnet_at d s) (subnet s p t)) _ c (every_of P (λ (d : Card). subnet_at d s) (subnet s p t) c r.row)
        (rw (built_of (λ (d : Card). subnet_at d s) (subnet s p t) c, built_subnet s p t (subnet_at c s))
        (every_then P (each p (subnet_at c s).places (λ i. of (λ (d : Card). place_at d i) (place s))) _ c
        (every_each P p (subnet_at c s).places _ c (λ i a b. every_of P (λ (d : Card). place_at d i) (place s) c (r.places i a b)))
        (every_then P (each t (subnet_at c s).transitions (whole_transition v g)) _ c
        (every_each P t (subnet_at c s).transitions _ c (λ u a b. transition_whole v g u (r.transitions u a b))) tt)))

    whole_subnet_has : Every P (whole_subnet sofar) c → SubnetHas v g s p t
    unfolding whole_subnet
    whole_subnet_has h =
        let x = then_every P (of (λ (d : Card). subnet_at d s) (subnet s p t)) _ c h in
        let y = rw (built_of (λ (d : Card). subnet_at d s) (subnet s p t) c, built_subnet s p t (subnet_at c s)) at x.1 in
        let z = then_every P (each p (subnet_at c s).places (λ i. of (λ (d : Card). place_at d i) (place s))) _ c y in
        let w = then_every P (each t (subnet_at c s).transitions (whole_transition v g)) _ c z.1 in
        record {
          row = of_every P (λ (d : Card). subnet_at d s) (subnet s p t) c x.0;
          places = λ i a b. of_every P (λ (d : Card). place_at d i) (place s) c (each_every P p (subnet_at c s).places _ c z.0 i a b);
          transitions = λ u a b. whole_transition_has v g u (each_every P t (subnet_at c s).transitions _ c w.0 u a b);
        }

  module _ (n : Counted c) where
    -- the rows of a prefix are counted as those of the card
    prefix_has : (i : ℕ) → i ≤ length c.subnets → SubnetHas c.version c.signals i (first_place c i) (first_transition c i) ≡ SubnetHas (prefix c i).version (prefix c i).signals (length (prefix c i).subnets) (length (prefix c i).places) (length (prefix c i).transitions)
    prefix_has i l = rw (prefix_subnets c n i l, prefix_places c n i l, prefix_transitions c n i l) (unfold prefix in refl)

    rows_grow : RowsHave → (k i : ℕ) → i + k ≤ length c.subnets → Every P (grow k whole_subnet (prefix c i)) c
    unfolding grow
    rows_grow r zero i h = tt
    rows_grow r (suc k) i h =
        every_then P (whole_subnet (prefix c i)) _ c (subnet_whole (prefix c i) (subst (λ T. T) (prefix_has i (omega arith)) (r.subnets i (omega arith))))
        (rw (built_more c n i (omega arith)) (rows_grow r k (suc i) (omega arith)))

    grow_rows : (k i : ℕ) → i + k ≤ length c.subnets → Every P (grow k whole_subnet (prefix c i)) c → (s : ℕ) → i ≤ s → s < i + k → SubnetHas c.version c.signals s (first_place c s) (first_transition c s)
    unfolding grow
    grow_rows zero i h e s a b = absurd (omega arith)
    grow_rows (suc k) i h e s a b =
        let x = then_every P (whole_subnet (prefix c i)) _ c e in
        let y = rw (built_more c n i (omega arith)) at x.1 in
        go (eqb i s) refl (subst (λ T. T) (sym (prefix_has i (omega arith))) (whole_subnet_has (prefix c i) x.0)) (λ l. grow_rows k (suc i) (omega arith) y s l (omega arith))
      where
        go : (t : Bool) → eqb i s ≡ t → SubnetHas c.version c.signals i (first_place c i) (first_transition c i)
            → (suc i ≤ s → SubnetHas c.version c.signals s (first_place c s) (first_transition c s)) → SubnetHas c.version c.signals s (first_place c s) (first_transition c s)
        go true e h k = subst (λ (j : ℕ). SubnetHas c.version c.signals j (first_place c j) (first_transition c j)) (eqb-true i s e) h
        go false e h k = k (omega (arith, eqb-false i s e))

    -- EACH NUMBER OF A CARD IS ONE OF ITS ROWS, AND THE OTHER WAY ROUND
    pub rows_card : RowsHave → Every P card c
    unfolding card
    rows_card r =
        every_then P (of header_of header) _ c (every_of P header_of header c r.header)
        (rw (built_of header_of header c, built_header (header_of c), ← prefix_none c n) (rows_grow r (length c.subnets) 0 (omega arith)))

    pub card_rows : Every P card c → RowsHave
    unfolding card
    card_rows h =
        let x = then_every P (of header_of header) _ c h in
        let y = rw (built_of header_of header c, built_header (header_of c), ← prefix_none c n) at x.1 in
        record { header = of_every P header_of header c x.0; subnets = λ s l. grow_rows (length c.subnets) 0 (omega arith) y s (omega arith) (omega arith) }
