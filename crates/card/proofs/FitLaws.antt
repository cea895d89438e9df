-- The numbers of tables fit their fields just where the slices' numbers fit their columns. Assumes nothing.
use Prim.Native.Nat.{ℕ, zero, suc, ◌+◌, ◌-◌, ◌*◌, ◌/◌, ◌%◌, ◌^◌, ◌<◌}
use mathlib.Core.Path.{◌≡◌, refl, subst, ◌∙◌}
use mathlib.Core.Bool.{true}
use mathlib.Core.List.{List, [], ◌∷◌}
use native.Mathlib.Omega.{arith}
use native.Mathlib.Nat.{mod-lt, mod-eq_of_lt, mul-add-mod_self_left, mul_comm, div-add-mod, div-lt_iff_lt-mul}
use lib.ListN.{length, get_or}
use Rattle.card.specs.Finite.{sum_to}
use Rattle.card.specs.Card.{Card, header_of, subnet_at, place_at, transition_at, arc_at, first_place, first_transition, first_arc, subnet_fields, place_fields, transition_fields, arc_fields}
use Rattle.card.specs.Grammar.{header, subnet, place, transition, arc, card}
use Rattle.card.specs.Writing.{fields, all_fit}
use Rattle.card.specs.Rows.{entry, tables_in}
use Rattle.card.specs.inner.Runs.{RowsFit, subnet_widths, place_widths, transition_widths, arc_widths, HeaderFits, ValuesFit}
use Rattle.card.specs.declared.Head.{Head}
use Rattle.card.proofs.Sums.{sum_owner, sum_below}
use Rattle.card.proofs.Walk.{Every, Fits, fits_all, all_fits}
use Rattle.card.proofs.Prefix.{Counted, places_below, transitions_below, first_place_suc, first_transition_suc}
use Rattle.card.proofs.EachRow.{TransitionHas, RowsHave, rows_card, card_rows}
use Rattle.card.proofs.RowLaws.{entry_inside}
use Rattle.card.proofs.TableLaws.{subnet_row, place_row, transition_row_is, arc_row, subnet_count, place_count, transition_count, arc_count}

pub record Whole (subnets places transitions arcs : List ℕ) : Type 0 where
  pub subnets_end : length subnets % subnet_fields ≡ 0
  pub places_end : length places % place_fields ≡ 0
  pub transitions_end : length transitions % transition_fields ≡ 0
  pub arcs_end : length arcs % arc_fields ≡ 0

-- a number in a row fits its column
pub fit_entry : (rows widths : List ℕ) → RowsFit rows widths → (s k : ℕ) → s < length rows / length widths → k < length widths → entry rows (length widths) s k < 2 ^ get_or widths k 0
fit_entry rows widths f s k l h =
    let e : (length widths * s + k) % length widths ≡ k = mul-add-mod_self_left (length widths) s k ∙ mod-eq_of_lt h in
    subst (λ (i : ℕ). entry rows (length widths) s k < 2 ^ get_or widths i 0) e (f (length widths * s + k) (entry_inside (length rows) (length widths) s k l h))

-- numbers of whole rows are known by row and column
row_known : (rows widths : List ℕ) → 0 < length widths → length rows % length widths ≡ 0
    → ((s k : ℕ) → s < length rows / length widths → k < length widths → entry rows (length widths) s k < 2 ^ get_or widths k 0) → RowsFit rows widths
row_known rows widths pos w f i l =
    let e : length widths * (i / length widths) + i % length widths ≡ i = div-add-mod i (length widths) in
    let a : length rows ≡ length rows / length widths * length widths = omega (arith, w, div-add-mod (length rows) (length widths), mul_comm (length widths) (length rows / length widths)) in
    let b : i / length widths < length rows / length widths = (div-lt_iff_lt-mul pos).1 (omega arith) in
    subst (λ (j : ℕ). get_or rows j 0 < 2 ^ get_or widths (i % length widths) 0) e (f (i / length widths) (i % length widths) b (mod-lt i pos))

-- numbers from one on fit widths, as the fields of a row do
abbrev Columns : (ℕ → ℕ) → ℕ → List ℕ → Type 0
Columns f from [] = Unit {0}
Columns f from (w ∷ ws) = (f from < 2 ^ w) × Columns f (suc from) ws

column_at : (f : ℕ → ℕ) (from : ℕ) (ws : List ℕ) → Columns f from ws → (k : ℕ) → k < length ws → f (from + k) < 2 ^ get_or ws k 0
column_at f from [] h k l = absurd (omega arith)
column_at f from (w ∷ ws) h zero l = let e : from + zero ≡ from = omega arith in rw e h.0
column_at f from (w ∷ ws) h (suc k) l = let e : from + suc k ≡ suc from + k = omega arith in rw e (column_at f (suc from) ws h.1 k (omega arith))

module _ (head : Head) (subnets places transitions arcs : List ℕ) (n : Counted (tables_in head subnets places transitions arcs)) where
  abbrev c : Card
  c = tables_in head subnets places transitions arcs

  module _ (f : ValuesFit head subnets places transitions arcs) where
    header_has : Every Fits header (header_of c)
    unfolding header tables_in
    header_has = (f.header.version, (rw (subnet_count head subnets places transitions arcs) f.header.subnets, (f.header.signals, (f.header.limit, (f.header.scale, tt)))))

    subnet_has : (s p t : ℕ) → s < length subnets / subnet_fields → Every Fits (subnet s p t) (subnet_at c s)
    unfolding subnet
    subnet_has s p t l =
        let x = fit_entry subnets subnet_widths f.subnets s in
        rw (subnet_row head subnets places transitions arcs s l) (x 0 l (omega arith), (x 1 l (omega arith), (x 2 l (omega arith), (x 3 l (omega arith), tt))))

    place_has : (s p : ℕ) → p < length places / place_fields → Every Fits (place s) (place_at c p)
    unfolding place
    place_has s p l =
        let x = fit_entry places place_widths f.places p in
        rw (place_row head subnets places transitions arcs p l) (x 0 l (omega arith), (x 1 l (omega arith), (x 2 l (omega arith), tt)))

    transition_has : (t : ℕ) → t < length transitions / transition_fields → Every Fits (transition head.version head.signals) (transition_at c t)
    unfolding transition
    transition_has t l =
        let x = fit_entry transitions (transition_widths head.version) f.transitions t in
        rw (transition_row_is head subnets places transitions arcs t l) (x 0 l (omega arith), (x 1 l (omega arith), (x 2 l (omega arith), tt)))

    arc_has : (t j : ℕ) → first_arc c t + j < length arcs / arc_fields → Every Fits arc (arc_at c t j)
    unfolding arc
    arc_has t j l =
        let x = fit_entry arcs arc_widths f.arcs (first_arc c t + j) in
        rw (arc_row head subnets places transitions arcs (first_arc c t + j) l) (x 0 l (omega arith), (x 1 l (omega arith), (x 2 l (omega arith), (x 3 l (omega arith), tt))))

    whole_has : (u : ℕ) → u < length c.transitions → TransitionHas Fits c c.version c.signals u
    unfolding tables_in first_arc
    whole_has u l =
        record {
          row = transition_has u (omega (arith, transition_count head subnets places transitions arcs));
          arcs = λ j m. arc_has u j (omega (arith, n.arcs, arc_count head subnets places transitions arcs, sum_below (length c.transitions) (λ w. (transition_at c w).arcs) u j l m));
        }

    -- VALUES THAT FIT THEIR COLUMNS FIT THEIR FIELDS
    pub fits_fields : all_fit (fields card c) ≡ true
    fits_fields =
        fits_all card c
        (rows_card Fits c n
        (record {
          header = header_has;
          subnets = λ s l. record {
            row = subnet_has s _ _ (omega (arith, subnet_count head subnets places transitions arcs));
            places = λ i a b. place_has s i (omega (arith, place_count head subnets places transitions arcs, first_place_suc c n s, places_below c n (suc s) l));
            transitions = λ u a b. whole_has u (omega (arith, first_transition_suc c n s, transitions_below c n (suc s) l));
          };
        }))

  module _ (w : Whole subnets places transitions arcs) (h : all_fit (fields card c) ≡ true) where
    rows : RowsHave Fits c
    rows = card_rows Fits c n (all_fits card c h)

    known : (xs ws : List ℕ) → 0 < length ws → length xs % length ws ≡ 0 → ((s : ℕ) → s < length xs / length ws → Columns (entry xs (length ws) s) 0 ws) → RowsFit xs ws
    known xs ws pos e f = row_known xs ws pos e (λ s k l m. let z : 0 + k ≡ k = omega arith in rw z at (column_at (entry xs (length ws) s) 0 ws (f s l) k m))

    header_known : HeaderFits head (length subnets / subnet_fields)
    unfolding header tables_in
    header_known = let x = rows.header in record { version = x.0; signals = x.1.1.0; limit = x.1.1.1.0; scale = x.1.1.1.1.0; subnets = rw (subnet_count head subnets places transitions arcs) at x.1.0 }

    subnets_known : RowsFit subnets subnet_widths
    unfolding subnet
    subnets_known =
        known subnets subnet_widths (omega arith) w.subnets_end
        (λ s l. rw (subnet_row head subnets places transitions arcs s l) at (rows.subnets s (omega (arith, subnet_count head subnets places transitions arcs))).row)

    -- a place, a transition and an arc belong to a subnet
    place_in : (p : ℕ) → p < length c.places → (s : ℕ) × Every Fits (place s) (place_at c p)
    unfolding first_place
    place_in p l =
        let o = sum_owner (length c.subnets) (λ r. (subnet_at c r).places) p (omega (arith, n.places)) in
        (o.range, (rows.subnets o.range o.below).places p o.low (omega (arith, o.high, first_place_suc c n o.range)))

    transition_in : (t : ℕ) → t < length c.transitions → TransitionHas Fits c c.version c.signals t
    unfolding first_transition
    transition_in t l =
        let o = sum_owner (length c.subnets) (λ r. (subnet_at c r).transitions) t (omega (arith, n.transitions)) in
        (rows.subnets o.range o.below).transitions t o.low (omega (arith, o.high, first_transition_suc c n o.range))

    places_known : RowsFit places place_widths
    unfolding place
    places_known =
        known places place_widths (omega arith) w.places_end
        (λ p l. rw (place_row head subnets places transitions arcs p l) at (place_in p (omega (arith, place_count head subnets places transitions arcs))).1)

    transitions_known : RowsFit transitions (transition_widths head.version)
    unfolding transition tables_in
    transitions_known =
        known transitions (transition_widths head.version) (omega arith) w.transitions_end
        (λ t l. rw (transition_row_is head subnets places transitions arcs t l) at (transition_in t (omega (arith, transition_count head subnets places transitions arcs))).row)

    arcs_known : RowsFit arcs arc_widths
    unfolding arc first_arc
    arcs_known =
        known arcs arc_widths (omega arith) w.arcs_end
        (λ a l.
        let o = sum_owner (length c.transitions) (λ t. (transition_at c t).arcs) a (omega (arith, n.arcs, arc_count head subnets places transitions arcs)) in
        let e : first_arc c o.range + (a - first_arc c o.range) ≡ a = omega (arith, o.low) in
        let q : sum_to (suc o.range) (λ t. (transition_at c t).arcs) ≡ first_arc c o.range + (transition_at c o.range).arcs = unfold sum_to in refl in
        let x = (transition_in o.range o.below).arcs (a - first_arc c o.range) (omega (arith, o.low, o.high, q)) in
        rw (e, arc_row head subnets places transitions arcs a l) at x)

    -- AND THE OTHER WAY ROUND
    pub fields_fit : ValuesFit head subnets places transitions arcs
    fields_fit = record { header = header_known; subnets = subnets_known; places = places_known; transitions = transitions_known; arcs = arcs_known }
