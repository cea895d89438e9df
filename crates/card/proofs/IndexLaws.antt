-- A turn of the walks that find where the rows of a card begin, over plain values. Assumes nothing.
use Prim.Native.Nat.{ℕ, zero, suc, ◌+◌, ◌-◌, ◌*◌, ◌≤◌, ◌<◌}
use mathlib.Core.Path.{◌≡◌, refl, sym, ap, subst, ◌∙◌}
use mathlib.Core.Bool.{cond}
use mathlib.Core.Logic.{◌⊎◌, inl, inr}
use mathlib.Core.List.{List}
use native.Mathlib.Omega.{arith}
use native.Mathlib.Nat.{zero-add, mul-le-mul}
use native.Mathlib.Numerals.{add-one}
use lib.Dec.{ltb, leb}
use lib.ListN.{length, get_or, set, replicate, length-set, length-replicate, get_or-replicate}
use lib.Seq.{ext_get_or, get_or-set_same, get_or-set_other}
use borrow.Author.Tests.{lt-ltb, le-ltb, le-leb, lt-leb}
use Rattle.std.proofs.lemmas.Bool.{cases_lt}
use Rattle.card.specs.Finite.{sum_to}
use Rattle.card.specs.Card.{Card, subnet_at, transition_at, first_place, first_transition, first_arc}
use Rattle.card.specs.Format.{count, size, size_from}
use Rattle.card.specs.Grammar.{max_count, max_arcs, header, subnet, place, transition, arc}
use Rattle.card.specs.Writing.{subnet_bit, transition_bit}
use Rattle.card.specs.Index.{subnet_row, transition_row, Lists, Laid, Indexed, starts_size, subnet_starts, transition_starts, subnet_bit_start, first_place_start, first_transition_start, transition_row_start, transition_bit_start, owner, transition_row_of, transition_bit_of, up_to, start_of, starts_of}
use Rattle.card.specs.inner.Indexing.{OnCard, Moved, put_subnet, Column, Listed, AtSubnet, TransitionsIndexed}
use Rattle.card.specs.Wellformed.{Wellformed}
use Rattle.card.specs.declared.index.Position.{Position}
use Rattle.card.proofs.Bounds.{since_small}
use Rattle.card.proofs.Sums.{table_length, table_at}
use Rattle.card.proofs.Prefix.{places_below, transitions_below}
use Rattle.card.proofs.Positions.{counted, arcs_few, transition_order}

module _ (c : Card) (w : Wellformed c) (s t : ℕ) (l : s < length c.subnets) (h : t ≤ first_transition c (suc s)) where
  few : (first_place c (suc s) ≤ max_count) × (t ≤ max_count) × (first_arc c t ≤ max_arcs * t)
  few =
      let n = counted c w in
      let u = transitions_below c n (suc s) l in
      (omega (arith, places_below c n (suc s) l, w.rows.few_places), omega (arith, u, w.rows.few_transitions), arcs_few c t w.rows.transitions (omega arith))

  few_rows : transition_row c s t ≤ 100000
  unfolding transition_row count header subnet place transition arc
  few_rows = omega (arith, few, w.few_subnets)

  few_bits : transition_bit c s t ≤ 1000000
  unfolding transition_bit size header subnet place transition arc
  few_bits = omega (arith, few, w.few_subnets, mul-le-mul (since_small 3 8 c.version) few.1, since_small 4 8 c.version, since_small 5 14 c.version)

next_row : (c : Card) (s t : ℕ) → transition_row c s (suc t) ≡ transition_row c s t + (count (transition 0 0) + count arc * (transition_at c t).arcs)
unfolding transition_row count header subnet place transition arc first_arc sum_to
next_row c s t = omega arith

next_bit : (c : Card) (s t : ℕ) → transition_bit c s (suc t) ≡ transition_bit c s t + (size (transition c.version 0) + size arc * (transition_at c t).arcs)
unfolding transition_bit size header subnet place transition arc first_arc sum_to
next_bit c s t = omega arith

end_row : (c : Card) (s : ℕ) → transition_row c s (first_transition c (suc s)) ≡ subnet_row c (suc s)
unfolding transition_row subnet_row
end_row c s = refl

end_bit : (c : Card) (s : ℕ) → transition_bit c s (first_transition c (suc s)) ≡ subnet_bit c (suc s)
unfolding transition_bit subnet_bit
end_bit c s = refl

all_listed : (c : Card) (s : ℕ) → first_transition c (suc s) ≡ first_transition c s + (subnet_at c s).transitions
unfolding first_transition sum_to
all_listed c s = refl

pub set_long : (old one two : List ℕ) (i v j w : ℕ) → one ≡ set old i v → two ≡ set one j w → length two ≡ length old
set_long old one two i v j w a b = ap length b ∙ length-set one j w ∙ ap length a ∙ length-set old i v

-- a subnet's own transitions have it as their owner
owners : (c : Card) (s t n : ℕ) → Lists c s t → n ≤ s → sum_to n (λ r. cond (leb (first_transition c (suc r)) t) 1 0) ≡ n
unfolding sum_to
owners c s t zero l h = refl
owners c s t (suc n) l h = rw (owners c s t n l (omega arith), le-leb (first_transition c (suc n)) t (omega (arith, l.first, transition_order c (suc n) s h))) (omega arith)

owners_past : (c : Card) (s t n : ℕ) → Lists c s t → sum_to (s + n) (λ r. cond (leb (first_transition c (suc r)) t) 1 0) ≡ s
unfolding sum_to
owners_past c s t zero l = rw (let e : s + 0 ≡ s = omega arith in e) (owners c s t s l (omega arith))
owners_past c s t (suc n) l =
    let e : s + suc n ≡ suc (s + n) = omega arith in
    let past = lt-leb (first_transition c (suc (s + n))) t (omega (arith, l.last, transition_order c (suc s) (suc (s + n)) (omega arith))) in
    rw (e, owners_past c s t n l, past) (omega arith)

pub owner_is : (c : Card) (s t : ℕ) → Lists c s t → owner c t ≡ s
unfolding owner
owner_is c s t l =
    let e : length c.subnets ≡ s + (length c.subnets - s) = omega (arith, l.subnet) in
    rw e (owners_past c s t (length c.subnets - s) l)

-- the first values, and the zeros behind them
up_below : (n : ℕ) (f : ℕ → ℕ) (i : ℕ) → i < n → up_to n f i ≡ f i
up_below n f i l = rw (lt-ltb i n l)

up_past : (n : ℕ) (f : ℕ → ℕ) (i : ℕ) → n ≤ i → up_to n f i ≡ 0
up_past n f i l = rw (le-ltb i n l)

-- A column: of zeros, with one value more, and one that is not touched.
module _ (o n : ℕ) (f : ℕ → ℕ) where
  column_blank : (size : ℕ) → o + n ≤ size → Column (replicate size 0) o n 0 f
  column_blank size h i l = get_or-replicate size (o + i) 0 0 (omega arith) ∙ sym (up_past 0 f i (omega arith))

  column_more : (starts : List ℕ) (k v : ℕ) → k < n → o + n ≤ length starts → v ≡ f k → Column starts o n k f → Column (set starts (o + k) v) o n (k + 1) f
  column_more starts k v h long e x i l = go (cases_lt i k)
    where
      go : (i < k) ⊎ (k ≤ i) → get_or (set starts (o + k) v) (o + i) 0 ≡ up_to (k + 1) f i
      go (inl b) = get_or-set_other starts (o + k) (o + i) v 0 (λ q. omega arith) ∙ x i l ∙ up_below k f i b ∙ sym (up_below (k + 1) f i (omega arith))
      go (inr b) = there (cases_lt k i)
        where
          there : (k < i) ⊎ (i ≤ k) → get_or (set starts (o + k) v) (o + i) 0 ≡ up_to (k + 1) f i
          there (inl d) = get_or-set_other starts (o + k) (o + i) v 0 (λ q. omega arith) ∙ x i l ∙ up_past k f i b ∙ sym (up_past (k + 1) f i (omega arith))
          there (inr d) =
              let q : i ≡ k = omega arith in
              rw q (get_or-set_same starts (o + k) v 0 (omega arith) ∙ e ∙ sym (up_below (k + 1) f k (omega arith)))

  column_other : (starts : List ℕ) (k j v : ℕ) → (j < o) ⊎ (o + n ≤ j) → Column starts o n k f → Column (set starts j v) o n k f
  column_other starts k j v (inl h) x i l = get_or-set_other starts j (o + i) v 0 (λ q. omega arith) ∙ x i l
  column_other starts k j v (inr h) x i l = get_or-set_other starts j (o + i) v 0 (λ q. omega arith) ∙ x i l

-- the walk through subnet s's transitions is at transition t
pub record Listing (c : Card) (s : ℕ) (old starts : List ℕ) (p : Position) (t : ℕ) : Type 0 where
  pub low : first_transition c s ≤ t
  pub high : t ≤ first_transition c (suc s)
  pub long : length starts ≡ length old
  pub row : p.row ≡ transition_row c s t
  pub bit : p.bit ≡ transition_bit c s t
  pub listed : Listed c starts t
  pub kept : (i : ℕ) → i < transition_row_start 0 → get_or starts i 0 ≡ get_or old i 0

module _ (c : Card) (s : ℕ) (numbers old : List ℕ) (from : Position) (first n : ℕ) (a : AtSubnet c s numbers old from first n) where
  pub list_start : Listing c s old old from first
  list_start =
      rw a.is_first (record { low = omega arith; high = omega (arith, all_listed c s); long = refl; row = a.row; bit = a.bit; listed = a.listed; kept = λ i b. refl })

  module _ (starts : List ℕ) (p : Position) (t : ℕ) (x : Listing c s old starts p t) where
    pub list_on : OnCard p
    list_on = record { row = rw x.row (few_rows c a.wellformed s t a.subnet x.high); bit = rw x.bit (few_bits c a.wellformed s t a.subnet x.high) }

    pub list_few : first ≤ 1000
    list_few = omega (arith, few c a.wellformed s t a.subnet x.high, x.low, a.is_first)

    pub list_more : t < first + n → (k : ℕ) → k ≡ get_or numbers (p.row + 1) 0 → (one two : List ℕ) (q : Position)
        → one ≡ set starts (transition_row_start t) p.row → two ≡ set one (transition_bit_start t) p.bit
        → (v : ℕ) → v ≡ get_or numbers 0 0 → Moved p q (count (transition 0 0) + count arc * k) (size (transition v 0) + size arc * k) → Listing c s old two q (t + 1)
    list_more h k ek one two q e1 e2 v ev m =
        record {
          low = omega (arith, x.low);
          high = omega (arith, all_listed c s, a.is_first, a.is_count);
          long = set_long starts one two (transition_row_start t) p.row (transition_bit_start t) p.bit e1 e2 ∙ x.long;
          row = m.row ∙ rw (x.row, arcs, add-one) (sym (next_row c s t));
          bit = m.bit ∙ rw (x.bit, arcs, add-one, ev, a.laid.version) (sym (next_bit c s t));
          listed = rw (e2, e1) (record {
            rows = column_other (transition_row_start 0) transition_starts (transition_row_of c) (set starts (transition_row_start t) p.row) (t + 1) (transition_bit_start t) p.bit (inr (omega arith))
                (column_more (transition_row_start 0) transition_starts (transition_row_of c) starts t p.row room (omega (arith, size_of)) (x.row ∙ ap (λ (r : ℕ). transition_row c r t) (sym is)) x.listed.rows);
            bits = column_more (transition_bit_start 0) transition_starts (transition_bit_of c) (set starts (transition_row_start t) p.row) t p.bit room (omega (arith, size_of, length-set starts (transition_row_start t) p.row))
                (x.bit ∙ ap (λ (r : ℕ). transition_bit c r t) (sym is))
                (column_other (transition_bit_start 0) transition_starts (transition_bit_of c) starts t (transition_row_start t) p.row (inl (omega (arith, room))) x.listed.bits);
          });
          kept = λ i b. rw (e2, e1) (get_or-set_other (set starts (transition_row_start t) p.row) (transition_bit_start t) i p.bit 0 (λ g. omega arith) ∙ get_or-set_other starts (transition_row_start t) i p.row 0 (λ g. omega arith)) ∙ x.kept i b;
        }
      where
        listed : Lists c s t
        listed = record { subnet = a.subnet; first = x.low; last = omega (arith, a.is_first, a.is_count, all_listed c s) }

        is : owner c t ≡ s
        is = owner_is c s t listed

        room : t < transition_starts
        room = omega (arith, (few c a.wellformed s t a.subnet x.high).1)

        size_of : length starts ≡ starts_size
        size_of = x.long ∙ a.long

        arcs : k ≡ (transition_at c t).arcs
        arcs = ek ∙ rw x.row (a.laid.transition s t listed).arcs

    pub list_done : first + n ≤ t → TransitionsIndexed c s old starts p
    list_done h =
        let e : t ≡ first_transition c (suc s) = omega (arith, a.is_first, a.is_count, all_listed c s, x.high) in
        record {
          long = x.long;
          listed = subst (Listed c starts) e x.listed;
          kept = x.kept;
          row = x.row ∙ rw e (end_row c s);
          bit = x.bit ∙ rw e (end_bit c s);
        }

first_row : (c : Card) (s : ℕ) → transition_row c s (first_transition c s) ≡ subnet_row c s + (count (subnet 0 0 0) + count (place 0) * (subnet_at c s).places)
unfolding transition_row subnet_row count header subnet place transition arc first_place sum_to
first_row c s = omega arith

first_bit : (c : Card) (s : ℕ) → transition_bit c s (first_transition c s) ≡ subnet_bit c s + (size (subnet 0 0 0) + size (place 0) * (subnet_at c s).places)
unfolding transition_bit subnet_bit size header subnet place transition arc first_place sum_to
first_bit c s = omega arith

pub put_same : (starts : List ℕ) (s row bit place transition : ℕ) → length (put_subnet starts s row bit place transition) ≡ length starts
put_same starts s row bit place transition =
    set_long (set (set starts s row) (subnet_bit_start s) bit) (set (set (set starts s row) (subnet_bit_start s) bit) (first_place_start s) place) (put_subnet starts s row bit place transition) (first_place_start s) place (first_transition_start s) transition refl refl
    ∙ set_long starts (set starts s row) (set (set starts s row) (subnet_bit_start s) bit) s row (subnet_bit_start s) bit refl refl

-- the starts of the subnets before s are stored
pub record Begun (c : Card) (starts : List ℕ) (s : ℕ) : Type 0 where
  pub rows : Column starts 0 subnet_starts s (subnet_row c)
  pub bits : Column starts (subnet_bit_start 0) subnet_starts s (subnet_bit c)
  pub places : Column starts (first_place_start 0) subnet_starts s (first_place c)
  pub transitions : Column starts (first_transition_start 0) subnet_starts s (first_transition c)

-- a column behind the subnets' is not touched by the starts of a subnet
put_behind : (starts : List ℕ) (s row bit place transition o n k : ℕ) (f : ℕ → ℕ) → s < subnet_starts → transition_row_start 0 ≤ o → Column starts o n k f → Column (put_subnet starts s row bit place transition) o n k f
put_behind starts s row bit place transition o n k f small far x =
    column_other o n f (set (set (set starts s row) (subnet_bit_start s) bit) (first_place_start s) place) k (first_transition_start s) transition (inl (omega arith))
    (column_other o n f (set (set starts s row) (subnet_bit_start s) bit) k (first_place_start s) place (inl (omega arith))
    (column_other o n f (set starts s row) k (subnet_bit_start s) bit (inl (omega arith)) (column_other o n f starts k s row (inl (omega arith)) x)))

-- the starts of subnet s are stored too
module _ (c : Card) (starts : List ℕ) (s row bit place transition : ℕ) (long : length starts ≡ starts_size) (small : s < subnet_starts) where
  abbrev a₁ : List ℕ
  a₁ = set starts s row

  abbrev a₂ : List ℕ
  a₂ = set a₁ (subnet_bit_start s) bit

  abbrev a₃ : List ℕ
  a₃ = set a₂ (first_place_start s) place

  long₁ : length a₁ ≡ starts_size
  long₁ = length-set starts s row ∙ long

  long₂ : length a₂ ≡ starts_size
  long₂ = length-set a₁ (subnet_bit_start s) bit ∙ long₁

  long₃ : length a₃ ≡ starts_size
  long₃ = length-set a₂ (first_place_start s) place ∙ long₂

  put_long : length (put_subnet starts s row bit place transition) ≡ starts_size
  put_long = length-set a₃ (first_transition_start s) transition ∙ long₃

  begun_more : row ≡ subnet_row c s → bit ≡ subnet_bit c s → place ≡ first_place c s → transition ≡ first_transition c s → Begun c starts s
      → Begun c (put_subnet starts s row bit place transition) (s + 1)
  begun_more er eb ep et x =
      record {
        rows = column_other 0 subnet_starts (subnet_row c) a₃ (s + 1) (first_transition_start s) transition (inr (omega arith))
            (column_other 0 subnet_starts (subnet_row c) a₂ (s + 1) (first_place_start s) place (inr (omega arith))
            (column_other 0 subnet_starts (subnet_row c) a₁ (s + 1) (subnet_bit_start s) bit (inr (omega arith)) (subst (λ (j : ℕ). Column (set starts j row) 0 subnet_starts (s + 1) (subnet_row c)) (zero-add s)
            (column_more 0 subnet_starts (subnet_row c) starts s row small (omega (arith, long)) er x.rows))));
        bits = column_other (subnet_bit_start 0) subnet_starts (subnet_bit c) a₃ (s + 1) (first_transition_start s) transition (inr (omega arith))
            (column_other (subnet_bit_start 0) subnet_starts (subnet_bit c) a₂ (s + 1) (first_place_start s) place (inr (omega arith))
            (column_more (subnet_bit_start 0) subnet_starts (subnet_bit c) a₁ s bit small (omega (arith, long₁)) eb (column_other (subnet_bit_start 0) subnet_starts (subnet_bit c) starts s s row (inl (omega arith)) x.bits)));
        places = column_other (first_place_start 0) subnet_starts (first_place c) a₃ (s + 1) (first_transition_start s) transition (inr (omega arith))
            (column_more (first_place_start 0) subnet_starts (first_place c) a₂ s place small (omega (arith, long₂)) ep
            (column_other (first_place_start 0) subnet_starts (first_place c) a₁ s (subnet_bit_start s) bit (inl (omega arith)) (column_other (first_place_start 0) subnet_starts (first_place c) starts s s row (inl (omega arith)) x.places)));
        transitions = column_more (first_transition_start 0) subnet_starts (first_transition c) a₃ s transition small (omega (arith, long₃)) et
            (column_other (first_transition_start 0) subnet_starts (first_transition c) a₂ s (first_place_start s) place (inl (omega arith))
            (column_other (first_transition_start 0) subnet_starts (first_transition c) a₁ s (subnet_bit_start s) bit (inl (omega arith)) (column_other (first_transition_start 0) subnet_starts (first_transition c) starts s s row (inl (omega arith)) x.transitions)));
      }

-- the walk is at subnet s
pub record Indexing (c : Card) (starts : List ℕ) (p : Position) (place transition s : ℕ) : Type 0 where
  pub inside : s ≤ length c.subnets
  pub long : length starts ≡ starts_size
  pub row : p.row ≡ subnet_row c s
  pub bit : p.bit ≡ subnet_bit c s
  pub is_place : place ≡ first_place c s
  pub is_transition : transition ≡ first_transition c s
  pub begun : Begun c starts s
  pub listed : Listed c starts (first_transition c s)

module _ (c : Card) (w : Wellformed c) (numbers : List ℕ) (d : Laid c numbers) where
  pub index_start : (p : Position) (v : ℕ) → v ≡ get_or numbers 0 0 → p.row ≡ count header → p.bit ≡ size_from v header → Indexing c (replicate starts_size 0) p 0 0 0
  unfolding subnet_row subnet_bit first_place first_transition first_arc sum_to count size header subnet place transition arc
  index_start p v ev er eb =
      record {
        inside = omega arith;
        long = length-replicate {A = ℕ} starts_size 0;
        row = er;
        bit = eb ∙ ap (λ (i : ℕ). size_from i header) (ev ∙ d.version) ∙ omega arith;
        is_place = refl;
        is_transition = refl;
        begun = record {
          rows = column_blank 0 subnet_starts (subnet_row c) starts_size (omega arith);
          bits = column_blank (subnet_bit_start 0) subnet_starts (subnet_bit c) starts_size (omega arith);
          places = column_blank (first_place_start 0) subnet_starts (first_place c) starts_size (omega arith);
          transitions = column_blank (first_transition_start 0) subnet_starts (first_transition c) starts_size (omega arith);
        };
        listed = record { rows = column_blank (transition_row_start 0) transition_starts (transition_row_of c) starts_size (omega arith); bits = column_blank (transition_bit_start 0) transition_starts (transition_bit_of c) starts_size (omega arith) };
      }

  module _ (starts : List ℕ) (p : Position) (place transition s : ℕ) (x : Indexing c starts p place transition s) where
    pub index_on : s < length c.subnets → OnCard p
    index_on l =
        let t = all_listed c s in
        record {
          row = omega (arith, x.row, first_row c s, few_rows c w s (first_transition c s) l (omega (arith, t)));
          bit = omega (arith, x.bit, first_bit c s, few_bits c w s (first_transition c s) l (omega (arith, t)));
        }

    small : s < subnet_starts
    small = omega (arith, x.inside, w.few_subnets)

    abbrev one : List ℕ
    one = put_subnet starts s p.row p.bit place transition

    one_long : length one ≡ starts_size
    one_long = put_long c starts s p.row p.bit place transition x.long small

    one_begun : Begun c one (s + 1)
    one_begun = begun_more c starts s p.row p.bit place transition x.long small x.row x.bit x.is_place x.is_transition x.begun

    one_listed : Listed c one (first_transition c s)
    one_listed =
        record {
          rows = put_behind starts s p.row p.bit place transition (transition_row_start 0) transition_starts (first_transition c s) (transition_row_of c) small (omega arith) x.listed.rows;
          bits = put_behind starts s p.row p.bit place transition (transition_bit_start 0) transition_starts (first_transition c s) (transition_bit_of c) small (omega arith) x.listed.bits;
        }

    module _ (l : s < length c.subnets) (n k : ℕ) (en : n ≡ get_or numbers (p.row + 2) 0) (ek : k ≡ get_or numbers (p.row + 3) 0) (q : Position)
        (m : Moved p q (count (subnet 0 0 0) + count (Rattle.card.specs.Grammar.place 0) * n) (size (subnet 0 0 0) + size (Rattle.card.specs.Grammar.place 0) * n)) where
      places_is : n ≡ (subnet_at c s).places
      places_is = en ∙ rw x.row (d.subnet s l).places

      transitions_is : k ≡ (subnet_at c s).transitions
      transitions_is = ek ∙ rw x.row (d.subnet s l).transitions

      pub index_at : AtSubnet c s numbers one q transition k
      index_at =
          record {
            wellformed = w;
            laid = d;
            subnet = l;
            long = one_long;
            row = m.row ∙ rw (x.row, places_is) (sym (first_row c s));
            bit = m.bit ∙ rw (x.bit, places_is) (sym (first_bit c s));
            is_first = x.is_transition;
            is_count = transitions_is;
            listed = one_listed;
          }

      pub index_more : (two : List ℕ) (v : Position) → TransitionsIndexed c s one two v → Indexing c two v (place + n) (transition + k) (s + 1)
      index_more two v g =
          record {
            inside = omega arith;
            long = g.long ∙ one_long;
            row = rw (add-one s) g.row;
            bit = rw (add-one s) g.bit;
            is_place = rw (add-one s) (unfold first_place sum_to in rw (x.is_place, places_is));
            is_transition = rw (add-one s) (unfold first_transition sum_to in rw (x.is_transition, transitions_is));
            begun = record {
              rows = λ i h. g.kept (0 + i) (omega arith) ∙ one_begun.rows i h;
              bits = λ i h. g.kept (subnet_bit_start i) (omega arith) ∙ one_begun.bits i h;
              places = λ i h. g.kept (first_place_start i) (omega arith) ∙ one_begun.places i h;
              transitions = λ i h. g.kept (first_transition_start i) (omega arith) ∙ one_begun.transitions i h;
            };
            listed = rw (add-one s) g.listed;
          }

    pub index_done : length c.subnets ≤ s → one ≡ starts_of c
    unfolding starts_of
    index_done h = ext_get_or 0 one _ (one_long ∙ sym (table_length 0 starts_size (start_of c))) (λ i l. at i (omega (arith, one_long)) ∙ sym (table_at starts_size (start_of c) 0 i (omega (arith, one_long))))
      where
        ended : s + 1 ≡ suc (length c.subnets)
        ended = omega (arith, x.inside)

        all : first_transition c s ≡ length c.transitions
        all = ap (first_transition c) (let e : s ≡ length c.subnets = omega (arith, x.inside) in e) ∙ sym (counted c w).transitions

        pick : (i a v y z : ℕ) → (i < a → v ≡ y) → (a ≤ i → v ≡ z) → v ≡ cond (ltb i a) y z
        pick i a v y z f g = go (cases_lt i a)
          where
            go : (i < a) ⊎ (a ≤ i) → v ≡ cond (ltb i a) y z
            go (inl b) = rw (lt-ltb i a b) (f b)
            go (inr b) = rw (le-ltb i a b) (g b)

        column : (o n k j : ℕ) (f : ℕ → ℕ) → Column one o n k f → k ≡ j → (i : ℕ) → o ≤ i → i < o + n → get_or one i 0 ≡ up_to j f (i - o)
        column o n k j f y e i a b = subst (λ (r : ℕ). get_or one r 0 ≡ up_to j f (i - o)) (omega arith) (y (i - o) (omega arith) ∙ ap (λ (r : ℕ). up_to r f (i - o)) e)

        at : (i : ℕ) → i < starts_size → get_or one i 0 ≡ start_of c i
        at i l =
            pick i (subnet_bit_start 0) _ _ _ (λ b. column 0 subnet_starts (s + 1) (suc (length c.subnets)) (subnet_row c) one_begun.rows ended i (omega arith) b ∙ ap (up_to (suc (length c.subnets)) (subnet_row c)) (let e : i - 0 ≡ i = omega arith in e))
            (λ b. pick i (first_place_start 0) _ _ _ (λ b₂. column (subnet_bit_start 0) subnet_starts (s + 1) (suc (length c.subnets)) (subnet_bit c) one_begun.bits ended i b b₂)
            (λ b₂. pick i (first_transition_start 0) _ _ _ (λ b₃. column (first_place_start 0) subnet_starts (s + 1) (suc (length c.subnets)) (first_place c) one_begun.places ended i b₂ b₃)
            (λ b₃. pick i (transition_row_start 0) _ _ _ (λ b₄. column (first_transition_start 0) subnet_starts (s + 1) (suc (length c.subnets)) (first_transition c) one_begun.transitions ended i b₃ b₄)
            (λ b₄. pick i (transition_bit_start 0) _ _ _ (λ b₅. column (transition_row_start 0) transition_starts (first_transition c s) (length c.transitions) (transition_row_of c) one_listed.rows all i b₄ b₅)
            (λ b₅. column (transition_bit_start 0) transition_starts (first_transition c s) (length c.transitions) (transition_bit_of c) one_listed.bits all i b₅ l)))))

-- `starts_indexed`: THE SECOND TABLE HOLDS WHERE A CARD'S ROWS BEGIN
module _ (c : Card) (w : Wellformed c) where
  abbrev ends : ℕ
  ends = suc (length c.subnets)

  start_at : (i x : ℕ) → i < starts_size → start_of c i ≡ x → get_or (starts_of c) i 0 ≡ x
  unfolding starts_of
  start_at i x l e = table_at starts_size (start_of c) 0 i l ∙ e

  of_subnet : (s : ℕ) → s ≤ length c.subnets → s < subnet_starts
  of_subnet s l = omega (arith, w.few_subnets)

  of_transition : (s t : ℕ) → Lists c s t → (t < length c.transitions) × (t < transition_starts)
  of_transition s t l =
      let below = transitions_below c (counted c w) (suc s) (omega (arith, l.subnet)) in
      (omega (arith, l.last, below), omega (arith, l.last, below, w.rows.few_transitions))

  bit_at : (s : ℕ) → s < subnet_starts → start_of c (subnet_bit_start s) ≡ up_to ends (subnet_bit c) s
  bit_at s l = rw (le-ltb (subnet_bit_start s) (subnet_bit_start 0) (omega arith), lt-ltb (subnet_bit_start s) (first_place_start 0) (omega arith), (let e : subnet_bit_start s - subnet_bit_start 0 ≡ s = omega arith in e))

  place_at : (s : ℕ) → s < subnet_starts → start_of c (first_place_start s) ≡ up_to ends (first_place c) s
  place_at s l = rw (le-ltb (first_place_start s) (subnet_bit_start 0) (omega arith), le-ltb (first_place_start s) (first_place_start 0) (omega arith), lt-ltb (first_place_start s) (first_transition_start 0) (omega arith), (let e : first_place_start s - first_place_start 0 ≡ s = omega arith in e))

  transition_start : (s : ℕ) → s < subnet_starts → start_of c (first_transition_start s) ≡ up_to ends (first_transition c) s
  transition_start s l =
      rw (le-ltb (first_transition_start s) (subnet_bit_start 0) (omega arith), le-ltb (first_transition_start s) (first_place_start 0) (omega arith), le-ltb (first_transition_start s) (first_transition_start 0) (omega arith), lt-ltb (first_transition_start s) (transition_row_start 0) (omega arith), (let e : first_transition_start s - first_transition_start 0 ≡ s = omega arith in e))

  row_of : (t : ℕ) → t < transition_starts → start_of c (transition_row_start t) ≡ up_to (length c.transitions) (transition_row_of c) t
  row_of t l =
      rw (
        le-ltb (transition_row_start t) (subnet_bit_start 0) (omega arith),
        le-ltb (transition_row_start t) (first_place_start 0) (omega arith),
        le-ltb (transition_row_start t) (first_transition_start 0) (omega arith),
        le-ltb (transition_row_start t) (transition_row_start 0) (omega arith),
        lt-ltb (transition_row_start t) (transition_bit_start 0) (omega arith),
        (let e : transition_row_start t - transition_row_start 0 ≡ t = omega arith in e),
      )

  bit_of : (t : ℕ) → t < transition_starts → start_of c (transition_bit_start t) ≡ up_to (length c.transitions) (transition_bit_of c) t
  bit_of t l =
      rw (
        le-ltb (transition_bit_start t) (subnet_bit_start 0) (omega arith),
        le-ltb (transition_bit_start t) (first_place_start 0) (omega arith),
        le-ltb (transition_bit_start t) (first_transition_start 0) (omega arith),
        le-ltb (transition_bit_start t) (transition_row_start 0) (omega arith),
        le-ltb (transition_bit_start t) (transition_bit_start 0) (omega arith),
        (let e : transition_bit_start t - transition_bit_start 0 ≡ t = omega arith in e),
      )

  pub starts_indexed : Indexed c (starts_of c)
  starts_indexed =
      record {
        subnet_row = λ s l. start_at s _ (omega (arith, of_subnet s (omega arith))) (rw (lt-ltb s (subnet_bit_start 0) (of_subnet s (omega arith))) (up_below ends (subnet_row c) s (omega arith)));
        subnet_bit = λ s l. start_at (subnet_bit_start s) _ (omega (arith, of_subnet s (omega arith))) (bit_at s (of_subnet s (omega arith)) ∙ up_below ends (subnet_bit c) s (omega arith));
        first_place = λ s l. start_at (first_place_start s) _ (omega (arith, of_subnet s l)) (place_at s (of_subnet s l) ∙ up_below ends (first_place c) s (omega arith));
        first_transition = λ s l. start_at (first_transition_start s) _ (omega (arith, of_subnet s l)) (transition_start s (of_subnet s l) ∙ up_below ends (first_transition c) s (omega arith));
        transition_row = λ s t l. start_at (transition_row_start t) _ (omega (arith, of_transition s t l))
            (row_of t (of_transition s t l).1 ∙ up_below (length c.transitions) (transition_row_of c) t (of_transition s t l).0 ∙ ap (λ (r : ℕ). transition_row c r t) (owner_is c s t l));
        transition_bit = λ s t l. start_at (transition_bit_start t) _ (omega (arith, of_transition s t l))
            (bit_of t (of_transition s t l).1 ∙ up_below (length c.transitions) (transition_bit_of c) t (of_transition s t l).0 ∙ ap (λ (r : ℕ). transition_bit c r t) (owner_is c s t l));
      }
