-- The bytes of a card that is read spell the card's own fields. Assumes nothing.
use Prim.Native.Nat.{ℕ, zero, suc, ◌+◌, ◌*◌, ◌<◌}
use mathlib.Core.Path.{◌≡◌, refl, sym, ap, subst, ◌∙◌}
use mathlib.Core.Bool.{Bool, true, false, cond}
use mathlib.Core.List.{List, [], ◌∷◌, ◌++◌, map, flatten, append_cancel_left, head-eq_of_cons-eq, tail-eq_of_cons-eq}
use mathlib.Core.Option.{Option, none, some}
use native.Mathlib.Omega.{arith}
use native.Mathlib.Nat.{zero-add, add-zero}
use lib.ListN.{length}
use lib.Dec.{ltb}
use Rattle.card.specs.Finite.{table, All}
use Rattle.card.specs.Numbers.{number}
use Rattle.card.specs.Bits.{bit, bit_field}
use Rattle.card.specs.Card.{Header, Subnet, Place, Transition, Arc, Card, header_of, subnet_at, place_at, transition_at, arc_at}
use Rattle.card.specs.Format.{Format, done, get, of, each, grow, ◌>>=◌}
use Rattle.card.specs.Grammar.{header, subnet, place, transition, arc, whole_transition, with, whole_subnet, card, rank_width, limit_width, scale_width}
use Rattle.card.specs.Wellformed.{Wellformed}
use Rattle.card.specs.Parsing.{refused, whole, read, unless_fault}
use Rattle.card.specs.Writing.{Field, fields}
use Rattle.card.specs.declared.FormatFault.{FormatFault}
use Rattle.card.specs.declared.FormatFault.TheVariants.{Truncated}
use Rattle.card.proofs.Sums.{total_append, table_length, all_more, all_table}
use Rattle.card.proofs.Ranges.{TransitionArcs, whole_transition_yields, After, whole_subnet_yields, start, no_subnets, grow_yields, card_yields}
use Rattle.card.proofs.Sound.{rows_counted}
use Rattle.card.proofs.Extends.{Extends, grow_extends, extends_prefix}
use Rattle.card.proofs.Yields.{Listed, not_whole, yields_read, yields_each}
use Rattle.card.proofs.Walk.{bits, built, Spelt, fields_then, fields_of, built_of}
use Rattle.card.proofs.Prefix.{Counted, prefix, arcs_of, table_same, built_arc, built_place, built_subnet, built_transition, built_header, built_whole_transition, built_whole_subnet, built_more, prefix_none}

module _ (bytes : List ℕ) where
  -- reading one format and then another is reading the one, and the other from where it ended
  pub record Split {U A B : Type 0} (m : Format U A) (k : A → Format U B) (at : ℕ) (b : B) (end : ℕ) : Type 0 where
    pub value : A
    pub seam : ℕ
    pub first : read bytes m at ≡ whole value seam
    pub second : read bytes (k value) seam ≡ whole b end

  -- a field that is read holds no fault and lies within the bytes
  pub record Got {U A : Type 0} (w : ℕ) (fault : ℕ → Option FormatFault) (next : ℕ → Format U A) (at : ℕ) (a : A) (end : ℕ) : Type 0 where
    pub inside : ltb (8 * length bytes) (at + w) ≡ false
    pub right : fault (bit_field (bit bytes) at w) ≡ none
    pub rest : read bytes (next (bit_field (bit bytes) at w)) (at + w) ≡ whole a end

  module _ {U A : Type 0} where
    pub read_get : (w : ℕ) (value : U → ℕ) (fault : ℕ → Option FormatFault) (next : ℕ → Format U A) (at : ℕ) (a : A) (end : ℕ)
        → read bytes (get w value fault next) at ≡ whole a end → Got w fault next at a end
    unfolding read
    read_get w value fault next at a end e = go (ltb (8 * length bytes) (at + w)) (fault v) refl refl e
      where
        v : ℕ
        v = bit_field (bit bytes) at w

        go : (short : Bool) (x : Option FormatFault) → ltb (8 * length bytes) (at + w) ≡ short → fault v ≡ x
            → cond short (refused (number Truncated) at) (unless_fault x at (read bytes (next v) (at + w))) ≡ whole a end → Got w fault next at a end
        go true x p q r = absurd (not_whole _ _ _ _ r)
        go false (some f) p q r = absurd (not_whole _ _ _ _ r)
        go false none p q r = record { inside = p; right = q; rest = r }

    put_back : (w : ℕ) (value : U → ℕ) (fault : ℕ → Option FormatFault) (next : ℕ → Format U A) (at : ℕ) (a : A) (end : ℕ)
        → Got w fault next at a end → read bytes (get w value fault next) at ≡ whole a end
    unfolding read
    put_back w value fault next at a end g = rw (g.inside, g.right) g.rest

  module _ {U A B : Type 0} where
    pub split : (m : Format U A) (k : A → Format U B) (at : ℕ) (b : B) (end : ℕ) → read bytes (m >>= k) at ≡ whole b end → Split m k at b end
    split (done a) k at b end e = record { value = a; seam = at; first = unfold read in refl; second = e }
    split (get w value fault next) k at b end e =
        let g = read_get w value fault (λ v. next v >>= k) at b end e in
        let s = split (next (bit_field (bit bytes) at w)) k (at + w) b end g.rest in
        record {
          value = s.value;
          seam = s.seam;
          first = put_back w value fault next at s.value s.seam (record { inside = g.inside; right = g.right; rest = s.first });
          second = s.second;
        }

  module _ {U W A : Type 0} where
    pub read_of : (part : W → U) (m : Format U A) (at : ℕ) → read bytes (of part m) at ≡ read bytes m at
    unfolding read
    read_of part (done a) at = refl
    read_of part (get w value fault next) at = rw (read_of part (next (bit_field (bit bytes) at w)) (at + w))

  -- the bytes from one bit to another spell the fields of u
  pub record Spells {U A : Type 0} (m : Format U A) (u : U) (at end : ℕ) : Type 0 where
    pub spelt : Spelt bytes at (fields m u)
    pub ends : end ≡ at + bits (fields m u)

  spelt_append : (at : ℕ) (xs ys : List Field) → Spelt bytes at xs → Spelt bytes (at + bits xs) ys → Spelt bytes at (xs ++ ys)
  spelt_append at [] ys h k = rw add-zero at k
  spelt_append at (x ∷ xs) ys h k =
      let e : at + (x.width + bits xs) ≡ at + x.width + bits xs = omega arith in
      (h.0, spelt_append (at + x.width) xs ys h.1 (rw e at k))

  spells_then : {U A B : Type 0} (m : Format U A) (k : A → Format U B) (u : U) (at seam end : ℕ) → Spells m u at seam → Spells (k (built m u)) u seam end → Spells (m >>= k) u at end
  spells_then m k u at seam end x y =
      let s : Spelt bytes (at + bits (fields m u)) (fields (k (built m u)) u) = rw x.ends at y.spelt in
      record {
        spelt = rw (fields_then m k u) (spelt_append at (fields m u) (fields (k (built m u)) u) x.spelt s);
        ends = rw (fields_then m k u) (omega (arith, x.ends, y.ends, total_append (λ f. f.width) (fields m u) (fields (k (built m u)) u)));
      }

  spells_of : {U W A : Type 0} (part : W → U) (m : Format U A) (x : W) (at end : ℕ) → Spells m (part x) at end → Spells (of part m) x at end
  spells_of part m x at end h = record { spelt = rw (fields_of part m x) h.spelt; ends = rw (fields_of part m x) h.ends }

  spells_done : {U A : Type 0} (a : A) (u : U) (at end : ℕ) → at ≡ end → Spells {U = U} {A = A} (done a) u at end
  unfolding fields
  spells_done a u at end e = record { spelt = tt; ends = omega arith }

  read_done : (U : Type 0) {A : Type 0} (a b : A) (at end : ℕ) → read {U = U} bytes (done a) at ≡ whole b end → (a ≡ b) × (at ≡ end)
  unfolding read
  read_done U a b at end e = (cc, cc)

  -- what is read as a row is spelt there
  tied_place : (s at : ℕ) (r : Place) (end : ℕ) → read bytes (place s) at ≡ whole r end → Spells (place s) r at end
  unfolding place fields
  tied_place s at r end e =
      let a = read_get _ _ _ _ at r end e in
      let b = read_get _ _ _ _ (at + 2) r end a.rest in
      let c = read_get _ _ _ _ (at + 2 + 8) r end b.rest in
      let d = read_done Place _ r (at + 2 + 8 + 8) end c.rest in
      record {
        spelt = (ap (λ (x : Place). x.kind) d.0, (ap (λ (x : Place). x.capacity) d.0, (ap (λ (x : Place). x.tokens) d.0, tt)));
        ends = omega (arith, d.1);
      }

  tied_transition : (v g at : ℕ) (r : Transition) (end : ℕ) → read bytes (transition v g) at ≡ whole r end → Spells (transition v g) r at end
  unfolding transition fields
  tied_transition v g at r end e =
      let a = read_get _ _ _ _ at r end e in
      let b = read_get _ _ _ _ (at + 6) r end a.rest in
      let c = read_get _ _ _ _ (at + 6 + 5) r end b.rest in
      let d = read_done Transition _ r (at + 6 + 5 + rank_width v) end c.rest in
      record {
        spelt = (ap (λ (x : Transition). x.signal) d.0, (ap (λ (x : Transition). x.arcs) d.0, (ap (λ (x : Transition). x.rank) d.0, tt)));
        ends = omega (arith, d.1);
      }

  tied_arc : (at : ℕ) (r : Arc) (end : ℕ) → read bytes arc at ≡ whole r end → Spells arc r at end
  unfolding arc fields
  tied_arc at r end e =
      let a = read_get _ _ _ _ at r end e in
      let b = read_get _ _ _ _ (at + 1) r end a.rest in
      let c = read_get _ _ _ _ (at + 1 + 5) r end b.rest in
      let f = read_get _ _ _ _ (at + 1 + 5 + 8) r end c.rest in
      let d = read_done Arc _ r (at + 1 + 5 + 8 + 8) end f.rest in
      record {
        spelt = (ap (λ (x : Arc). x.direction) d.0, (ap (λ (x : Arc). x.subnet) d.0, (ap (λ (x : Arc). x.place) d.0, (ap (λ (x : Arc). x.weight) d.0, tt))));
        ends = omega (arith, d.1);
      }

  tied_subnet : (s p t at : ℕ) (r : Subnet) (end : ℕ) → read bytes (subnet s p t) at ≡ whole r end → Spells (subnet s p t) r at end
  unfolding subnet fields
  tied_subnet s p t at r end e =
      let a = read_get _ _ _ _ at r end e in
      let b = read_get _ _ _ _ (at + 5) r end a.rest in
      let c = read_get _ _ _ _ (at + 5 + 5) r end b.rest in
      let f = read_get _ _ _ _ (at + 5 + 5 + 8) r end c.rest in
      let d = read_done Subnet _ r (at + 5 + 5 + 8 + 8) end f.rest in
      record {
        spelt = (ap (λ (x : Subnet). x.parent) d.0, (ap (λ (x : Subnet). x.type) d.0, (ap (λ (x : Subnet). x.places) d.0, (ap (λ (x : Subnet). x.transitions) d.0, tt))));
        ends = omega (arith, d.1);
      }

  tied_header : (at : ℕ) (r : Header) (end : ℕ) → read bytes header at ≡ whole r end → Spells header r at end
  unfolding header fields
  tied_header at r end e =
      let a = read_get _ _ _ _ at r end e in
      let b = read_get _ _ _ _ (at + 4) r end a.rest in
      let c = read_get _ _ _ _ (at + 4 + 6) r end b.rest in
      let l = read_get _ _ _ _ (at + 4 + 6 + 6) r end c.rest in
      let v = bit_field (bit bytes) at 4 in
      let m = read_get _ _ _ _ (at + 4 + 6 + 6 + limit_width v) r end l.rest in
      let d = read_done Header _ r (at + 4 + 6 + 6 + limit_width v + scale_width v) end m.rest in
      let ev : v ≡ r.version = ap (λ (x : Header). x.version) d.0 in
      record {
        spelt = (ev, (ap (λ (x : Header). x.subnets) d.0, (ap (λ (x : Header). x.signals) d.0, rw (← ev) (ap (λ (x : Header). x.limit) d.0, (ap (λ (x : Header). x.scale) d.0, tt)))));
        ends = rw (← ev) (omega (arith, d.1));
      }

  -- a row that is the one of u is spelt as the one of u
  tied_of : {U W : Type 0} (part : W → U) (m : Format U U) (x : W) (at : ℕ) (r : U) (end : ℕ) → ((r : U) → read bytes m at ≡ whole r end → Spells m r at end)
      → read bytes (of part m) at ≡ whole r end → r ≡ part x → Spells (of part m) x at end
  tied_of part m x at r end h e q = spells_of part m x at end (subst (λ y. Spells m y at end) q (h r (sym (read_of part m at) ∙ e)))

  -- several in turn
  tied_each : {U A : Type 0} (from n : ℕ) (one : ℕ → Format U A) (u : U)
      → ((i at : ℕ) (x : A) (end : ℕ) → read bytes (one i) at ≡ whole x end → x ≡ built (one i) u → Spells (one i) u at end)
      → (at : ℕ) (xs : List A) (end : ℕ) → read bytes (each from n one) at ≡ whole xs end → xs ≡ table from n (λ i. built (one i) u) → Spells (each from n one) u at end
  unfolding each table
  tied_each {U} from zero one u h at xs end e q =
      let d = read_done U [] xs at end e in
      spells_done [] u at end d.1
  tied_each {U} from (suc n) one u h at xs end e q =
      let s = split (one from) _ at xs end e in
      let t = split (each (suc from) n one) _ s.seam xs end s.second in
      let d = read_done U (s.value ∷ t.value) xs t.seam end t.second in
      let a : s.value ≡ built (one from) u = head-eq_of_cons-eq (d.0 ∙ q) in
      let b : t.value ≡ table (suc from) n (λ i. built (one i) u) = tail-eq_of_cons-eq (d.0 ∙ q) in
      let x = h from at s.value s.seam s.first a in
      let y = tied_each (suc from) n one u h s.seam t.value t.seam t.first b in
      spells_then (one from) _ u at s.seam end x (spells_then (each (suc from) n one) _ u s.seam t.seam end y (spells_done _ u t.seam end d.1))

  tied_whole_transition : (c : Card) (v g t at : ℕ) (x : Transition × List Arc) (end : ℕ) → read bytes (whole_transition v g t) at ≡ whole x end
      → x ≡ (transition_at c t, arcs_of c t) → Spells (whole_transition v g t) c at end
  unfolding whole_transition arcs_of
  tied_whole_transition c v g t at x end e q =
      let s = split (of (λ (d : Card). transition_at d t) (transition v g)) _ at x end e in
      let f = split (each 0 s.value.arcs (λ j. of (λ (d : Card). arc_at d t j) arc)) _ s.seam x end s.second in
      let d = read_done Card (s.value, f.value) x f.seam end f.second in
      let a : s.value ≡ transition_at c t = ap (λ (y : Transition × List Arc). y.0) (d.0 ∙ q) in
      let b : f.value ≡ table 0 (transition_at c t).arcs (λ j. arc_at c t j) = ap (λ (y : Transition × List Arc). y.1) (d.0 ∙ q) in
      let r : read bytes (each 0 (transition_at c t).arcs (λ j. of (λ (d : Card). arc_at d t j) arc)) s.seam ≡ whole f.value f.seam =
      subst (λ (y : Transition). read bytes (each 0 y.arcs (λ j. of (λ (d : Card). arc_at d t j) arc)) s.seam ≡ whole f.value f.seam) a f.first in
      spells_then (of (λ (d : Card). transition_at d t) (transition v g)) _ c at s.seam end
      (tied_of (λ (d : Card). transition_at d t) (transition v g) c at s.value s.seam (λ y. tied_transition v g at y s.seam) s.first a)
      (rw (built_of (λ (d : Card). transition_at d t) (transition v g) c, built_transition v g (transition_at c t))
      (spells_then (each 0 (transition_at c t).arcs (λ j. of (λ (d : Card). arc_at d t j) arc)) _ c s.seam f.seam end
      (tied_each 0 (transition_at c t).arcs _ c
      (λ j k y h p l. tied_of (λ (d : Card). arc_at d t j) arc c k y h (λ z. tied_arc k z h) p (l ∙ built_of (λ (d : Card). arc_at d t j) arc c ∙ built_arc (arc_at c t j)))
      s.seam f.value f.seam r
      (b ∙ table_same 0 _ _ _ (λ j. sym (built_of (λ (d : Card). arc_at d t j) arc c ∙ built_arc (arc_at c t j)))))
      (spells_done _ c f.seam end d.1)))

-- transitions with their arcs are known by the two lists that they make
pub Long : Transition × List Arc → Type 0
Long x = length x.1 ≡ x.0.arcs

cut_same : {A : Type 0} (xs ys vs ws : List A) → length xs ≡ length ys → xs ++ vs ≡ ys ++ ws → (xs ≡ ys) × (vs ≡ ws)
cut_same [] [] vs ws l e = (refl, e)
cut_same [] (y ∷ ys) vs ws l e = absurd (omega arith)
cut_same (x ∷ xs) [] vs ws l e = absurd (omega arith)
cut_same (x ∷ xs) (y ∷ ys) vs ws l e =
    let r = cut_same xs ys vs ws (omega arith) (tail-eq_of_cons-eq e) in
    let h : x ≡ y = head-eq_of_cons-eq e in
    (cc, r.1)

unflatten : (ts us : List (Transition × List Arc)) → All Long ts → All Long us → map (λ t. t.0) ts ≡ map (λ t. t.0) us
    → flatten (map (λ t. t.1) ts) ≡ flatten (map (λ t. t.1) us) → ts ≡ us
unfolding flatten Long
unflatten [] [] h k p q = refl
unflatten [] (u ∷ us) h k p q = let z : ◌≡◌ {A = ℕ} 0 1 = cc in absurd (omega arith)
unflatten (t ∷ ts) [] h k p q = let z : ◌≡◌ {A = ℕ} 0 1 = cc in absurd (omega arith)
unflatten (t ∷ ts) (u ∷ us) h k p q =
    let a : t.0 ≡ u.0 = head-eq_of_cons-eq p in
    let l : length t.1 ≡ length u.1 = h.0 ∙ ap (λ (x : Transition). x.arcs) a ∙ sym k.0 in
    let c = cut_same t.1 u.1 _ _ l q in
    let r = unflatten ts us h.1 k.1 (tail-eq_of_cons-eq p) c.1 in
    let b : t.1 ≡ u.1 = c.0 in
    let e : t ≡ u = λ i. (a i, b i) in
    cc

arcs_of_long : (c : Card) (t : ℕ) → Long (transition_at c t, arcs_of c t)
unfolding Long arcs_of
arcs_of_long c t = table_length 0 (transition_at c t).arcs (λ j. arc_at c t j)

with_same : (b : Card) (r q : Subnet) (ps vs : List Place) (ts us : List (Transition × List Arc)) → All Long ts → All Long us → with b r ps ts ≡ with b q vs us
    → (r ≡ q) × (ps ≡ vs) × (ts ≡ us)
with_same b r q ps vs ts us h k e = (
  head-eq_of_cons-eq (append_cancel_left b.subnets (r ∷ []) (q ∷ []) (ap (λ (x : Card). x.subnets) e)),
  append_cancel_left b.places ps vs (ap (λ (x : Card). x.places) e),
  unflatten ts us h k (append_cancel_left b.transitions _ _ (ap (λ (x : Card). x.transitions) e)) (append_cancel_left b.arcs _ _ (ap (λ (x : Card). x.arcs) e)),
)

module _ (bytes : List ℕ) (c sofar : Card) where
  s : ℕ
  s = length sofar.subnets

  p : ℕ
  p = length sofar.places

  t : ℕ
  t = length sofar.transitions

  v : ℕ
  v = sofar.version

  g : ℕ
  g = sofar.signals

  abbrev row_format : Format Card Subnet
  row_format = of (λ (d : Card). subnet_at d s) (subnet s p t)

  abbrev places_format : ℕ → Format Card (List Place)
  places_format n = each p n (λ i. of (λ (d : Card). place_at d i) (place s))

  abbrev transitions_format : ℕ → Format Card (List (Transition × List Arc))
  transitions_format n = each t n (whole_transition v g)

  tied_parts : (at e1 e2 e3 end : ℕ) (r : Subnet) (ps : List Place) (ts : List (Transition × List Arc)) → read bytes row_format at ≡ whole r e1
      → read bytes (places_format r.places) e1 ≡ whole ps e2 → read bytes (transitions_format r.transitions) e2 ≡ whole ts e3 → e3 ≡ end
      → r ≡ subnet_at c s → ps ≡ table p (subnet_at c s).places (place_at c) → ts ≡ table t (subnet_at c s).transitions (λ u. (transition_at c u, arcs_of c u))
      → Spells bytes (whole_subnet sofar) c at end
  unfolding whole_subnet s p t v g
  tied_parts at e1 e2 e3 end r ps ts x y z w er eps ets =
      let y' = subst (λ (k : Subnet). read bytes (places_format k.places) e1 ≡ whole ps e2) er y in
      let z' = subst (λ (k : Subnet). read bytes (transitions_format k.transitions) e2 ≡ whole ts e3) er z in
      spells_then bytes row_format _ c at e1 end (tied_of bytes (λ (d : Card). subnet_at d s) (subnet s p t) c at r e1 (λ k. tied_subnet bytes s p t at k e1) x er)
      (rw (built_of (λ (d : Card). subnet_at d s) (subnet s p t) c, built_subnet s p t (subnet_at c s))
      (spells_then bytes (places_format (subnet_at c s).places) _ c e1 e2 end
      (tied_each bytes p (subnet_at c s).places _ c
      (λ i k v h q l. tied_of bytes (λ (d : Card). place_at d i) (place s) c k v h (λ m. tied_place bytes s k m h) q (l ∙ built_of (λ (d : Card). place_at d i) (place s) c ∙ built_place s (place_at c i)))
      e1 ps e2 y' (eps ∙ table_same p _ _ _ (λ i. sym (built_of (λ (d : Card). place_at d i) (place s) c ∙ built_place s (place_at c i)))))
      (spells_then bytes (transitions_format (subnet_at c s).transitions) _ c e2 e3 end
      (tied_each bytes t (subnet_at c s).transitions _ c (λ u k y h q l. tied_whole_transition bytes c v g u k y h q (l ∙ built_whole_transition c v g u))
      e2 ts e3 z' (ets ∙ table_same t _ _ _ (λ u. sym (built_whole_transition c v g u))))
      (spells_done bytes _ c e3 end w))))

  row_known : (at e1 e2 e3 : ℕ) (b : Card) (r : Subnet) (ps : List Place) (ts : List (Transition × List Arc)) → read bytes (transitions_format r.transitions) e2 ≡ whole ts e3
      → with sofar r ps ts ≡ b → b ≡ built (whole_subnet sofar) c
      → (r ≡ subnet_at c s) × (ps ≡ table p (subnet_at c s).places (place_at c)) × (ts ≡ table t (subnet_at c s).transitions (λ u. (transition_at c u, arcs_of c u)))
  unfolding s p t v g Long
  row_known at e1 e2 e3 b r ps ts z e q =
      with_same sofar r (subnet_at c s) ps (table p (subnet_at c s).places (place_at c)) ts (table t (subnet_at c s).transitions (λ u. (transition_at c u, arcs_of c u)))
      (all_more (TransitionArcs v g) Long (λ k h. h.arcs.long) ts
      (yields_read bytes (transitions_format r.transitions) (Listed (TransitionArcs v g) r.transitions)
      (yields_each t r.transitions (whole_transition v g) (TransitionArcs v g) (whole_transition_yields v g)) e2 e3 ts z).members)
      (all_table Long t _ _ (arcs_of_long c)) (e ∙ (q ∙ built_whole_subnet c sofar))

  pub tied_whole_subnet : (at : ℕ) (b : Card) (end : ℕ) → read bytes (whole_subnet sofar) at ≡ whole b end → b ≡ built (whole_subnet sofar) c → Spells bytes (whole_subnet sofar) c at end
  unfolding whole_subnet s p t v g
  tied_whole_subnet at b end e q = go (split bytes row_format _ at b end e)
    where
      last : (r : Subnet) (ps : List Place) (e1 e2 : ℕ) → read bytes row_format at ≡ whole r e1 → read bytes (places_format r.places) e1 ≡ whole ps e2
          → Split bytes (transitions_format r.transitions) (λ ts. done (with sofar r ps ts)) e2 b end → Spells bytes (whole_subnet sofar) c at end
      last r ps e1 e2 x y z =
          let d = read_done bytes Card (with sofar r ps z.value) b z.seam end z.second in
          let k = row_known at e1 e2 z.seam b r ps z.value z.first d.0 q in
          tied_parts at e1 e2 z.seam end r ps z.value x y z.first d.1 k.0 k.1 k.2

      mid : (r : Subnet) (e1 : ℕ) → read bytes row_format at ≡ whole r e1
          → Split bytes (places_format r.places) (λ ps. transitions_format r.transitions >>= (λ ts. done (with sofar r ps ts))) e1 b end → Spells bytes (whole_subnet sofar) c at end
      mid r e1 x y = last r y.value e1 y.seam x y.first (split bytes (transitions_format r.transitions) _ y.seam b end y.second)

      go : Split bytes row_format (λ r. places_format r.places >>= (λ ps. transitions_format r.transitions >>= (λ ts. done (with sofar r ps ts)))) at b end
          → Spells bytes (whole_subnet sofar) c at end
      go x = mid x.value x.seam x.first (split bytes (places_format x.value.places) _ x.seam b end x.second)

module _ (bytes : List ℕ) (c : Card) (n : Counted c) (h : Header) where
  -- what was read of a card is its first rows
  next_prefix : (k i at seam end : ℕ) (b : Card) → After h i (prefix c i) → i < length c.subnets → read bytes (whole_subnet (prefix c i)) at ≡ whole b seam
      → read bytes (grow k whole_subnet b) seam ≡ whole c end → (b ≡ prefix c (suc i)) × After h (suc i) b
  next_prefix k i at seam end b a l x y =
      let f = yields_read bytes (whole_subnet (prefix c i)) (After h (suc i)) (whole_subnet_yields h i (prefix c i) a) at seam b x in
      let z = yields_read bytes (grow k whole_subnet b) (Extends b) (grow_extends k b) seam end c y in
      (extends_prefix b c z f.rows ∙ ap (prefix c) f.subnets, f)

  tied_grow : (k i at end : ℕ) → After h i (prefix c i) → i + k ≡ length c.subnets → read bytes (grow k whole_subnet (prefix c i)) at ≡ whole c end
      → Spells bytes (grow k whole_subnet (prefix c i)) c at end
  unfolding grow
  tied_grow zero i at end a l e = spells_done bytes (prefix c i) c at end (read_done bytes Card (prefix c i) c at end e).1
  tied_grow (suc k) i at end a l e = go (λ seam b m q. tied_grow k (suc i) seam end b m q) (split bytes (whole_subnet (prefix c i)) (grow k whole_subnet) at c end e)
    where
      go : ((seam : ℕ) → After h (suc i) (prefix c (suc i)) → suc i + k ≡ length c.subnets → read bytes (grow k whole_subnet (prefix c (suc i))) seam ≡ whole c end
          → Spells bytes (grow k whole_subnet (prefix c (suc i))) c seam end)
          → Split bytes (whole_subnet (prefix c i)) (grow k whole_subnet) at c end → Spells bytes (whole_subnet (prefix c i) >>= grow k whole_subnet) c at end
      go rest x =
          let m = built_more c n i (omega arith) in
          let p = next_prefix k i at x.seam end x.value a (omega arith) x.first x.second in
          let q = subst (λ (b : Card). read bytes (grow k whole_subnet b) x.seam ≡ whole c end) p.0 x.second in
          spells_then bytes (whole_subnet (prefix c i)) (grow k whole_subnet) c at x.seam end
          (tied_whole_subnet bytes c (prefix c i) at x.value x.seam x.first (p.0 ∙ sym m))
          (rw m (rest x.seam (subst (After h (suc i)) p.0 p.1) (omega arith) q))

-- THE BYTES OF A CARD THAT IS READ SPELL THE CARD'S OWN FIELDS
pub tied_card : (bytes : List ℕ) (c : Card) (end : ℕ) → read bytes card 0 ≡ whole c end → Spells bytes card c 0 end
unfolding card start
tied_card bytes c end e = go (split bytes (of header_of header) (λ h. grow h.subnets whole_subnet (start h)) 0 c end e)
  where
    n : Counted c
    n = rows_counted c (yields_read bytes card Wellformed card_yields 0 end c e).rows

    begin : start (header_of c) ≡ prefix c 0
    begin = sym (prefix_none c n)

    known : (h : Header) (seam : ℕ) → read bytes (grow h.subnets whole_subnet (start h)) seam ≡ whole c end → h ≡ header_of c
    known h seam y =
        let a = yields_read bytes (grow h.subnets whole_subnet (start h)) (After h (0 + h.subnets)) (grow_yields h) seam end c y in
        let v : h.version ≡ c.version = sym a.version in
        let g : h.signals ≡ c.signals = sym a.signals in
        let k : h.subnets ≡ length c.subnets = omega (arith, a.subnets) in
        let m : h.limit ≡ c.limit = sym a.limit in
        let q : h.scale ≡ c.scale = sym a.scale in
        λ i. record { version = v i; subnets = k i; signals = g i; limit = m i; scale = q i }

    go : Split bytes (of header_of header) (λ h. grow h.subnets whole_subnet (start h)) 0 c end → Spells bytes card c 0 end
    go x =
        let k = known x.value x.seam x.second in
        let q = subst (λ (h : Header). read bytes (grow h.subnets whole_subnet (start h)) x.seam ≡ whole c end) k x.second in
        let r = subst (λ (b : Card). read bytes (grow (length c.subnets) whole_subnet b) x.seam ≡ whole c end) begin q in
        spells_then bytes (of header_of header) _ c 0 x.seam end
        (tied_of bytes header_of header c 0 x.value x.seam (λ h. tied_header bytes 0 h x.seam) x.first k)
        (rw (built_of header_of header c, built_header (header_of c), begin)
        (tied_grow bytes c n (header_of c) (length c.subnets) 0 x.seam end (subst (After (header_of c) 0) begin (no_subnets (header_of c))) (zero-add (length c.subnets)) r))
