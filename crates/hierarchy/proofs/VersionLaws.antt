-- CR 3: everything else about a card is as on version 1. Bytes that differ in the version alone, 1 or 2, are one card in two versions, and have one
-- answer of the check: the same counts, or the same refusal at the same bit. Assumes nothing.
use Prim.Native.Nat.{ℕ, zero, suc, ◌+◌, ◌-◌, ◌*◌, ◌≤◌}
use mathlib.Core.Path.{◌≡◌, refl, sym, ap, ap₂, ◌∙◌, fun_ext}
use mathlib.Core.Bool.{Bool, true, false, cond}
use mathlib.Core.List.{List}
use mathlib.Core.Option.{Option, none, some}
use native.Mathlib.Omega.{arith}
use lib.ListN.{length}
use lib.Dec.{ltb, eqb}
use borrow.Author.Tests.{le-leb}
use Rattle.card.specs.Finite.{some_if, ◌otherwise◌}
use Rattle.card.specs.Numbers
use Rattle.card.specs.Bits.{bit, bit_field, bytes_for}
use Rattle.card.specs.Card.{Card, Subnet, Place, Transition, Arc, subnet_at, place_at, transition_at, first_place, first_transition, first_arc, with_version}
use Rattle.card.specs.Format.{Format, done, get, of, each, grow, size, size_from, ◌>>=◌}
use Rattle.card.specs.Grammar.{header, subnet, place, transition, whole_transition, with, whole_subnet, header_alone, card}
use Rattle.card.specs.Parsing.{Parsing, read, unless_fault, excess, closed, ended, read_card}
use Rattle.card.specs.Writing.{subnet_bit, transition_bit, arc_bit}
use Rattle.card.specs.declared.FormatFault.{FormatFault}
use Rattle.card.specs.declared.FormatFault.TheVariants.{Truncated}
use Rattle.card.proofs.BitLaws.{field_local}
use Rattle.card.proofs.Bounds.{since_none}
use Rattle.card.proofs.SearchLaws.{first_same}
use Rattle.card.proofs.Ranges.{read_wellformed}
use Rattle.card.proofs.Shape.{One, erase, part, read_erase, then_then}
use Rattle.card.proofs.Yields.{not_whole}
use Rattle.hierarchy.specs.Conditions.{children}
use Rattle.hierarchy.specs.Check.{Found, seen, directed, weighted, single, loops_fit, has_unit, has_interface, alike, like_lower, fault_unless, arc_fault, transition_fault, subnet_fault, check}
use Rattle.hierarchy.specs.Judgement.{Judgement, accepted, refused, checked, judged, judge, outcome_of, answer}
use Rattle.hierarchy.specs.declared.CardFault.TheVariants.{NoUnit}

get_same : {U A : Type 0} (w : ℕ) (value : U → ℕ) (fault : ℕ → Option FormatFault) (k l : ℕ → Format U A) → ((v : ℕ) → k v ≡ l v) → get w value fault k ≡ get w value fault l
get_same w value fault k l h = ap (get w value fault) (fun_ext h)

-- THE GRAMMAR: neither version has a rank, a limit or a scale
module _ (a b : ℕ) (la : a ≤ 2) (lb : b ≤ 2) where
  transition_version : (g : ℕ) → transition a g ≡ transition b g
  unfolding transition
  transition_version g = rw (since_none 3 8 a (omega arith), since_none 3 8 b (omega arith)) refl

  whole_version : (g : ℕ) → whole_transition a g ≡ whole_transition b g
  unfolding whole_transition
  whole_version g = fun_ext (λ t. rw (transition_version g) refl)

  header_size : size_from a header ≡ size_from b header
  unfolding header size
  header_size = rw (since_none 4 8 a (omega arith), since_none 4 8 b (omega arith), since_none 5 14 a (omega arith), since_none 5 14 b (omega arith)) refl

-- a subnet, and what comes behind it
module _ {B : Type 0} (c : Card) where
  abbrev opened : (one : ℕ → Format Card (Transition × List Arc)) → (k : Subnet → List Place → List (Transition × List Arc) → Format Card B) → Format Card B
  opened one k =
      of (λ (d : Card). subnet_at d (length c.subnets)) (subnet (length c.subnets) (length c.places) (length c.transitions))
      >>= (λ r. each (length c.places) r.places (λ i. of (λ (d : Card). place_at d i) (place (length c.subnets)))
      >>= (λ ps. each (length c.transitions) r.transitions one >>= (λ ts. k r ps ts)))

  opens : (k : Card → Format Card B) → whole_subnet c >>= k ≡ opened (whole_transition c.version c.signals) (λ r ps ts. k (with c r ps ts))
  unfolding whole_subnet
  opens k =
      then_then (of (λ (d : Card). subnet_at d (length c.subnets)) (subnet (length c.subnets) (length c.places) (length c.transitions))) _ k
      ∙ ap (λ (x : Subnet → Format Card B). of (λ (d : Card). subnet_at d (length c.subnets)) (subnet (length c.subnets) (length c.places) (length c.transitions)) >>= x)
      (fun_ext (λ r. then_then (each (length c.places) r.places (λ i. of (λ (d : Card). place_at d i) (place (length c.subnets)))) _ k
      ∙ ap (λ (x : List Place → Format Card B). each (length c.places) r.places (λ i. of (λ (d : Card). place_at d i) (place (length c.subnets))) >>= x)
      (fun_ext (λ ps. then_then (each (length c.transitions) r.transitions (whole_transition c.version c.signals)) _ k))))

  opened_same : (one two : ℕ → Format Card (Transition × List Arc)) (k l : Subnet → List Place → List (Transition × List Arc) → Format Card B) → one ≡ two
      → ((r : Subnet) (ps : List Place) (ts : List (Transition × List Arc)) → k r ps ts ≡ l r ps ts) → opened one k ≡ opened two l
  opened_same one two k l e h =
      ap₂ (λ (x : ℕ → Format Card (Transition × List Arc)) (y : Subnet → List Place → List (Transition × List Arc) → Format Card B). opened x y) e
      (fun_ext (λ r. fun_ext (λ ps. fun_ext (λ ts. h r ps ts))))

abbrev tagged : (version : ℕ) → Card → Format Card Card
tagged v d = done (with_version v d)

grow_version : (v n : ℕ) (c : Card) → c.version ≤ 2 → v ≤ 2 → grow n whole_subnet c >>= tagged v ≡ grow n whole_subnet (with_version v c)
unfolding grow
grow_version v zero c a b = refl
grow_version v (suc n) c a b =
    then_then (whole_subnet c) (grow n whole_subnet) (tagged v)
    ∙ opens c (λ d. grow n whole_subnet d >>= tagged v)
    ∙ opened_same c (whole_transition c.version c.signals) (whole_transition v c.signals) (λ r ps ts. grow n whole_subnet (with c r ps ts) >>= tagged v) (λ r ps ts. grow n whole_subnet (with_version v (with c r ps ts)))
    (whole_version c.version v a b c.signals) (λ r ps ts. grow_version v n (with c r ps ts) a b)
    ∙ sym (opens (with_version v c) (grow n whole_subnet))

-- what comes behind the version
abbrev behind : {U A : Type 0} → Format U A → (v : ℕ) → Format U A
behind (done a) v = done a
behind (get w value fault next) v = next v

card_version : (a b : ℕ) → a ≤ 2 → b ≤ 2 → behind card a >>= tagged b ≡ behind card b
unfolding card header
card_version a b la lb =
    rw (since_none 4 8 a (omega arith), since_none 4 8 b (omega arith), since_none 5 14 a (omega arith), since_none 5 14 b (omega arith))
    (get_same _ _ _ _ _ (λ s. get_same _ _ _ _ _ (λ g. get_same _ _ _ _ _ (λ m. get_same _ _ _ _ _ (λ q.
    grow_version b s (header_alone (record { version = a; subnets = s; signals = g; limit = m; scale = q })) la lb)))))

-- READING
id_part : {A : Type 0} (r : Parsing A) → part (λ a. a) r ≡ r
id_part (Parsing.refused n at) = refl
id_part (Parsing.whole a end) = refl

module _ {U A B : Type 0} (f : A → B) where
  erase_then_done : (m : Format U A) → erase (λ (b : B). b) (m >>= (λ a. done (f a))) ≡ erase f m
  erase_then_done (done a) = refl
  erase_then_done (get w value fault next) = ap (get w (λ u. 0) fault) (fun_ext (λ v. erase_then_done (next v)))

  read_then_done : (bytes : List ℕ) (m : Format U A) (at : ℕ) → read bytes (m >>= (λ a. done (f a))) at ≡ part f (read bytes m at)
  read_then_done bytes m at =
      sym (id_part (read bytes (m >>= (λ a. done (f a))) at)) ∙ sym (read_erase (λ (b : B). b) bytes (m >>= (λ a. done (f a))) at)
      ∙ ap (λ (x : Format One B). read bytes x at) (erase_then_done m) ∙ read_erase f bytes m at

-- it goes forward
read_later : {U A : Type 0} (bytes : List ℕ) (m : Format U A) (at end : ℕ) (a : A) → read bytes m at ≡ Parsing.whole a end → at ≤ end
unfolding read
read_later bytes (done b) at end a e = let q : at ≡ end = cc in omega (arith, q)
read_later {U} {A} bytes (get w value fault next) at end a e =
    let v = bit_field (bit bytes) at w in
    go (ltb (8 * length bytes) (at + w)) (fault v) (read bytes (next v) (at + w)) (read_later bytes (next v) (at + w) end a) e
  where
    go : (b : Bool) (y : Option FormatFault) (r : Parsing A) → (r ≡ Parsing.whole a end → at + w ≤ end)
        → cond b (Parsing.refused (Numbers.number Truncated) at) (unless_fault y at r) ≡ Parsing.whole a end → at ≤ end
    go true y r ih q = absurd (not_whole _ _ _ _ q)
    go false (some g) r ih q = absurd (not_whole _ _ _ _ q)
    go false none r ih q = omega (arith, ih q)

-- the version, and what comes behind it
abbrev front : (bytes : List ℕ) → Parsing Card → Parsing Card
front bytes r = cond (ltb (8 * length bytes) 4) (Parsing.refused (Numbers.number Truncated) 0) r

abbrev pub version_in : (bytes : List ℕ) → ℕ
version_in bytes = bit_field (bit bytes) 0 4

abbrev pub Known : (bytes : List ℕ) → Type 0
Known bytes = (1 ≤ version_in bytes) × (version_in bytes ≤ 2)

first_read : (bytes : List ℕ) → Known bytes → read bytes card 0 ≡ front bytes (read bytes (behind card (version_in bytes)) 4)
unfolding read card header
first_read bytes k = rw (le-leb 1 (version_in bytes) k.0, le-leb (version_in bytes) 2 k.1) refl

-- two inputs that are alike behind the version
module _ (x y : List ℕ) (long : length x ≡ length y) (same : (i : ℕ) → 4 ≤ i → bit x i ≡ bit y i) where
  read_same : {U A : Type 0} (m : Format U A) (at : ℕ) → 4 ≤ at → read x m at ≡ read y m at
  unfolding read
  read_same (done a) at l = refl
  read_same (get w value fault next) at l =
      let v = bit_field (bit y) at w in
      rw (long, field_local (bit x) (bit y) at w (λ i a b. same i (omega arith)), read_same (next v) (at + w) (omega arith)) refl

  excess_same : (end : ℕ) → 4 ≤ end → excess x end ≡ excess y end
  unfolding excess
  excess_same end l =
      rw long (ap (λ (z : Option ℕ). z otherwise some_if (ltb (bytes_for end) (length y)) (8 * bytes_for end))
      (first_same end (8 * bytes_for end - end) _ _ (λ i a b. ap (λ (z : ℕ). some_if (eqb z 1) i) (same i (omega arith)))))

  module _ (known : Known x) (knows : Known y) where
    abbrev u : ℕ
    u = version_in y

    inner : read y (behind card u) 4 ≡ part (with_version u) (read x (behind card (version_in x)) 4)
    inner =
        sym (read_same (behind card u) 4 (omega arith)) ∙ ap (λ (m : Format Card Card). read x m 4) (sym (card_version (version_in x) u known.1 knows.1))
        ∙ read_then_done (with_version u) x (behind card (version_in x)) 4

    fronted : (r : Parsing Card) → front y (part (with_version u) r) ≡ part (with_version u) (front x r)
    fronted r = rw long (go (ltb (8 * length y) 4))
      where
        go : (b : Bool) → cond b (Parsing.refused (Numbers.number Truncated) 0) (part (with_version u) r) ≡ part (with_version u) (cond b (Parsing.refused (Numbers.number Truncated) 0) r)
        go true = refl
        go false = refl

    read_version : read y card 0 ≡ part (with_version u) (read x card 0)
    read_version =
        first_read y knows ∙ ap (front y) inner ∙ fronted (read x (behind card (version_in x)) 4) ∙ ap (part (with_version u)) (sym (first_read x known))

    end_behind : (c : Card) (end : ℕ) → read x card 0 ≡ Parsing.whole c end → 4 ≤ end
    end_behind c end e = go (ltb (8 * length x) 4) (sym (first_read x known) ∙ e)
      where
        go : (b : Bool) → cond b (Parsing.refused (Numbers.number Truncated) 0) (read x (behind card (version_in x)) 4) ≡ Parsing.whole c end → 4 ≤ end
        go true q = absurd (not_whole _ _ _ _ q)
        go false q = read_later x (behind card (version_in x)) 4 end c q

    ended_version : (r : Parsing Card) → read x card 0 ≡ r → ended y (part (with_version u) r) ≡ part (with_version u) (ended x r)
    ended_version (Parsing.refused n at) e = refl
    ended_version (Parsing.whole c end) e = rw (excess_same end (end_behind c end e)) (go (excess y end))
      where
        go : (z : Option ℕ) → closed z (with_version u c) end ≡ part (with_version u) (closed z c end)
        go none = refl
        go (some i) = refl

    pub card_read_version : read_card y ≡ part (with_version u) (read_card x)
    unfolding read_card
    card_read_version = ap (ended y) read_version ∙ ended_version (read x card 0) refl

-- THE CHECK
module _ (c : Card) (v : ℕ) (a : c.version ≤ 2) (b : v ≤ 2) where
  transition_size : size (transition v 0) ≡ size (transition c.version 0)
  transition_size = ap size (transition_version v c.version b a 0)

  subnet_bit_is : (s : ℕ) → subnet_bit (with_version v c) s ≡ subnet_bit c s
  unfolding subnet_bit first_place first_transition first_arc
  subnet_bit_is s = rw (header_size v c.version b a, transition_size) refl

  transition_bit_is : (s t : ℕ) → transition_bit (with_version v c) s t ≡ transition_bit c s t
  unfolding transition_bit first_place first_arc
  transition_bit_is s t = rw (header_size v c.version b a, transition_size) refl

  arc_bit_is : (s t j : ℕ) → arc_bit (with_version v c) s t j ≡ arc_bit c s t j
  unfolding arc_bit
  arc_bit_is s t j = rw (transition_bit_is s t, transition_size) refl

  arc_version : (i t j : ℕ) → arc_fault (with_version v c) i t j ≡ arc_fault c i t j
  unfolding arc_fault seen directed weighted single loops_fit first_place first_arc
  arc_version i t j = rw (arc_bit_is i t j) refl

  fault_version : (i t : ℕ) → transition_fault (with_version v c) i t ≡ transition_fault c i t
  unfolding transition_fault has_unit first_place first_arc
  fault_version i t =
      ap₂ (λ (x y : Option Found). x otherwise y) (first_same 0 (transition_at c t).arcs (arc_fault (with_version v c) i t) (arc_fault c i t) (λ j l k. arc_version i t j))
      (ap (λ (n : ℕ). fault_unless n (has_unit c t) NoUnit) (transition_bit_is i t))

  subnet_version : (i : ℕ) → subnet_fault (with_version v c) i ≡ subnet_fault c i
  unfolding subnet_fault first_transition
  subnet_version i = first_same (first_transition c i) (subnet_at c i).transitions (transition_fault (with_version v c) i) (transition_fault c i) (λ t l k. fault_version i t)

  pub check_version : check (with_version v c) ≡ check c
  unfolding check has_interface like_lower alike children first_place first_transition first_arc
  check_version =
      ap₂ (λ (x y : Option Found). x otherwise y) (first_same 0 (length c.subnets) (subnet_fault (with_version v c)) (subnet_fault c) (λ i l k. subnet_version i))
      (ap₂ (λ (x y : Option Found). x otherwise y) (first_same 0 (length c.subnets) _ _ (λ i l k. rw (subnet_bit_is i) refl))
      (first_same 0 (length c.subnets) _ _ (λ s l k. rw (subnet_bit_is s) refl)))

-- a judgement, of the card as another version
abbrev pub judged_as : (version : ℕ) → Judgement → Judgement
judged_as v (accepted c) = accepted (with_version v c)
judged_as v (refused n at) = refused n at

module _ (x y : List ℕ) (long : length x ≡ length y) (same : (i : ℕ) → 4 ≤ i → bit x i ≡ bit y i) (known : Known x) (knows : Known y) where
  -- BYTES THAT DIFFER IN THE VERSION ALONE ARE ONE CARD IN TWO VERSIONS, accepted or refused as one
  pub judge_version : judge y ≡ judged_as (version_in y) (judge x)
  unfolding judge
  judge_version = ap judged (card_read_version x y long same known knows) ∙ go (read_card x) refl
    where
      found : (c : Card) (z : Option Found) → checked z (with_version (version_in y) c) ≡ judged_as (version_in y) (checked z c)
      found c none = refl
      found c (some f) = refl

      go : (r : Parsing Card) → read_card x ≡ r → judged (part (with_version (version_in y)) r) ≡ judged_as (version_in y) (judged r)
      go (Parsing.refused n at) e = refl
      go (Parsing.whole c end) e = rw (check_version c (version_in y) (read_wellformed x c end e).version.1 knows.1) (found c (check c))

  -- `answer_version`: THE CHECK GIVES BOTH ONE ANSWER
  pub answer_version : answer y ≡ answer x
  answer_version = ap outcome_of judge_version ∙ go (judge x)
    where
      go : (j : Judgement) → outcome_of (judged_as (version_in y) j) ≡ outcome_of j
      go (accepted c) = refl
      go (refused n at) = refl
