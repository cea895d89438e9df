-- The grammar of a card without the rows that it makes: only widths, faults and how many fields there are. Assumes nothing.
use Prim.Native.Nat.{ℕ, zero, suc, ◌+◌, ◌*◌}
use mathlib.Core.Path.{◌≡◌, refl, sym, ap, ◌∙◌, fun_ext}
use mathlib.Core.Bool.{Bool, true, false, cond}
use mathlib.Core.List.{List, [], ◌∷◌, ◌++◌, map}
use mathlib.Core.Option.{Option, none, some}
use native.Mathlib.Omega.{arith}
use lib.ListN.{length, length-append}
use lib.Dec.{ltb}
use Rattle.std.proofs.lemmas.List.{length-map}
use Rattle.card.specs.Numbers.{number}
use Rattle.card.specs.Bits.{bit, bit_field}
use Rattle.card.specs.Card.{Header, Subnet, Place, Transition, Arc, Card, header_of, subnet_at, place_at, transition_at, arc_at}
use Rattle.card.specs.Format.{Format, done, get, of, each, grow, ◌>>=◌}
use Rattle.card.specs.Grammar.{header, subnet, place, transition, arc, whole_transition, with, whole_subnet, card}
use Rattle.card.specs.Parsing.{Parsing, refused, whole, read, unless_fault}
use Rattle.card.specs.declared.FormatFault.{FormatFault}
use Rattle.card.specs.declared.FormatFault.TheVariants.{Truncated}
use Rattle.card.specs.declared.Counts.{Counts}

abbrev pub One : Type 0
One = Unit {0}

-- a format that makes a part of what another makes, and spells nothing
abbrev pub erase : {U A B : Type 0} → (A → B) → Format U A → Format One B
erase f (done a) = done (f a)
erase f (get w value fault next) = get w (λ u. 0) fault (λ v. erase f (next v))

abbrev pub strip : {U A : Type 0} → Format U A → Format One A
strip m = erase (λ a. a) m

-- the numbers that the bytes hold by a format
abbrev pub numbers_in : {U A : Type 0} → (bytes : List ℕ) → Format U A → (at : ℕ) → List ℕ
numbers_in bytes (done a) at = []
numbers_in bytes (get w value fault next) at = bit_field (bit bytes) at w ∷ numbers_in bytes (next (bit_field (bit bytes) at w)) (at + w)

abbrev pub part : {A B : Type 0} → (A → B) → Parsing A → Parsing B
part f (refused n at) = refused n at
part f (whole a end) = whole (f a) end

module _ {U A B : Type 0} (f : A → B) where
  pub read_erase : (bytes : List ℕ) (m : Format U A) (at : ℕ) → read bytes (erase f m) at ≡ part f (read bytes m at)
  unfolding read
  read_erase bytes (done a) at = refl
  read_erase bytes (get w value fault next) at =
      rw (read_erase bytes (next v) (at + w)) (go (ltb (8 * length bytes) (at + w)) (fault v) (read bytes (next v) (at + w)))
    where
      v : ℕ
      v = bit_field (bit bytes) at w

      go : (short : Bool) (x : Option FormatFault) (r : Parsing A)
          → cond short (refused (number Truncated) at) (unless_fault x at (part f r)) ≡ part f (cond short (refused (number Truncated) at) (unless_fault x at r))
      go true x r = refl
      go false none r = refl
      go false (some y) r = refl

  pub numbers_erase : (bytes : List ℕ) (m : Format U A) (at : ℕ) → numbers_in bytes (erase f m) at ≡ numbers_in bytes m at
  numbers_erase bytes (done a) at = refl
  numbers_erase bytes (get w value fault next) at = rw (numbers_erase bytes (next (bit_field (bit bytes) at w)) (at + w))

-- one format, and then another
module _ {U A B C : Type 0} where
  pub then_then : (m : Format U A) (g : A → Format U B) (k : B → Format U C) → (m >>= g) >>= k ≡ m >>= (λ a. g a >>= k)
  then_then (done a) g k = refl
  then_then (get w value fault next) g k = ap (get w value fault) (fun_ext (λ v. then_then (next v) g k))

  pub erase_then : (f : B → C) (m : Format U A) (k : A → Format U B) (K : A → Format One C) → ((a : A) → erase f (k a) ≡ K a) → erase f (m >>= k) ≡ strip m >>= K
  erase_then f (done a) k K h = h a
  erase_then f (get w value fault next) k K h = ap (get w (λ u. 0) fault) (fun_ext (λ v. erase_then f (next v) k K h))

pub strip_of : {U W A : Type 0} (p : W → U) (m : Format U A) → strip (of p m) ≡ strip m
strip_of p (done a) = refl
strip_of p (get w value fault next) = ap (get w (λ u. 0) fault) (fun_ext (λ v. strip_of p (next v)))

-- n times the same, and then the rest
abbrev pub times : {C : Type 0} → ℕ → (Format One C → Format One C) → Format One C → Format One C
times zero one k = k
times (suc n) one k = one (times n one k)

pub erase_each : {U A B C : Type 0} (f : B → C) (one : ℕ → Format U A) (one_s : Format One C → Format One C)
    → ((i : ℕ) (k : A → Format U B) (K : Format One C) → ((a : A) → erase f (k a) ≡ K) → erase f (one i >>= k) ≡ one_s K)
    → (n from : ℕ) (k : List A → Format U B) (K : Format One C) → ((xs : List A) → length xs ≡ n → erase f (k xs) ≡ K) → erase f (each from n one >>= k) ≡ times n one_s K
unfolding each
erase_each f one one_s h zero from k K g = g [] refl
erase_each f one one_s h (suc n) from k K g =
    ap (erase f) (then_then (one from) _ k)
    ∙ h from _ (times n one_s K) (λ x. ap (erase f) (then_then (each (suc from) n one) _ k) ∙ erase_each f one one_s h n (suc from) (λ xs. k (x ∷ xs)) K (λ xs l. g (x ∷ xs) (ap suc l)))

-- the rows
abbrev pub arc_s : {C : Type 0} → Format One C → Format One C
arc_s k = strip arc >>= (λ a. k)

abbrev pub place_s : {C : Type 0} → (s : ℕ) → Format One C → Format One C
place_s s k = strip (place s) >>= (λ p. k)

abbrev pub transition_s : {C : Type 0} → (v g : ℕ) → Format One C → Format One C
transition_s v g k = strip (transition v g) >>= (λ r. times r.arcs arc_s k)

abbrev pub subnet_s : {C : Type 0} → (v g s p t : ℕ) → (ℕ → ℕ → Format One C) → Format One C
subnet_s v g s p t k = strip (subnet s p t) >>= (λ r. times r.places (place_s s) (times r.transitions (transition_s v g) (k (p + r.places) (t + r.transitions))))

unfoldable pub subnets_s : (v g n s p t : ℕ) → Format One Counts
subnets_s v g zero s p t = done (record { subnets = s; places = p; transitions = t })
subnets_s v g (suc n) s p t = subnet_s v g s p t (λ q u. subnets_s v g n (suc s) q u)

unfoldable pub card_s : Format One Counts
card_s = strip header >>= (λ h. subnets_s h.version h.signals h.subnets 0 0 0)

abbrev pub counts_of : Card → Counts
counts_of c = record { subnets = length c.subnets; places = length c.places; transitions = length c.transitions }

module _ {B C : Type 0} (f : B → C) where
  erase_row : {U A : Type 0} (p : Card → U) (m : Format U A) (k : A → Format Card B) (K : Format One C) → ((a : A) → erase f (k a) ≡ K) → erase f (of p m >>= k) ≡ strip m >>= (λ a. K)
  erase_row p m k K h = erase_then f (of p m) k (λ a. K) h ∙ ap (λ (x : Format One _). x >>= (λ a. K)) (strip_of p m)

  erase_whole_transition : (v g t : ℕ) (k : Transition × List Arc → Format Card B) (K : Format One C) → ((x : Transition × List Arc) → erase f (k x) ≡ K)
      → erase f (whole_transition v g t >>= k) ≡ transition_s v g K
  unfolding whole_transition
  erase_whole_transition v g t k K h =
      ap (erase f) (then_then (of (λ (c : Card). transition_at c t) (transition v g)) _ k)
      ∙ erase_then f (of (λ (c : Card). transition_at c t) (transition v g)) _ (λ r. times r.arcs arc_s K)
      (λ r. ap (erase f) (then_then (each 0 r.arcs (λ j. of (λ (c : Card). arc_at c t j) arc)) _ k)
      ∙ erase_each f (λ j. of (λ (c : Card). arc_at c t j) arc) arc_s (λ j. erase_row (λ (c : Card). arc_at c t j) arc) r.arcs 0 (λ xs. k (r, xs)) K (λ xs l. h (r, xs)))
      ∙ ap (λ (x : Format One Transition). x >>= (λ r. times r.arcs arc_s K)) (strip_of (λ (c : Card). transition_at c t) (transition v g))

  erase_whole_subnet : (c : Card) (k : Card → Format Card B) (K : ℕ → ℕ → Format One C)
      → ((r : Subnet) (ps : List Place) (ts : List (Transition × List Arc)) → length ps ≡ r.places → length ts ≡ r.transitions
      → erase f (k (with c r ps ts)) ≡ K (length c.places + r.places) (length c.transitions + r.transitions))
      → erase f (whole_subnet c >>= k) ≡ subnet_s c.version c.signals (length c.subnets) (length c.places) (length c.transitions) K
  unfolding whole_subnet
  erase_whole_subnet c k K h =
      ap (erase f) (then_then (of (λ (d : Card). subnet_at d s) (subnet s p t)) _ k)
      ∙ erase_then f (of (λ (d : Card). subnet_at d s) (subnet s p t)) _ (λ r. times r.places (place_s s) (times r.transitions (transition_s c.version c.signals) (K (p + r.places) (t + r.transitions))))
      (λ r. ap (erase f) (then_then (each p r.places (λ i. of (λ (d : Card). place_at d i) (place s))) _ k)
      ∙ erase_each f (λ i. of (λ (d : Card). place_at d i) (place s)) (place_s s) (λ i. erase_row (λ (d : Card). place_at d i) (place s)) r.places p _ _
      (λ ps lp. ap (erase f) (then_then (each t r.transitions (whole_transition c.version c.signals)) _ k)
      ∙ erase_each f (whole_transition c.version c.signals) (transition_s c.version c.signals) (λ u. erase_whole_transition c.version c.signals u) r.transitions t _ _ (λ ts lt. h r ps ts lp lt)))
      ∙ ap (λ (x : Format One Subnet). x >>= (λ r. times r.places (place_s s) (times r.transitions (transition_s c.version c.signals) (K (p + r.places) (t + r.transitions)))))
      (strip_of (λ (d : Card). subnet_at d s) (subnet s p t))
    where
      s : ℕ
      s = length c.subnets

      p : ℕ
      p = length c.places

      t : ℕ
      t = length c.transitions

erase_grow : (n : ℕ) (c : Card) → erase counts_of (grow n whole_subnet c) ≡ subnets_s c.version c.signals n (length c.subnets) (length c.places) (length c.transitions)
unfolding grow subnets_s
erase_grow zero c = refl
erase_grow (suc n) c =
    erase_whole_subnet counts_of c (grow n whole_subnet) (λ q u. subnets_s c.version c.signals n (suc (length c.subnets)) q u)
    (λ r ps ts lp lt.
    let a : length (c.subnets ++ (r ∷ [])) ≡ suc (length c.subnets) = length-append c.subnets (r ∷ []) ∙ omega arith in
    let b : length (c.places ++ ps) ≡ length c.places + r.places = length-append c.places ps ∙ ap (λ (x : ℕ). length c.places + x) lp in
    let d : length (c.transitions ++ map (λ x. x.0) ts) ≡ length c.transitions + r.transitions =
    length-append c.transitions (map (λ x. x.0) ts) ∙ ap (λ (x : ℕ). length c.transitions + x) (length-map ts (λ x. x.0) ∙ lt) in
    erase_grow n (with c r ps ts) ∙ rw (a, b, d))

-- THE SHAPE OF THE GRAMMAR
pub erase_card : erase counts_of card ≡ card_s
unfolding card card_s
erase_card =
    erase_then counts_of (of header_of header) _ (λ h. subnets_s h.version h.signals h.subnets 0 0 0) (λ h. erase_grow h.subnets _)
    ∙ ap (λ (x : Format One Header). x >>= (λ h. subnets_s h.version h.signals h.subnets 0 0 0)) (strip_of header_of header)

pub read_shape : (bytes : List ℕ) → read bytes card_s 0 ≡ part counts_of (read bytes card 0)
read_shape bytes = ap (λ (m : Format One Counts). read bytes m 0) (sym erase_card) ∙ read_erase counts_of bytes card 0

pub numbers_shape : (bytes : List ℕ) → numbers_in bytes card_s 0 ≡ numbers_in bytes card 0
numbers_shape bytes = ap (λ (m : Format One Counts). numbers_in bytes m 0) (sym erase_card) ∙ numbers_erase counts_of bytes card 0
