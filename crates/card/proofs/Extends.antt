-- The rows read so far are the first rows of the card that is read in the end. Assumes nothing.
use Prim.Native.Nat.{ℕ, ◌<◌}
use mathlib.Core.Path.{◌≡◌, refl, sym, ap, ◌∙◌}
use mathlib.Core.List.{List, [], ◌++◌, append_assoc, append-nil}
use lib.ListN.{length, get_or, take, get_or-append}
use lib.Seq.{take-append_seam}
use Rattle.card.specs.Card.{Subnet, Place, Transition, Arc, Card, subnet_at, place_at, first_place, first_transition, first_arc}
use Rattle.card.specs.Format.{of, each, grow}
use Rattle.card.specs.Grammar.{subnet, place, whole_transition, with, whole_subnet}
use Rattle.card.specs.Wellformed.{Rows}
use Rattle.card.proofs.Sums.{sum_same}
use Rattle.card.proofs.Yields.{Yields, yields_more, yields_skip, yields_grow}
use Rattle.card.proofs.Prefix.{prefix}

-- the list begins with another
pub record Begins {A : Type 0} (xs ys : List A) : Type 0 where
  pub rest : List A
  pub is : xs ++ rest ≡ ys

begins_take : {A : Type 0} (xs ys : List A) → Begins xs ys → xs ≡ take (length xs) ys
begins_take xs ys b = rw (← b.is, take-append_seam xs b.rest)

begins_at : {A : Type 0} (xs ys : List A) (d : A) → Begins xs ys → (i : ℕ) → i < length xs → get_or xs i d ≡ get_or ys i d
begins_at xs ys d b i l = rw (← b.is) (sym (get_or-append xs b.rest d i l))

begins_more : {A : Type 0} {xs ys zs : List A} → Begins xs ys → Begins ys zs → Begins xs zs
begins_more {xs = xs} a b = record { rest = a.rest ++ b.rest; is = sym (append_assoc xs a.rest b.rest) ∙ ap (λ ws. ws ++ b.rest) a.is ∙ b.is }

begins_self : {A : Type 0} (xs : List A) → Begins xs xs
begins_self xs = record { rest = []; is = append-nil xs }

begins_append : {A : Type 0} (xs ys : List A) → Begins xs (xs ++ ys)
begins_append xs ys = record { rest = ys; is = refl }

pub record Extends (b c : Card) : Type 0 where
  pub version : b.version ≡ c.version
  pub signals : b.signals ≡ c.signals
  pub limit : b.limit ≡ c.limit
  pub scale : b.scale ≡ c.scale
  pub subnets : Begins b.subnets c.subnets
  pub places : Begins b.places c.places
  pub transitions : Begins b.transitions c.transitions
  pub arcs : Begins b.arcs c.arcs

extends_self : (b : Card) → Extends b b
extends_self b =
    record {
      version = refl;
      signals = refl;
      limit = refl;
      scale = refl;
      subnets = begins_self b.subnets;
      places = begins_self b.places;
      transitions = begins_self b.transitions;
      arcs = begins_self b.arcs;
    }

extends_more : (a b c : Card) → Extends a b → Extends b c → Extends a c
extends_more a b c x y =
    record {
      version = x.version ∙ y.version;
      signals = x.signals ∙ y.signals;
      limit = x.limit ∙ y.limit;
      scale = x.scale ∙ y.scale;
      subnets = begins_more x.subnets y.subnets;
      places = begins_more x.places y.places;
      transitions = begins_more x.transitions y.transitions;
      arcs = begins_more x.arcs y.arcs;
    }

extends_with : (b : Card) (r : Subnet) (ps : List Place) (ts : List (Transition × List Arc)) → Extends b (with b r ps ts)
extends_with b r ps ts =
    record {
      version = refl;
      signals = refl;
      limit = refl;
      scale = refl;
      subnets = begins_append b.subnets _;
      places = begins_append b.places _;
      transitions = begins_append b.transitions _;
      arcs = begins_append b.arcs _;
    }

-- what the grammar reads on extends what was read
whole_subnet_extends : (b : Card) → Yields (whole_subnet b) (Extends b)
unfolding whole_subnet
whole_subnet_extends b =
    yields_skip (of (λ (k : Card). subnet_at k s) (subnet s p t)) _ (Extends b)
    (λ r. yields_skip (each p r.places (λ k. of (λ (d : Card). place_at d k) (place s))) _ (Extends b)
    (λ ps. yields_skip (each t r.transitions (whole_transition b.version b.signals)) _ (Extends b) (λ ts. extends_with b r ps ts)))
  where
    s : ℕ
    s = length b.subnets

    p : ℕ
    p = length b.places

    t : ℕ
    t = length b.transitions

pub grow_extends : (n : ℕ) (b : Card) → Yields (grow n whole_subnet b) (Extends b)
grow_extends n b = yields_grow n whole_subnet (λ i. Extends b) (λ i a h. yields_more (whole_subnet a) _ _ (λ c k. extends_more b a c h k) (whole_subnet_extends a)) 0 b (extends_self b)

-- rows that a card extends are its first ones
pub extends_prefix : (b c : Card) → Extends b c → Rows b → b ≡ prefix c (length b.subnets)
unfolding prefix first_place first_transition first_arc
extends_prefix b c x r =
    let places : length b.places ≡ first_place c (length b.subnets) =
    r.place_count ∙ sum_same (length b.subnets) _ _ (λ i l. ap (λ (y : Subnet). y.places) (begins_at b.subnets c.subnets _ x.subnets i l)) in
    let transitions : length b.transitions ≡ first_transition c (length b.subnets) =
    r.transition_count ∙ sum_same (length b.subnets) _ _ (λ i l. ap (λ (y : Subnet). y.transitions) (begins_at b.subnets c.subnets _ x.subnets i l)) in
    let arcs : length b.arcs ≡ first_arc c (length b.transitions) =
    r.arc_count ∙ sum_same (length b.transitions) _ _ (λ i l. ap (λ (y : Transition). y.arcs) (begins_at b.transitions c.transitions _ x.transitions i l)) in
    same x.version x.signals x.limit x.scale (begins_take _ _ x.subnets) (begins_take _ _ x.places ∙ ap (λ (n : ℕ). take n c.places) places)
    (begins_take _ _ x.transitions ∙ ap (λ (n : ℕ). take n c.transitions) transitions) (begins_take _ _ x.arcs ∙ ap (λ (n : ℕ). take n c.arcs) (arcs ∙ ap (first_arc c) transitions))
  where
    same : {v g m q : ℕ} {ss : List Subnet} {ps : List Place} {ts : List Transition} {xs : List Arc}
        → b.version ≡ v → b.signals ≡ g → b.limit ≡ m → b.scale ≡ q → b.subnets ≡ ss → b.places ≡ ps → b.transitions ≡ ts → b.arcs ≡ xs
        → b ≡ record { version = v; signals = g; limit = m; scale = q; subnets = ss; places = ps; transitions = ts; arcs = xs }
    same e1 e2 e3 e4 e5 e6 e7 e8 = λ i. record { version = e1 i; signals = e2 i; limit = e3 i; scale = e4 i; subnets = e5 i; places = e6 i; transitions = e7 i; arcs = e8 i }
