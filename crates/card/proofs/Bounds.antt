-- The layout machine's numbers stay small, and no card has more fields or bits than the most. Assumes nothing.
use Prim.Native.Nat.{ℕ, zero, suc, ◌+◌, ◌-◌, ◌*◌, ◌^◌, ◌≤◌, ◌<◌}
use mathlib.Core.Path.{◌≡◌, refl, subst}
use mathlib.Core.Bool.{Bool, true, false, cond}
use mathlib.Core.Option.{Option, none, some}
use native.Mathlib.Omega.{arith}
use lib.Dec.{ltb}
use borrow.Author.Tests.{ltb-true, lt-ltb}
use Rattle.card.specs.Format.{Format, done, get, size}
use Rattle.card.specs.Grammar.{max_version, max_count, header, subnet, place, transition, arc, max_subnets, max_arcs, since, rank_width}
use Rattle.card.specs.inner.Layout.{fault_at, start_of, pick, move_at, Move, or_bad, step_of, headed, Sane}
use Rattle.card.specs.declared.FormatFault.{FormatFault}
use Rattle.card.specs.declared.layout.Phase.{Phase}
use Rattle.card.specs.declared.layout.Phase.TheVariants.{Version, SubnetCount, SignalCount, Limit, Scale, Parent, SubnetType, PlaceCount, TransitionCount, Kind, Capacity, Tokens, Signal, ArcCount, Rank, Direction, ArcSubnet, ArcPlace, Weight}
use Rattle.card.specs.declared.layout.Layout.{Layout}
use Rattle.card.specs.declared.layout.Next.{Next}
use Rattle.card.specs.declared.layout.Next.TheVariants.{More, Done}
use Rattle.std.specs.Prelude.{Ok}
use Rattle.std.proofs.lemmas.Bool.Decides.{Decides-and}
use Rattle.card.specs.Tables.{table_size, card_bits}
use Rattle.card.specs.Writing.{bits_before}
use Rattle.card.proofs.Decides.{le_is, some_unless_is}
use Rattle.card.proofs.Shape.{One, times, arc_s, place_s, transition_s, subnets_s, card_s}

abbrev SaneMove : Next → Type 0
SaneMove (More m) = Sane m
SaneMove (Done k) = Unit {0}

sane_pick : (b c : Bool) (x y : Next) → c ≡ b → (c ≡ true → SaneMove x) → SaneMove y → SaneMove (pick b x y)
sane_pick true c x y e h k = h e
sane_pick false c x y e h k = k

module _ (l : Layout) (v : ℕ) (small : l.subnet + l.subnets ≤ 31) (places : l.places ≤ 255) (transitions : l.transitions ≤ 255) where
  sane_move : (p : Phase) → headed p l.subnet → fault_at p l v ≡ none → SaneMove (move_at p l v)
  unfolding header subnet
  sane_move Version h e = record { head = h; subnet = small; places = places; transitions = transitions }
  sane_move SubnetCount h e =
      let k = (some_unless_is _ _ _ (Decides-and _ _ (le_is 1 v) (le_is v max_subnets))).0 e in
      record { head = tt; subnet = omega (arith, k.1); places = places; transitions = transitions }
  sane_move SignalCount h e = record { head = tt; subnet = small; places = places; transitions = transitions }
  sane_move Limit h e = record { head = tt; subnet = small; places = places; transitions = transitions }
  sane_move Scale h e = record { head = tt; subnet = small; places = places; transitions = transitions }
  sane_move Parent h e = record { head = tt; subnet = small; places = places; transitions = transitions }
  sane_move SubnetType h e = record { head = tt; subnet = small; places = places; transitions = transitions }
  sane_move PlaceCount h e =
      let k = (some_unless_is _ _ _ (Decides-and _ _ (le_is 1 v) (le_is (l.places + v) max_count))).0 e in
      record { head = tt; subnet = small; places = k.1; transitions = transitions }
  sane_move TransitionCount h e =
      let k = (some_unless_is _ _ _ (Decides-and _ _ (le_is 1 v) (le_is (l.transitions + v) max_count))).0 e in
      record { head = tt; subnet = small; places = places; transitions = k.1 }
  sane_move Kind h e = record { head = tt; subnet = small; places = places; transitions = transitions }
  sane_move Capacity h e = record { head = tt; subnet = small; places = places; transitions = transitions }
  sane_move Tokens h e =
      sane_pick (ltb 0 l.place_rows) _ _ _ refl (λ q. record { head = tt; subnet = small; places = places; transitions = transitions })
      (record { head = tt; subnet = small; places = places; transitions = transitions })
  sane_move Signal h e = record { head = tt; subnet = small; places = places; transitions = transitions }
  sane_move ArcCount h e = record { head = tt; subnet = small; places = places; transitions = transitions }
  sane_move Rank h e = record { head = tt; subnet = small; places = places; transitions = transitions }
  sane_move Direction h e = record { head = tt; subnet = small; places = places; transitions = transitions }
  sane_move ArcSubnet h e = record { head = tt; subnet = small; places = places; transitions = transitions }
  sane_move ArcPlace h e = record { head = tt; subnet = small; places = places; transitions = transitions }
  sane_move Weight h e =
      sane_pick (ltb 0 l.arc_rows) _ _ _ refl (λ q. record { head = tt; subnet = small; places = places; transitions = transitions })
      (sane_pick (ltb 0 l.transition_rows) _ _ _ refl (λ q. record { head = tt; subnet = small; places = places; transitions = transitions })
      (sane_pick (ltb 0 l.subnets) (ltb 0 l.subnets) _ _ refl
      (λ q. record { head = tt; subnet = omega (arith, ltb-true 0 l.subnets q); places = places; transitions = transitions }) tt))

pub sane_step : (l m : Layout) (v : ℕ) → Sane l → step_of l v ≡ Ok (More m) → Sane m
sane_step l m v s e = go (fault_at l.phase l v) refl e
  where
    move : (x : Next) → SaneMove x → ◌≡◌ {A = Move} (Ok x) (Ok (More m)) → Sane m
    move (More k) h q = let r : k ≡ m = cc in subst Sane r h
    move (Done k) h q = let z : ◌≡◌ {A = ℕ} 0 1 = cc in absurd (omega arith)

    go : (x : Option FormatFault) → fault_at l.phase l v ≡ x → or_bad x (move_at l.phase l v) ≡ Ok (More m) → Sane m
    go none p q = move (move_at l.phase l v) (sane_move l v s.subnet s.places s.transitions l.phase s.head p) q
    go (some f) p q = let z : ◌≡◌ {A = ℕ} 0 1 = cc in absurd (omega arith)

pub sane_start : Sane start_of
sane_start = record { head = refl; subnet = omega arith; places = omega arith; transitions = omega arith }

-- a field that a version brings is no wider than it is from that version on
pub since_small : (first width version : ℕ) → since first width version ≤ width
unfolding since
since_small first width version = go (ltb version first)
  where
    go : (b : Bool) → cond b 0 width ≤ width
    go true = omega arith
    go false = omega arith

-- and below it has no bits
pub since_none : (first width version : ℕ) → version < first → since first width version ≡ 0
unfolding since
since_none first width version l = rw (lt-ltb version first l) refl

-- at most so many fields, of at most so many bits together, as long as no number is at fault
abbrev pub Budget : {A : Type 0} → Format One A → (fields bits : ℕ) → Type 0
Budget (done a) n b = Unit {0}
Budget (get w value fault next) zero b = ⊥
Budget (get w value fault next) (suc n) b = (w ≤ b) × ((v : ℕ) → v < 2 ^ w → fault v ≡ none → Budget (next v) n (b - w))

module _ {A : Type 0} where
  pub budget_more : (m : Format One A) (i j a b : ℕ) → i ≤ j → a ≤ b → Budget m i a → Budget m j b
  budget_more (done x) i j a b l k h = tt
  budget_more (get w value fault next) zero j a b l k h = absurd h
  budget_more (get w value fault next) (suc i) zero a b l k h = absurd (omega arith)
  budget_more (get w value fault next) (suc i) (suc j) a b l k h = (omega (arith, h.0), λ v m e. budget_more (next v) i j (a - w) (b - w) (omega arith) (omega arith) (h.1 v m e))

  budget_arc : (k : Format One A) (n b : ℕ) → Budget k n b → Budget (arc_s k) (n + 4) (b + 22)
  unfolding arc
  budget_arc k n b h =
      let q : n + 4 ≡ suc (suc (suc (suc n))) = omega arith in
      rw q (omega arith, λ d ld ed. (omega arith, λ s ls es. (omega arith, λ p lp ep. (omega arith, λ w lw ew. budget_more k n n b (b + 22 - 1 - 5 - 8 - 8) (omega arith) (omega arith) h))))

  budget_place : (s : ℕ) (k : Format One A) (n b : ℕ) → Budget k n b → Budget (place_s s k) (n + 3) (b + 18)
  unfolding place
  budget_place s k n b h =
      let q : n + 3 ≡ suc (suc (suc n)) = omega arith in
      rw q (omega arith, λ d ld ed. (omega arith, λ c lc ec. (omega arith, λ t lt et. budget_more k n n b (b + 18 - 2 - 8 - 8) (omega arith) (omega arith) h)))

  budget_times : (one : Format One A → Format One A) (cost wide : ℕ) → ((k : Format One A) (n b : ℕ) → Budget k n b → Budget (one k) (n + cost) (b + wide))
      → (c : ℕ) (k : Format One A) (n b : ℕ) → Budget k n b → Budget (times c one k) (n + c * cost) (b + c * wide)
  budget_times one cost wide f zero k n b h = budget_more k n (n + 0 * cost) b (b + 0 * wide) (omega arith) (omega arith) h
  budget_times one cost wide f (suc c) k n b h =
      let q : n + suc c * cost ≡ n + c * cost + cost = omega arith in
      let r : b + suc c * wide ≡ b + c * wide + wide = omega arith in
      rw (q, r) (f (times c one k) (n + c * cost) (b + c * wide) (budget_times one cost wide f c k n b h))

  budget_transition : (v g : ℕ) (k : Format One A) (n b : ℕ) → Budget k n b → Budget (transition_s v g k) (n + 127) (b + (693 + rank_width v))
  unfolding transition
  budget_transition v g k n b h =
      let q : n + 127 ≡ suc (suc (suc (n + 124))) = omega arith in
      rw q (
        omega arith,
        λ s ls es. (
          omega arith,
          λ a la ea. (
            omega arith,
            λ r lr er.
                budget_more (times a arc_s k) (n + a * 4) (n + 124) (b + a * 22) (b + (693 + rank_width v) - 6 - 5 - rank_width v) (omega (arith, la)) (omega (arith, la)) (budget_times arc_s 4 22 budget_arc a k n b h),
          ),
        ),
      )

-- k of what is left of a number are taken
spend : (m t k c : ℕ) → t + k ≤ m → (m - t) * c ≡ (m - (t + k)) * c + k * c
spend m t k c l = let e : m - t ≡ m - (t + k) + k = omega arith in rw e (omega arith)

pay : (n a b x y : ℕ) → n * 26 + a + b + y + x ≤ suc n * 26 + (a + x) + (b + y) - 5 - 5 - 8 - 8
pay n a b x y = omega arith

-- places and transitions that are still free pay for theirs
pub budget_subnets : (v g n s p t : ℕ) → p ≤ max_count → t ≤ max_count
    → Budget (subnets_s v g n s p t) (n * 4 + (max_count - p) * 3 + (max_count - t) * 127) (n * 26 + (max_count - p) * 18 + (max_count - t) * (693 + rank_width v))
unfolding subnets_s subnet
budget_subnets v g zero s p t lp lt = tt
budget_subnets v g (suc n) s p t lp lt =
    let wide = 693 + rank_width v in
    let q : suc n * 4 + (max_count - p) * 3 + (max_count - t) * 127 ≡ suc (suc (suc (suc (n * 4 + (max_count - p) * 3 + (max_count - t) * 127)))) = omega arith in
    rw q (
      omega arith,
      λ parent a1 a2. (
        omega arith,
        λ type b1 b2. (
          omega arith,
          λ places c1 c2. (
            omega arith,
            λ transitions d1 d2.
                let x = (some_unless_is _ _ _ (Decides-and _ _ (le_is 1 places) (le_is (p + places) max_count))).0 c2 in
                let y = (some_unless_is _ _ _ (Decides-and _ _ (le_is 1 transitions) (le_is (t + transitions) max_count))).0 d2 in
                let r = budget_subnets v g n (suc s) (p + places) (t + transitions) x.1 y.1 in
                let u = budget_times (transition_s v g) 127 wide (budget_transition v g) transitions (subnets_s v g n (suc s) (p + places) (t + transitions)) _ _ r in
                budget_more (times places (place_s s) (times transitions (transition_s v g) (subnets_s v g n (suc s) (p + places) (t + transitions)))) _ _ _ _
                (omega (arith, x.1, y.1)) (rw (spend max_count p places 18 x.1, spend max_count t transitions wide y.1) (pay n _ _ _ _))
                (budget_times (place_s s) 3 18 (budget_place s) places _ _ _ u),
          ),
        ),
      ),
    )

-- NO CARD HAS MORE FIELDS THAN THE TABLE, NOR MORE BITS THAN card_bits
pub budget_card : Budget card_s table_size card_bits
unfolding card_s header
budget_card = (
  omega arith,
  λ version a1 a2. (
    omega arith,
    λ subnets b1 b2. (
      omega arith,
      λ signals c1 c2.
          let x = (some_unless_is _ _ _ (Decides-and _ _ (le_is 1 subnets) (le_is subnets max_subnets))).0 b2 in
          let v = (some_unless_is _ _ _ (Decides-and _ _ (le_is 1 version) (le_is version max_version))).0 a2 in
          let none : (first width : ℕ) → max_version < first → since first width version ≡ 0 = λ first width l. since_none first width version (omega (arith, v.1)) in (
            omega (arith, none 4 8 (omega arith)),
            λ limit d1 d2. (
              omega (arith, none 4 8 (omega arith), none 5 14 (omega arith)),
              λ scale e1 e2.
                  budget_more (subnets_s version signals subnets 0 0 0) (subnets * 4 + (max_count - 0) * 3 + (max_count - 0) * 127) (table_size - 5) (subnets * 26 + (max_count - 0) * 18 + (max_count - 0) * (693 + rank_width version)) _
                  (omega (arith, x.1)) (omega (arith, x.1, none 3 8 (omega arith), none 4 8 (omega arith), none 5 14 (omega arith))) (budget_subnets version signals subnets 0 0 0 (omega arith) (omega arith)),
            ),
          ),
    ),
  ),
)

-- what they are: those of a card of the newest version with the most rows
pub most_bits : card_bits ≡ bits_before max_version max_subnets max_count max_count (max_arcs * max_count)
unfolding size header subnet place transition arc since
most_bits = refl
