-- A turn of the loop that reads a card, over plain values. Assumes nothing.
use Prim.Native.Nat.{ℕ, zero, suc, ◌+◌, ◌-◌, ◌*◌, ◌/◌, ◌^◌, ◌≤◌, ◌<◌}
use mathlib.Core.Path.{◌≡◌, refl, sym, ap, subst, ◌∙◌}
use mathlib.Core.Logic.{◌⊎◌, inl, inr}
use mathlib.Core.Bool.{Bool, true, false, cond}
use mathlib.Core.List.{List, ◌∷◌, ◌++◌, append-nil}
use mathlib.Core.Option.{Option, none, some}
use native.Mathlib.Omega.{arith}
use native.Mathlib.Numerals.{add-one}
use lib.ListN.{length, get_or, take, set, replicate, length-set, length-replicate}
use lib.Seq.{take-suc-set, append_snoc, get_or-set_other}
use lib.Dec.{ltb, leb}
use borrow.Author.Tests.{lt-ltb, le-ltb, leb-true}
use Rattle.card.specs.Numbers.{number}
use Rattle.card.specs.Bits.{bit, bit_field}
use Rattle.card.specs.Format.{Format, done, get}
use Rattle.card.specs.Grammar.{header, subnet, place, transition, arc}
use Rattle.card.specs.Parsing.{Parsing, refused, whole, read}
use Rattle.card.specs.inner.Layout.{width_at, width_of, fault_at, start_of, to, pick, move_at, Move, or_bad, step_at, step_of, Sane}
use Rattle.card.specs.declared.FormatFault.{FormatFault}
use Rattle.card.specs.declared.FormatFault.TheVariants.{Truncated}
use Rattle.card.specs.declared.layout.Phase.{Phase}
use Rattle.card.specs.declared.layout.Phase.TheVariants.{Version, SubnetCount, SignalCount, Limit, Scale, Parent, SubnetType, PlaceCount, TransitionCount, Kind, Capacity, Tokens, Signal, ArcCount, Rank, Direction, ArcSubnet, ArcPlace, Weight}
use Rattle.card.specs.declared.layout.Layout.{Layout}
use Rattle.card.specs.declared.Counts.{Counts}
use Rattle.card.specs.declared.layout.Next.{Next}
use Rattle.card.specs.declared.layout.Next.TheVariants.{More, Done}
use Rattle.std.specs.Prelude.{Ok, Err}
use Rattle.card.specs.inner.Reader.{arc_head_width, IsArcHead}
use Rattle.card.specs.declared.reader.ArcHead.{ArcHead}
use Rattle.card.specs.Tables.{table_size, card_bits, has_room}
use Rattle.card.proofs.Yields.{bit_small, field_small}
use Rattle.card.proofs.Shape.{One, numbers_in, card_s}
use Rattle.card.proofs.Simulates.{denote, move_f, next_of, waits, sim, denote_start}
use Rattle.card.proofs.Bounds.{Budget, budget_card, sane_step, sane_start}

-- what a field leads to
abbrev pub Leads : Layout → ℕ → Move → Type 0
Leads l v (Ok (More m)) = (fault_at l.phase l v ≡ none) × (next_of (denote l) v ≡ denote m)
Leads l v (Ok (Done k)) = (fault_at l.phase l v ≡ none) × (next_of (denote l) v ≡ done k)
Leads l v (Err f) = fault_at l.phase l v ≡ some f

pub leads : (l : Layout) (v : ℕ) (r : Move) → r ≡ step_of l v → Leads l v r
leads l v r e = go (fault_at l.phase l v) refl e
  where
    move : (x : Next) → fault_at l.phase l v ≡ none → next_of (denote l) v ≡ move_f x → Leads l v (Ok x)
    move (More m) p q = (p, q)
    move (Done k) p q = (p, q)

    go : (x : Option FormatFault) → fault_at l.phase l v ≡ x → r ≡ or_bad x (move_at l.phase l v) → Leads l v r
    go none p q = subst (Leads l v) (sym q) (move (move_at l.phase l v) p (sim l.phase l v p))
    go (some f) p q = subst (Leads l v) (sym q) p

-- A field may have no bits; so many such fields may come, this one among them, before one that has some. Bits that were read before pay for them,
-- so that there are never more fields than bits.
abbrev pub spare : Phase → ℕ
spare Version = 0
spare SubnetCount = 0
spare SignalCount = 0
spare Limit = 2
spare Scale = 1
spare Parent = 0
spare SubnetType = 0
spare PlaceCount = 0
spare TransitionCount = 0
spare Kind = 0
spare Capacity = 0
spare Tokens = 0
spare Signal = 0
spare ArcCount = 0
spare Rank = 1
spare Direction = 0
spare ArcSubnet = 0
spare ArcPlace = 0
spare Weight = 0

pub spare_width : (p : Phase) (v : ℕ) → 1 ≤ width_at p v + spare p
unfolding header subnet place transition arc
spare_width Version v = omega arith
spare_width SubnetCount v = omega arith
spare_width SignalCount v = omega arith
spare_width Limit v = omega arith
spare_width Scale v = omega arith
spare_width Parent v = omega arith
spare_width SubnetType v = omega arith
spare_width PlaceCount v = omega arith
spare_width TransitionCount v = omega arith
spare_width Kind v = omega arith
spare_width Capacity v = omega arith
spare_width Tokens v = omega arith
spare_width Signal v = omega arith
spare_width ArcCount v = omega arith
spare_width Rank v = omega arith
spare_width Direction v = omega arith
spare_width ArcSubnet v = omega arith
spare_width ArcPlace v = omega arith
spare_width Weight v = omega arith

abbrev Spared : (w : ℕ) → Next → Type 0
Spared w (More m) = suc (spare m.phase) ≤ w
Spared w (Done k) = Unit {0}

spared_pick : (b : Bool) (x y : Next) (w : ℕ) → Spared w x → Spared w y → Spared w (pick b x y)
spared_pick true x y w h k = h
spared_pick false x y w h k = k

spared_move : (p : Phase) (l : Layout) (v : ℕ) → Spared (width_at p l.version + spare p) (move_at p l v)
unfolding header subnet place transition arc
spared_move Version l v = omega arith
spared_move SubnetCount l v = omega arith
spared_move SignalCount l v = omega arith
spared_move Limit l v = omega arith
spared_move Scale l v = omega arith
spared_move Parent l v = omega arith
spared_move SubnetType l v = omega arith
spared_move PlaceCount l v = omega arith
spared_move TransitionCount l v = omega arith
spared_move Kind l v = omega arith
spared_move Capacity l v = omega arith
spared_move Tokens l v = spared_pick (ltb 0 l.place_rows) _ _ _ (omega arith) (omega arith)
spared_move Signal l v = omega arith
spared_move ArcCount l v = omega arith
spared_move Rank l v = omega arith
spared_move Direction l v = omega arith
spared_move ArcSubnet l v = omega arith
spared_move ArcPlace l v = omega arith
spared_move Weight l v = spared_pick (ltb 0 l.arc_rows) _ _ _ (omega arith) (spared_pick (ltb 0 l.transition_rows) _ _ _ (omega arith) (spared_pick (ltb 0 l.subnets) _ _ _ (omega arith) tt))

spare_step : (l m : Layout) (v : ℕ) → step_of l v ≡ Ok (More m) → suc (spare m.phase) ≤ width_of l + spare l.phase
spare_step l m v e = go (fault_at l.phase l v) e
  where
    go : (x : Option FormatFault) → or_bad x (move_at l.phase l v) ≡ Ok (More m) → suc (spare m.phase) ≤ width_of l + spare l.phase
    go none q = let e : move_at l.phase l v ≡ More m = cc in subst (Spared (width_of l + spare l.phase)) e (spared_move l.phase l v)
    go (some f) q = let z : ◌≡◌ {A = ℕ} 0 1 = cc in absurd (omega arith)

-- a table of so many numbers has room for those of so many bytes
pub room_is : (bytes size : ℕ) → has_room bytes size ≡ true → (table_size ≤ size) ⊎ (8 * bytes ≤ size)
room_is bytes size e = go (leb table_size size) refl e
  where
    go : (b : Bool) → leb table_size size ≡ b → cond b true (leb bytes (size / 8)) ≡ true → (table_size ≤ size) ⊎ (8 * bytes ≤ size)
    go true q h = inl (leb-true table_size size q)
    go false q h = inr (omega (arith, leb-true bytes (size / 8) h))

pub zero_in : (n i : ℕ) → ◌≡◌ {A = ℕ} (get_or (replicate n 0) i 0) 0
zero_in zero i = refl
zero_in (suc n) zero = refl
zero_in (suc n) (suc i) = zero_in n i

-- a layout waits for a field of w bits
pub waits_for : (l : Layout) (w : ℕ) → w ≡ width_of l → denote l ≡ get w (λ u. 0) (fault_at l.phase l) (next_of (denote l))
waits_for l w e = waits l.phase l ∙ ap (λ (k : ℕ). get k (λ u. 0) (fault_at l.phase l) (next_of (denote l))) (sym e)

-- so there is room for one more number on the card and in the largest card's table, and what is left behind it
module _ (l : Layout) (at n w : ℕ) (budget : Budget (denote l) (table_size - n) (card_bits - at)) (low : at ≤ card_bits) (ew : w ≡ width_of l) where
  waited : Budget (get w (λ u. 0) (fault_at l.phase l) (next_of (denote l))) (table_size - n) (card_bits - at)
  waited = subst (λ (m : Format One Counts). Budget m (table_size - n) (card_bits - at)) (waits_for l w ew) budget

  pub budget_room : (n < table_size) × (at + w ≤ card_bits)
  budget_room = go (table_size - n) refl waited
    where
      go : (k : ℕ) → table_size - n ≡ k → Budget (get w (λ u. 0) (fault_at l.phase l) (next_of (denote l))) k (card_bits - at) → (n < table_size) × (at + w ≤ card_bits)
      go zero e b = absurd b
      go (suc k) e b = (omega arith, omega (arith, b.0, low))

  pub budget_spent : (v : ℕ) → v < 2 ^ w → fault_at l.phase l v ≡ none → Budget (next_of (denote l) v) (table_size - (n + 1)) (card_bits - (at + w))
  budget_spent v fits e =
      let q : table_size - n ≡ suc (table_size - (n + 1)) = omega (arith, budget_room.0) in
      let p : card_bits - at - w ≡ card_bits - (at + w) = omega arith in
      let b : Budget (get w (λ u. 0) (fault_at l.phase l) (next_of (denote l))) (suc (table_size - (n + 1))) (card_bits - at) = rw q at waited in
      rw p at (b.1 v fits e)

module _ (bytes : List ℕ) (size : ℕ) where
  -- reading what is left from here ends as reading all; the numbers so far stand in the table, and zeros behind them
  pub record Left (l : Layout) (at n : ℕ) (numbers : List ℕ) : Type 0 where
    pub answer : read bytes (denote l) at ≡ read bytes card_s 0
    pub values : take n numbers ++ numbers_in bytes (denote l) at ≡ numbers_in bytes card_s 0
    pub zeros : (i : ℕ) → n ≤ i → get_or numbers i 0 ≡ 0
    pub long : length numbers ≡ size
    pub room : has_room (length bytes) size ≡ true
    pub ahead : n + spare l.phase ≤ at
    pub sane : Sane l
    pub budget : Budget (denote l) (table_size - n) (card_bits - at)
    pub low : at ≤ card_bits
    pub inside : at ≤ 8 * length bytes
    pub few : n ≤ table_size

  pub left_start : (t : List ℕ) → t ≡ replicate size 0 → has_room (length bytes) size ≡ true → Left start_of 0 0 t
  left_start t e room =
      record {
        answer = ap (λ (m : Format One Counts). read bytes m 0) denote_start;
        values = ap (λ (m : Format One Counts). numbers_in bytes m 0) denote_start;
        zeros = λ i h. ap (λ xs. get_or xs i 0) e ∙ zero_in size i;
        long = ap length e ∙ length-replicate {A = ℕ} size 0;
        room = room;
        ahead = omega arith;
        sane = sane_start;
        budget = subst (λ (m : Format One Counts). Budget m table_size card_bits) (sym denote_start) budget_card;
        low = omega arith;
        inside = omega arith;
        few = omega arith;
      }

  module _ (l : Layout) (at n : ℕ) (t : List ℕ) (w : ℕ) (h : Left l at n t) (ew : w ≡ width_of l) where
    -- there is room on the card, and in the largest card's table
    pub left_room : (n < table_size) × (at + w ≤ card_bits)
    left_room = budget_room l at n w h.budget h.low ew

    -- there is room in the table
    pub left_fits : at + w ≤ 8 * length bytes → n < size
    left_fits g = go (room_is (length bytes) size h.room)
      where
        go : (table_size ≤ size) ⊎ (8 * length bytes ≤ size) → n < size
        go (inl m) = omega (arith, left_room.0)
        go (inr m) = omega (arith, h.ahead, ew, spare_width l.phase l.version)

    waiting : read bytes (get w (λ u. 0) (fault_at l.phase l) (next_of (denote l))) at ≡ read bytes card_s 0
    waiting = ap (λ (m : Format One Counts). read bytes m at) (sym (waits_for l w ew)) ∙ h.answer

    pub left_ends : 8 * length bytes < at + w → read bytes card_s 0 ≡ refused (number Truncated) at
    unfolding read
    left_ends g = sym waiting ∙ rw (lt-ltb (8 * length bytes) (at + w) g)

    module _ (v : ℕ) (r : Move) (g : at + w ≤ 8 * length bytes) (ev : v ≡ bit_field (bit bytes) at w) (er : r ≡ step_of l v) where
      on : (x : Option FormatFault) → fault_at l.phase l v ≡ x → read bytes (get w (λ u. 0) (fault_at l.phase l) (next_of (denote l))) at ≡ Rattle.card.specs.Parsing.unless_fault x at (read bytes (next_of (denote l) v) (at + w))
      unfolding read
      on x e = rw (le-ltb (8 * length bytes) (at + w) g, ← ev, e)

      pub left_bad : (f : FormatFault) → r ≡ Err f → read bytes card_s 0 ≡ refused (number f) at
      left_bad f e =
          let k = subst (Leads l v) e (leads l v r er) in
          sym waiting ∙ on (some f) k

      -- one number more in the table
      more_values : (k : Format One Counts) → next_of (denote l) v ≡ k → take (n + 1) (set t n v) ++ numbers_in bytes k (at + w) ≡ numbers_in bytes card_s 0
      more_values k e =
          let a : numbers_in bytes (denote l) at ≡ v ∷ numbers_in bytes k (at + w) =
          ap (λ (m : Format One Counts). numbers_in bytes m at) (waits_for l w ew) ∙ rw (← ev, e) in
          rw (add-one, take-suc-set t n v (omega (arith, h.long, left_fits g))) (append_snoc (take n t) v (numbers_in bytes k (at + w)) ∙ ap (λ xs. take n t ++ xs) (sym a) ∙ h.values)

      more_zeros : (i : ℕ) → n + 1 ≤ i → get_or (set t n v) i 0 ≡ 0
      more_zeros i m = get_or-set_other t n i v 0 (λ e. omega arith) ∙ h.zeros i (omega arith)

      pub left_more : (m : Layout) → r ≡ Ok (More m) → Left m (at + w) (n + 1) (set t n v)
      left_more m e =
          let k = subst (Leads l v) e (leads l v r er) in
          record {
            answer = ap (λ (x : Format One Counts). read bytes x (at + w)) (sym k.1) ∙ sym (on none k.0) ∙ waiting;
            values = more_values (denote m) k.1;
            zeros = more_zeros;
            long = length-set t n v ∙ h.long;
            room = h.room;
            ahead = omega (arith, h.ahead, ew, spare_step l m v (sym er ∙ e));
            sane = sane_step l m v h.sane (sym er ∙ e);
            budget = subst (λ (x : Format One Counts). Budget x (table_size - (n + 1)) (card_bits - (at + w))) k.1
                (budget_spent l at n w h.budget h.low ew v (rw ev (field_small (bit bytes) (bit_small bytes) at w)) k.0);
            low = left_room.1;
            inside = g;
            few = omega (arith, left_room.0);
          }

      pub left_done : (k : Counts) → r ≡ Ok (Done k) → (read bytes card_s 0 ≡ whole k (at + w)) × (take (n + 1) (set t n v) ≡ numbers_in bytes card_s 0) × (length (set t n v) ≡ size)
          × ((i : ℕ) → n + 1 ≤ i → get_or (set t n v) i 0 ≡ 0)
      unfolding read
      left_done k e =
          let x = subst (Leads l v) e (leads l v r er) in (
            sym waiting ∙ on none x.0 ∙ ap (λ (y : Format One Counts). read bytes y (at + w)) x.1,
            sym (append-nil (take (n + 1) (set t n v))) ∙ more_values (done k) x.1,
            length-set t n v ∙ h.long,
            more_zeros,
          )

  -- an arc's fields before the weight, read at once
  module _ (l : Layout) (at n : ℕ) (t : List ℕ) (h : Left l at n t) (e : l.phase ≡ Direction) (g : at + arc_head_width ≤ 8 * length bytes) (x : ArcHead) (ex : IsArcHead bytes at x) where
    untested : (p q : Phase) (v : ℕ) → l.phase ≡ p → step_at p l v ≡ Ok (More (to l q)) → Ok (More (to l q)) ≡ step_of l v
    untested p q v i s = sym (ap (λ (y : Phase). step_at y l v) i ∙ s)

    first : Left (to l ArcSubnet) (at + 1) (n + 1) (set t n x.direction)
    unfolding arc
    first = left_more l at n t 1 h (sym (ap (λ (p : Phase). width_at p l.version) e)) x.direction (Ok (More (to l ArcSubnet))) (omega arith) ex.direction (untested Direction ArcSubnet x.direction e refl) (to l ArcSubnet) refl

    second : Left (to l ArcPlace) (at + 1 + 5) (n + 1 + 1) (set (set t n x.direction) (n + 1) x.subnet)
    unfolding arc
    second = left_more (to l ArcSubnet) (at + 1) (n + 1) _ 5 first refl x.subnet (Ok (More (to l ArcPlace))) (omega arith) ex.subnet refl (to l ArcPlace) refl

    third : Left (to l Weight) (at + 1 + 5 + 8) (n + 1 + 1 + 1) (set (set (set t n x.direction) (n + 1) x.subnet) (n + 1 + 1) x.place)
    unfolding arc
    third = left_more (to l ArcPlace) (at + 1 + 5) (n + 1 + 1) _ 8 second refl x.place (Ok (More (to l Weight))) (omega arith) ex.place refl (to l Weight) refl

    pub arc_room : (n + 2 < table_size) × (n + 2 < size)
    unfolding arc
    arc_room = (omega (arith, (left_room (to l ArcPlace) (at + 1 + 5) (n + 1 + 1) _ 8 second refl).0), omega (arith, left_fits (to l ArcPlace) (at + 1 + 5) (n + 1 + 1) _ 8 second refl (omega arith)))

    pub left_arc : Left (to l Weight) (at + arc_head_width) (n + 3) (set (set (set t n x.direction) (n + 1) x.subnet) (n + 2) x.place)
    unfolding arc
    left_arc =
        let p : at + 1 + 5 + 8 ≡ at + 14 = omega arith in
        let q : n + 1 + 1 ≡ n + 2 = omega arith in
        let r : n + 1 + 1 + 1 ≡ n + 3 = omega arith in
        rw (p, r, q) at third
