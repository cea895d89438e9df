-- A turn of the loop that spells a card, over plain values. Assumes nothing.
use Prim.Native.Nat.{ℕ, ◌+◌, ◌-◌, ◌*◌, ◌/◌, ◌^◌, ◌≤◌, ◌<◌}
use mathlib.Core.Path.{◌≡◌, refl, sym, ap, subst, ◌∙◌}
use mathlib.Core.Logic.{◌⊎◌, inl, inr}
use mathlib.Core.Bool.{true}
use mathlib.Core.List.{List, [], ◌∷◌, ◌++◌, map}
use mathlib.Core.Option.{Option, none}
use native.Mathlib.Omega.{arith}
use native.Mathlib.Nat.{add-zero, zero-div}
use lib.ListN.{length, get_or, take, drop, replicate, length-append, length-drop, length-replicate}
use lib.Seq.{ext_get_or, append_snoc, get_or-take, get_or-drop, length-take-le}
use lib.Dec.{ltb}
use borrow.Author.Tests.{ltb-true}
use Rattle.card.specs.Numbers.{number}
use Rattle.card.specs.Rooms.{IsFilled}
use Rattle.card.specs.Bits.{bit, bit_field}
use Rattle.card.specs.inner.Spans.{Put}
use Rattle.card.specs.Card.{Card}
use Rattle.card.specs.Format.{Format, done, get}
use Rattle.card.specs.Grammar.{card}
use Rattle.card.specs.Parsing.{refused, whole, read_card}
use Rattle.card.specs.Writing.{Field, fields, encode, all_fit, counted}
use Rattle.card.specs.Tables.{numbers_of, table_size, card_bits, card_bytes}
use Rattle.card.specs.Spelling.{Lines, IsSpelt}
use Rattle.card.specs.Spelling
use Rattle.card.specs.inner.Layout.{width_of, fault_at, start_of, Move, step_of, Sane}
use Rattle.card.specs.declared.FormatFault.{FormatFault}
use Rattle.card.specs.declared.layout.Layout.{Layout}
use Rattle.card.specs.declared.Counts.{Counts}
use Rattle.card.specs.declared.layout.Next.TheVariants.{More, Done}
use Rattle.std.specs.Prelude.{Ok, Err}
use Rattle.std.proofs.lemmas.Bool.{cases_lt, and_parts}
use Rattle.card.proofs.Sums.{total_append}
use Rattle.card.proofs.Walk.{bits, walk, Spelt}
use Rattle.card.proofs.BitLaws.{field_local, byte_field}
use Rattle.card.proofs.Pack.{spell_fill, spell_length, spell_bytes, spell_spelt}
use Rattle.card.proofs.RoundTrip.{read_encode, spelt_same, counted_is, walk_whole}
use Rattle.card.proofs.Shape.{One, erase, counts_of, erase_card}
use Rattle.card.proofs.Simulates.{denote, next_of, denote_start}
use Rattle.card.proofs.Bounds.{Budget, budget_card, sane_step, sane_start}
use Rattle.card.proofs.Turn.{Leads, leads, zero_in, waits_for, budget_room, budget_spent}

-- what is still to be spelt of c: a format, whose shape the layout has, and the fields that are spelt
pub record Rest (c : Card) (l : Layout) (at n : ℕ) (bytes : List ℕ) : Type 0 where
  pub format : Format Card Card
  pub shape : erase counts_of format ≡ denote l
  pub walks : walk format c at ≡ walk card c 0
  pub front : List Field
  pub joined : front ++ fields format c ≡ fields card c
  pub count : length front ≡ n
  pub wide : bits front ≡ at
  pub spelt : Spelt bytes 0 front

module _ (numbers : List ℕ) where
  pub record Behind (l : Layout) (at n : ℕ) (bytes : List ℕ) : Type 0 where
    pub sane : Sane l
    pub budget : Budget (denote l) (table_size - n) (card_bits - at)
    pub low : at ≤ card_bits
    pub few : n ≤ table_size
    pub long : length bytes ≡ card_bytes
    pub small : (k : ℕ) → get_or bytes k 0 < 256
    pub zeros : (i : ℕ) → at ≤ i → bit bytes i ≡ 0
    pub rest : (c : Card) → Lines c numbers → Rest c l at n bytes

  -- a layout that waits for a field: so does what is still to be spelt
  pub record Next (c : Card) (l : Layout) (at n : ℕ) (bytes : List ℕ) (w v : ℕ) : Type 0 where
    pub value : Card → ℕ
    pub fault : ℕ → Option FormatFault
    pub after : ℕ → Format Card Card
    pub right : value c ≡ v
    pub fits : v < 2 ^ w
    pub faults : fault v ≡ fault_at l.phase l v
    pub shape : erase counts_of (after v) ≡ next_of (denote l) v
    pub walks : walk (get w value fault after) c at ≡ walk card c 0
    pub front : List Field
    pub joined : front ++ (record { width = w; value = v } ∷ fields (after v) c) ≡ fields card c
    pub count : length front ≡ n
    pub wide : bits front ≡ at
    pub spelt : Spelt bytes 0 front

fit_front : (front back : List Field) (f : Field) → all_fit (front ++ (f ∷ back)) ≡ true → f.value < 2 ^ f.width
unfolding all_fit
fit_front [] back f e = ltb-true f.value (2 ^ f.width) (and_parts (ltb f.value (2 ^ f.width)) (all_fit back) e).0
fit_front (x ∷ front) back f e = fit_front front back f (and_parts (ltb x.value (2 ^ x.width)) (all_fit (front ++ (f ∷ back))) e).1

value_front : (front back : List Field) (f : Field) → get_or (map (λ x. x.value) (front ++ (f ∷ back))) (length front) 0 ≡ f.value
value_front [] back f = refl
value_front (x ∷ front) back f = value_front front back f

length_front : (front back : List Field) (f : Field) → length front < length (map (λ x. x.value) (front ++ (f ∷ back)))
length_front [] back f = omega arith
length_front (x ∷ front) back f = omega (arith, length_front front back f)

module _ (numbers : List ℕ) (c : Card) (k : Lines c numbers) (l : Layout) (at n : ℕ) (bytes : List ℕ) (w v : ℕ) (room : n < table_size) (ew : w ≡ width_of l) (ev : v ≡ get_or numbers n 0) where
  pub next_of_rest : Rest c l at n bytes → Next numbers c l at n bytes w v
  unfolding fields numbers_of
  next_of_rest r = go r.format r.shape r.walks r.joined
    where
      here : (value : Card → ℕ) (fault : ℕ → Option FormatFault) (after : ℕ → Format Card Card) → fault ≡ fault_at l.phase l → (λ x. erase counts_of (after x)) ≡ next_of (denote l)
          → walk (get w value fault after) c at ≡ walk card c 0 → r.front ++ (record { width = w; value = value c } ∷ fields (after (value c)) c) ≡ fields card c → Next numbers c l at n bytes w v
      here value fault after ef ea x j =
          let q : numbers_of c ≡ map (λ f. f.value) (r.front ++ (record { width = w; value = value c } ∷ fields (after (value c)) c)) = ap (map (λ f. f.value)) (sym j) in
          let l1 : n < length (numbers_of c) = rw (q, ← r.count) (length_front r.front _ _) in
          let e : value c ≡ v =
          sym (ev ∙ k.entries n room l1 ∙ ap (λ xs. get_or xs n 0) q ∙ ap (λ (i : ℕ). get_or (map (λ f. f.value) (r.front ++ (record { width = w; value = value c } ∷ fields (after (value c)) c))) i 0) (sym r.count)
          ∙ value_front r.front _ _) in
          let t : value c < 2 ^ w = fit_front r.front (fields (after (value c)) c) (record { width = w; value = value c }) (ap all_fit j ∙ k.fit) in
          record {
            value = value;
            fault = fault;
            after = after;
            right = e;
            fits = rw (← e) t;
            faults = ap (λ (f : ℕ → Option FormatFault). f v) ef;
            shape = ap (λ (f : ℕ → Format One Counts). f v) ea;
            walks = x;
            front = r.front;
            joined = rw e at j;
            count = r.count;
            wide = r.wide;
            spelt = r.spelt;
          }

      go : (m : Format Card Card) → erase counts_of m ≡ denote l → walk m c at ≡ walk card c 0 → r.front ++ fields m c ≡ fields card c → Next numbers c l at n bytes w v
      go (done a) e x j = absurd (let y = e ∙ waits_for l w ew in let z : ◌≡◌ {A = ℕ} 0 1 = cc in omega arith)
      go (get u value fault after) e x j =
          let y : get u (λ z. 0) fault (λ z. erase counts_of (after z)) ≡ get w (λ z. 0) (fault_at l.phase l) (next_of (denote l)) = e ∙ waits_for l w ew in
          let eu : u ≡ w = cc in
          let ef : fault ≡ fault_at l.phase l = cc in
          let ea : (λ z. erase counts_of (after z)) ≡ next_of (denote l) = cc in
          here value fault after ef ea (subst (λ (i : ℕ). walk (get i value fault after) c at ≡ walk card c 0) eu x)
          (subst (λ (i : ℕ). r.front ++ (record { width = i; value = value c } ∷ fields (after (value c)) c) ≡ fields card c) eu j)

-- the loop begins with nothing spelt
zero_bit : (n i : ℕ) → bit (replicate n 0) i ≡ 0
unfolding bit
zero_bit n i = rw (zero_in n (i / 8), zero-div)

pub behind_start : (numbers : List ℕ) → Behind numbers start_of 0 0 (replicate card_bytes 0)
behind_start numbers =
    record {
      sane = sane_start;
      budget = subst (λ (m : Format One Counts). Budget m table_size card_bits) (sym denote_start) budget_card;
      low = omega arith;
      few = omega arith;
      long = length-replicate {A = ℕ} card_bytes 0;
      small = λ k. rw (zero_in card_bytes k) (omega arith);
      zeros = λ i h. zero_bit card_bytes i;
      rest = λ c k. record { format = card; shape = erase_card ∙ sym denote_start; walks = refl; front = []; joined = refl; count = refl; wide = refl; spelt = tt };
    }

-- zeros stand behind the byte of the last bit
module _ (bytes : List ℕ) (end : ℕ) (low : end ≤ card_bits) (long : length bytes ≡ card_bytes) (small : (i : ℕ) → get_or bytes i 0 < 256) (zeros : (i : ℕ) → end ≤ i → bit bytes i ≡ 0) where
  zero_byte : (i : ℕ) → end ≤ 8 * i → get_or bytes i 0 ≡ 0
  zero_byte i h =
      byte_field bytes small i
      ∙ field_local (bit bytes) (bit (replicate 0 0)) (8 * i) 8 (λ j a b. zeros j (omega arith) ∙ sym (zero_bit 0 j))
      ∙ sym (byte_field (replicate 0 0) (λ j. omega arith) i)
      ∙ zero_in 0 i

  zeros_behind : IsFilled card_bytes bytes ((end + 7) / 8)
  zeros_behind = record {
    fits = omega (arith, low);
    long = long;
    zeros =
        ext_get_or 0 (drop ((end + 7) / 8) bytes) (replicate (card_bytes - (end + 7) / 8) 0) (length-drop ((end + 7) / 8) bytes ∙ ap (λ (m : ℕ). m - (end + 7) / 8) long ∙ sym (length-replicate {A = ℕ} (card_bytes - (end + 7) / 8) 0))
        (λ i l. get_or-drop ((end + 7) / 8) bytes i 0 ∙ zero_byte ((end + 7) / 8 + i) (omega arith) ∙ sym (zero_in (card_bytes - (end + 7) / 8) i));
  }

-- bytes that spell the fields of c, with zeros behind, are the bytes of its card
module _ (c : Card) (bytes : List ℕ) (end : ℕ) (k : all_fit (fields card c) ≡ true) (e : end ≡ bits (fields card c)) (low : end ≤ card_bits)
    (long : length bytes ≡ card_bytes) (small : (i : ℕ) → get_or bytes i 0 < 256) (zeros : (i : ℕ) → end ≤ i → bit bytes i ≡ 0) (s : Spelt bytes 0 (fields card c)) where
  whole_bit : (i : ℕ) → bit bytes i ≡ bit (encode c) i
  unfolding encode
  whole_bit i = go (cases_lt i end)
    where
      go : (i < end) ⊎ (end ≤ i) → bit bytes i ≡ bit (encode c) i
      go (inl h) = spelt_same bytes (encode c) 0 (fields card c) s (spell_spelt (fields card c) k) i (omega arith) (omega arith)
      go (inr h) = zeros i h ∙ sym (spell_fill (fields card c) i (omega arith))

  whole_byte : (i : ℕ) → get_or bytes i 0 ≡ get_or (encode c) i 0
  unfolding encode
  whole_byte i =
      byte_field bytes small i
      ∙ field_local (bit bytes) (bit (encode c)) (8 * i) 8 (λ j a b. whole_bit j)
      ∙ sym (byte_field (encode c) (spell_bytes (fields card c)) i)

  whole_bytes : take ((end + 7) / 8) bytes ≡ encode c
  unfolding encode
  whole_bytes =
      let cut : length (take ((end + 7) / 8) bytes) ≡ (end + 7) / 8 = length-take-le ((end + 7) / 8) bytes (omega (arith, low, long)) in
      ext_get_or 0 (take ((end + 7) / 8) bytes) (encode c) (cut ∙ omega (arith, e, spell_length (fields card c)))
      (λ i l. get_or-take ((end + 7) / 8) bytes i 0 (omega (arith, cut)) ∙ whole_byte i)

  pub whole_spelt : counted c ≡ true → (d : Card) → walk card c 0 ≡ whole d end → (s : List ℕ) → s ≡ take ((end + 7) / 8) bytes → IsSpelt (read_card (encode c)) (Ok s)
  whole_spelt n d w s es =
      let q : d ≡ c = (walk_whole c d end ((counted_is c).0 n) w).0 in
      rw (read_encode c k, w, q) (ap Spelling.whole (es ∙ whole_bytes))

-- a field more
spelt_keep : (old new : List ℕ) (at : ℕ) (fs : List Field) → ((i : ℕ) → i < at + bits fs → bit new i ≡ bit old i) → Spelt old at fs → Spelt new at fs
spelt_keep old new at [] h s = tt
spelt_keep old new at (f ∷ fs) h s =
    (field_local (bit new) (bit old) at f.width (λ i a b. h i (omega arith)) ∙ s.0, spelt_keep old new (at + f.width) fs (λ i m. h i (omega arith)) s.1)

spelt_snoc : (bytes : List ℕ) (at : ℕ) (fs : List Field) (f : Field) → Spelt bytes at fs → bit_field (bit bytes) (at + bits fs) f.width ≡ f.value → Spelt bytes at (fs ++ (f ∷ []))
spelt_snoc bytes at [] f s e = (ap (λ (i : ℕ). bit_field (bit bytes) i f.width) (sym (add-zero at)) ∙ e, tt)
spelt_snoc bytes at (x ∷ fs) f s e =
    let q : at + (x.width + bits fs) ≡ at + x.width + bits fs = omega arith in
    (s.0, spelt_snoc bytes (at + x.width) fs f s.1 (ap (λ (i : ℕ). bit_field (bit bytes) i f.width) (sym q) ∙ e))

module _ (numbers : List ℕ) (l : Layout) (at n : ℕ) (bytes : List ℕ) (w v : ℕ) (b : Behind numbers l at n bytes) (ew : w ≡ width_of l) where
  pub behind_room : (n < table_size) × (at + w ≤ card_bits)
  behind_room = budget_room l at n w b.budget b.low ew

  -- a number that does not fit is none of a card's
  pub behind_wide : v ≡ get_or numbers n 0 → 2 ^ w ≤ v → (c : Card) → Lines c numbers → ⊥
  behind_wide ev h c k = let x = next_of_rest numbers c k l at n bytes w v behind_room.0 ew ev (b.rest c k) in omega (arith, x.fits)

  module _ (r : Move) (new : List ℕ) (ev : v ≡ get_or numbers n 0) (fits : v < 2 ^ w) (put : Put bytes at w v new) (er : r ≡ step_of l v) where
    next : (c : Card) → Lines c numbers → Next numbers c l at n bytes w v
    next c k = next_of_rest numbers c k l at n bytes w v behind_room.0 ew ev (b.rest c k)

    pub behind_bad : (f : FormatFault) → r ≡ Err f → (c : Card) → Lines c numbers → IsSpelt (read_card (encode c)) (Err (record { fault = f; bit = at }))
    behind_bad f e c k =
        let x = next c k in
        let y = subst (Leads l v) e (leads l v r er) in
        let q : walk card c 0 ≡ refused (number f) at = sym x.walks ∙ rw (x.right, x.faults, y) in
        rw (read_encode c k.fit, q) refl

    -- the number is spelt behind the others
    abbrev field : Field
    field = record { width = w; value = v }

    more_spelt : (front : List Field) → bits front ≡ at → Spelt bytes 0 front → Spelt new 0 (front ++ (field ∷ []))
    more_spelt front e s =
        spelt_snoc new 0 front field (spelt_keep bytes new 0 front (λ i m. put.outside i (inl (omega arith))) s)
        (let q : 0 + bits front ≡ at = omega arith in rw q put.value)

    pub behind_more : (m : Layout) → r ≡ Ok (More m) → Behind numbers m (at + w) (n + 1) new
    behind_more m e =
        let y = subst (Leads l v) e (leads l v r er) in
        record {
          sane = sane_step l m v b.sane (sym er ∙ e);
          budget = subst (λ (x : Format One Counts). Budget x (table_size - (n + 1)) (card_bits - (at + w))) y.1 (budget_spent l at n w b.budget b.low ew v fits y.0);
          low = behind_room.1;
          few = omega (arith, behind_room.0);
          long = put.long ∙ b.long;
          small = put.small b.small;
          zeros = λ i h. put.outside i (inr h) ∙ b.zeros i (omega arith);
          rest = λ c k. rest_more c (next c k) y.0 y.1;
        }
      where
        rest_more : (c : Card) (x : Next numbers c l at n bytes w v) → fault_at l.phase l v ≡ none → next_of (denote l) v ≡ denote m → Rest c m (at + w) (n + 1) new
        rest_more c x p q =
            record {
              format = x.after v;
              shape = x.shape ∙ q;
              walks = sym (rw (x.right, x.faults, p)) ∙ x.walks;
              front = x.front ++ (field ∷ []);
              joined = append_snoc x.front field (fields (x.after v) c) ∙ x.joined;
              count = length-append x.front (field ∷ []) ∙ ap (λ (i : ℕ). i + 1) x.count;
              wide = total_append (λ f. f.width) x.front (field ∷ []) ∙ omega (arith, x.wide);
              spelt = more_spelt x.front x.wide x.spelt;
            }

    -- the last number: what is spelt is the card
    pub behind_filled : IsFilled card_bytes new ((at + w + 7) / 8)
    behind_filled = zeros_behind new (at + w) behind_room.1 (put.long ∙ b.long) (put.small b.small) (λ i h. put.outside i (inr h) ∙ b.zeros i (omega arith))

    pub behind_done : (m : Counts) → r ≡ Ok (Done m) → (c : Card) → Lines c numbers → (s : List ℕ) → s ≡ take ((at + w + 7) / 8) new → IsSpelt (read_card (encode c)) (Ok s)
    unfolding fields
    behind_done m e c k s es = go (x.after v) refl
      where
        x : Next numbers c l at n bytes w v
        x = next c k

        y : Leads l v (Ok (Done m))
        y = subst (Leads l v) e (leads l v r er)

        go : (f : Format Card Card) → x.after v ≡ f → IsSpelt (read_card (encode c)) (Ok s)
        go (get u value fault after) q = absurd (let p = ap (erase counts_of) (sym q) ∙ x.shape ∙ y.1 in let z : ◌≡◌ {A = ℕ} 0 1 = cc in omega arith)
        go (done d) q =
            let all : x.front ++ (field ∷ []) ≡ fields card c = rw q at x.joined in
            let end : at + w ≡ bits (fields card c) = rw (← all) (sym (total_append (λ f. f.width) x.front (field ∷ []) ∙ omega (arith, x.wide))) in
            whole_spelt c new (at + w) k.fit end behind_room.1 (put.long ∙ b.long) (put.small b.small) (λ i h. put.outside i (inr h) ∙ b.zeros i (omega arith))
            (rw (← all) (more_spelt x.front x.wide x.spelt)) k.counts d (sym x.walks ∙ rw (x.right, x.faults, y.0, q)) s es

-- a field is still to be spelt, so that a table's numbers are not all behind
pub behind_all : (numbers : List ℕ) (l : Layout) (at n : ℕ) (bytes : List ℕ) → Behind numbers l at n bytes → table_size ≤ n → ⊥
behind_all numbers l at n bytes b h = omega (arith, behind_room numbers l at n bytes (width_of l) 0 b refl)
