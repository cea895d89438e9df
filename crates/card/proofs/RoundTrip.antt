-- Reading and writing undo each other. Assumes nothing.
use Prim.Native.Nat.{ℕ, ◌+◌, ◌-◌, ◌*◌, ◌≤◌, ◌<◌}
use mathlib.Core.Path.{◌≡◌, refl, sym, subst, ◌∙◌}
use mathlib.Core.Logic.Iff
use mathlib.Core.Logic.{◌⊎◌, inl, inr}
use mathlib.Core.Bool.{Bool, true, false, ◌&&◌, cond}
use mathlib.Core.List.{List, [], ◌∷◌}
use mathlib.Core.Option.{Option, none, some}
use native.Mathlib.Omega.{arith}
use native.Mathlib.Nat.{zero-add}
use lib.ListN.{length, get_or}
use borrow.Author.Tests.{ltb-false}
use Rattle.std.proofs.lemmas.Bool.{cases_lt}
use Rattle.std.proofs.lemmas.Bool.Decides.{Decides-eqb, Decides-ltb, Decides-and}
use Rattle.std.specs.Bool.{Decides}
use Rattle.card.specs.Numbers.{number}
use Rattle.card.specs.Bits.{bit, bit_field, bytes_for}
use Rattle.card.specs.Card.{Card, first_place, first_transition, first_arc}
use Rattle.card.specs.Format.{Format, done, get}
use Rattle.card.specs.Grammar.{card}
use Rattle.card.specs.Parsing.{Parsing, refused, whole, read, excess, closed, ended, read_card}
use Rattle.card.specs.Writing.{Field, fields, encode, all_fit, counted, read_tables}
use Rattle.card.specs.Wellformed.{Wellformed}
use Rattle.card.specs.declared.FormatFault.TheVariants.{BadTable}
use Rattle.card.proofs.Decides.{Clears, some_if_is, otherwise_is, first_of_is}
use Rattle.card.proofs.Yields.{bit_small, not_whole}
use Rattle.card.proofs.Ranges.{read_wellformed}
use Rattle.card.proofs.Walk.{bits, built, walk, NoFault, Fits, Proper, Spelt, every_more, fits_all, read_spelt, clean_walk, walk_clean}
use Rattle.card.proofs.Prefix.{Counted, built_card}
use Rattle.card.proofs.Sound.{rows_counted, clean_card}
use Rattle.card.proofs.Tied.{Spells, read_get, tied_card}
use Rattle.card.proofs.BitLaws.{field_bits, same_bytes}
use Rattle.card.proofs.Pack.{spell_fill, spell_length, spell_bytes, spell_spelt}

-- nothing is in excess where the fill bits are zero and no byte follows
pub record Filled (bytes : List ℕ) (end : ℕ) : Type 0 where
  pub zeros : (i : ℕ) → end ≤ i → i < 8 * bytes_for end → bit bytes i ≡ 0
  pub last : length bytes ≤ bytes_for end

pub filled_is : (bytes : List ℕ) (end : ℕ) → Clears (excess bytes end) (Filled bytes end)
unfolding excess
filled_is bytes end =
    Iff.trans (otherwise_is _ _ _ _ (first_of_is end (8 * bytes_for end - end) _ _ (λ i. some_if_is _ _ _ (Decides-eqb (bit bytes i) 1))) (some_if_is _ _ _ (Decides-ltb (bytes_for end) (length bytes)))) (
      λ h. record { zeros = λ i a b. omega (arith, bit_small bytes i, h.0 i a (omega arith)); last = omega (arith, h.1) },
      λ h. (λ i a b. λ e. omega (arith, h.zeros i a (omega arith)), λ l. omega (arith, h.last)),
    )

pub counted_is : (c : Card) → Decides (counted c) (Counted c)
unfolding counted
counted_is c =
    Iff.trans (Decides-and _ _ (Decides-and _ _ (Decides-eqb (length c.places) (first_place c (length c.subnets))) (Decides-eqb (length c.transitions) (first_transition c (length c.subnets))))
    (Decides-eqb (length c.arcs) (first_arc c (length c.transitions))))
    (λ h. record { places = h.0.0; transitions = h.0.1; arcs = h.1 }, λ h. ((h.places, h.transitions), h.arcs))

-- the card that tables make is read as a walk of the grammar with their numbers
pub read_encode : (c : Card) → all_fit (fields card c) ≡ true → read_card (encode c) ≡ walk card c 0
unfolding read_card encode
read_encode c a = rw (read_spelt (encode c) card c 0 (spell_spelt (fields card c) a) (omega (arith, spell_length (fields card c)))) (go (walk card c 0) refl)
  where
    close : (d : Card) (end : ℕ) → walk card c 0 ≡ whole d end → excess (encode c) end ≡ none
    close d end e =
        let f = clean_walk card c 0 (walk_clean card c 0 end d e) in
        let q : end ≡ 0 + bits (fields card c) = cc in
        (filled_is (encode c) end).1 (record { zeros = λ i l m. spell_fill (fields card c) i (omega arith); last = omega (arith, spell_length (fields card c)) })

    go : (x : Parsing Card) → walk card c 0 ≡ x → ended (encode c) x ≡ x
    go (refused n at) e = refl
    go (whole d end) e = rw (close d end e)

-- a walk that comes to an end makes the card itself, behind its fields
pub walk_whole : (c d : Card) (end : ℕ) → Counted c → walk card c 0 ≡ whole d end → (d ≡ c) × (end ≡ bits (fields card c))
walk_whole c d end k e =
    let f = clean_walk card c 0 (walk_clean card c 0 end d e) in
    let b : d ≡ built card c = cc in
    let q : end ≡ 0 + bits (fields card c) = cc in
    (b ∙ built_card c k, omega arith)

-- WHAT THE WRITER TAKES IS READ BACK (`read_write`): tables that make a card make one that is read as these tables
pub record Written (c : Card) (end : ℕ) : Type 0 where
  pub counts : Counted c
  pub fit : all_fit (fields card c) ≡ true
  pub reads : read_card (encode c) ≡ whole c end

pub read_write : (c d : Card) (end : ℕ) → read_tables c ≡ whole d end → (d ≡ c) × Written c end
unfolding read_tables
read_write c d end e = go (counted c && all_fit (fields card c)) refl e
  where
    go : (b : Bool) → counted c && all_fit (fields card c) ≡ b → cond b (read_card (encode c)) (refused (number BadTable) 0) ≡ whole d end → (d ≡ c) × Written c end
    go false p q = absurd (not_whole _ _ _ _ q)
    go true p q =
        let k = (Decides-and _ _ (counted_is c) (λ (h : all_fit (fields card c) ≡ true). h, λ (h : all_fit (fields card c) ≡ true). h)).0 p in
        let r = read_encode c k.1 in
        let i : d ≡ c = (walk_whole c d end k.0 (sym r ∙ q)).0 in
        (i, record { counts = k.0; fit = k.1; reads = subst (λ (x : Card). read_card (encode c) ≡ whole x end) i q })

-- EVERY WELL-FORMED CARD IS ONE THAT THE WRITER TAKES
pub wellformed_fits : (c : Card) → Wellformed c → all_fit (fields card c) ≡ true
wellformed_fits c w = fits_all card c (every_more Proper Fits (λ n v f h. h.1) card c (clean_card c w))

pub wellformed_reads : (c : Card) → Wellformed c → read_card (encode c) ≡ whole c (bits (fields card c))
wellformed_reads c w =
    read_encode c (wellformed_fits c w)
    ∙ clean_walk card c 0 (every_more Proper NoFault (λ n v f h. h.0) card c (clean_card c w))
    ∙ rw (built_card c (rows_counted c w.rows), zero-add)

pub wellformed_tables : (c : Card) → Wellformed c → read_tables c ≡ whole c (bits (fields card c))
unfolding read_tables
wellformed_tables c w = rw ((counted_is c).1 (rows_counted c w.rows), wellformed_fits c w) (wellformed_reads c w)

-- what is read ends within the bytes
read_inside : {U A : Type 0} (bytes : List ℕ) (m : Format U A) (at end : ℕ) (a : A) → at ≤ 8 * length bytes → read bytes m at ≡ whole a end → end ≤ 8 * length bytes
unfolding read
read_inside bytes (done b) at end a l e = let q : at ≡ end = cc in omega arith
read_inside bytes (get w value fault next) at end a l e =
    let g = read_get bytes w value fault next at a end e in
    read_inside bytes (next (bit_field (bit bytes) at w)) (at + w) end a (ltb-false (8 * length bytes) (at + w) g.inside) g.rest

-- bytes that spell the same fields have the same bits there
pub spelt_same : (a b : List ℕ) (at : ℕ) (fs : List Field) → Spelt a at fs → Spelt b at fs → (i : ℕ) → at ≤ i → i < at + bits fs → bit a i ≡ bit b i
spelt_same a b at [] x y i l m = absurd (omega arith)
spelt_same a b at (f ∷ fs) x y i l m = go (cases_lt i (at + f.width)) (λ h. spelt_same a b (at + f.width) fs x.1 y.1 i h (omega arith))
  where
    go : (i < at + f.width) ⊎ (at + f.width ≤ i) → (at + f.width ≤ i → bit a i ≡ bit b i) → bit a i ≡ bit b i
    go (inl h) k = field_bits (bit a) (bit b) (bit_small a) (bit_small b) at f.width (x.0 ∙ sym y.0) i l h
    go (inr h) k = k h

-- bytes that spell a card, with zeros behind, have the bits of the card that its tables make
encode_bits : (bytes : List ℕ) (d : Card) (at : ℕ) → Spells bytes card d 0 at → all_fit (fields card d) ≡ true → Filled bytes at → (i : ℕ) → i < 8 * length bytes → bit (encode d) i ≡ bit bytes i
unfolding encode
encode_bits bytes d at t fit f i l = go (cases_lt i (bits (fields card d)))
  where
    go : (i < bits (fields card d)) ⊎ (bits (fields card d) ≤ i) → bit (encode d) i ≡ bit bytes i
    go (inl h) = spelt_same (encode d) bytes 0 (fields card d) (spell_spelt (fields card d) fit) t.spelt i (omega arith) (omega arith)
    go (inr h) = spell_fill (fields card d) i h ∙ sym (f.zeros i (omega (arith, t.ends)) (omega (arith, f.last)))

-- WHAT THE READER TAKES IS WRITTEN BACK (`write_read`): the bytes of a card that is read are those that its tables make
pub write_read : (bytes : List ℕ) → ((k : ℕ) → get_or bytes k 0 < 256) → (c : Card) (end : ℕ) → read_card bytes ≡ whole c end → encode c ≡ bytes
unfolding read_card encode
write_read bytes small c end e = go (read bytes card 0) refl e
  where
    same : (d : Card) (at : ℕ) → read bytes card 0 ≡ whole d at → Filled bytes at → encode d ≡ bytes
    same d at r f =
        let t = tied_card bytes d at r in
        let fit = wellformed_fits d (read_wellformed bytes d at (rw (r, (filled_is bytes at).1 f))) in
        let n : at ≡ bits (fields card d) = t.ends ∙ zero-add (bits (fields card d)) in
        let inside = read_inside bytes card 0 at d (omega arith) r in
        let long : length (encode d) ≡ length bytes = omega (arith, spell_length (fields card d), f.last) in
        same_bytes (encode d) bytes (spell_bytes (fields card d)) small long (λ i l. encode_bits bytes d at t fit f i (omega arith))

    here : (d : Card) (at : ℕ) (x : Option ℕ) → read bytes card 0 ≡ whole d at → excess bytes at ≡ x → closed x d at ≡ whole c end → encode c ≡ bytes
    here d at (some i) p q r = absurd (not_whole _ _ _ _ r)
    here d at none p q r = let i : d ≡ c = cc in subst (λ (k : Card). encode k ≡ bytes) i (same d at p ((filled_is bytes at).0 q))

    go : (x : Parsing Card) → read bytes card 0 ≡ x → ended bytes x ≡ whole c end → encode c ≡ bytes
    go (refused n at) p q = absurd (not_whole _ _ _ _ q)
    go (whole d at) p q = here d at (excess bytes at) p refl q
