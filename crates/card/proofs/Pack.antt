-- Packed bits are the bits of the bytes, so what is spelt can be read, and bytes are known by what they spell. Assumes nothing.
use Prim.Native.Nat.{ℕ, zero, suc, ◌+◌, ◌-◌, ◌*◌, ◌/◌, ◌%◌, ◌^◌, ◌≤◌, ◌<◌}
use mathlib.Core.Path.{◌≡◌, refl, sym, ap, ◌∙◌}
use mathlib.Core.Bool.{true}
use mathlib.Core.Logic.{◌⊎◌, inl, inr}
use mathlib.Core.List.{List, [], ◌∷◌, ◌++◌, flat_map, append_assoc}
use native.Mathlib.Omega.{arith}
use native.Mathlib.Nat.{zero-div}
use lib.ListN.{length, get_or, length-append, get_or-append, get_or-eq_default}
use lib.Seq.{get_or-append-add}
use Rattle.std.proofs.lemmas.Bool.{cases_lt}
use Rattle.std.proofs.lemmas.Bool.Decides.{Decides-ltb, Decides-and}
use Rattle.card.specs.Finite.{table, All}
use Rattle.card.specs.Bits.{bit, bit_field, bits_of, bytes_for, pack}
use Rattle.card.specs.Writing.{Field, spell, all_fit}
use Rattle.card.proofs.Sums.{table_length, table_at, all_append, all_table, all_at}
use Rattle.card.proofs.Yields.{field_small}
use Rattle.card.proofs.BitLaws.{field_is}
use Rattle.card.proofs.Walk.{bits, Spelt}

-- what holds at each of 0 .. 7 holds below 8
below8 : (P : ℕ → Type 0) → P 0 → P 1 → P 2 → P 3 → P 4 → P 5 → P 6 → P 7 → (m : ℕ) → m < 8 → P m
below8 P p0 p1 p2 p3 p4 p5 p6 p7 zero h = p0
below8 P p0 p1 p2 p3 p4 p5 p6 p7 (suc zero) h = p1
below8 P p0 p1 p2 p3 p4 p5 p6 p7 (suc (suc zero)) h = p2
below8 P p0 p1 p2 p3 p4 p5 p6 p7 (suc (suc (suc zero))) h = p3
below8 P p0 p1 p2 p3 p4 p5 p6 p7 (suc (suc (suc (suc zero)))) h = p4
below8 P p0 p1 p2 p3 p4 p5 p6 p7 (suc (suc (suc (suc (suc zero))))) h = p5
below8 P p0 p1 p2 p3 p4 p5 p6 p7 (suc (suc (suc (suc (suc (suc zero)))))) h = p6
below8 P p0 p1 p2 p3 p4 p5 p6 p7 (suc (suc (suc (suc (suc (suc (suc zero))))))) h = p7
below8 P p0 p1 p2 p3 p4 p5 p6 p7 (suc (suc (suc (suc (suc (suc (suc (suc m)))))))) h = absurd (let z : ⊥ = omega arith in z)

-- bit r of the byte that eight bits make
byte_bit : (f : ℕ → ℕ) → ((i : ℕ) → f i < 2) → (at r : ℕ) → r < 8 → bit_field f at 8 / 2 ^ (7 - r) % 2 ≡ f (at + r)
unfolding bit_field
byte_bit f h at =
    below8 (λ r. bit_field f at 8 / 2 ^ (7 - r) % 2 ≡ f (at + r)) (omega (arith, small)) (omega (arith, small)) (omega (arith, small)) (omega (arith, small)) (omega (arith, small)) (omega (arith, small))
    (omega (arith, small)) (omega (arith, small))
  where
    small : (f (at + 0) < 2) × (f (at + 1) < 2) × (f (at + 2) < 2) × (f (at + 3) < 2) × (f (at + 4) < 2) × (f (at + 5) < 2) × (f (at + 6) < 2) × (f (at + 7) < 2)
    small = (h (at + 0), h (at + 1), h (at + 2), h (at + 3), h (at + 4), h (at + 5), h (at + 6), h (at + 7))

pub Small : ℕ → Type 0
Small b = b < 2

get_small : (xs : List ℕ) → All Small xs → (i : ℕ) → get_or xs i 0 < 2
unfolding Small
get_small xs h i = go (cases_lt i (length xs))
  where
    go : (i < length xs) ⊎ (length xs ≤ i) → get_or xs i 0 < 2
    go (inl l) = all_at Small xs 0 h i l
    go (inr l) = rw (get_or-eq_default xs 0 l) (omega arith)

pub bit_pack : (xs : List ℕ) → All Small xs → (i : ℕ) → bit (pack xs) i ≡ get_or xs i 0
unfolding bit pack
bit_pack xs h i = go (cases_lt (i / 8) (bytes_for (length xs)))
  where
    byte : ℕ → ℕ
    byte k = bit_field (λ j. get_or xs j 0) (8 * k) 8

    go : (i / 8 < bytes_for (length xs)) ⊎ (bytes_for (length xs) ≤ i / 8) → get_or (table 0 (bytes_for (length xs)) byte) (i / 8) 0 / 2 ^ (7 - i % 8) % 2 ≡ get_or xs i 0
    go (inl l) =
        rw (table_at (bytes_for (length xs)) byte 0 (i / 8) l) (byte_bit (λ j. get_or xs j 0) (get_small xs h) (8 * (i / 8)) (i % 8) (omega arith)
        ∙ ap (λ (j : ℕ). get_or xs j 0) (let e : 8 * (i / 8) + i % 8 ≡ i = omega arith in e))
    go (inr l) =
        let a : length (table 0 (bytes_for (length xs)) byte) ≤ i / 8 = omega (arith, table_length 0 (bytes_for (length xs)) byte) in
        rw (get_or-eq_default (table 0 (bytes_for (length xs)) byte) 0 a, get_or-eq_default xs 0 {n = i} (omega arith), zero-div)

pub pack_length : (xs : List ℕ) → length (pack xs) ≡ bytes_for (length xs)
unfolding pack
pack_length xs = table_length 0 (bytes_for (length xs)) _

pub pack_bytes : (xs : List ℕ) → All Small xs → (k : ℕ) → get_or (pack xs) k 0 < 256
unfolding pack
pack_bytes xs h k = go (cases_lt k (bytes_for (length xs)))
  where
    byte : ℕ → ℕ
    byte j = bit_field (λ i. get_or xs i 0) (8 * j) 8

    go : (k < bytes_for (length xs)) ⊎ (bytes_for (length xs) ≤ k) → get_or (table 0 (bytes_for (length xs)) byte) k 0 < 256
    go (inl l) = rw (table_at (bytes_for (length xs)) byte 0 k l) (field_small (λ i. get_or xs i 0) (get_small xs h) (8 * k) 8)
    go (inr l) =
        let a : length (table 0 (bytes_for (length xs)) byte) ≤ k = omega (arith, table_length 0 (bytes_for (length xs)) byte) in
        rw (get_or-eq_default (table 0 (bytes_for (length xs)) byte) 0 a) (omega arith)

-- the bits of fields, one after the other
pub flat : List Field → List ℕ
flat fs = flat_map (λ f. bits_of f.width f.value) fs

flat_small : (fs : List Field) → All Small (flat fs)
unfolding flat flat_map mathlib.Core.List.flatten Small
flat_small [] = tt
flat_small (f ∷ fs) = all_append Small (bits_of f.width f.value) (flat fs) (all_table Small 0 f.width _ (λ i. omega arith)) (flat_small fs)

pub flat_length : (fs : List Field) → length (flat fs) ≡ bits fs
unfolding flat flat_map mathlib.Core.List.flatten
flat_length [] = refl
flat_length (f ∷ fs) = length-append (bits_of f.width f.value) (flat fs) ∙ omega (arith, table_length 0 f.width (λ i. f.value / 2 ^ (f.width - 1 - i) % 2), flat_length fs)

-- bytes that hold the bits of fields, behind others, spell the fields
spelt_flat : (bytes before : List ℕ) (fs : List Field) → all_fit fs ≡ true → ((i : ℕ) → bit bytes i ≡ get_or (before ++ flat fs) i 0) → Spelt bytes (length before) fs
unfolding flat flat_map mathlib.Core.List.flatten all_fit
spelt_flat bytes before [] a h = tt
spelt_flat bytes before (f ∷ fs) a h =
    let fit = (Decides-and _ _ (Decides-ltb f.value (2 ^ f.width)) (λ (e : all_fit fs ≡ true). e, λ (e : all_fit fs ≡ true). e)).0 a in
    (field_is (bit bytes) (length before) f.width f.value fit.0 own, rw long at (spelt_flat bytes (before ++ here) fs fit.1 (λ i. h i ∙ ap (λ xs. get_or xs i 0) (sym (append_assoc before here (flat fs))))))
  where
    here : List ℕ
    here = bits_of f.width f.value

    long : length (before ++ here) ≡ length before + f.width
    long = length-append before here ∙ ap (λ (n : ℕ). length before + n) (table_length 0 f.width (λ i. f.value / 2 ^ (f.width - 1 - i) % 2))

    own : (m : ℕ) → m < f.width → bit bytes (length before + m) ≡ f.value / 2 ^ (f.width - 1 - m) % 2
    own m l =
        h (length before + m)
        ∙ get_or-append-add before (here ++ flat fs) m 0
        ∙ get_or-append here (flat fs) 0 m (omega (arith, table_length 0 f.width (λ i. f.value / 2 ^ (f.width - 1 - i) % 2)))
        ∙ table_at f.width (λ i. f.value / 2 ^ (f.width - 1 - i) % 2) 0 m l

module _ (fs : List Field) where
  pub spell_bit : (i : ℕ) → bit (spell fs) i ≡ get_or (flat fs) i 0
  unfolding flat
  spell_bit i = bit_pack (flat fs) (flat_small fs) i

  -- bits past the fields are zero
  pub spell_fill : (i : ℕ) → bits fs ≤ i → bit (spell fs) i ≡ 0
  spell_fill i l = spell_bit i ∙ get_or-eq_default (flat fs) 0 (omega (arith, flat_length fs))

  pub spell_length : length (spell fs) ≡ bytes_for (bits fs)
  unfolding flat
  spell_length = pack_length (flat fs) ∙ ap (λ (n : ℕ). bytes_for n) (flat_length fs)

  pub spell_bytes : (k : ℕ) → get_or (spell fs) k 0 < 256
  unfolding flat
  spell_bytes k = pack_bytes (flat fs) (flat_small fs) k

  -- WHAT IS SPELT CAN BE READ
  pub spell_spelt : all_fit fs ≡ true → Spelt (spell fs) 0 fs
  spell_spelt a = spelt_flat (spell fs) [] fs a spell_bit
