-- What the reader's loop found is what reading a card says. Assumes nothing.
use Prim.Native.Nat.{ℕ, zero, suc, ◌+◌, ◌-◌, ◌*◌, ◌/◌, ◌%◌, ◌^◌, ◌≤◌, ◌<◌}
use mathlib.Core.Path.{◌≡◌, refl, sym, ap, subst, ◌∙◌}
use mathlib.Core.Logic.{◌⊎◌, inl, inr}
use mathlib.Core.Bool.{Bool, true, false}
use mathlib.Core.List.{List, ◌∷◌, map}
use mathlib.Core.Option.{Option, none, some}
use native.Mathlib.Omega.{arith}
use native.Mathlib.Nat.{add-zero}
use lib.ListN.{length, get_or, take, replicate, length-take, length-replicate, get_or-eq_default}
use lib.Seq.{ext_get_or, get_or-take}
use lib.Dec.{eqb, ltb}
use Rattle.card.specs.Numbers.{number}
use Rattle.card.specs.Finite.{table, some_if, lowest, ◌otherwise◌}
use Rattle.card.specs.Bits.{bit, bit_field, bytes_for}
use Rattle.card.specs.Card.{Card}
use Rattle.card.specs.Format.{Format, done, get}
use Rattle.card.specs.Grammar.{card}
use Rattle.card.specs.Parsing.{Parsing, refused, whole, read, excess, read_card}
use Rattle.card.specs.Writing.{fields}
use Rattle.card.specs.Tables.{numbers_of, numbers_table, ReadOutcome, outcome_of, IsRead, IsTable, IsLent}
use Rattle.card.proofs.SearchLaws.{first_same}
use Rattle.std.specs.Prelude as Std
use Rattle.std.specs.Option.{option_or}
use Rattle.std.specs.Bool.{then_some}
use Rattle.card.specs.inner.Reader.{excess_of, ended_as, filled_outcome, IsFilled}
use Rattle.card.specs.declared.FormatRefusal.{FormatRefusal}
use Rattle.std.specs.Prelude.{Result, Ok, Err}
use Rattle.std.proofs.lemmas.Bool.{cases_lt}
use Rattle.card.specs.declared.FormatFault.{FormatFault}
use Rattle.card.specs.declared.FormatFault.TheVariants.{BadFill}
use Rattle.card.specs.declared.Counts.{Counts}
use Rattle.card.specs.declared.index.CardIndex.{CardIndex}
use Rattle.card.proofs.Sums.{table_length, table_at}
use Rattle.card.proofs.Yields.{bit_small, field_small, not_whole}
use Rattle.card.proofs.BitLaws.{field_join}
use Rattle.card.specs.Index.{Laid, Loaded, starts_of}
use Rattle.card.specs.Wellformed.{Wellformed}
use Rattle.card.proofs.Ranges.{read_wellformed}
use Rattle.card.proofs.Positions.{laid}
use Rattle.card.proofs.IndexLaws.{starts_indexed}
use Rattle.card.proofs.Walk.{Spelt}
use Rattle.card.proofs.Tied.{tied_card}
use Rattle.card.proofs.Shape.{numbers_in, part, card_s, counts_of, read_shape, numbers_shape}

-- bytes that spell the fields of u hold its numbers
spelt_numbers : {U A : Type 0} (bytes : List ℕ) (m : Format U A) (u : U) (at : ℕ) → Spelt bytes at (fields m u) → numbers_in bytes m at ≡ map (λ f. f.value) (fields m u)
unfolding fields
spelt_numbers bytes (done a) u at s = refl
spelt_numbers bytes (get w value fault next) u at s =
    let e : bit_field (bit bytes) at w ≡ value u = s.0 in
    rw (e, spelt_numbers bytes (next (value u)) u (at + w) s.1)

-- an arc's three fields before the weight, out of one
pub head_parts : (bytes : List ℕ) (at v w p q : ℕ) → v ≡ bit_field (bit bytes) at w → w ≡ 14 → p ≡ 2 ^ 8 → q ≡ 2 ^ 5
    → (v / p / q ≡ bit_field (bit bytes) at 1) × (v / p % q ≡ bit_field (bit bytes) (at + 1) 5) × (v % p ≡ bit_field (bit bytes) (at + 1 + 5) 8)
head_parts bytes at v w p q ev ew ep eq =
    let a = field_join (bit bytes) at 1 13 in
    let b = field_join (bit bytes) (at + 1) 5 8 in
    let e : v ≡ bit_field (bit bytes) at 14 = rw ew at ev in
    let small = field_small (bit bytes) (bit_small bytes) in
    rw (ep, eq) (omega (arith, a, b, e, small (at + 1) 5, small (at + 1 + 5) 8), omega (arith, a, b, e, small (at + 1) 5, small (at + 1 + 5) 8), omega (arith, a, b, e, small (at + 1) 5, small (at + 1 + 5) 8))

-- the shape is refused where the card is
part_refused : {A B : Type 0} (f : A → B) (x : Parsing A) (n at : ℕ) → part f x ≡ refused n at → x ≡ refused n at
part_refused f (refused m i) n at e = let p : m ≡ n = cc in let q : i ≡ at = cc in rw (p, q)
part_refused f (whole a end) n at e = absurd (not_whole _ _ _ _ (sym e))

pub record Found {A B : Type 0} (f : A → B) (x : Parsing A) (b : B) (end : ℕ) : Type 0 where
  pub value : A
  pub is : x ≡ whole value end
  pub maps : f value ≡ b

part_whole : {A B : Type 0} (f : A → B) (x : Parsing A) (b : B) (end : ℕ) → part f x ≡ whole b end → Found f x b end
part_whole f (refused m i) b end e = absurd (not_whole _ _ _ _ e)
part_whole f (whole a i) b end e = let q : i ≡ end = cc in record { value = a; is = ap (whole a) q; maps = cc }

zeros_table : (from n : ℕ) → replicate {A = ℕ} n 0 ≡ table from n (λ i. 0)
unfolding table
zeros_table from zero = refl
zeros_table from (suc n) = ap (λ (xs : List ℕ). 0 ∷ xs) (zeros_table (suc from) n)

pub blank_table : (n : ℕ) → replicate {A = ℕ} n 0 ≡ table 0 n (λ i. 0)
blank_table n = zeros_table 0 n

pub cleared_long : (t u : List ℕ) (n : ℕ) → t ≡ replicate n 0 → length u ≡ length t → length u ≡ n
cleared_long t u n e q = q ∙ ap length e ∙ length-replicate {A = ℕ} n 0

-- a table with room for them holds each of a card's numbers
pub entered : (size : ℕ) (c : Card) → length (numbers_of c) ≤ size → (i : ℕ) → get_or (numbers_table size c) i 0 ≡ get_or (numbers_of c) i 0
unfolding numbers_table
entered size c few i = go (cases_lt i size)
  where
    go : (i < size) ⊎ (size ≤ i) → get_or (numbers_table size c) i 0 ≡ get_or (numbers_of c) i 0
    go (inl l) = table_at size (λ j. get_or (numbers_of c) j 0) 0 i l
    go (inr l) =
        get_or-eq_default (numbers_table size c) 0 (omega (arith, table_length 0 size (λ j. get_or (numbers_of c) j 0)))
        ∙ sym (get_or-eq_default (numbers_of c) 0 (omega (arith, few)))

module _ (bytes : List ℕ) where
  card_refused : (n at : ℕ) → read bytes card_s 0 ≡ refused n at → read_card bytes ≡ refused n at
  unfolding read_card
  card_refused n at e = rw (part_refused counts_of (read bytes card 0) n at (sym (read_shape bytes) ∙ e))

  -- the walk is refused
  pub refused_is : (f : FormatFault) (at : ℕ) (t : List ℕ) → read bytes card_s 0 ≡ refused (number f) at → IsFilled (read_card bytes) (Err (record { fault = f; bit = at })) t
  refused_is f at t e = rw (card_refused (number f) at e) (record { answer = refl; table = λ c end q. absurd (not_whole _ _ _ _ q); fits = λ c end q. absurd (not_whole _ _ _ _ q) })

  found : (k : Counts) (end : ℕ) → read bytes card_s 0 ≡ whole k end → Found counts_of (read bytes card 0) k end
  found k end e = part_whole counts_of (read bytes card 0) k end (sym (read_shape bytes) ∙ e)

  -- something follows the card
  excess_is : (k : Counts) (end i : ℕ) (t : List ℕ) → read bytes card_s 0 ≡ whole k end → excess bytes end ≡ some i → IsFilled (read_card bytes) (Err (record { fault = BadFill; bit = i })) t
  unfolding read_card
  excess_is k end i t e x =
      let f = found k end e in
      rw (f.is, x) (record { answer = refl; table = λ c m q. absurd (not_whole _ _ _ _ q); fits = λ c m q. absurd (not_whole _ _ _ _ q) })

  -- the table is that of the card's numbers
  table_is : (t : List ℕ) (n : ℕ) (c : Card) → ((i : ℕ) → n ≤ i → get_or t i 0 ≡ 0) → take n t ≡ numbers_of c → t ≡ numbers_table (length t) c
  unfolding numbers_table
  table_is t n c zeros e =
      ext_get_or 0 t _ (sym (table_length 0 (length t) _)) (λ i l. at i l (cases_lt i n) ∙ sym (table_at (length t) (λ j. get_or (numbers_of c) j 0) 0 i l))
    where
      at : (i : ℕ) → i < length t → (i < n) ⊎ (n ≤ i) → get_or t i 0 ≡ get_or (numbers_of c) i 0
      at i l (inl m) = sym (get_or-take n t i 0 m) ∙ ap (λ xs. get_or xs i 0) e
      at i l (inr m) = zeros i m ∙ sym (ap (λ xs. get_or xs i 0) (sym e) ∙ get_or-eq_default (take n t) 0 (omega (arith, length-take n t)))

  numbers_are : (c : Card) (end : ℕ) → read bytes card 0 ≡ whole c end → numbers_in bytes card 0 ≡ numbers_of c
  unfolding numbers_of
  numbers_are c end r = spelt_numbers bytes card c 0 (tied_card bytes c end r).spelt

  whole_is : (k : Counts) (end n : ℕ) (t : List ℕ) → read bytes card_s 0 ≡ whole k end → excess bytes end ≡ none → ((i : ℕ) → n ≤ i → get_or t i 0 ≡ 0)
      → take n t ≡ numbers_in bytes card_s 0 → IsFilled (read_card bytes) (Ok k) t
  unfolding read_card
  whole_is k end n t e x zeros v =
      let f = found k end e in
      let numbers : take n t ≡ numbers_of f.value = v ∙ numbers_shape bytes ∙ numbers_are f.value end f.is in
      let is : t ≡ numbers_table (length t) f.value = table_is t n f.value zeros numbers in
      let few : length (numbers_of f.value) ≤ length t = omega (arith, length-take n t, ap length numbers) in
      rw (f.is, x) (record {
        answer = ap (λ (y : Counts). ReadOutcome.whole y.subnets y.places y.transitions) (sym f.maps);
        table = λ c m q. is ∙ ap (numbers_table (length t)) (let z : f.value ≡ c = cc in z);
        fits = λ c m q. subst (λ (y : Card). length (numbers_of y) ≤ length t) (let z : f.value ≡ c = cc in z) few;
      })

  pub ended_is : (k : Counts) (end n : ℕ) (t : List ℕ) (r : Result Counts FormatRefusal) → read bytes card_s 0 ≡ whole k end → ((i : ℕ) → n ≤ i → get_or t i 0 ≡ 0)
      → take n t ≡ numbers_in bytes card_s 0 → r ≡ ended_as (excess bytes end) k → IsFilled (read_card bytes) r t
  ended_is k end n t r e zeros v h = rw h (go (excess bytes end) refl)
    where
      go : (x : Option ℕ) → excess bytes end ≡ x → IsFilled (read_card bytes) (ended_as x k) t
      go none q = whole_is k end n t e q zeros v
      go (some i) q = excess_is k end i t e q

  -- what is made of it: of a refused card, a table of zeros
  pub fill_refused : (a : Result Counts FormatRefusal) (e : FormatRefusal) (size : ℕ) (t t' : List ℕ) → IsFilled (read_card bytes) a t → a ≡ Err e → t' ≡ replicate size 0
      → IsRead (read_card bytes) (Err e) × IsTable (read_card bytes) size t'
  fill_refused a e size t t' h q z = go (read_card bytes) (sym (ap filled_outcome q) ∙ h.answer)
    where
      go : (x : Parsing Card) → filled_outcome (Err e) ≡ outcome_of x → IsRead x (Err e) × IsTable x size t'
      go (refused n i) p = (record { answer = p; starts = λ c end r. tt }, record { is = z ∙ blank_table size; fits = λ c end r. absurd (not_whole _ _ _ _ r) })
      go (whole c end) p = absurd (let z : ◌≡◌ {A = ℕ} 0 1 = cc in omega arith)

  pub fill_whole : (a : Result Counts FormatRefusal) (k : Counts) (size : ℕ) (t : List ℕ) (x : CardIndex) → IsFilled (read_card bytes) a t → a ≡ Ok k → length t ≡ size → x.counts ≡ k
      → ((c : Card) → Wellformed c → Laid c t → k.subnets ≡ length c.subnets → x.starts ≡ starts_of c) → IsRead (read_card bytes) (Ok x) × IsTable (read_card bytes) size t
  fill_whole a k size t x h e long counts g = go (read_card bytes) refl (sym (ap filled_outcome e) ∙ h.answer)
    where
      go : (y : Parsing Card) → read_card bytes ≡ y → filled_outcome (Ok k) ≡ outcome_of y → IsRead y (Ok x) × IsTable y size t
      go (refused n i) p q = absurd (let z : ◌≡◌ {A = ℕ} 0 1 = cc in omega arith)
      go (whole c end) p q =
          let is = h.table c end p in
          let few = h.fits c end p in
          let w = read_wellformed bytes c end p in
          let s : x.starts ≡ starts_of c = g c w (subst (Laid c) (sym is) (laid c w (numbers_table (length t) c) (entered (length t) c few))) cc in (
            record { answer = ap filled_outcome (ap Ok counts) ∙ q; starts = λ d m y. s ∙ ap starts_of (let z : c ≡ d = cc in z) },
            record { is = is ∙ ap (λ (n : ℕ). numbers_table n c) long; fits = λ d m y. subst (λ (z : Card). length (numbers_of z) ≤ size) (let z : c ≡ d = cc in z) (omega (arith, few, long)) },
          )

pub lent_is : (x : Parsing Card) (room : Bool) (before after : List ℕ) → IsLent x room before after → room ≡ true → IsTable x (length before) after
lent_is x room before after h e = subst (λ (b : Bool). IsLent x b before after) e h

-- `tables_loaded`: THE TWO TABLES OF A CARD HOLD ITS ROWS
pub tables_loaded : (size : ℕ) (c : Card) → Wellformed c → length (numbers_of c) ≤ size → Loaded c (numbers_table size c) (starts_of c)
tables_loaded size c w few = record { laid = laid c w (numbers_table size c) (entered size c few); indexed = starts_indexed c w }

pub read_loaded : (bytes : List ℕ) (c : Card) (end size : ℕ) (numbers starts : List ℕ) → read_card bytes ≡ whole c end → starts ≡ starts_of c
    → IsTable (read_card bytes) size numbers → Loaded c numbers starts
read_loaded bytes c end size numbers starts e s h =
    let g : IsTable (whole c end) size numbers = subst (λ (x : Parsing Card). IsTable x size numbers) e h in
    rw (g.is, s) (tables_loaded size c (read_wellformed bytes c end e) (g.fits c end refl))

-- a search for a set fill bit, and then a further byte, is `excess`
module _ (bytes : List ℕ) (end : ℕ) where
  one_field : (i : ℕ) → bit_field (bit bytes) i 1 ≡ bit bytes i
  unfolding bit_field
  one_field i = omega (arith, ap (bit bytes) (add-zero i))

  pub excess_found : (f r : Std.Option ℕ) → excess_of f ≡ lowest end (8 * bytes_for end - end) (λ i. eqb (bit_field (bit bytes) i 1) 1)
      → r ≡ option_or f (then_some (ltb (bytes_for end) (length bytes)) (8 * bytes_for end)) → excess_of r ≡ excess bytes end
  unfolding excess
  excess_found f r h e = ap excess_of e ∙ go f (ltb (bytes_for end) (length bytes)) (h ∙ first_same end (8 * bytes_for end - end) _ _ (λ i a b. ap (λ (v : ℕ). some_if (eqb v 1) i) (one_field i)))
    where
      go : (f : Std.Option ℕ) (more : Bool) {x : Option ℕ} → excess_of f ≡ x → excess_of (option_or f (then_some more (8 * bytes_for end))) ≡ x otherwise some_if more (8 * bytes_for end)
      go (Std.Some i) more q = rw (← q)
      go Std.None true q = rw (← q)
      go Std.None false q = rw (← q)
