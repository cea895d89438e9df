-- A call on a state in slices is the runners' call on the state that they make. Assumes nothing.
use Prim.Native.Nat.{ℕ, zero, suc, ◌+◌, ◌<◌}
use mathlib.Core.Path.{◌≡◌, refl, sym, ap, subst, ◌∙◌}
use mathlib.Core.Bool.{Bool, true, false, ◌&&◌}
use mathlib.Core.List.{List, [], ◌∷◌, ◌++◌, map}
use mathlib.Core.Option.{Option, none, some, some-ne-none}
use native.Mathlib.Omega.{arith}
use lib.ListN.{length, get_or, set, take, drop}
use lib.Dec.{eqb}
use borrow.Author.Tests.{eqb-true}
use Rattle.std.specs.Prelude.{Result, Ok, Err}
use Rattle.std.proofs.lemmas.List.{length-map}
use Rattle.std.proofs.lemmas.Bool.{and_parts}
use Rattle.card.specs.Finite.{some_unless, ◌otherwise◌}
use Rattle.card.specs.Card.{Card}
use Rattle.hierarchy.specs.Conditions.{Meets}
use Rattle.hierarchy.specs.Numbers as Check
use Rattle.hierarchy.specs.Judgement.{Judgement, accepted, refused, judge}
use Rattle.hierarchy.specs.declared.CardRefusal.{CardRefusal}
use Rattle.hierarchy.proofs.Accepted.{accepted_meets}
use Rattle.flattening.specs.Flattening.{flatten, flat_place_row}
use Rattle.runners.specs.Numbers.{RowOutcome, refusal}
use Rattle.runners.specs.State.{NetState, fresh}
use Rattle.runners.specs.Rows.{settle, Act, act_of}
use Rattle.runners.specs.Calls.{view, store, blank, fresh_of, fresh_call, consistent, valid_in, in_state, valid, Given, lent_call, call_on, flat_call, subnet_call}
use Rattle.runners.specs.Columns.{transfer_of}
use Rattle.runners.specs.inner.Counts.{Counts}
use Rattle.runners.specs.declared.Transfer.{Transfer}
use Rattle.runners.specs.declared.State.{State as Own}
use Rattle.runners.specs.declared.Refusal.{Refusal}
use Rattle.runners.specs.declared.Refusal.TheVariants.{BadCard, BadState, BadOrder, BadRow, BadDegree, Conflict}
use Rattle.runners.specs.Answers.{IsFresh}
use Rattle.runners.proofs.StateLaws.{consistent_is, Sized, fresh_sized}
use Rattle.runners.proofs.TraceLaws.{view_store, Good, Keeps, ask_keeps}
use Rattle.net_runner.specs.declared.told.Told.{Told}
use Rattle.net_runner.specs.declared.lending.Lent.{Lent}
use Rattle.net_runner.specs.Told.{row_told, answer_told}
use Rattle.net_runner.specs.Slices.{Slices, slices, state_of, slices_of, sized, in_slices, fresh_in, fresh_on, flat_on, subnet_on}
use Rattle.net_runner.specs.Copies.{held, SameSlices, Fits, Lends, IsLent, IsHanded, sized_as, taken_back, handed_back, too_long}
use Rattle.net_runner.proofs.ToldLaws.{FreshNet, fresh_yes}

-- a turn of a loop that stores what a function makes of a list's elements, one after another
made_suc : {A B : Type 0} (f : A → B) (d : A) (xs : List A) (out : List B) (i : ℕ) → i < length xs → i < length out
    → set (map f (take i xs) ++ drop i out) i (f (get_or xs i d)) ≡ map f (take (suc i) xs) ++ drop (suc i) out
made_suc f d [] out i h l = absurd (omega arith)
made_suc f d (x ∷ xs) [] i h l = absurd (omega arith)
made_suc f d (x ∷ xs) (y ∷ out) zero h l = refl
made_suc f d (x ∷ xs) (y ∷ out) (suc i) h l = ap (λ zs. f x ∷ zs) (made_suc f d xs out i (omega arith) (omega arith))

pub made_more : {A B : Type 0} (f : A → B) (d : A) (xs : List A) (out : List B) (i : ℕ) → i < length xs → i < length out
    → (now : List B) → now ≡ map f (take i xs) ++ drop i out → (v : B) → v ≡ f (get_or xs i d) → set now i v ≡ map f (take (i + 1) xs) ++ drop (i + 1) out
made_more f d xs out i h l now e v q =
    let n : suc i ≡ i + 1 = omega arith in
    rw (e, q, ← n) (made_suc f d xs out i h l)

-- the same where they are stored as they are
copied_suc : {A : Type 0} (xs out : List A) (i : ℕ) → i < length xs → i < length out → (v : A) → v ≡ get_or xs i v
    → set (take i xs ++ drop i out) i v ≡ take (suc i) xs ++ drop (suc i) out
copied_suc [] out i h l v q = absurd (omega arith)
copied_suc (x ∷ xs) [] i h l v q = absurd (omega arith)
copied_suc (x ∷ xs) (y ∷ out) zero h l v q = ap (λ z. z ∷ out) q
copied_suc (x ∷ xs) (y ∷ out) (suc i) h l v q = ap (λ zs. x ∷ zs) (copied_suc xs out i (omega arith) (omega arith) v q)

pub copied_more : {A : Type 0} (xs out : List A) (i : ℕ) → i < length xs → i < length out → (now : List A) → now ≡ take i xs ++ drop i out → (v : A) → v ≡ get_or xs i v
    → set now i v ≡ take (i + 1) xs ++ drop (i + 1) out
copied_more xs out i h l now e v q =
    let n : suc i ≡ i + 1 = omega arith in
    rw (e, ← n) (copied_suc xs out i h l v q)

-- the state that slices make
pub lends : (ms ts ds m d : List ℕ) (s : List Transfer) → take (length ms) m ≡ ms → take (length ts) s ≡ map transfer_of ts → take (length ds) d ≡ ds
    → Lends (slices ms ts ds) (record { markings = m; transfers = s; degrees = d; places = length ms; transitions = length ts; signals = length ds })
lends ms ts ds m d s em es ed =
    record {
      state = same (take (length ms) m) (take (length ts) s) (take (length ds) d) em es ed;
      places = refl;
      transitions = refl;
      signals = refl;
    }
  where
    same : (a : List ℕ) (b : List Transfer) (c : List ℕ) → a ≡ ms → b ≡ map transfer_of ts → c ≡ ds → ◌≡◌ {A = NetState} (record { markings = a; transfers = b; degrees = c }) (state_of (slices ms ts ds))
    same a b c ea eb ec = rw (ea, eb, ec)

-- what is handed back
taken_view : (l : Own) (x : Slices) → l.places ≡ length x.markings → l.transitions ≡ length x.transfers → l.signals ≡ length x.degrees → taken_back l x ≡ slices_of (view l)
taken_view l x ep et es = rw (ep, et, es)

taken_store : (f : Card) (l : Own) (s : NetState) (x : Slices) → Counts f l → Sized f s → l.places ≡ length x.markings → l.transitions ≡ length x.transfers → l.signals ≡ length x.degrees
    → taken_back (store l s) x ≡ slices_of s
taken_store f l s x n h ep et es = taken_view (store l s) x ep et es ∙ ap slices_of (view_store f l s n h)

refused_back : (why : Refusal) (l : Own) (x : Slices) → handed_back (refusal why, l) x ≡ (refusal why, x)
refused_back (BadCard r) l x = refl
refused_back BadState l x = refl
refused_back BadOrder l x = refl
refused_back BadRow l x = refl
refused_back (BadDegree g) l x = refl
refused_back (Conflict p) l x = refl

record Lengths (f : Card) (x : Slices) : Type 0 where
  pub places : length x.markings ≡ length f.places
  pub transitions : length x.transfers ≡ length f.transitions
  pub signals : length x.degrees ≡ f.signals

sized_lengths : (f : Card) (x : Slices) → sized f x ≡ true → Lengths f x
unfolding sized
sized_lengths f x e =
    let a = eqb (length x.markings) (length f.places) in
    let b = eqb (length x.transfers) (length f.transitions) in
    let c = eqb (length x.degrees) f.signals in
    record {
      places = eqb-true _ _ (and_parts a b (and_parts (a && b) c e).0).0;
      transitions = eqb-true _ _ (and_parts a b (and_parts (a && b) c e).0).1;
      signals = eqb-true _ _ (and_parts (a && b) c e).1;
    }

none_right : (a b : Option Refusal) → (a otherwise b) ≡ none → b ≡ none
none_right none b e = e
none_right (some why) b e = absurd (some-ne-none why e)

module _ (x : Slices) (l : Own) (h : Lends x l) where
  valid_same : (f : Card) → valid f l ≡ valid_in in_slices f x
  unfolding valid_in sized
  valid_same f =
      ap (λ (s : NetState). eqb l.places (length f.places) && eqb l.transitions (length f.transitions) && eqb l.signals f.signals && consistent f s) h.state
      ∙ rw (h.places, h.transitions, h.signals)

  module _ (f : Card) (ordered : Bool) (a : Act) (keeps : Keeps f a) where
    abbrev s : NetState
    s = state_of x

    abbrev inner : Option Refusal
    inner = some_unless ordered BadOrder otherwise a.refusal s

    settled : valid_in in_slices f x ≡ true → (o : Option Refusal) → inner ≡ o → handed_back (settle o l (store l (a.next s))) x ≡ settle o x (slices_of (a.next s))
    unfolding valid_in
    settled v (some why) e = refused_back why l x
    settled v none e =
        let z = sized_lengths f x (and_parts (sized f x) (consistent f s) v).0 in
        let g : Good f s = record { consistent = (consistent_is f s).0 (and_parts (sized f x) (consistent f s) v).1; sized = record { markings = z.places; transfers = length-map x.transfers transfer_of ∙ z.transitions; degrees = z.signals } } in
        let k = keeps s g (none_right (some_unless ordered BadOrder) (a.refusal s) e) in
        let n : Counts f l = record { places = h.places ∙ z.places; transitions = h.transitions ∙ z.transitions; signals = h.signals ∙ z.signals } in
        ap (λ (y : Slices). (RowOutcome.ok, y)) (taken_store f l (a.next s) x n k.sized h.places h.transitions h.signals)

    tested : (b : Bool) → valid_in in_slices f x ≡ b → handed_back (settle (some_unless b BadState otherwise inner) l (store l (a.next s))) x ≡ settle (some_unless b BadState otherwise inner) x (slices_of (a.next s))
    tested true e = settled e inner refl
    tested false e = refl

    lent_on : handed_back (lent_call in_state f ordered a l) x ≡ lent_call in_slices f ordered a x
    lent_on =
        subst (λ (v : NetState). handed_back (settle (some_unless (valid f l) BadState otherwise some_unless ordered BadOrder otherwise a.refusal v) l (store l (a.next v))) x ≡ lent_call in_slices f ordered a x)
        (sym h.state) (rw (valid_same f) (tested (valid_in in_slices f x) refl))

  -- A CALL ON SLICES IS THE CALL ON THE STATE THAT THEY MAKE, handed back
  called_on : (j : Judgement) (given : Card → Given) → handed_back (call_on in_state j given l) x ≡ call_on in_slices j given x
  called_on (accepted c) given = lent_on (flatten c) (given c).ordered (act_of (flatten c) (given c).ask) (ask_keeps (flatten c) (given c).ask)
  called_on (refused n at) given = refl

flat_on_is : (card : List ℕ) (x : Slices) (l : Own) → Lends x l → (r : List ℕ) → handed_back (flat_call card l r) x ≡ flat_on card x r
unfolding flat_call flat_on
flat_on_is card x l h r = called_on x l h (judge card) _

subnet_on_is : (card order : List ℕ) (x : Slices) (l : Own) → Lends x l → (r : List ℕ) → handed_back (subnet_call card order l r) x ≡ subnet_on card order x r
unfolding subnet_call subnet_on
subnet_on_is card order x l h r = called_on x l h (judge card) _

-- slices that are too long for any card
valid_sized : (f : Card) (x : Slices) → valid_in in_slices f x ≡ true → sized f x ≡ true
unfolding valid_in
valid_sized f x e = (and_parts (sized f x) (consistent f (state_of x)) e).0

fits_of : (c : Card) (x : Slices) → Meets c → sized (flatten c) x ≡ true → Fits x
unfolding flatten
fits_of c x m e =
    let z = sized_lengths (flatten c) x e in
    record {
      markings = omega (arith, z.places, length-map c.places flat_place_row, m.wellformed.rows.few_places);
      transfers = omega (arith, z.transitions, m.wellformed.rows.few_transitions);
      degrees = omega (arith, z.signals, m.wellformed.few_signals);
    }

-- no card's slices are
pub never_too_long : (c : Card) (x : Slices) → Meets c → (Fits x → ⊥) → sized (flatten c) x ≡ true → ⊥
never_too_long c x m n e = n (fits_of c x m e)

called_long : (given : Card → Given) (card : List ℕ) (x : Slices) → (Fits x → ⊥) → call_on in_slices (judge card) given x ≡ (too_long (judge card), x)
called_long given card x n = go (judge card) refl
  where
    go : (j : Judgement) → judge card ≡ j → call_on in_slices j given x ≡ (too_long j, x)
    go (refused k at) e = refl
    go (accepted c) e = tested (valid_in in_slices (flatten c) x) refl
      where
        tested : (b : Bool) → valid_in in_slices (flatten c) x ≡ b → call_on in_slices (accepted c) given x ≡ (refusal BadState, x)
        tested false q = rw q
        tested true q = absurd (never_too_long c x (accepted_meets card c e) n (valid_sized (flatten c) x q))

flat_long : (card : List ℕ) (x : Slices) (r : List ℕ) → (Fits x → ⊥) → flat_on card x r ≡ (too_long (judge card), x)
unfolding flat_on
flat_long card x r n = called_long _ card x n

subnet_long : (card order : List ℕ) (x : Slices) (r : List ℕ) → (Fits x → ⊥) → subnet_on card order x r ≡ (too_long (judge card), x)
unfolding subnet_on
subnet_long card order x r n = called_long _ card x n

-- answers of the code
module _ (before after : Lent) (a : Result ℕ Told) (same : SameSlices before after) where
  abbrev x : Slices
  x = held before

  handed_is : {y z : RowOutcome × Slices} → y ≡ z → answer_told a ≡ row_told y.0 → held after ≡ y.1 → IsHanded z a before after
  handed_is {y} {z} e t k = subst (λ (z : RowOutcome × Slices). IsHanded z a before after) e (record { told = t; slices = k; same = same })

  -- of slices that do not fit, and of the state that they make
  pub flat_kept : (card r : List ℕ) (why : Refusal) → IsLent card x (Err why) → answer_told a ≡ row_told (refusal why) → held after ≡ x → IsHanded (flat_on card x r) a before after
  flat_kept card r why h t = handed_is (sym (flat_long card x r h.0)) (t ∙ ap row_told h.1)

  pub subnet_kept : (card order r : List ℕ) (why : Refusal) → IsLent card x (Err why) → answer_told a ≡ row_told (refusal why) → held after ≡ x → IsHanded (subnet_on card order x r) a before after
  subnet_kept card order r why h t = handed_is (sym (subnet_long card order x r h.0)) (t ∙ ap row_told h.1)

pub flat_handed : (before after : Lent) (a : Result ℕ Told) (card r : List ℕ) (l : Own) → IsLent card (held before) (Ok l)
    → IsHanded (handed_back (flat_call card l r) (held before)) a before after → IsHanded (flat_on card (held before) r) a before after
flat_handed before after a card r l h k = handed_is before after a k.same (flat_on_is card (held before) l h.1 r) k.told k.slices

pub subnet_handed : (before after : Lent) (a : Result ℕ Told) (card order r : List ℕ) (l : Own) → IsLent card (held before) (Ok l)
    → IsHanded (handed_back (subnet_call card order l r) (held before)) a before after → IsHanded (subnet_on card order (held before) r) a before after
subnet_handed before after a card order r l h k = handed_is before after a k.same (subnet_on_is card order (held before) l h.1 r) k.told k.slices

-- the fresh state in slices
fresh_no : (card : List ℕ) (x : Slices) (e : CardRefusal) → IsFresh (fresh_call card) (Err e) → (refusal (BadCard e), x) ≡ fresh_on card x
unfolding fresh_call fresh_on
fresh_no card x e h = go (judge card) h.answer
  where
    go : (j : Judgement) → (fresh_of j).0 ≡ Check.CheckOutcome.refused (Check.number e.fault) e.bit → (refusal (BadCard e), x) ≡ fresh_in j x
    go (refused n b) w =
        let en : Check.number e.fault ≡ n = cc in
        let eb : e.bit ≡ b = cc in
        rw (en, eb)
    go (accepted c) w = absurd (let z : ◌≡◌ {A = ℕ} 0 1 = cc in omega arith)

module _ (card : List ℕ) (l : Own) (h : IsFresh (fresh_call card) (Ok l)) (x : Slices) where
  abbrev n : FreshNet card l
  n = fresh_yes card l h

  same_sizes : sized_as l x ≡ sized (flatten n.net) x
  unfolding sized
  same_sizes = ap (λ (k : Own). sized_as k x) n.state

  pub fresh_fits : sized_as l x ≡ true → Fits x
  fresh_fits e = fits_of n.net x n.meets (sym same_sizes ∙ e)

  fresh_other : sized_as l x ≡ false → (refusal BadState, x) ≡ fresh_on card x
  fresh_other e = rw (n.is x, sym same_sizes, e) refl

  fresh_same : sized_as l x ≡ true → (RowOutcome.ok, taken_back l x) ≡ fresh_on card x
  fresh_same e =
      let f = flatten n.net in
      let z = sized_lengths f x (sym same_sizes ∙ e) in
      let b = blank (length f.places) (length f.transitions) f.signals in
      let q = taken_store f b (fresh f) x (record { places = refl; transitions = refl; signals = refl }) (fresh_sized f) (sym z.places) (sym z.transitions) (sym z.signals) in
      ap (λ (y : Slices). (RowOutcome.ok, y)) (ap (λ (k : Own). taken_back k x) n.state ∙ q) ∙ rw (n.is x, sym same_sizes, e) refl

module _ (before after : Lent) (a : Result ℕ Told) (same : SameSlices before after) (card : List ℕ) where
  abbrev y : Slices
  y = held before

  pub fresh_refused : (e : CardRefusal) → IsFresh (fresh_call card) (Err e) → answer_told a ≡ row_told (refusal (BadCard e)) → held after ≡ y → IsHanded (fresh_on card y) a before after
  fresh_refused e h = handed_is before after a same (fresh_no card y e h)

  pub fresh_unlike : (l : Own) → IsFresh (fresh_call card) (Ok l) → sized_as l y ≡ false → answer_told a ≡ row_told (refusal BadState) → held after ≡ y → IsHanded (fresh_on card y) a before after
  fresh_unlike l h e = handed_is before after a same (fresh_other card l h y e)

  pub fresh_put : (l : Own) → IsFresh (fresh_call card) (Ok l) → sized_as l y ≡ true → answer_told a ≡ row_told RowOutcome.ok → held after ≡ taken_back l y → IsHanded (fresh_on card y) a before after
  fresh_put l h e = handed_is before after a same (fresh_same card l h y e)
