-- Lists of calls of any kind: where each call keeps what makes a state good, the two runners' traces are one, that of the net's own run, every
-- state is good, and none earns 25. And a row keeps a state consistent. Assumes nothing.
use Rattle.std.proofs.Common.{◌≡◌, ℕ, ◌<◌, Bool, true, false, ◌||◌, eqb, ltb, ◌≢◌, List, [], ◌∷◌, map, length, drop, sym, refl, ap, ◌∙◌, inl, inr, arith, take_at}
use mathlib.Core.Logic.Iff
use mathlib.Core.Option
use mathlib.Core.Option.{Option, none, some, some-ne-none}
use Rattle.std.proofs.lemmas.Bool.Decides.{Decides-eqb, Decides-and}
use Rattle.std.specs.Bool.{Decides}
use Rattle.card.specs.Finite.{All, some_unless, lowest, ◌otherwise◌}
use Rattle.card.specs.Card.{Card}
use Rattle.runners.specs.Numbers.{RowOutcome, refusal}
use Rattle.runners.specs.State.{NetState, scale, entry}
use Rattle.runners.specs.Rows.{settle, row_fault, row_conflict, row_next, row_refusal, degrees, no_row, Ask, row, Act, act_of, perform}
use Rattle.runners.specs.Calls.{view, store, valid_in, in_state, valid, lent_call}
use Rattle.runners.specs.inner.Counts.{Counts}
use Rattle.runners.specs.Traces.{trace, observed, Bounded}
use Rattle.runners.specs.declared.State.{State as Lent}
use Rattle.runners.specs.declared.Refusal.{Refusal}
use Rattle.runners.specs.declared.Refusal.TheVariants.{BadCard, BadState, BadOrder, BadRow, BadDegree, Conflict}
use Rattle.runners.proofs.StateLaws.{Consistent, consistent_is, Sized, fits_is}
use Rattle.runners.proofs.EffectiveLaws.{row_consistent, row_sized}

-- a state stored in a lent one is what the lent one holds
pub view_store : (f : Card) (l : Lent) (s : NetState) → Counts f l → Sized f s → view (store l s) ≡ s
view_store f l s n h =
    rw (
      take_at s.markings (drop l.places l.markings) l.places (h.markings ∙ sym n.places),
      take_at s.transfers (drop l.transitions l.transfers) l.transitions (h.transfers ∙ sym n.transitions),
      take_at s.degrees (drop l.signals l.degrees) l.signals (h.degrees ∙ sym n.signals),
    )

-- a valid lent state, in the paper's words
pub record Valid (f : Card) (l : Lent) : Type 0 where
  pub counts : Counts f l
  pub consistent : Consistent f (view l)

pub valid_is : (f : Card) (l : Lent) → Decides (valid f l) (Valid f l)
unfolding valid_in
valid_is f l =
    Iff.trans (Decides-and _ _ (Decides-and _ _ (Decides-and _ _ (Decides-eqb l.places (length f.places)) (Decides-eqb l.transitions (length f.transitions)))
    (Decides-eqb l.signals f.signals)) (consistent_is f (view l))) (
      λ h. record { counts = record { places = h.0.0.0; transitions = h.0.0.1; signals = h.0.1 }; consistent = h.1 },
      λ h. (((h.counts.places, h.counts.transitions), h.counts.signals), h.consistent),
    )

-- a good state of a net: consistent, and as long as the net
pub record Good (f : Card) (s : NetState) : Type 0 where
  pub consistent : Consistent f s
  pub sized : Sized f s

-- WHAT THERE IS TO SHOW OF A CALL: where it is not refused, it keeps a state good;
abbrev pub Keeps : (f : Card) → Act → Type 0
Keeps f a = (s : NetState) → Good f s → a.refusal s ≡ none → Good f (a.next s)

-- and, for 25, its own tests do not give it.
abbrev NotState : Refusal → Type 0
NotState (BadCard r) = Unit {0}
NotState BadState = ⊥
NotState BadOrder = Unit {0}
NotState BadRow = Unit {0}
NotState (BadDegree g) = Unit {0}
NotState (Conflict p) = Unit {0}

pub Clear : Option Refusal → Type 0
Clear none = Unit {0}
Clear (some why) = NotState why

abbrev pub Mild : Act → Type 0
Mild a = (s : NetState) → Clear (a.refusal s)

clear_otherwise : (a b : Option Refusal) → Clear a → Clear b → Clear (a otherwise b)
unfolding Clear
clear_otherwise none b h k = k
clear_otherwise (some why) b h k = h

clear_unless : (b : Bool) (why : Refusal) → NotState why → Clear (some_unless b why)
unfolding Clear
clear_unless true why h = tt
clear_unless false why h = h

clear_map : (why : ℕ → Refusal) → ((n : ℕ) → NotState (why n)) → (x : Option ℕ) → Clear (Option.map why x)
unfolding Clear
clear_map why h none = tt
clear_map why h (some n) = h n

abbrev pub 25·alone : RowOutcome
25·alone = refusal BadState

not_25 : (x : Option Refusal) (before after : Lent) → Clear x → (settle x before after).0 ≢ 25·alone
unfolding Clear
not_25 none before after h e = let z : ◌≡◌ {A = ℕ} 0 1 = cc in omega arith
not_25 (some (BadCard r)) before after h e = let z : ◌≡◌ {A = ℕ} 0 1 = cc in omega arith
not_25 (some BadState) before after h e = h
not_25 (some BadOrder) before after h e = let z : ◌≡◌ {A = ℕ} 23 25 = cc in omega arith
not_25 (some BadRow) before after h e = let z : ◌≡◌ {A = ℕ} 20 25 = cc in omega arith
not_25 (some (BadDegree g)) before after h e = let z : ◌≡◌ {A = ℕ} 0 1 = cc in omega arith
not_25 (some (Conflict p)) before after h e = let z : ◌≡◌ {A = ℕ} 0 1 = cc in omega arith

-- a lent state with the counts of a net that holds a good state
pub record Sound (f : Card) (l : Lent) : Type 0 where
  pub counts : Counts f l
  pub good : Good f (view l)

-- CALLS OF ANY KIND
module _ (f : Card) (C : Type 0) (act : C → Act) (keeps : (k : C) → Keeps f (act k)) where
  tested : (l : Lent) → Sound f l → valid f l ≡ true
  tested l v = (valid_is f l).1 (record { counts = v.counts; consistent = v.good.consistent })

  -- of a sound state a call is the rest of its tests and then the act,
  call_is : (ordered : Bool) (k : C) (l : Lent) → Sound f l
      → lent_call in_state f ordered (act k) l ≡ settle (some_unless ordered BadOrder otherwise (act k).refusal (view l)) l (store l ((act k).next (view l)))
  call_is ordered k l v = rw (tested l v)

  -- and leaves a sound one
  settled_sound : (ordered : Bool) (k : C) (l : Lent) → Sound f l
      → Sound f (settle (some_unless ordered BadOrder otherwise (act k).refusal (view l)) l (store l ((act k).next (view l)))).1
  settled_sound false k l v = v
  settled_sound true k l v = go ((act k).refusal (view l)) refl
    where
      go : (x : Option Refusal) → (act k).refusal (view l) ≡ x → Sound f (settle x l (store l ((act k).next (view l)))).1
      go (some why) e = v
      go none e =
          let n = keeps k (view l) v.good e in
          record {
            counts = record { places = v.counts.places; transitions = v.counts.transitions; signals = v.counts.signals };
            good = rw (view_store f l ((act k).next (view l)) v.counts n.sized) n;
          }

  pub call_sound : (ordered : Bool) (k : C) (l : Lent) → Sound f l → Sound f (lent_call in_state f ordered (act k) l).1
  call_sound ordered k l v = rw (call_is ordered k l v) (settled_sound ordered k l v)

  -- a call on a lent state is the act on what it holds
  pub call_observed : (k : C) (l : Lent) → Sound f l → observed (lent_call in_state f true (act k) l) ≡ perform (act k) (view l)
  call_observed k l v = rw (call_is true k l v) (go ((act k).refusal (view l)) refl)
    where
      go : (x : Option Refusal) → (act k).refusal (view l) ≡ x
          → observed (settle x l (store l ((act k).next (view l)))) ≡ settle x (view l) ((act k).next (view l))
      go (some why) e = refl
      go none e = rw (view_store f l ((act k).next (view l)) v.counts (keeps k (view l) v.good e).sized)

  -- THE TWO RUNNERS' TRACES ARE ONE, where the orders are valid,
  pub runners_trace : (ordered : C → Bool) (l : Lent) → Sound f l → (calls : List C) → All (λ k. ordered k ≡ true) calls
      → trace (λ m k. lent_call in_state f (ordered k) (act k) m) l calls ≡ trace (λ m k. lent_call in_state f true (act k) m) l calls
  unfolding trace
  runners_trace ordered l v [] o = refl
  runners_trace ordered l v (k ∷ calls) o =
      rw (o.0, runners_trace ordered (lent_call in_state f true (act k) l).1 (call_sound true k l v) calls o.1)

  -- THAT OF THE NET'S OWN RUN;
  pub net_trace : (l : Lent) → Sound f l → (calls : List C)
      → map observed (trace (λ m k. lent_call in_state f true (act k) m) l calls) ≡ trace (λ s k. perform (act k) s) (view l) calls
  unfolding trace
  net_trace l v [] = refl
  net_trace l v (k ∷ calls) =
      let q = call_observed k l v in
      let r : view (lent_call in_state f true (act k) l).1 ≡ (perform (act k) (view l)).1 = ap (λ (x : RowOutcome × NetState). x.1) q in
      rw (q, net_trace (lent_call in_state f true (act k) l).1 (call_sound true k l v) calls, r)

  -- NO STATE THAT IS REACHED EARNS 25, whatever the orders;
  pub trace_clear : ((k : C) → Mild (act k)) → (ordered : C → Bool) (l : Lent) → Sound f l → (calls : List C)
      → All (λ x. x.0 ≢ 25·alone) (trace (λ m k. lent_call in_state f (ordered k) (act k) m) l calls)
  unfolding trace
  trace_clear mild ordered l v [] = tt
  trace_clear mild ordered l v (k ∷ calls) = (
    rw (call_is (ordered k) k l v) (not_25 (some_unless (ordered k) BadOrder otherwise (act k).refusal (view l)) l _ (clear_otherwise _ _ (clear_unless (ordered k) BadOrder tt) (mild k (view l)))),
    trace_clear mild ordered (lent_call in_state f (ordered k) (act k) l).1 (call_sound (ordered k) k l v) calls,
  )

  -- AND EVERY STATE THAT IS REACHED IS GOOD
  perform_good : (k : C) (s : NetState) → Good f s → Good f (perform (act k) s).1
  perform_good k s h = go ((act k).refusal s) refl
    where
      go : (x : Option Refusal) → (act k).refusal s ≡ x → Good f (settle x s ((act k).next s)).1
      go (some why) e = h
      go none e = keeps k s h e

  pub trace_good : (P : NetState → Type 0) → ((s : NetState) → Good f s → P s) → (s : NetState) → Good f s → (calls : List C)
      → All P (map (λ x. x.1) (trace (λ x k. perform (act k) x) s calls))
  unfolding trace
  trace_good P g s h [] = tt
  trace_good P g s h (k ∷ calls) =
      let n = perform_good k s h in
      (g (perform (act k) s).1 n, trace_good P g (perform (act k) s).1 n calls)

-- THE CALLS THAT THERE ARE, a clause for each kind: an accepted row keeps a state consistent, and no test of a row gives 25
none_some : {A : Type 0} {why : Refusal} → some why ≡ none → A
none_some e = absurd (some-ne-none _ e)

pub ask_keeps : (f : Card) (k : Ask) → Keeps f (act_of f k)
ask_keeps f (row (degrees r)) s h e =
    let k = (fits_is f s r).0 e in
    record { consistent = row_consistent f s r h.consistent k; sized = row_sized f s r h.consistent k (inr h.sized.degrees) }
ask_keeps f (row no_row) s h e = none_some e

row_clear : (f : Card) (s : NetState) (r : List ℕ) → Clear (row_refusal f s r)
unfolding row_refusal row_fault
row_clear f s r =
    clear_otherwise _ _ (clear_otherwise _ _ (clear_unless (eqb (length r) 0 || eqb (length r) f.signals) BadRow tt)
    (clear_map BadDegree (λ n. tt) (lowest 0 f.signals (λ g. ltb (scale f) (entry r g)))))
    (clear_map Conflict (λ n. tt) (row_conflict f s r))

pub ask_mild : (f : Card) (k : Ask) → Mild (act_of f k)
unfolding Clear
ask_mild f (row (degrees r)) s = row_clear f s r
ask_mild f (row no_row) s = tt

-- What a row that is not empty leaves of a valid lent state is valid, whatever the lengths of its arrays.
pub kept : (f : Card) (l : Lent) (r : List ℕ) (ordered : Bool) → 0 < length r → Valid f l
    → Valid f (settle (some_unless ordered BadOrder otherwise row_refusal f (view l) r) l (store l (row_next f (view l) r))).1
kept f l r false b v = v
kept f l r true b v = go (row_refusal f (view l) r) refl
  where
    go : (x : Option Refusal) → row_refusal f (view l) r ≡ x → Valid f (settle x l (store l (row_next f (view l) r))).1
    go (some why) e = v
    go none e =
        let k = (fits_is f (view l) r).0 e in
        record {
          counts = record { places = v.counts.places; transitions = v.counts.transitions; signals = v.counts.signals };
          consistent =
              rw (view_store f l (row_next f (view l) r) v.counts (row_sized f (view l) r v.consistent k (inl b)))
              (row_consistent f (view l) r v.consistent k);
        }

-- a consistent state has every marking in range
pub consistent_bounded : (f : Card) (s : NetState) → Consistent f s → Bounded f s
consistent_bounded f s h p l = omega (arith, (h.places p l).space)
