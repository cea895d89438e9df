-- A fresh state is consistent, and an accepted row keeps it so: owed ≤ m and m + due ≤ 1000 × K at every place, every progress
-- below 1000, every degree at most 1000. Assumes nothing.
use Rattle.std.proofs.Common.{◌≡◌, ℕ, ◌+◌, ◌*◌, ◌<◌, ◌≤◌, Bool, true, false, cond, eqb, ltb, ◌⊎◌, List, length, refl, mul-le-mul_left, arith}
use mathlib.Core.Logic.Iff
use mathlib.Core.Option.{none, map-eq-none_iff}
use borrow.Author.Tests.{eqb-false}
use Rattle.std.proofs.lemmas.Bool.Decides.{Decides-eqb, Decides-ltb, Decides-and, Decides-or}
use Rattle.std.specs.Bool.{Decides}
use Rattle.card.specs.Finite.{lowest}
use Rattle.card.specs.Card.{Card, draws, fills, place_at}
use Rattle.card.proofs.Sums.{sum_zero, table_at, table_length}
use Rattle.card.proofs.Decides.{Clears, le_is, every_is, some_unless_is, otherwise_is, some_if_is, first_of_is}
use Rattle.runners.specs.State.{NetState, scale, entry, transfer, fresh, remaining, flow, owed, due}
use Rattle.runners.specs.Step.{candidate, started_on, advanced, arrives_by, next_by, started, conflict, moves, next}
use Rattle.runners.specs.Rows.{row_fault, row_conflict, row_refusal}
use Rattle.runners.specs.Calls.{in_range, consistent}
use Rattle.runners.specs.declared.Transfer.{Transfer}
use Rattle.runners.specs.declared.Transfer.TheVariants.{Idle, Carrying}
use Rattle.runners.specs.declared.Refusal.TheVariants.{BadDegree, Conflict}
use Rattle.runners.proofs.ScaleLaws.{scale_some}
use Rattle.runners.proofs.StepLaws.{Covered, covered_is, Covers, Within, safe_by, conflict_is, moves_few}

abbrev pub InRange : Card → Transfer → Type 0
InRange f Idle = Unit {0}
InRange f (Carrying c) = c < scale f

pub in_range_is : (f : Card) (x : Transfer) → Decides (in_range f x) (InRange f x)
in_range_is f Idle = (λ h. tt, λ h. refl)
in_range_is f (Carrying c) = Decides-ltb c (scale f)

pub record Consistent (f : Card) (s : NetState) : Type 0 where
  pub places : (p : ℕ) → p < length f.places → Covered f s.markings s.transfers p
  pub transfers : (t : ℕ) → t < length f.transitions → InRange f (transfer s.transfers t)
  pub degrees : (g : ℕ) → g < f.signals → entry s.degrees g ≤ scale f

pub consistent_is : (f : Card) (s : NetState) → Decides (consistent f s) (Consistent f s)
unfolding consistent
consistent_is f s =
    Iff.trans (Decides-and _ _ (Decides-and _ _ (every_is (length f.places) _ _ (covered_is f s.markings s.transfers))
    (every_is (length f.transitions) _ _ (λ t. in_range_is f (transfer s.transfers t))))
    (every_is f.signals _ _ (λ g. le_is (entry s.degrees g) (scale f))))
    (λ h. record { places = h.0.0; transfers = h.0.1; degrees = h.1 }, λ h. ((h.places, h.transfers), h.degrees))

-- as long as the net has places, transitions and signals
pub record Sized (f : Card) (s : NetState) : Type 0 where
  pub markings : length s.markings ≡ length f.places
  pub transfers : length s.transfers ≡ length f.transitions
  pub degrees : length s.degrees ≡ f.signals

pub fresh_sized : (f : Card) → Sized f (fresh f)
unfolding fresh
fresh_sized f = record { markings = table_length _ _ _; transfers = table_length _ _ _; degrees = table_length _ _ _ }

pub sized_by : (f : Card) (start : ℕ → Bool) (amount : ℕ → ℕ) (s : NetState) (row : List ℕ) → length row ≡ f.signals → Sized f (next_by f start amount s row)
sized_by f start amount s row e = record { markings = table_length _ _ _; transfers = table_length _ _ _; degrees = e }

pub next_sized : (f : Card) (s : NetState) (row : List ℕ) → length row ≡ f.signals → Sized f (next f s row)
unfolding next
next_sized f s row = sized_by f (candidate f s row) (moves f s row) s row

-- IN A FRESH STATE EVERY PLACE IS COVERED
pub no_flow : (f : Card) (xs : List Transfer) (way p : ℕ) → ((t : ℕ) → t < length f.transitions → transfer xs t ≡ Idle) → flow f (λ t. remaining f (transfer xs t)) way p ≡ 0
unfolding flow
no_flow f xs way p h = sum_zero (length f.transitions) _ (λ t l. rw (h t l) (omega arith))

module _ (f : Card) (tokens : (p : ℕ) → p < length f.places → (place_at f p).tokens ≤ (place_at f p).capacity) where
  fresh_idle : (t : ℕ) → t < length f.transitions → transfer (fresh f).transfers t ≡ Idle
  unfolding fresh
  fresh_idle t l = table_at (length f.transitions) (λ u. Idle) Idle t l

  fresh_marking : (p : ℕ) → p < length f.places → entry (fresh f).markings p ≡ scale f * (place_at f p).tokens
  unfolding fresh
  fresh_marking p l = table_at (length f.places) (λ q. scale f * (place_at f q).tokens) 0 p l

  fresh_degree : (g : ℕ) → g < f.signals → entry (fresh f).degrees g ≡ 0
  unfolding fresh
  fresh_degree g l = table_at f.signals (λ h. 0) 0 g l

  fresh_covered : (p : ℕ) → p < length f.places → Covered f (fresh f).markings (fresh f).transfers p
  unfolding owed due
  fresh_covered p l =
      let o = no_flow f (fresh f).transfers draws p fresh_idle in
      let d = no_flow f (fresh f).transfers fills p fresh_idle in
      record {
        has = omega arith;
        space = omega (arith, fresh_marking p l, mul-le-mul_left (scale f) (tokens p l));
      }

  pub fresh_consistent : Consistent f (fresh f)
  fresh_consistent =
      record {
        places = fresh_covered;
        transfers = λ t l. rw (fresh_idle t l) tt;
        degrees = λ g l. omega (arith, fresh_degree g l);
      }

-- a row that is not refused has no degrees, or one for each signal, each at most 1000, and makes no conflict
pub record Fits (f : Card) (s : NetState) (row : List ℕ) : Type 0 where
  pub long : (length row ≡ 0) ⊎ (length row ≡ f.signals)
  pub degrees : (g : ℕ) → g < f.signals → entry row g ≤ scale f
  pub free : row_conflict f s row ≡ none

low_degrees : (f : Card) (row : List ℕ) → Clears (lowest 0 f.signals (λ g. ltb (scale f) (entry row g))) ((g : ℕ) → g < f.signals → entry row g ≤ scale f)
low_degrees f row =
    Iff.trans (first_of_is 0 f.signals _ _ (λ g. some_if_is _ _ _ (Decides-ltb (scale f) (entry row g))))
    (λ h g l. omega (arith, h g (omega arith) (omega arith)), λ h g a b. omega (arith, h g (omega arith)))

pub fault_is : (f : Card) (row : List ℕ) → Clears (row_fault f row) (((length row ≡ 0) ⊎ (length row ≡ f.signals)) × ((g : ℕ) → g < f.signals → entry row g ≤ scale f))
unfolding row_fault
fault_is f row =
    otherwise_is _ _ _ _ (some_unless_is _ _ _ (Decides-or _ _ (Decides-eqb (length row) 0) (Decides-eqb (length row) f.signals)))
    (Iff.trans (map-eq-none_iff BadDegree _) (low_degrees f row))

pub fits_is : (f : Card) (s : NetState) (row : List ℕ) → Clears (row_refusal f s row) (Fits f s row)
unfolding row_refusal
fits_is f s row =
    Iff.trans (otherwise_is _ _ _ _ (fault_is f row) (map-eq-none_iff Conflict _))
    (λ h. record { long = h.0.0; degrees = h.0.1; free = h.1 }, λ h. ((h.long, h.degrees), h.free))

-- an accepted row keeps the progress below 1000
advanced_range : (f : Card) (x : Transfer) (d : ℕ) → InRange f x → d ≤ remaining f x → InRange f (advanced f x d)
advanced_range f Idle d h l = tt
advanced_range f (Carrying c) d h l = go (eqb (c + d) (scale f)) refl
  where
    go : (b : Bool) → eqb (c + d) (scale f) ≡ b → InRange f (cond b Idle (Carrying (c + d)))
    go true e = tt
    go false e = omega (arith, eqb-false (c + d) (scale f) e)

module _ (f : Card) (start : ℕ → Bool) (amount : ℕ → ℕ) (s : NetState) (h : Consistent f s) where
  started_range : (t : ℕ) → t < length f.transitions → InRange f (started_on start s.transfers t)
  started_range t l = go (start t)
    where
      go : (b : Bool) → InRange f (cond b (Carrying 0) (transfer s.transfers t))
      go true = scale_some f
      go false = h.transfers t l

  range_by : Within f start amount s → (t : ℕ) → t < length f.transitions → InRange f (arrives_by f start amount s.transfers t)
  range_by within t l = advanced_range f (started_on start s.transfers t) (amount t) (started_range t l) (within t l)

  -- A CONSISTENT STATE STAYS CONSISTENT, whichever transitions start and however far each moves, where every place is covered with the claims
  -- of those that start and none moves more than what remains
  pub consistent_by : (row : List ℕ) → Within f start amount s → Covers f start s → ((g : ℕ) → g < f.signals → entry row g ≤ scale f)
      → Consistent f (next_by f start amount s row)
  consistent_by row within covers low =
      record {
        places = λ p l. safe_by f start amount s row within p l (covers p l);
        transfers = λ t l. rw (table_at (length f.transitions) (arrives_by f start amount s.transfers) Idle t l) (range_by within t l);
        degrees = low;
      }

module _ (f : Card) (s : NetState) (row : List ℕ) (h : Consistent f s) where
  -- A ROW WITHOUT A CONFLICT KEEPS A CONSISTENT STATE CONSISTENT
  pub next_consistent : conflict f s row ≡ none → ((g : ℕ) → g < f.signals → entry row g ≤ scale f) → Consistent f (next f s row)
  unfolding next started
  next_consistent free low =
      consistent_by f (candidate f s row) (moves f s row) s h row (λ t l. moves_few f s row t) ((conflict_is f s row).0 free) low
