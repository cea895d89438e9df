-- What a step does, whichever transitions start and however far each moves, and so an accepted row: rule 50 of document 000, with nothing cut
-- off, and every place stays covered. Assumes nothing.
use Rattle.std.proofs.Common.{◌≡◌, ℕ, ◌+◌, ◌-◌, ◌*◌, ◌<◌, ◌≤◌, Bool, true, false, cond, eqb, ◌↔◌, List, length, refl, ◌∙◌, arith, eqb-true}
use mathlib.Core.Logic.Iff
use mathlib.Core.Option.{none}
use Rattle.std.proofs.lemmas.Bool.Decides.{Decides-and}
use Rattle.std.specs.Bool.{Decides}
use Rattle.card.proofs.Sums.{sum_same, sum_plus, table_at}
use Rattle.card.proofs.Decides.{le_is, some_if_not_is, first_of_is}
use Rattle.card.specs.Card.{Card, draws, fills}
use Rattle.runners.specs.State.{NetState, scale, entry, transfer, remaining, incidence, flow, owed, due, full_marking, covered}
use Rattle.runners.specs.Step.{candidate, started_on, started_by, conflict_by, advanced, arrives_by, next_by, started, conflict, moves, next}
use Rattle.runners.specs.declared.Transfer.{Transfer}
use Rattle.runners.specs.declared.Transfer.TheVariants.{Idle, Carrying}

-- the place has all that is owed, and room for all that is due
pub record Covered (f : Card) (ms : List ℕ) (xs : List Transfer) (p : ℕ) : Type 0 where
  pub has : owed f xs p ≤ entry ms p
  pub space : entry ms p + due f xs p ≤ full_marking f p

pub covered_is : (f : Card) (ms : List ℕ) (xs : List Transfer) (p : ℕ) → Decides (covered f ms xs p) (Covered f ms xs p)
unfolding covered
covered_is f ms xs p =
    Iff.trans (Decides-and _ _ (le_is (owed f xs p) (entry ms p)) (le_is (entry ms p + due f xs p) (full_marking f p)))
    (λ h. record { has = h.0; space = h.1 }, λ h. (h.has, h.space))

-- every place is covered with the claims of those that start
abbrev pub Covers : Card → (start : ℕ → Bool) → NetState → Type 0
Covers f start s = (p : ℕ) → p < length f.places → Covered f s.markings (started_by f start s.transfers) p

-- none moves more than what remains
abbrev pub Within : Card → (start : ℕ → Bool) → (amount : ℕ → ℕ) → NetState → Type 0
Within f start amount s = (t : ℕ) → t < length f.transitions → amount t ≤ remaining f (started_on start s.transfers t)

-- there is no conflict just where every place is covered
pub conflict_by_is : (f : Card) (start : ℕ → Bool) (s : NetState) → (conflict_by f start s ≡ none) ↔ Covers f start s
conflict_by_is f start s =
    Iff.trans (first_of_is 0 (length f.places) _ _ (λ p. some_if_not_is _ _ _ (covered_is f s.markings (started_by f start s.transfers) p)))
    (λ h p l. h p (omega arith) (omega arith), λ h p a b. h p (omega arith))

-- a flow of amounts that are two each is the two flows
pub flow_split : (f : Card) (a b d : ℕ → ℕ) (way p : ℕ) → ((t : ℕ) → t < length f.transitions → a t ≡ b t + d t) → flow f a way p ≡ flow f b way p + flow f d way p
unfolding flow
flow_split f a b d way p h =
    sum_same (length f.transitions) _ (λ t. b t * incidence f way t p + d t * incidence f way t p) (λ t l. rw (h t l) (omega arith))
    ∙ sum_plus (length f.transitions) _ _

-- what remains of a transfer falls by what it moves
pub remaining_advanced : (f : Card) (x : Transfer) (d : ℕ) → d ≤ remaining f x → remaining f x ≡ remaining f (advanced f x d) + d
remaining_advanced f Idle d h = omega arith
remaining_advanced f (Carrying c) d h = go (eqb (c + d) (scale f)) refl
  where
    go : (b : Bool) → eqb (c + d) (scale f) ≡ b → scale f - c ≡ remaining f (cond b Idle (Carrying (c + d))) + d
    go true e = omega (arith, eqb-true (c + d) (scale f) e)
    go false e = omega arith

-- A STEP OF ANY STARTS AND ANY AMOUNTS
module _ (f : Card) (start : ℕ → Bool) (amount : ℕ → ℕ) (s : NetState) (row : List ℕ) (within : Within f start amount s) where
  abbrev carried : List Transfer
  carried = started_by f start s.transfers

  abbrev after : NetState
  after = next_by f start amount s row

  rest_by : (t : ℕ) → t < length f.transitions → remaining f (transfer carried t) ≡ remaining f (transfer after.transfers t) + amount t
  rest_by t l =
      rw (table_at (length f.transitions) (started_on start s.transfers) Idle t l, table_at (length f.transitions) (arrives_by f start amount s.transfers) Idle t l)
      (remaining_advanced f (started_on start s.transfers t) (amount t) (within t l))

  -- what was owed is what is still owed and what was lost, and what was due is what is still due and what was gained
  pub owed_by : (p : ℕ) → owed f carried p ≡ owed f after.transfers p + flow f amount draws p
  unfolding owed
  owed_by p = flow_split f _ _ amount draws p rest_by

  pub due_by : (p : ℕ) → due f carried p ≡ due f after.transfers p + flow f amount fills p
  unfolding due
  due_by p = flow_split f _ _ amount fills p rest_by

  -- where a place is covered with the claims of those that start:
  module _ (p : ℕ) (l : p < length f.places) (k : Covered f s.markings carried p) where
    -- RULE 50: m' = m + d · (C⁺ - C⁻)
    pub rule_50_by : entry after.markings p + flow f amount draws p ≡ entry s.markings p + flow f amount fills p
    rule_50_by =
        omega (arith, k.has, owed_by p, table_at (length f.places) (λ q. entry s.markings q + flow f amount fills q - flow f amount draws q) 0 p l)

    -- it stays covered
    pub safe_by : Covered f after.markings after.transfers p
    safe_by =
        record {
          has = omega (arith, k.has, owed_by p, rule_50_by);
          space = omega (arith, k.space, k.has, due_by p, rule_50_by);
        }

-- AN ACCEPTED ROW
-- there is no conflict just where every place is covered with the candidates' claims
pub conflict_is : (f : Card) (s : NetState) (row : List ℕ)
    → (conflict f s row ≡ none) ↔ ((p : ℕ) → p < length f.places → Covered f s.markings (started f s row) p)
unfolding conflict started
conflict_is f s row = conflict_by_is f (candidate f s row) s

module _ (f : Card) (s : NetState) (row : List ℕ) where
  -- the transfers with the candidates among them
  pub started_at : (t : ℕ) → t < length f.transitions → transfer (started f s row) t ≡ started_on (candidate f s row) s.transfers t
  unfolding started
  started_at t l = table_at (length f.transitions) (started_on (candidate f s row) s.transfers) Idle t l

  pub moves_few : (t : ℕ) → moves f s row t ≤ remaining f (started_on (candidate f s row) s.transfers t)
  unfolding moves
  moves_few t = omega arith

  pub owed_split : (p : ℕ) → owed f (started f s row) p ≡ owed f (next f s row).transfers p + flow f (moves f s row) draws p
  unfolding started next
  owed_split p = owed_by f (candidate f s row) (moves f s row) s row (λ t l. moves_few t) p

  pub due_split : (p : ℕ) → due f (started f s row) p ≡ due f (next f s row).transfers p + flow f (moves f s row) fills p
  unfolding started next
  due_split p = due_by f (candidate f s row) (moves f s row) s row (λ t l. moves_few t) p

  pub rule_50 : conflict f s row ≡ none → (p : ℕ) → p < length f.places
      → entry (next f s row).markings p + flow f (moves f s row) draws p ≡ entry s.markings p + flow f (moves f s row) fills p
  unfolding started next
  rule_50 e p l = rule_50_by f (candidate f s row) (moves f s row) s row (λ t l. moves_few t) p l ((conflict_is f s row).0 e p l)

  -- EVERY PLACE STAYS COVERED (`safe_step`), so no marking leaves 0 to 1000 × K
  pub safe_step : conflict f s row ≡ none → (p : ℕ) → p < length f.places → Covered f (next f s row).markings (next f s row).transfers p
  unfolding started next
  safe_step e p l = safe_by f (candidate f s row) (moves f s row) s row (λ t l. moves_few t) p l ((conflict_is f s row).0 e p l)
