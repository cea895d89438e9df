-- CR 3, starting from zero: how far a transition moves in the row it starts, by the card's version, and in later rows; and that nothing else of a
-- row hangs on the version. Assumes nothing.
use Rattle.std.proofs.Common.{◌≡◌, ℕ, ◌+◌, ◌<◌, ◌≤◌, min, Bool, true, false, not, ◌&&◌, ltb, List, length, refl, ap, ◌∙◌, arith, eq-eqb, le-leb}
use borrow.Author.Tests.{lt-leb}
use Rattle.card.specs.Finite.{some_if}
use Rattle.card.specs.Card.{Arc, Card, draws, fills, first_arc, transition_at, with_version}
use Rattle.card.proofs.SearchLaws.{first_same}
use Rattle.card.proofs.Sums.{sum_same, table_at}
use Rattle.card.proofs.Prefix.{table_same}
use Rattle.runners.specs.State.{NetState, scale, fresh, transfer, remaining, incidence, flow, owed, due, claims, covered}
use Rattle.runners.specs.Step.{idle, allows, candidate_on, candidate, started_on, started_by, degree, rise, start_move, advanced, arrives_by, next_by, conflict, moves, next}
use Rattle.runners.specs.Rows.{row_fault}
use Rattle.runners.specs.Calls.{in_range, consistent}
use Rattle.runners.specs.declared.Transfer.{Transfer}
use Rattle.runners.specs.declared.Transfer.TheVariants.{Idle, Carrying}
use Rattle.runners.proofs.VisitLaws.{every_same, remaining_same}

-- what a starting transition moves: on version 1, and from version 2 on
pub start_one : (f : Card) (last new : ℕ) → f.version < 2 → start_move f last new ≡ rise last new
unfolding start_move
start_one f last new v = rw (lt-leb 2 f.version v) refl

pub start_two : (f : Card) (last new : ℕ) → 2 ≤ f.version → start_move f last new ≡ new
unfolding start_move
start_two f last new v = rw (le-leb 2 f.version v) refl

module _ (f : Card) (s : NetState) (row : List ℕ) (t : ℕ) where
  -- LATER ROWS MOVE IT BY THE RISE, or by what remains of its transfer, on every version
  pub later_rise : candidate f s row t ≡ false → moves f s row t ≡ min (rise (degree f s.degrees t) (degree f row t)) (remaining f (transfer s.transfers t))
  unfolding moves
  later_rise e = rw e refl

  module _ (e : candidate f s row t ≡ true) (low : degree f row t ≤ scale f) where
    -- IN THE ROW IT STARTS: on version 2 by the whole new degree of its signal,
    pub start_whole : 2 ≤ f.version → moves f s row t ≡ degree f row t
    unfolding moves
    start_whole v = rw e (omega (arith, low, start_two f (degree f s.degrees t) (degree f row t) v))

    -- on version 1 by the rise
    pub start_rise : f.version < 2 → moves f s row t ≡ rise (degree f s.degrees t) (degree f row t)
    unfolding moves
    start_rise v = rw e (omega (arith, low, start_one f (degree f s.degrees t) (degree f row t) v))

  -- with the full degree the transfer starts and ends in that row, and the transition is idle after it
  pub start_ends : candidate f s row t ≡ true → 2 ≤ f.version → degree f row t ≡ scale f → t < length f.transitions → transfer (next f s row).transfers t ≡ Idle
  unfolding next
  start_ends e v d l =
      table_at (length f.transitions) (arrives_by f (candidate f s row) (moves f s row) s.transfers) Idle t l
      ∙ rw (e, start_whole e (omega (arith, d)) v, eq-eqb (0 + degree f row t) (scale f) (omega (arith, d))) refl

-- NOTHING ELSE HANGS ON THE VERSION: the fresh state; tests 20 and 21; what a state must be (25); candidates and conflicts, which are judged on the
-- claims of c = 0 and before any move; and what comes of given starts and amounts. (What does not start moves alike by `later_rise`.)
module _ (v : ℕ) (f : Card) where
  abbrev g : Card
  g = with_version v f

  claimed_version : (xs : List Transfer) (way p : ℕ) → flow g (λ t. remaining g (transfer xs t)) way p ≡ flow f (λ t. remaining f (transfer xs t)) way p
  unfolding flow incidence first_arc
  claimed_version xs way p = sum_same (length f.transitions) _ _ (λ t l. rw (remaining_same g f (transfer xs t)))

  allows_version : (xs : List Transfer) (ms : List ℕ) (a : Arc) → allows g (claims g xs) ms a ≡ allows f (claims f xs) ms a
  unfolding allows scale owed due
  allows_version xs ms a = rw (claimed_version xs draws a.place, claimed_version xs fills a.place)

  covered_version : (ms : List ℕ) (xs : List Transfer) (p : ℕ) → covered g ms xs p ≡ covered f ms xs p
  unfolding covered scale owed due
  covered_version ms xs p = rw (claimed_version xs draws p, claimed_version xs fills p)

  pub fresh_version : fresh g ≡ fresh f
  unfolding fresh scale
  fresh_version = refl

  pub fault_version : (row : List ℕ) → row_fault g row ≡ row_fault f row
  unfolding row_fault scale
  fault_version row = refl

  range_version : (x : Transfer) → in_range g x ≡ in_range f x
  unfolding scale
  range_version Idle = refl
  range_version (Carrying c) = refl

  pub consistent_version : (s : NetState) → consistent g s ≡ consistent f s
  unfolding consistent scale
  consistent_version s =
      rw (
        every_same (length f.places) (covered g s.markings s.transfers) (covered f s.markings s.transfers) (λ p l. covered_version s.markings s.transfers p),
        every_same (length f.transitions) (λ t. in_range g (transfer s.transfers t)) (λ t. in_range f (transfer s.transfers t)) (λ t l. range_version (transfer s.transfers t)),
      )
      refl

  advanced_version : (x : Transfer) (d : ℕ) → advanced g x d ≡ advanced f x d
  unfolding scale
  advanced_version Idle d = refl
  advanced_version (Carrying c) d = refl

  pub next_version : (start : ℕ → Bool) (amount : ℕ → ℕ) (s : NetState) (row : List ℕ) → next_by g start amount s row ≡ next_by f start amount s row
  unfolding flow incidence first_arc
  next_version start amount s row =
      rw (table_same 0 (length f.transitions) (arrives_by g start amount s.transfers) (arrives_by f start amount s.transfers) (λ t. advanced_version (started_on start s.transfers t) (amount t)))
      refl

  module _ (s : NetState) (row : List ℕ) where
    pub candidate_version : (t : ℕ) → candidate g s row t ≡ candidate f s row t
    unfolding candidate candidate_on first_arc
    candidate_version t =
        ap (λ (b : Bool). idle (transfer s.transfers t) && ltb 0 (degree f row t) && b)
        (every_same (transition_at f t).arcs _ _ (λ j l. allows_version s.transfers s.markings _))

    started_version : started_by g (candidate g s row) s.transfers ≡ started_by f (candidate f s row) s.transfers
    started_version =
        table_same 0 (length f.transitions) (started_on (candidate g s row) s.transfers) (started_on (candidate f s row) s.transfers) (λ t. rw (candidate_version t))

    pub conflict_version : conflict g s row ≡ conflict f s row
    unfolding conflict
    conflict_version =
        rw started_version (first_same 0 (length f.places) _ _ (λ p l k. ap (λ (b : Bool). some_if (not b) p) (covered_version s.markings (started_by f (candidate f s row) s.transfers) p)))
