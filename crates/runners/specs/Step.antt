-- The step of a flat net ('State and step', 1 to 4). f is a flat card, and a row has a degree for each signal: it is the effective row (Rows).
use Rattle.std.specs.Prelude.{ℕ, ◌+◌, ◌-◌, ◌*◌, min, Bool, true, false, cond, not, ◌&&◌, List, length, ◌==◌, nat_le, nat_lt}
use Rattle.std.proofs.Math.Option.{Option}
use Rattle.card.specs.Finite.{every, lowest, table}
use Rattle.card.specs.Card.{Arc, Card, draws, fills, transition_at, arc_at}
use Rattle.runners.specs.State.{NetState, scale, entry, transfer, remaining, flow, Claims, claims, full_marking, covered}
use Rattle.runners.specs.declared.Transfer.{Transfer}
use Rattle.runners.specs.declared.Transfer.TheVariants.{Idle, Carrying}

abbrev pub idle : Transfer → Bool
idle Idle = true
idle (Carrying c) = false

-- m - owed ≥ 1000 × W at a place that is drawn from, m + due + 1000 × W ≤ 1000 × K at one that is filled
unfoldable pub allows : Card → Claims → (markings : List ℕ) → Arc → Bool
allows f k ms a =
    cond (a.direction == draws)
    (nat_le (k.owed a.place + scale f * a.weight) (entry ms a.place))
    (nat_le (entry ms a.place + k.due a.place + scale f * a.weight) (full_marking f a.place))

-- 1. A candidate is an idle transition with new degree above 0 that each of its arcs allows,
unfoldable pub candidate_on : Card → Claims → NetState → (row : List ℕ) → (t : ℕ) → Bool
candidate_on f k s row t =
    idle (transfer s.transfers t) && nat_lt 0 (entry row (transition_at f t).signal)
    && every (transition_at f t).arcs (λ j. allows f k s.markings (arc_at f t j))

-- on the claims of unfinished transfers. All is judged on the state before the row.
unfoldable pub candidate : Card → NetState → (row : List ℕ) → (t : ℕ) → Bool
candidate f s row = candidate_on f (claims f s.transfers) s row

-- 2 to 4, whichever transitions start and however far each moves: start tells which do, amount how far. (By the paper the candidates start.)
-- The transfers with those that start among them, which carry with c = 0.
abbrev pub started_on : (start : ℕ → Bool) → List Transfer → (t : ℕ) → Transfer
started_on start xs t = cond (start t) (Carrying 0) (transfer xs t)

abbrev pub started_by : Card → (start : ℕ → Bool) → List Transfer → List Transfer
started_by f start xs = table 0 (length f.transitions) (started_on start xs)

-- 2. Add the claims of those that start, with c = 0, to owed and due. If any place then has owed > m or m + due > 1000 × K: the lowest such
-- place.
abbrev pub conflict_by : Card → (start : ℕ → Bool) → NetState → Option ℕ
conflict_by f start s = lowest 0 (length f.places) (λ p. not (covered f s.markings (started_by f start s.transfers) p))

-- 3. Each carrying transition moves d, the smaller of what is asked of it and 1000 - c. (By the papers its signal's rise is asked; CR 3: of one
-- that starts, what the card's version says.)
abbrev pub moves_by : Card → (start : ℕ → Bool) → (asked : ℕ → ℕ) → List Transfer → (t : ℕ) → ℕ
moves_by f start asked xs t = min (asked t) (remaining f (started_on start xs t))

-- c grows by d; at 1000 it is idle
abbrev pub advanced : Card → Transfer → (d : ℕ) → Transfer
advanced f Idle d = Idle
advanced f (Carrying c) d = cond (c + d == scale f) Idle (Carrying (c + d))

abbrev pub arrives_by : Card → (start : ℕ → Bool) → (amount : ℕ → ℕ) → List Transfer → (t : ℕ) → Transfer
arrives_by f start amount xs t = advanced f (started_on start xs t) (amount t)

-- Each place it draws from loses W × d, each it fills gains W × d (document 000, rules 5 and 50; nothing is cut off: proofs/StepLaws.antt).
-- 4. The new degrees become the last ones.
abbrev pub next_by : Card → (start : ℕ → Bool) → (amount : ℕ → ℕ) → NetState → (row : List ℕ) → NetState
next_by f start amount s row =
    record {
      markings = table 0 (length f.places) (λ p. entry s.markings p + flow f amount fills p - flow f amount draws p);
      transfers = table 0 (length f.transitions) (arrives_by f start amount s.transfers);
      degrees = row;
    }

-- The step itself. 2. Add every candidate's claims, with c = 0, to owed and due. If any place then has owed > m or m + due > 1000 × K, the row
-- is refused as a conflict at the lowest such flat place. 3. Otherwise candidates become carrying with c = 0.
unfoldable pub started : Card → NetState → (row : List ℕ) → List Transfer
started f s row = started_by f (candidate f s row) s.transfers

unfoldable pub conflict : Card → NetState → (row : List ℕ) → Option ℕ
conflict f s row = conflict_by f (candidate f s row) s

-- the rise of a signal since the last accepted row (0 if none)
abbrev pub rise : (last new : ℕ) → ℕ
rise last new = new - last

-- CR 3: On a version 2 card a transition moves, in the row it starts, by the whole new degree of its signal. Version 1 keeps its rule, by which it
-- moves by the rise in that row too. This is all that the step takes from the version.
unfoldable pub start_move : Card → (last new : ℕ) → ℕ
start_move f last new = cond (nat_le 2 f.version) new (rise last new)

-- CR 3: Later rows move it by the rise.
abbrev pub asked : Card → (starts : Bool) → (last new : ℕ) → ℕ
asked f starts last new = cond starts (start_move f last new) (rise last new)

-- a transition's degree in a row: its signal's
abbrev pub degree : Card → (row : List ℕ) → (t : ℕ) → ℕ
degree f row t = entry row (transition_at f t).signal

abbrev pub asked_on : Card → (start : ℕ → Bool) → (last row : List ℕ) → (t : ℕ) → ℕ
asked_on f start last row t = asked f (start t) (degree f last t) (degree f row t)

-- Each carrying transition moves d, the smaller of that and 1000 - c.
abbrev pub moves_on : Card → (start : ℕ → Bool) → NetState → (row : List ℕ) → (t : ℕ) → ℕ
moves_on f start s row = moves_by f start (asked_on f start s.degrees row) s.transfers

abbrev pub arrives_on : Card → (start : ℕ → Bool) → NetState → (row : List ℕ) → (t : ℕ) → Transfer
arrives_on f start s row = arrives_by f start (moves_on f start s row) s.transfers

unfoldable pub moves : Card → NetState → (row : List ℕ) → (t : ℕ) → ℕ
moves f s row = moves_on f (candidate f s row) s row

unfoldable pub next : Card → NetState → (row : List ℕ) → NetState
next f s row = next_by f (candidate f s row) (moves f s row) s row
