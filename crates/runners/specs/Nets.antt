-- A card that was loaded once, for many rows.
use Rattle.std.specs.Prelude.{◌≡◌, ℕ, List, [], ◌∷◌, Result, Ok, Err}
use Rattle.card.specs.Card.{Card}
use Rattle.hierarchy.specs.Numbers.{number}
use Rattle.hierarchy.specs.Judgement.{Judgement, accepted, refused}
use Rattle.flattening.specs.Flattening.{flatten}
use Rattle.runners.specs.Numbers.{RowOutcome}
use Rattle.runners.specs.Rows.{pieces}
use Rattle.hierarchy.specs.declared.CardRefusal.{CardRefusal}

-- the flat card of an accepted card is accepted (proofs/FlatLaws.antt); of a refused one there is none
abbrev pub flat_judged : Judgement → Judgement
flat_judged (accepted c) = accepted (flatten c)
flat_judged (refused n at) = refused n at

-- how many signals its rows give degrees of
abbrev pub signals_in : Judgement → ℕ
signals_in (accepted c) = c.signals
signals_in (refused n at) = 0

-- the net of what a card was judged to be: the card, or the check's refusal
abbrev pub IsNet : Judgement → Result Card CardRefusal → Type 0
IsNet j (Ok c) = j ≡ accepted c
IsNet j (Err e) = j ≡ refused (number e.fault) e.bit

-- Rows one after another, each from the state that the one before left: the state that they leave.
unfoldable pub leaves : {S C : Type 0} → (S → C → RowOutcome × S) → S → List C → S
leaves call s [] = s
leaves call s (c ∷ cs) = leaves call (call s c).1 cs

-- rows in one list, a degree for each signal; a last one that is cut short is a row too
abbrev pub rows_in : Judgement → (degrees : List ℕ) → List (List ℕ)
rows_in (accepted c) degrees = pieces c.signals degrees
rows_in (refused n at) degrees = []
