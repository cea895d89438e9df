-- What the two programs write ('Bench card A').
use Rattle.std.specs.Prelude.{ℕ, suc, List, [], ◌∷◌, ◌++◌, map}
use Rattle.std.proofs.Math.Option.{Option, none, some}
use Rattle.card.specs.Bits.{bytes_for}
use Rattle.card.specs.Card.{Card}
use Rattle.card.specs.Writing.{encode}
use Rattle.hierarchy.specs.Judgement.{Judgement, accepted, judge}
use Rattle.flattening.specs.Flattening.{flatten}
use Rattle.runners.specs.Numbers.{RowOutcome, ok, refused, progress}
use Rattle.runners.specs.State.{NetState, fresh}
use Rattle.runners.specs.Rows.{row, step, row_width, row_of, pieces}
use Rattle.runners.specs.Traces.{trace}
use Rattle.card.specs.Text.{decimal}
use Rattle.programs.specs.Text.{ascii, line}

-- a number that may not be there
abbrev pub or_else : List ℕ → Option ℕ → List ℕ
or_else words none = words
or_else words (some n) = decimal n

-- no, refusal, and its signal or place (20: nothing); of a card, its bit
abbrev pub value_words : Option ℕ → List (List ℕ)
value_words none = []
value_words (some n) = decimal n ∷ []

abbrev pub refusal_words : (number : ℕ) → (value : Option ℕ) → List (List ℕ)
refusal_words n value = ascii "no" ∷ decimal n ∷ value_words value

-- ok, markings by flat place, bar, progress by flat transition (- idle)
abbrev pub state_words : NetState → List (List ℕ)
state_words s = ascii "ok" ∷ map decimal s.markings ++ (ascii "|" ∷ map (λ x. or_else (ascii "-") (progress x)) s.transfers)

abbrev pub reply_words : RowOutcome → NetState → List (List ℕ)
reply_words ok s = state_words s
reply_words (refused n value) s = refusal_words n value

-- For a refused card both write one line only: no, number, position.
abbrev pub card_line : (number bit : ℕ) → List ℕ
card_line n at = line (refusal_words n (some at))

-- the lines of replies and the states after them, the first of them of row n
unfoldable pub lines : (n : ℕ) → List (RowOutcome × NetState) → List ℕ
lines n [] = []
lines n (x ∷ rest) = line (decimal n ∷ reply_words x.0 x.1) ++ lines (suc n) rest

-- the rows of a file on a net, each from the state that the row before left
abbrev pub file_trace : Card → NetState → (rows : List (List ℕ)) → List (RowOutcome × NetState)
file_trace f = trace (λ s bytes. step f s (row (row_of f bytes)))

-- The run program prints the flat runner's answers, which are the step's (proofs/Agreement.antt). A refused row doesn't end the run; a short
-- last row gets its line, and the run ends.
abbrev pub runs : Judgement → (rows : List ℕ) → List ℕ
runs (Judgement.refused n at) rows = card_line n at
runs (accepted c) rows =
    let f = flatten c in
    lines 1 (file_trace f (fresh f) (pieces (bytes_for (row_width f)) rows))

-- of the bytes of net.card (no such file: no bytes) and of standard input
unfoldable pub run_program : (card rows : List ℕ) → List ℕ
run_program card rows = runs (judge card) rows

-- The flatten program writes the flat card's bytes.
abbrev pub flattens : Judgement → List ℕ
flattens (Judgement.refused n at) = card_line n at
flattens (accepted c) = encode (flatten c)

unfoldable pub flatten_program : (card : List ℕ) → List ℕ
flatten_program card = flattens (judge card)
