-- A run of the program `run`, as its input comes in: block by block, and the end ('Bench card A'). proofs/RunLaws.antt shows that over any
-- cutting of the input into blocks this writes what `run_program` says.
use Rattle.std.specs.Prelude.{ℕ, suc, ◌-◌, ◌*◌, ◌^◌, ◌≤◌, ◌<◌, min, ◌≡◌, Bool, true, false, ◌&&◌, cond, List, [], ◌∷◌, ◌++◌, map, length, take, eqb, leb, ltb}
use mathlib.Core.List
use Rattle.card.specs.Finite.{All}
use Rattle.card.specs.Bits.{bytes_for}
use Rattle.card.specs.Spelling.{put_into}
use Rattle.hierarchy.specs.Judgement.{Judgement, accepted, refused, judge}
use Rattle.runners.specs.Numbers.{RowOutcome}
use Rattle.runners.specs.Rows.{row_width}
use Rattle.runners.specs.Calls.{view, fresh_call}
use Rattle.runners.specs.Nets.{flat_judged}
use Rattle.runners.specs.declared.State.{State as Lent}
use Rattle.card.specs.Text.{decimal}
use Rattle.programs.specs.Text.{line}
use Rattle.programs.specs.Programs.{reply_words, card_line, run_program}
use Rattle.programs.specs.Feeds.{file_call}
use Rattle.programs.specs.Lines.{longest}
use Rattle.programs.specs.declared.blocks.CardRun.{CardRun}
use Rattle.programs.specs.declared.blocks.Progress.{Progress}

-- A run somewhere in its input: the number of the next row, the state in front of it, and those of its bytes that are there.
pub record Run : Type 0 where
  pub number : ℕ
  pub state : Lent
  pub left : List ℕ

-- Rows are counted in 64 bits, and the last number stays.
abbrev pub last_number : ℕ
last_number = 2 ^ 64 - 1

abbrev pub following : ℕ → ℕ
following n = min (suc n) last_number

abbrev pub FileCall : Type 0
FileCall = Lent → (row : List ℕ) → RowOutcome × Lent

-- The bytes that are there are a row: its line, and the run in front of the next one.
abbrev pub answered : FileCall → Run → List ℕ × Run
answered call r =
    let x = call r.state r.left in
    (line (decimal r.number ∷ reply_words x.0 (view x.1)), record { number = following r.number; state = x.1; left = [] })

-- bytes that are there too
abbrev pub keeping : Run → List ℕ → Run
keeping r bytes = record { number = r.number; state = r.state; left = r.left ++ bytes }

-- A byte of the input is the last of its row, of size bytes, or is kept.
abbrev pub taken : (size : ℕ) → FileCall → Run → ℕ → List ℕ × Run
taken size call r b = cond (eqb (length (r.left ++ (b ∷ []))) size) (answered call (keeping r (b ∷ []))) ([], keeping r (b ∷ []))

-- what is written for bytes of the input, and the run behind them
unfoldable pub feed : (size : ℕ) → FileCall → Run → (bytes : List ℕ) → List ℕ × Run
feed size call r [] = ([], r)
feed size call r (b ∷ bytes) =
    let x = taken size call r b in
    let y = feed size call x.1 bytes in
    (x.0 ++ y.0, y.1)

-- A block is taken if a buffer has room for the longest line for each of its bytes. Where rows have no bytes (of a refused card), none is.
abbrev pub fed_block : (size : ℕ) → FileCall → (room : ℕ) → Run → (block : List ℕ) → List ℕ × Run
fed_block size call room r block = cond (leb (longest * length block) room && ltb (length r.left) size) (feed size call r block) ([], r)

-- The input ends: a short last row gets its line.
unfoldable pub last_line : FileCall → Run → List ℕ
last_line call r = cond (eqb (length r.left) 0) [] (answered call r).0

-- all that is written for the blocks of an input and its end
unfoldable pub over_blocks : (size : ℕ) → FileCall → (room : ℕ) → Run → (blocks : List (List ℕ)) → List ℕ
over_blocks size call room r [] = last_line call r
over_blocks size call room r (b ∷ blocks) =
    let x = fed_block size call room r b in
    x.0 ++ over_blocks size call room x.1 blocks

-- of a card: how many bytes a row has, what is written before the first row, and the run in front of it
abbrev pub row_size_in : Judgement → ℕ
row_size_in (accepted c) = bytes_for (row_width c)
row_size_in (refused n at) = 0

abbrev pub first_text : Judgement → List ℕ
first_text (accepted c) = []
first_text (refused n at) = card_line n at

abbrev pub first_run : (card : List ℕ) → Run
first_run card = record { number = 1; state = (fresh_call card).1; left = [] }

-- ALL THAT THE PROGRAM WRITES, with a buffer of so much room for a block's lines, from the run in front of the first row
unfoldable pub run_from : (room : ℕ) → (card : List ℕ) → Run → (blocks : List (List ℕ)) → List ℕ
run_from room card r blocks =
    let j = flat_judged (judge card) in
    first_text (judge card) ++ over_blocks (row_size_in j) (file_call j) room r blocks

-- The buffer has room for each block's lines, and rows can be counted: an input has fewer than 2^64 - 1 bytes.
pub record Fitting (room : ℕ) (blocks : List (List ℕ)) : Type 0 where
  pub fit : All (λ b. longest * length b ≤ room) blocks
  pub few : length (List.flatten blocks) < last_number

-- a run as the code keeps it
abbrev pub run_in : CardRun → Run
run_in r = record { number = r.number; state = r.state; left = r.left }

-- and without its net
abbrev pub progress_in : Progress → Run
progress_in p = record { number = p.number; state = p.state; left = p.left }

-- the rows of the card that it runs: how many bytes each has, and how they are answered
abbrev pub size_in : CardRun → ℕ
size_in r = row_size_in (accepted r.net)

abbrev pub call_in : CardRun → FileCall
call_in r = file_call (accepted r.net)

abbrev pub is_accepted : Judgement → Bool
is_accepted (accepted c) = true
is_accepted (refused n at) = false

-- what the code hands out for a block, and where it leaves the run: the lines stand at the buffer's front, and what stood behind them still does
pub record IsTaken (x : List ℕ × Run) (before : List ℕ) (n : ℕ) (r : Run) (after : List ℕ) : Type 0 where
  pub fits : length x.0 ≤ length before
  pub length : n ≡ length x.0
  pub lines : after ≡ put_into x.0 before
  pub run : r ≡ x.1

abbrev pub IsTurn : List ℕ × Run → (before : List ℕ) → (n : ℕ) → CardRun → (after : List ℕ) → Type 0
IsTurn x before n r after = IsTaken x before n (run_in r) after

-- A call of `answer_block`: the block, the lent buffer before and after it, how many bytes it answered, and the run that it left.
pub record BlockCall : Type 0 where
  pub block : List ℕ
  pub before : List ℕ
  pub length : ℕ
  pub run : CardRun
  pub after : List ℕ

-- calls one after another: each is made on the run that the one before left, and lent a buffer of one length
abbrev pub Follow : Judgement → (room : ℕ) → CardRun → List BlockCall → Type 0
Follow j room r [] = Unit {0}
Follow j room r (k ∷ calls) =
    (length k.before ≡ room)
    × IsTurn (fed_block (row_size_in j) (file_call j) (length k.before) (run_in r) k.block) k.before k.length k.run k.after
    × Follow j room k.run calls

-- the run behind them, and the bytes that they hand out
unfoldable pub behind : CardRun → List BlockCall → CardRun
behind r [] = r
behind r (k ∷ calls) = behind k.run calls

unfoldable pub handed_out : List BlockCall → List ℕ
handed_out [] = []
handed_out (k ∷ calls) = take k.length k.after ++ handed_out calls

-- What the code hands out before the first block of an accepted card: the run in front of the first row. Whatever calls follow, over any cutting
-- of the input into blocks, with the line that the end gets: all the bytes that are handed out are the program's.
pub record IsBegun (card : List ℕ) (r : CardRun) : Type 0 where
  pub accepted : is_accepted (judge card) ≡ true
  pub net : flat_judged (judge card) ≡ Judgement.accepted r.net
  pub run : run_in r ≡ first_run card
  pub program : (room : ℕ) (calls : List BlockCall) (last : List ℕ) → Follow (flat_judged (judge card)) room r calls
      → last ≡ last_line (file_call (flat_judged (judge card))) (run_in (behind r calls)) → Fitting room (map (λ k. k.block) calls)
      → handed_out calls ++ last ≡ run_program card (List.flatten (map (λ k. k.block) calls))

-- of a refused card: its one line, which is all that the program writes, whatever the rows
pub record IsTurnedBack (card written : List ℕ) : Type 0 where
  pub refused : is_accepted (judge card) ≡ false
  pub text : written ≡ first_text (judge card)
  pub program : (rows : List ℕ) → written ≡ run_program card rows
