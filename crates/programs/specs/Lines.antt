-- The words of a line, one after another.
use Rattle.std.specs.Prelude.{ℕ, List, [], ◌∷◌, ◌++◌}
use Rattle.runners.specs.Numbers.{progress}
use Rattle.programs.specs.Text.{ascii}
use Rattle.programs.specs.Programs.{or_else}
use Rattle.runners.specs.declared.Transfer.{Transfer}

-- words with a space before each
unfoldable pub spaced : List (List ℕ) → List ℕ
spaced [] = []
spaced (w ∷ ws) = 32 ∷ w ++ spaced ws

-- words with a space between two
abbrev pub joined : List (List ℕ) → List ℕ
joined [] = []
joined (w ∷ ws) = w ++ spaced ws

-- the progress of a transfer as a word
abbrev pub transfer_word : Transfer → List ℕ
transfer_word x = or_else (ascii "-") (progress x)

-- how many bytes the longest line has
abbrev pub longest : ℕ
longest = 4361
