-- A row of a file, as the code hands it out.
use Rattle.std.specs.Prelude.{ℕ, List, Option, Some, None}
use Rattle.runners.specs.Rows.{RowRead, degrees, no_row}

-- its degrees, where there is a row
abbrev pub file_row : RowRead → Option (List ℕ)
file_row no_row = None
file_row (degrees r) = Some r
