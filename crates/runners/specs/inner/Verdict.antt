-- The board's verdict.
use Rattle.std.specs.Prelude.{ℕ, ◌+◌, Bool, ◌&&◌, List, nat_le, Option, Some, None}
use Rattle.std.proofs.Math.Option as Math
use Rattle.std.proofs.Math.Option.{none, some}
use Rattle.runners.specs.State.{entry}
use Rattle.runners.specs.declared.claims.Claims.{Claims as Posted}

-- a place with these claims, standing and candidates', is covered; full holds the full marking of each place
abbrev pub covered_by : (full markings : List ℕ) → (standing claimed : Posted) → (p : ℕ) → Bool
covered_by full ms s k p = nat_le (entry s.owed p + entry k.owed p) (entry ms p) && nat_le (entry ms p + (entry s.due p + entry k.due p)) (entry full p)

-- a number that was found or not, as the definitions write it
abbrev pub found_of : Option ℕ → Math.Option ℕ
found_of None = none
found_of (Some p) = some p
