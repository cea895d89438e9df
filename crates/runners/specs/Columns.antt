-- What a row works on: a state, the claims board, and which transitions are candidates; and how an entry of a column by place changes.
-- A claims board for all 255 places starts each row at zero, with standing claims and candidates' claims in separate columns.
use Rattle.std.specs.Prelude.{◌≡◌, ℕ, ◌+◌, ◌%◌, ◌<◌, Bool, false, cond, List, length, replicate, ◌==◌, slice_index_or}
use Rattle.runners.specs.State.{NetState, entry, Claims}
use Rattle.runners.specs.declared.Transfer.{Transfer}
use Rattle.runners.specs.declared.Transfer.TheVariants.{Idle, Carrying}
use Rattle.runners.specs.declared.State.{State as Lent}
use Rattle.runners.specs.declared.claims.Claims.{Claims as Posted}
use Rattle.runners.specs.declared.work.Work.{Work}

-- a number of a column by place has 32 bits, and goes round there
abbrev pub word : ℕ
word = 4294967296

-- Entry p has lost down p and gained up p, whatever it held. An entry that nothing is taken from or added to is as it was.
pub record Moved (before after : List ℕ) (down up : ℕ → ℕ) : Type 0 where
  pub long : length after ≡ length before
  pub fits : (p : ℕ) → entry before p < word → entry after p < word
  pub moved : (p : ℕ) → p < length before → (entry after p + down p) % word ≡ (entry before p + up p) % word
  pub kept : (p : ℕ) → down p ≡ 0 → up p ≡ 0 → entry after p ≡ entry before p

abbrev pub nothing : ℕ → ℕ
nothing p = 0

abbrev pub Grown : (before after : List ℕ) → (up : ℕ → ℕ) → Type 0
Grown before after up = Moved before after nothing up

-- the same of claims: what is owed has grown by what was drawn, what is due by what was filled
pub record Claimed (before after : Posted) (drawn filled : ℕ → ℕ) : Type 0 where
  pub owed : Grown before.owed after.owed drawn
  pub due : Grown before.due after.due filled

-- a transfer as the number that is lent to C: its progress, and one that no progress is for idle. (A progress of 0 is not idle.)
abbrev pub idle_code : ℕ
idle_code = 65535

abbrev pub code_of : Transfer → ℕ
code_of Idle = idle_code
code_of (Carrying c) = c

abbrev pub transfer_of : (code : ℕ) → Transfer
transfer_of code = cond (code == idle_code) Idle (Carrying code)

-- the state that a row has made so far
abbrev pub state_in : Work → NetState
state_in k = record { markings = k.state.markings; transfers = k.state.transfers; degrees = k.state.degrees }

-- the claims that two columns hold
abbrev pub posted : Posted → Claims
posted k = record { owed = entry k.owed; due = entry k.due }

abbrev pub no_claims : Posted
no_claims = record { owed = replicate 255 0; due = replicate 255 0 }

-- a row begins on a state, with a board of zeros and no candidates
abbrev pub begun : Lent → Work
begun l = record { state = l; standing = no_claims; claimed = no_claims; candidates = replicate 255 false }

-- whether a transition is noted as a candidate
abbrev pub noted : List Bool → (t : ℕ) → Bool
noted cs t = slice_index_or cs t false

-- the same but for what a round changes: in the first standing claims,
abbrev pub with_standing : Work → Posted → Work
with_standing k claims = record k { standing = claims }

-- in the second candidates and their claims,
abbrev pub with_candidates : Work → Posted → List Bool → Work
with_candidates k claims cs = record k { claimed = claims; candidates = cs }

-- in the third markings and transfers
abbrev pub with_moved : Work → (markings : List ℕ) → List Transfer → Work
with_moved k ms xs = record k { state = record k.state { markings = ms; transfers = xs } }
