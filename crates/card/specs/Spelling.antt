-- The writer's half of this layer: a card's numbers, spelt into bytes.
use Rattle.std.specs.Prelude.{ℕ, ◌<◌, ◌≡◌, true, cond, List, ◌++◌, length, get_or, drop, leb, Result, Ok, Err}
use Rattle.card.specs.Numbers.{number}
use Rattle.card.specs.Card.{Card}
use Rattle.card.specs.Grammar.{card}
use Rattle.card.specs.Parsing.{Parsing}
use Rattle.card.specs.Writing.{fields, encode, all_fit, counted}
use Rattle.card.specs.Tables.{table_size, numbers_of}
use Rattle.card.specs.declared.FormatRefusal.{FormatRefusal}

-- what the writer's half says: the card's bytes, or a number and a bit
pub data SpellOutcome : Type 0 where
  whole : (bytes : List ℕ) → SpellOutcome
  refused : (number bit : ℕ) → SpellOutcome

abbrev pub spell_outcome : Result (List ℕ) FormatRefusal → SpellOutcome
spell_outcome (Ok bytes) = whole bytes
spell_outcome (Err e) = refused (number e.fault) e.bit

abbrev pub outcome_of : Parsing Card → SpellOutcome
outcome_of (Parsing.whole c end) = whole (encode c)
outcome_of (Parsing.refused n at) = refused n at

abbrev pub IsSpelt : Parsing Card → Result (List ℕ) FormatRefusal → Type 0
IsSpelt x r = spell_outcome r ≡ outcome_of x

-- a table holds the numbers of a card's tables, as many as it has room for: numbers that fit their fields, and as many rows as the counts say
pub record Lines (c : Card) (numbers : List ℕ) : Type 0 where
  pub counts : counted c ≡ true
  pub fit : all_fit (fields card c) ≡ true
  pub entries : (i : ℕ) → i < table_size → i < length (numbers_of c) → get_or numbers i 0 ≡ get_or (numbers_of c) i 0

-- Bytes in a lent buffer, if they have room there: a short buffer stays as it was, and so do bytes past the card's length ('Why a call is
-- turned back', 24 and its last sentence).
unfoldable pub put_into : (bytes buffer : List ℕ) → List ℕ
put_into bytes buffer = cond (leb (length bytes) (length buffer)) (bytes ++ drop (length bytes) buffer) buffer
