-- Parsing a card: pass one of 'Why a card is turned back'.
use Rattle.std.specs.Prelude.{ℕ, ◌+◌, ◌-◌, ◌*◌, cond, List, length, ltb, eqb}
use Rattle.std.proofs.Math.Option.{Option, none, some}
use Rattle.card.specs.Finite.{some_if, lowest, ◌otherwise◌}
use Rattle.card.specs.Numbers.{number}
use Rattle.card.specs.Bits.{bit, bit_field, bytes_for}
use Rattle.card.specs.Card.{Card}
use Rattle.card.specs.Format.{Format, done, get}
use Rattle.card.specs.Grammar.{card}
use Rattle.card.specs.declared.FormatFault.{FormatFault}
use Rattle.card.specs.declared.FormatFault.TheVariants.{Truncated, BadFill}

-- refused: the paper's number and the bit; whole: what was read, and the first bit behind it
pub data Parsing (A : Type 0) : Type 0 where
  refused : (number bit : ℕ) → Parsing A
  whole : A → (end : ℕ) → Parsing A

-- what is read on, unless the field at the bit is at fault
abbrev pub unless_fault : {A : Type 0} → Option FormatFault → (at : ℕ) → Parsing A → Parsing A
unless_fault none at rest = rest
unless_fault (some f) at rest = refused (number f) at

-- Pass one checks each field once read and reports its first bit: 1 the card ends inside the field, 2 to 8 as the format says.
-- (What comes behind a fault is bound by a let, so that it is not computed.)
unfoldable pub read : {U A : Type 0} → (bytes : List ℕ) → Format U A → (at : ℕ) → Parsing A
read bytes (done a) at = whole a at
read bytes (get w value fault next) at =
    let v : ℕ = bit_field (bit bytes) at w in
    let rest = read bytes (next v) (at + w) in
    let tested = unless_fault (fault v) at rest in
    cond (ltb (8 * length bytes) (at + w)) (refused (number Truncated) at) tested

-- Zero bits fill the last byte; nothing follows. 9: the first nonzero fill bit, else the first bit of a further byte, of a card that ends
-- before bit end.
unfoldable pub excess : (bytes : List ℕ) → (end : ℕ) → Option ℕ
excess bytes end =
    lowest end (8 * bytes_for end - end) (λ i. eqb (bit bytes i) 1)
    otherwise some_if (ltb (bytes_for end) (length bytes)) (8 * bytes_for end)

abbrev pub closed : {A : Type 0} → Option ℕ → A → (end : ℕ) → Parsing A
closed none a end = whole a end
closed (some i) a end = refused (number BadFill) i

abbrev pub ended : {A : Type 0} → (bytes : List ℕ) → Parsing A → Parsing A
ended bytes (refused n at) = refused n at
ended bytes (whole a end) = closed (excess bytes end) a end

unfoldable pub read_card : (bytes : List ℕ) → Parsing Card
read_card bytes = ended bytes (read bytes card 0)
