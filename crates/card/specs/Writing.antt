-- Writing a card: its fields in order, its bytes, the writer's own refusal, and where on the card a row begins.
use Rattle.std.specs.Prelude.{ℕ, suc, ◌+◌, ◌*◌, ◌^◌, Bool, true, ◌&&◌, cond, length, ltb, eqb}
use mathlib.Core.List.{List, [], ◌∷◌, flat_map}
use Rattle.card.specs.Numbers.{number}
use Rattle.card.specs.Bits.{bits_of, pack}
use Rattle.card.specs.Card.{Card, first_place, first_transition, first_arc}
use Rattle.card.specs.Format.{Format, done, get, size, size_from}
use Rattle.card.specs.Grammar.{header, subnet, place, transition, arc, card}
use Rattle.card.specs.Parsing.{Parsing, refused, read_card}
use Rattle.card.specs.declared.FormatFault.TheVariants.{BadTable}

pub record Field : Type 0 where
  pub width : ℕ
  pub value : ℕ

-- the fields that spell u by a format
unfoldable pub fields : {U A : Type 0} → Format U A → U → List Field
fields (done a) u = []
fields (get w value fault next) u =
    let v : ℕ = value u in
    record { width = w; value = v } ∷ fields (next v) u

abbrev pub spell : List Field → List ℕ
spell fs = pack (flat_map (λ f. bits_of f.width f.value) fs)

-- the card's bytes
unfoldable pub encode : Card → List ℕ
encode c = spell (fields card c)

-- each number fits its field
unfoldable pub all_fit : List Field → Bool
all_fit [] = true
all_fit (f ∷ fs) = ltb f.value (2 ^ f.width) && all_fit fs

-- as many entries as the counts say
unfoldable pub counted : Card → Bool
counted c =
    eqb (length c.places) (first_place c (length c.subnets))
    && eqb (length c.transitions) (first_transition c (length c.subnets))
    && eqb (length c.arcs) (first_arc c (length c.transitions))

-- 17, writer only, first, position 0: a table value that doesn't fit its field, or more or fewer entries than the counts say. Then pass one
-- of the card that the tables would make.
unfoldable pub read_tables : (tables : Card) → Parsing Card
read_tables c = cond (counted c && all_fit (fields card c)) (read_card (encode c)) (refused (number BadTable) 0)

-- the bits in front of so many subnets, places, transitions and arcs of a card of this version
abbrev pub bits_before : (version subnets places transitions arcs : ℕ) → ℕ
bits_before v s p t a = size_from v header + size (subnet 0 0 0) * s + size (place 0) * p + size (transition v 0) * t + size arc * a

-- the first bit of subnet s; of transition t, which is one of subnet s; of its arc j
unfoldable pub subnet_bit : Card → (s : ℕ) → ℕ
subnet_bit c s = bits_before c.version s (first_place c s) (first_transition c s) (first_arc c (first_transition c s))

unfoldable pub transition_bit : Card → (s t : ℕ) → ℕ
transition_bit c s t = bits_before c.version (suc s) (first_place c (suc s)) t (first_arc c t)

unfoldable pub arc_bit : Card → (s t j : ℕ) → ℕ
arc_bit c s t j = transition_bit c s t + size (transition c.version 0) + size arc * j
