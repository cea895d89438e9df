-- A net's fields: all of them are known from its card.
use Rattle.std.proofs.Common.{◌≡◌, ℕ, ◌*◌, ◌<◌, ◌≤◌, ◌⊎◌, List, length, get_or, sym, ap, ◌∙◌, inl, inr, arith, ext_get_or}
use lib.ListN.{get_or-eq_default}
use Rattle.std.proofs.lemmas.Bool.{cases_lt}
use Rattle.std.proofs.lemmas.List.{length-map}
use Rattle.card.specs.Card.{Place, Card, no_place}
use Rattle.card.specs.Finite.{table}
use Rattle.card.specs.Index.{starts_of}
use Rattle.card.specs.Tables.{table_size, numbers_of, numbers_table}
use Rattle.card.proofs.Sums.{table_length, table_at}
use Rattle.card.specs.declared.index.CardIndex.{CardIndex}
use Rattle.flattening.specs.Flattening.{flat_place_row, flatten}
use Rattle.runners.specs.State.{scale, full_marking}
use Rattle.runners.specs.inner.Markings.{capacity, Filled}
use Rattle.runners.specs.inner.Steps.{IsLoaded}

-- A loaded card in the largest card's table, with its whole index: zeros stand behind what there is of the card.
pub record IsWhole (c : Card) (numbers : List ℕ) (i : CardIndex) (full : List ℕ) : Type 0 where
  pub loaded : IsLoaded c numbers i full
  pub long : length numbers ≡ table_size
  pub starts : i.starts ≡ starts_of c

-- what the fields are
abbrev pub index_of : Card → CardIndex
index_of c = record { counts = record { subnets = length c.subnets; places = length c.places; transitions = length c.transitions }; starts = starts_of c }

abbrev pub full_markings : Card → List ℕ
full_markings c = table 0 255 (full_marking (flatten c))

module _ (c : Card) (numbers : List ℕ) (k : CardIndex) (full : List ℕ) (h : IsWhole c numbers k full) where
  pub numbers_back : numbers_table table_size c ≡ numbers
  unfolding numbers_table
  numbers_back =
      ext_get_or 0 (table 0 table_size number) numbers (table_length 0 table_size number ∙ sym h.long) (λ i b. table_at table_size number 0 i (omega (arith, b, table_length 0 table_size number)) ∙ sym (h.loaded.holds.entries i))
    where
      number : ℕ → ℕ
      number i = get_or (numbers_of c) i 0

  pub index_back : index_of c ≡ k
  index_back =
      let n = h.loaded.holds.counts in
      λ i. record { counts = record { subnets = sym n.subnets i; places = sym n.places i; transitions = sym n.transitions i }; starts = sym h.starts i }

  past : (p : ℕ) → length c.places ≤ p → full_marking (flatten c) p ≡ 0
  unfolding flatten scale
  past p l = ap (λ (x : Place). 1000 * x.capacity) (get_or-eq_default (flatten c).places no_place (omega (arith, l, length-map c.places flat_place_row)))

  pub full_back : full_markings c ≡ full
  full_back =
      ext_get_or 0 (full_markings c) full (table_length 0 255 marking ∙ sym filled.long) (λ p b. table_at 255 marking 0 p (omega (arith, b, table_length 0 255 marking)) ∙ at p (cases_lt p (length c.places)))
    where
      marking : ℕ → ℕ
      marking p = full_marking (flatten c) p

      filled : Filled capacity c full
      filled = h.loaded.net.filled

      at : (p : ℕ) → (p < length c.places) ⊎ (length c.places ≤ p) → full_marking (flatten c) p ≡ get_or full p 0
      at p (inl l) = sym (filled.first p l)
      at p (inr l) = past p l ∙ sym (filled.zeros p l)
