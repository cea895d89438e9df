-- What the entries of a card's two tables say of its rows. Assumes nothing.
use Prim.Native.Nat.{ℕ, ◌+◌, ◌<◌}
use mathlib.Core.Path.{◌≡◌, ap, ◌∙◌}
use mathlib.Core.List.{List}
use lib.ListN.{length, get_or}
use Rattle.card.specs.Card.{Card, subnet_at, place_at, transition_at, arc_at, first_place}
use Rattle.card.specs.Index.{Loaded, Lists, ArcThere, place_field, transition_row}

module _ (c : Card) (numbers starts : List ℕ) (h : Loaded c numbers starts) where
  pub kind_of_is : (s row n x : ℕ) → s < length c.subnets → n < (subnet_at c s).places → row ≡ get_or starts s 0 → x ≡ get_or numbers (place_field row n 0) 0 → x ≡ (place_at c (first_place c s + n)).kind
  kind_of_is s row n x l m e f = f ∙ ap (λ (k : ℕ). get_or numbers (place_field k n 0) 0) (e ∙ h.indexed.subnet_row s l) ∙ (h.laid.place s n l m).kind

  pub arc_of_is : (s t row j : ℕ) → Lists c s t → row ≡ transition_row c s t → j < (transition_at c t).arcs → ArcThere numbers row j (arc_at c t j)
  arc_of_is s t row j l e m = rw e (h.laid.arc s t j l m)
