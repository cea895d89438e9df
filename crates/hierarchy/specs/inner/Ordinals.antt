-- A child's ordinal, which the code counts where the definitions make a list of a subnet's children.
use Rattle.std.specs.Prelude.{ℕ, ◌≡◌, true, List, get_or}
use Rattle.card.specs.Finite.{one, sum_to}
use Rattle.card.specs.Card.{Card}
use Rattle.hierarchy.specs.Conditions.{is_child}

-- how many children of subnet i are below j: the k of its k-th child, where j is a child of it
unfoldable pub ordinal : Card → (i j : ℕ) → ℕ
ordinal c i j = sum_to j (λ h. one (is_child c i h))

-- a table of the ordinals of all subnets, each among the children of its parent
abbrev pub AllOrdinals : Card → List ℕ → Type 0
AllOrdinals c ordinals = (i j : ℕ) → is_child c i j ≡ true → get_or ordinals j 0 ≡ ordinal c i j
