-- A lent state has the counts of a net.
use Rattle.std.specs.Prelude.{◌≡◌, length}
use Rattle.card.specs.Card.{Card}
use Rattle.runners.specs.declared.State.{State as Lent}

pub record Counts (c : Card) (l : Lent) : Type 0 where
  pub places : l.places ≡ length c.places
  pub transitions : l.transitions ≡ length c.transitions
  pub signals : l.signals ≡ c.signals
