-- All that is used of the scale. Assumes nothing.
use Rattle.std.proofs.Common.{◌≡◌, ◌<◌, ◌≤◌, refl, arith}
use Rattle.card.specs.Card.{Card}
use Rattle.runners.specs.State.{scale}

pub scale_some : (f : Card) → 0 < scale f
unfolding scale
scale_some f = omega arith

-- the claims on a board fit in 32 bits up to here (FewLaws), and a progress is never the number that stands for idle
pub scale_few : (f : Card) → scale f ≤ 10000
unfolding scale
scale_few f = omega arith

-- the scale is the same on all cards
pub scale_same : (c d : Card) → scale c ≡ scale d
unfolding scale
scale_same c d = refl
