-- How long the bytes of a card can be. Assumes nothing.
use Prim.Native.Nat.{ℕ, zero, suc, ◌-◌, ◌≤◌}
use mathlib.Core.Path.{subst, sym}
use native.Mathlib.Omega.{arith}
use lib.ListN.{length}
use Rattle.card.specs.Card.{Card}
use Rattle.card.specs.Format.{Format, done, get}
use Rattle.card.specs.Grammar.{card}
use Rattle.card.specs.Writing.{fields, encode}
use Rattle.card.specs.Tables.{table_size, card_bits, card_bytes}
use Rattle.card.specs.Wellformed.{Wellformed}
use Rattle.card.specs.declared.Counts.{Counts}
use Rattle.card.proofs.Walk.{bits, Every, Proper}
use Rattle.card.proofs.Sound.{clean_card}
use Rattle.card.proofs.Pack.{spell_length}
use Rattle.card.proofs.Shape.{One, erase, counts_of, erase_card}
use Rattle.card.proofs.Bounds.{Budget, budget_card}

pub budget_whole : Budget (erase counts_of card) table_size card_bits
budget_whole = subst (λ (m : Format One Counts). Budget m table_size card_bits) (sym erase_card) budget_card

-- numbers that are not at fault take no more bits than the format allows
budget_bits : {U A B : Type 0} (f : A → B) (m : Format U A) (u : U) (n b : ℕ) → Every Proper m u → Budget (erase f m) n b → bits (fields m u) ≤ b
unfolding fields
budget_bits f (done a) u n b h g = omega arith
budget_bits f (get w value fault next) u zero b h g = absurd g
budget_bits f (get w value fault next) u (suc n) b h g = omega (arith, g.0, budget_bits f (next (value u)) u n (b - w) h.1 (g.1 (value u) h.0.1 h.0.0))

-- `bytes_few`: A CARD THAT IS WELL FORMED HAS NO MORE BYTES THAN card_bytes
pub bytes_few : (c : Card) → Wellformed c → length (encode c) ≤ card_bytes
unfolding encode
bytes_few c w = omega (arith, spell_length (fields card c), budget_bits counts_of card c table_size card_bits (clean_card c w) budget_whole)
