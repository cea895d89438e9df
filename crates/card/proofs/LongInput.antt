-- Of a long input the first bytes decide: no card has more bits than card_bits. Assumes nothing.
use Prim.Native.Nat.{ℕ, zero, suc, ◌+◌, ◌-◌, ◌*◌, ◌/◌, ◌≤◌, ◌<◌}
use mathlib.Core.Path.{◌≡◌, refl, ap}
use mathlib.Core.Bool.{Bool, true, false, cond}
use mathlib.Core.List.{List}
use mathlib.Core.Option.{Option, none, some}
use native.Mathlib.Omega.{arith}
use lib.ListN.{length, get_or, take}
use lib.Seq.{get_or-take, length-take-le}
use lib.Dec.{ltb, eqb}
use borrow.Author.Tests.{lt-ltb, le-ltb}
use Rattle.card.specs.Finite.{some_if, ◌otherwise◌}
use Rattle.card.specs.Numbers.{number}
use Rattle.card.specs.Bits.{bit, bit_field, bytes_for}
use Rattle.card.specs.Card.{Card}
use Rattle.card.specs.Format.{Format, done, get}
use Rattle.card.specs.Grammar.{card}
use Rattle.card.specs.Parsing.{Parsing, refused, whole, read, unless_fault, excess, closed, ended, read_card}
use Rattle.card.specs.declared.FormatFault.{FormatFault}
use Rattle.card.specs.declared.FormatFault.TheVariants.{Truncated}
use Rattle.card.specs.Tables.{table_size, card_bits, card_bytes}
use Rattle.card.proofs.Yields.{bit_small, field_small, not_whole}
use Rattle.card.proofs.BitLaws.{field_local}
use Rattle.card.proofs.Shape.{erase, counts_of}
use Rattle.card.proofs.Bounds.{Budget}
use Rattle.card.proofs.Length.{budget_whole}
use Rattle.card.proofs.SearchLaws.{first_same}

module _ {U A B : Type 0} (f : A → B) (a b : List ℕ) where
  -- where so many bits are left, bytes that agree that far are read alike
  read_agrees : (m : Format U A) (n k at : ℕ) → Budget (erase f m) n k → at + k ≤ 8 * length a → at + k ≤ 8 * length b → ((i : ℕ) → i < at + k → bit a i ≡ bit b i) → read a m at ≡ read b m at
  unfolding read
  read_agrees (done x) n k at h la lb s = refl
  read_agrees (get w value fault next) zero k at h la lb s = absurd h
  read_agrees (get w value fault next) (suc n) k at h la lb s =
      let v = bit_field (bit b) at w in
      let same : bit_field (bit a) at w ≡ v = field_local (bit a) (bit b) at w (λ i x y. s i (omega (arith, h.0))) in
      rw (le-ltb (8 * length a) (at + w) (omega (arith, h.0)), le-ltb (8 * length b) (at + w) (omega (arith, h.0)), same)
      (go (fault v) (read a (next v) (at + w)) (read b (next v) (at + w)) refl
      (λ e. read_agrees (next v) n (k - w) (at + w) (h.1 v (field_small (bit b) (bit_small b) at w) e) (omega (arith, h.0)) (omega (arith, h.0)) (λ i l. s i (omega (arith, h.0)))))
    where
      go : (x : Option FormatFault) (p q : Parsing A) → fault (bit_field (bit b) at w) ≡ x → (fault (bit_field (bit b) at w) ≡ none → p ≡ q) → unless_fault x at p ≡ unless_fault x at q
      go none p q e r = r e
      go (some y) p q e r = refl

  -- and reading ends within them
  read_ends : (m : Format U A) (n k at : ℕ) → Budget (erase f m) n k → (x : A) (end : ℕ) → read a m at ≡ whole x end → end ≤ at + k
  unfolding read
  read_ends (done y) n k at h x end e = let q : at ≡ end = cc in omega (arith, q)
  read_ends (get w value fault next) zero k at h x end e = absurd h
  read_ends (get w value fault next) (suc n) k at h x end e =
      let v = bit_field (bit a) at w in
      go (ltb (8 * length a) (at + w)) (fault v) (read a (next v) (at + w)) refl (λ p q. read_ends (next v) n (k - w) (at + w) (h.1 v (field_small (bit a) (bit_small a) at w) p) x end q) e
    where
      go : (b : Bool) (y : Option FormatFault) (r : Parsing A) → fault (bit_field (bit a) at w) ≡ y → (fault (bit_field (bit a) at w) ≡ none → r ≡ whole x end → end ≤ at + w + (k - w))
          → cond b (refused (number Truncated) at) (unless_fault y at r) ≡ whole x end → end ≤ at + k
      go true y r p ih q = absurd (not_whole _ _ _ _ q)
      go false (some g) r p ih q = absurd (not_whole _ _ _ _ q)
      go false none r p ih q = omega (arith, ih p q, h.0)

bit_same : (a b : List ℕ) (i : ℕ) → get_or a (i / 8) 0 ≡ get_or b (i / 8) 0 → bit a i ≡ bit b i
unfolding bit
bit_same a b i e = rw e

-- OF A LONG INPUT THE FIRST BYTES DECIDE, ONE MORE THAN A CARD CAN HAVE
pub long_input : (bytes : List ℕ) → card_bytes + 1 ≤ length bytes → read_card (take (card_bytes + 1) bytes) ≡ read_card bytes
unfolding read_card excess
long_input bytes l = rw (read_agrees counts_of a bytes card table_size card_bits 0 budget_whole (omega (arith, long)) (omega arith) (λ i h. same i (omega arith))) (go (read bytes card 0) refl)
  where
    a : List ℕ
    a = take (card_bytes + 1) bytes

    long : length a ≡ card_bytes + 1
    long = length-take-le (card_bytes + 1) bytes l

    same : (i : ℕ) → i < 8 * (card_bytes + 1) → bit a i ≡ bit bytes i
    same i h = bit_same a bytes i (get_or-take (card_bytes + 1) bytes (i / 8) 0 (omega arith))

    fills : (end : ℕ) → end ≤ card_bits → excess a end ≡ excess bytes end
    fills end h =
        rw (lt-ltb (bytes_for end) (length a) (omega (arith, long)), lt-ltb (bytes_for end) (length bytes) (omega arith))
        (ap (λ x. x otherwise some_if true (8 * bytes_for end)) (first_same end (8 * bytes_for end - end) _ _ (λ i x y. ap (λ (b : ℕ). some_if (eqb b 1) i) (same i (omega arith)))))

    go : (x : Parsing Card) → read bytes card 0 ≡ x → ended a x ≡ ended bytes x
    go (refused n at) e = refl
    go (whole c end) e = ap (λ (y : Option ℕ). closed y c end) (fills end (omega (arith, read_ends counts_of bytes bytes card table_size card_bits 0 budget_whole c end e)))
