-- A card's bytes in a lent buffer. Assumes nothing.
use Prim.Native.Nat.{ℕ, zero, suc, ◌+◌, ◌≤◌, ◌<◌}
use mathlib.Core.Path.{◌≡◌, refl, ap, ◌∙◌}
use mathlib.Core.List.{List, [], ◌∷◌, ◌++◌}
use native.Mathlib.Omega.{arith}
use lib.ListN.{length, get_or, set, take, drop, length-set}
use lib.Seq.{take_at}
use borrow.Author.Tests.{le-leb, lt-leb}
use Rattle.card.specs.Spelling.{put_into}

-- the bytes copied so far, in front of what the buffer held
abbrev pub copied : (bytes buffer : List ℕ) (i : ℕ) → List ℕ
copied bytes buffer i = take i bytes ++ drop i buffer

copied_suc : (bytes buffer : List ℕ) (i : ℕ) → i < length bytes → i < length buffer → set (copied bytes buffer i) i (get_or bytes i 0) ≡ copied bytes buffer (suc i)
copied_suc [] buffer i h l = absurd (omega arith)
copied_suc (x ∷ bytes) [] i h l = absurd (omega arith)
copied_suc (x ∷ bytes) (y ∷ buffer) zero h l = refl
copied_suc (x ∷ bytes) (y ∷ buffer) (suc i) h l = ap (λ xs. x ∷ xs) (copied_suc bytes buffer i (omega arith) (omega arith))

pub record Copying (bytes buffer out : List ℕ) (i : ℕ) : Type 0 where
  pub is : out ≡ copied bytes buffer i
  pub room : length bytes ≤ length buffer
  pub inside : i ≤ length bytes
  pub long : length out ≡ length buffer

module _ (bytes buffer out : List ℕ) (i : ℕ) (c : Copying bytes buffer out i) where
  pub copy_more : i < length bytes → Copying bytes buffer (set out i (get_or bytes i 0)) (i + 1)
  copy_more l =
      let e : suc i ≡ i + 1 = omega arith in
      record {
        is = ap (λ xs. set xs i (get_or bytes i 0)) c.is ∙ copied_suc bytes buffer i l (omega (arith, c.room)) ∙ ap (copied bytes buffer) e;
        room = c.room;
        inside = omega arith;
        long = length-set out i (get_or bytes i 0) ∙ c.long;
      }

-- a short buffer stays
pub copy_none : (bytes buffer : List ℕ) → length buffer < length bytes → buffer ≡ put_into bytes buffer
unfolding put_into
copy_none bytes buffer h = rw (lt-leb (length bytes) (length buffer) h)

-- bytes that have room
pub put_is : (bytes buffer : List ℕ) → length bytes ≤ length buffer → put_into bytes buffer ≡ bytes ++ drop (length bytes) buffer
unfolding put_into
put_is bytes buffer l = rw (le-leb (length bytes) (length buffer) l)

pub put_front : (bytes buffer out : List ℕ) → length bytes ≤ length buffer → out ≡ put_into bytes buffer → take (length bytes) out ≡ bytes
put_front bytes buffer out l e = ap (take (length bytes)) (e ∙ put_is bytes buffer l) ∙ take_at bytes (drop (length bytes) buffer) (length bytes) refl
