-- Bytes behind those of a text, as far as there is room. Assumes nothing.
use Rattle.std.proofs.Common.{◌≡◌, ℕ, zero, suc, ◌+◌, ◌-◌, ◌/◌, ◌%◌, ◌<◌, ◌≤◌, min, ◌⊎◌, inl, inr, List, [], ◌∷◌, ◌++◌, length, take, drop, set, replicate, Bool, true, false, cond, ltb, refl, sym, ap, ◌∙◌, arith, append_assoc, length-append, length-set, length-take-le, length-drop}
use Rattle.std.proofs.Math.Seq.{take_all, take-append-add, drop-drop}
use Rattle.std.proofs.lemmas.List.{drop-set-lt, drop-replicate}
use Rattle.std.proofs.lemmas.Slice.{take-put_mid, drop-put_mid}
use Rattle.std.proofs.lemmas.Bool.{cases_lt}
use borrow.Author.Tests.{lt-ltb, le-ltb, ltb-false}
use borrow.Rule.Slice.PartMut.{put_mid}
use Rattle.card.specs.Text.{digit, digits, decimal}
use Rattle.card.specs.Rooms.{IsFilled, filled_long}

-- bytes behind bytes
pub take_again : {A : Type 0} (n : ℕ) (xs ys : List A) → take n (take n xs ++ ys) ≡ take n (xs ++ ys)
take_again zero xs ys = refl
take_again (suc n) [] ys = refl
take_again (suc n) (x ∷ xs) ys = ap (λ zs. x ∷ zs) (take_again n xs ys)

pub append_twice : (n : ℕ) (x u v : List ℕ) (y z : List ℕ) → y ≡ take n (x ++ u) → z ≡ take n (y ++ v) → z ≡ take n (x ++ (u ++ v))
append_twice n x u v y z e i = i ∙ ap (λ w. take n (w ++ v)) e ∙ take_again n (x ++ u) v ∙ ap (take n) (append_assoc x u v)

-- zeros behind one zero fewer
drop_one : (room n : ℕ) (xs : List ℕ) → drop n xs ≡ replicate (room - n) 0 → n < room → drop (n + 1) xs ≡ replicate (room - (n + 1)) 0
drop_one room n xs e l =
    sym (drop-drop 1 n xs) ∙ ap (drop 1) e ∙ drop-replicate 1 (room - n) 0 ∙ ap (λ (k : ℕ). replicate k 0) (omega arith)

pub filled_push : (room : ℕ) (xs : List ℕ) (n b : ℕ) → IsFilled room xs n → n < room → IsFilled room (set xs n b) (n + 1)
filled_push room xs n b h l = record {
  fits = omega arith;
  long = length-set xs n b ∙ h.long;
  zeros = drop-set-lt (n + 1) xs n b (omega arith) ∙ drop_one room n xs h.zeros l;
}

-- as many bytes at once as there is room for
module _ (room : ℕ) (xs bytes ys : List ℕ) (n k end : ℕ) (h : IsFilled room xs n) (count : end ≡ n + min (length bytes) (room - n)) (here : k ≡ end - n) (copied : ys ≡ take k bytes) where
  short : length ys ≡ k
  short = ap length copied ∙ length-take-le k bytes (omega (arith, count, here))

  pub filled_more : IsFilled room (put_mid n k xs ys) end
  filled_more = record {
    fits = omega (arith, count, h.fits);
    long = simp (length-append, length-drop) (omega (arith, count, here, h.fits, h.long, short, filled_long room xs n h));
    zeros =
        drop-put_mid n k xs ys end (omega (arith, here, count)) (omega (arith, h.fits, h.long)) short ∙ ap (λ (j : ℕ). drop j xs) (let e : end ≡ n + k = omega (arith, here, count) in e)
        ∙ sym (drop-drop k n xs) ∙ ap (drop k) h.zeros ∙ drop-replicate k (room - n) 0 ∙ ap (λ (j : ℕ). replicate j 0) (omega (arith, here, count));
  }

  pub more_taken : take end (put_mid n k xs ys) ≡ take room (take n xs ++ bytes)
  more_taken =
      take-put_mid n k xs ys end (omega (arith, short, here, count)) (omega (arith, h.fits, h.long)) ∙ ap (λ (zs : List ℕ). take n xs ++ zs) (copied ∙ go (cases_lt (length bytes) (room - n)))
      ∙ sym (ap (λ (m : ℕ). take m (take n xs ++ bytes)) (let e : room ≡ length (take n xs) + (room - n) = omega (arith, h.fits, filled_long room xs n h) in e) ∙ take-append-add (take n xs) bytes (room - n))
    where
      go : (length bytes < room - n) ⊎ (room - n ≤ length bytes) → take k bytes ≡ take (room - n) bytes
      go (inl b) = take_all k bytes (omega (arith, here, count)) ∙ sym (take_all (room - n) bytes (omega arith))
      go (inr b) = ap (λ (m : ℕ). take m bytes) (let e : k ≡ room - n = omega (arith, here, count) in e)

-- decimal numbers: fuel above the number is enough
digits_same : (n : ℕ) (x y : List ℕ) → (10 ≤ n → x ≡ y)
    → cond (ltb n 10) (digit n ∷ []) (x ++ (digit (n % 10) ∷ [])) ≡ cond (ltb n 10) (digit n ∷ []) (y ++ (digit (n % 10) ∷ []))
digits_same n x y f = go (ltb n 10) refl
  where
    go : (b : Bool) → ltb n 10 ≡ b → cond b (digit n ∷ []) (x ++ (digit (n % 10) ∷ [])) ≡ cond b (digit n ∷ []) (y ++ (digit (n % 10) ∷ []))
    go true e = refl
    go false e = ap (λ (xs : List ℕ). xs ++ (digit (n % 10) ∷ [])) (f (ltb-false n 10 e))

digits_fuel : (j k n : ℕ) → n < j → n < k → digits j n ≡ digits k n
unfolding digits
digits_fuel zero k n l m = absurd (omega arith)
digits_fuel (suc j) zero n l m = absurd (omega arith)
digits_fuel (suc j) (suc k) n l m = digits_same n (digits j (n / 10)) (digits k (n / 10)) (λ g. digits_fuel j k (n / 10) (omega arith) (omega arith))

pub decimal_one : (n : ℕ) → n < 10 → decimal n ≡ digit (n % 10) ∷ []
unfolding digits
decimal_one n l = rw (lt-ltb n 10 l) (ap (λ (d : ℕ). digit d ∷ []) (let e : n ≡ n % 10 = omega arith in e))

pub decimal_more : (n : ℕ) → 10 ≤ n → decimal n ≡ decimal (n / 10) ++ (digit (n % 10) ∷ [])
unfolding digits
decimal_more n l =
    rw (le-ltb n 10 l) (ap (λ (xs : List ℕ). xs ++ (digit (n % 10) ∷ [])) (digits_fuel n (suc (n / 10)) (n / 10) (omega arith) (omega arith)))
