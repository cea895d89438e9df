-- Entries in front of zeros. Assumes nothing.
use Rattle.std.proofs.Common.{◌≡◌, ℕ, suc, ◌+◌, ◌-◌, ◌<◌, ◌≤◌, List, [], ◌∷◌, ◌++◌, length, take, drop, set, replicate, sym, ap, ◌∙◌, arith, append_assoc, length-append}
use Rattle.std.proofs.Math.Seq.{take_all, take_at, drop_at, set_at}
use Rattle.std.proofs.lemmas.List.{length-replicate}
use Rattle.card.specs.Rooms.{IsFilled}

-- one more entry in front of zeros
pub set_next : (room n v : ℕ) (xs : List ℕ) → length xs ≡ n → n < room → set (xs ++ replicate (room - n) 0) n v ≡ (xs ++ v ∷ []) ++ replicate (room - (n + 1)) 0
set_next room n v xs e l =
    ap (λ (k : ℕ). set (xs ++ replicate k 0) n v) (let i : room - n ≡ suc (room - (n + 1)) = omega arith in i) ∙ set_at xs 0 (replicate (room - (n + 1)) 0) v n e
    ∙ sym (append_assoc xs (v ∷ []) (replicate (room - (n + 1)) 0))

-- entries in front of zeros fill a room
pub filled_front : (room n : ℕ) (xs ys : List ℕ) → length xs ≡ n → n ≤ room → ys ≡ xs ++ replicate (room - n) 0 → IsFilled room ys n
filled_front room n xs ys e l i = record {
  fits = l;
  long = ap length i ∙ (let q : length (xs ++ replicate {A = ℕ} (room - n) 0) ≡ room = omega (arith, length-append xs (replicate {A = ℕ} (room - n) 0), length-replicate {A = ℕ} (room - n) 0, e) in q);
  zeros = ap (drop n) i ∙ drop_at xs (replicate (room - n) 0) n e;
}

pub front_taken : (room n : ℕ) (xs ys : List ℕ) → length xs ≡ n → ys ≡ xs ++ replicate (room - n) 0 → take n ys ≡ xs
front_taken room n xs ys e i = ap (take n) i ∙ take_at xs (replicate (room - n) 0) n e

-- a text that has room for another
pub whole_appended : (room : ℕ) (x y z text : List ℕ) → x ≡ [] → y ≡ text → length y ≤ room → z ≡ take room (x ++ y) → z ≡ text
whole_appended room x y z text e i l o = o ∙ ap (λ (w : List ℕ). take room (w ++ y)) e ∙ take_all room y l ∙ i
