-- Decimal numbers and lines of words, as far as they have room. Assumes nothing.
use Prim.Native.Nat.{ℕ, zero, suc, ◌+◌, ◌*◌, ◌/◌, ◌%◌, ◌^◌, ◌≤◌, ◌<◌}
use mathlib.Core.Path.{◌≡◌, refl, sym, ap, ◌∙◌}
use mathlib.Core.Option.{none, some}
use mathlib.Core.Bool.{Bool, true, false, cond}
use mathlib.Core.List.{List, [], ◌∷◌, ◌++◌, map, append_assoc}
use native.Mathlib.Omega.{arith}
use native.Mathlib.Numerals.{add-one}
use native.Mathlib.Nat.{pow-suc}
use lib.ListN.{length, get_or, take, length-append, length-take}
use lib.Seq.{take-suc, take_all}
use lib.Dec.{ltb}
use borrow.Author.Tests.{ltb-false}
use Rattle.std.proofs.lemmas.List.{append-nil, map-append}
use Rattle.runners.specs.Numbers.{RowOutcome, ok, refused}
use Rattle.runners.specs.State.{NetState}
use Rattle.programs.specs.Programs.{state_words, refusal_words, value_words, reply_words, card_line}
use Rattle.card.specs.Text.{digit, digits, decimal}
use Rattle.programs.specs.Text.{ascii, line}
use Rattle.programs.specs.Lines.{spaced, joined, transfer_word, longest}
use Rattle.card.proofs.TextLaws.{append_twice}

-- so many digits are enough
digits_long : (fuel k n : ℕ) → n < 10 ^ suc k → length (digits fuel n) ≤ suc k
unfolding digits
digits_long zero k n l = omega arith
digits_long (suc f) k n l = go (ltb n 10) refl k l (λ j m. digits_long f j (n / 10) m)
  where
    go : (b : Bool) → ltb n 10 ≡ b → (k : ℕ) → n < 10 ^ suc k → ((j : ℕ) → n / 10 < 10 ^ suc j → length (digits f (n / 10)) ≤ suc j)
        → length (cond b (digit n ∷ []) (digits f (n / 10) ++ (digit (n % 10) ∷ []))) ≤ suc k
    go true e k m h = omega arith
    go false e zero m h = absurd (omega (arith, ltb-false n 10 e))
    go false e (suc k) m h =
        let p : 10 ^ suc (suc k) ≡ 10 ^ suc k * 10 = pow-suc 10 (suc k) in
        omega (arith, length-append (digits f (n / 10)) (digit (n % 10) ∷ []), h k (omega arith))

pub decimal_long : (k n : ℕ) → n < 10 ^ suc k → length (decimal n) ≤ suc k
decimal_long k n l = digits_long (suc n) k n l

-- a line is its first word, the others with a space before each, and a newline
pub line_is : (w : List ℕ) (ws : List (List ℕ)) → line (w ∷ ws) ≡ w ++ (spaced ws ++ (10 ∷ []))
unfolding line spaced
line_is w [] = refl
line_is w (v ∷ ws) = ap (λ (xs : List ℕ). w ++ (32 ∷ xs)) (line_is v ws ∙ sym (append_assoc v (spaced ws) (10 ∷ [])))

pub spaced_append : (u w : List (List ℕ)) → spaced (u ++ w) ≡ spaced u ++ spaced w
unfolding spaced
spaced_append [] w = refl
spaced_append (v ∷ u) w = ap (λ (xs : List ℕ). 32 ∷ (v ++ xs)) (spaced_append u w) ∙ ap (λ (xs : List ℕ). 32 ∷ xs) (sym (append_assoc v (spaced u) (spaced w)))

-- the words of a list's entries, one after another
spaced_one : (w : List ℕ) → spaced (w ∷ []) ≡ 32 ∷ w
unfolding spaced
spaced_one w = ap (λ (xs : List ℕ). 32 ∷ xs) (append-nil w)

words_more : {A : Type 0} (f : A → List ℕ) (xs : List A) (i : ℕ) (d : A) → i < length xs
    → spaced (map f (take (i + 1) xs)) ≡ spaced (map f (take i xs)) ++ (32 ∷ f (get_or xs i d))
words_more f xs i d l =
    rw (add-one, take-suc xs i d l, map-append f (take i xs) (get_or xs i d ∷ []), spaced_append (map f (take i xs)) (f (get_or xs i d) ∷ []), spaced_one (f (get_or xs i d)))

-- the words of entries, one more
pub word_more : {A : Type 0} (f : A → List ℕ) (xs : List A) (n : ℕ) (x y z : List ℕ) (i : ℕ) (d a : A) → y ≡ take n (x ++ spaced (map f (take i xs)))
    → i < length xs → a ≡ get_or xs i d → z ≡ take n (y ++ (32 ∷ f a)) → z ≡ take n (x ++ spaced (map f (take (i + 1) xs)))
word_more f xs n x y z i d a e l here o =
    append_twice n x (spaced (map f (take i xs))) (32 ∷ f (get_or xs i d)) y z e (o ∙ ap (λ b. take n (y ++ (32 ∷ f b))) here)
    ∙ ap (λ w. take n (x ++ w)) (sym (words_more f xs i d l))

pub words_none : {A : Type 0} (f : A → List ℕ) (xs : List A) (n : ℕ) (x : List ℕ) → length x ≤ n → x ≡ take n (x ++ spaced (map f (take 0 xs)))
unfolding spaced
words_none f xs n x l = sym (ap (take n) (append-nil x) ∙ take_all n x l)

-- what no room cuts off: all of it stands
pub puts_whole : (n : ℕ) (x u y : List ℕ) → y ≡ take n (x ++ u) → length x + length u ≤ n → y ≡ x ++ u
puts_whole n x u y e l = e ∙ take_all n (x ++ u) (omega (arith, l, length-append x u))

pub appended_few : (n : ℕ) (x u y : List ℕ) → y ≡ take n (x ++ u) → length y ≤ length x + length u
appended_few n x u y e = omega (arith, ap length e, length-take n (x ++ u), length-append x u)

pub appended_fits : (n : ℕ) (x u y : List ℕ) → y ≡ take n (x ++ u) → length y ≤ n
appended_fits n x u y e = omega (arith, ap length e, length-take n (x ++ u))

pub taken_whole : (n : ℕ) (w y : List ℕ) → y ≡ take n w → length y < n → y ≡ w
taken_whole n w y e l = e ∙ take_all n w (omega (arith, ap length e, length-take n w))

-- the words of a state and of a refusal
pub state_words_is : (s : NetState) (n : ℕ) (x a b c z : List ℕ) → a ≡ take n (x ++ (111 ∷ 107 ∷ [])) → b ≡ take n (a ++ spaced (map decimal s.markings))
    → c ≡ take n (b ++ (32 ∷ 124 ∷ [])) → z ≡ take n (c ++ spaced (map transfer_word s.transfers)) → z ≡ take n (x ++ joined (state_words s))
unfolding ascii spaced
state_words_is s n x a b c z ea eb ec ez =
    let u = append_twice n x (111 ∷ 107 ∷ []) (spaced (map decimal s.markings)) a b ea eb in
    let v = append_twice n x ((111 ∷ 107 ∷ []) ++ spaced (map decimal s.markings)) (32 ∷ 124 ∷ []) b c u ec in
    append_twice n x (((111 ∷ 107 ∷ []) ++ spaced (map decimal s.markings)) ++ (32 ∷ 124 ∷ [])) (spaced (map transfer_word s.transfers)) c z v ez
    ∙ ap (λ w. take n (x ++ (111 ∷ 107 ∷ w)))
    (append_assoc (spaced (map decimal s.markings)) (32 ∷ 124 ∷ []) (spaced (map transfer_word s.transfers))
    ∙ sym (spaced_append (map decimal s.markings) ((124 ∷ []) ∷ map transfer_word s.transfers)))

pub refusal_words_is : (number n : ℕ) (x a z : List ℕ) → a ≡ take n (x ++ (110 ∷ 111 ∷ [])) → z ≡ take n (a ++ (32 ∷ decimal number))
    → z ≡ take n (x ++ joined (refusal_words number none))
unfolding ascii
refusal_words_is number n x a z e o =
    append_twice n x (110 ∷ 111 ∷ []) (32 ∷ decimal number) a z e o ∙ ap (λ w. take n (x ++ (110 ∷ 111 ∷ w))) (sym (spaced_one (decimal number)))

pub value_words_is : (number value n : ℕ) (x a z : List ℕ) → a ≡ take n (x ++ joined (refusal_words number none)) → z ≡ take n (a ++ (32 ∷ decimal value))
    → z ≡ take n (x ++ joined (refusal_words number (some value)))
unfolding ascii
value_words_is number value n x a z e o =
    append_twice n x (joined (refusal_words number none)) (32 ∷ decimal value) a z e o
    ∙ ap (λ w. take n (x ++ (110 ∷ 111 ∷ w)))
    (sym (spaced_append (decimal number ∷ []) (decimal value ∷ []) ∙ ap (λ w. spaced (decimal number ∷ []) ++ w) (spaced_one (decimal value))))

-- a line that ends before its room does
line_done : (w y z text : List ℕ) → y ≡ take longest w → length y ≤ 4360 → z ≡ take longest (y ++ (10 ∷ [])) → text ≡ w ++ (10 ∷ []) → z ≡ text
line_done w y z text e l o i =
    let whole : y ≡ w = taken_whole longest w y e (omega (arith, l)) in
    o ∙ take_all longest (y ++ (10 ∷ [])) (omega (arith, l, length-append y (10 ∷ []))) ∙ ap (λ v. v ++ (10 ∷ [])) whole ∙ sym i

text_is : (w v : List ℕ) (ws : List (List ℕ)) → line (w ∷ v ∷ ws) ≡ ((w ++ (32 ∷ [])) ++ (v ++ spaced ws)) ++ (10 ∷ [])
unfolding spaced
text_is w v ws =
    line_is w (v ∷ ws) ∙ sym (append_assoc (w ++ (32 ∷ [])) (v ++ spaced ws) (10 ∷ []) ∙ append_assoc w (32 ∷ []) ((v ++ spaced ws) ++ (10 ∷ [])))

pub reply_text : (o : RowOutcome) (s : NetState) (n : ℕ) → line (decimal n ∷ reply_words o s) ≡ ((decimal n ++ (32 ∷ [])) ++ joined (reply_words o s)) ++ (10 ∷ [])
reply_text ok s n = text_is (decimal n) (ascii "ok") (map decimal s.markings ++ (ascii "|" ∷ map transfer_word s.transfers))
reply_text (refused k v) s n = text_is (decimal n) (ascii "no") (decimal k ∷ value_words v)

pub card_text : (n at : ℕ) → card_line n at ≡ joined (refusal_words n (some at)) ++ (10 ∷ [])
card_text n at = line_is (ascii "no") (decimal n ∷ decimal at ∷ []) ∙ sym (append_assoc (ascii "no") (spaced (decimal n ∷ decimal at ∷ [])) (10 ∷ []))

-- the line of a row, and that of a card, part by part
pub reply_done : (o : RowOutcome) (s : NetState) (n : ℕ) (a b c z : List ℕ) → n < 2 ^ 64 → a ≡ take longest (decimal n) → b ≡ take longest (a ++ (32 ∷ []))
    → c ≡ take longest (b ++ joined (reply_words o s)) → length c ≤ length b + 4339 → z ≡ take longest (c ++ (10 ∷ [])) → z ≡ line (decimal n ∷ reply_words o s)
reply_done o s n a b c z i ea eb ec l ez =
    line_done ((decimal n ++ (32 ∷ [])) ++ joined (reply_words o s)) c z (line (decimal n ∷ reply_words o s))
    (append_twice longest [] (decimal n ++ (32 ∷ [])) (joined (reply_words o s)) b c (append_twice longest [] (decimal n) (32 ∷ []) a b ea eb) ec)
    (omega (arith, l, appended_few longest [] (decimal n) a ea, decimal_long 19 n (omega arith), appended_few longest a (32 ∷ []) b eb))
    ez
    (reply_text o s n)

pub card_done : (n at : ℕ) (a z : List ℕ) → a ≡ take longest (joined (refusal_words n (some at))) → length a ≤ 44 → z ≡ take longest (a ++ (10 ∷ []))
    → z ≡ card_line n at
card_done n at a z e l o = line_done (joined (refusal_words n (some at))) a z (card_line n at) e (omega arith) o (card_text n at)
