-- Columns that change, one entry at a time or by and by. Assumes nothing.
use Rattle.std.proofs.Common.{◌≡◌, ℕ, ◌+◌, ◌%◌, ◌<◌, ◌≤◌, List, length, sym, ◌∙◌, arith}
use Rattle.runners.specs.State.{entry}
use Rattle.runners.specs.Columns.{word, Moved}
use Rattle.runners.specs.inner.Changes.{same, more, moved_then, moved_same}

-- sums that go round
less : (a b k : ℕ) → (a + k) % word ≡ (b + k) % word → a % word ≡ b % word
less a b k e = omega arith

exactly : (a b d u : ℕ) → (b + d) % word ≡ (a + u) % word → b < word → d ≤ a → a + u < word → b + d ≡ a + u
exactly a b d u x l h k = omega arith

alike : (a a' b b' d u : ℕ) → (a' + d) % word ≡ (a + u) % word → (b' + d) % word ≡ (b + u) % word → (a' + b) % word ≡ (b' + a) % word
alike a a' b b' d u x y =
    less (a' + b) (b' + a) d
    (same (a' + b + d) (a' + d + b) (omega arith) ∙ more (a' + d) (a + u) b x ∙ same (a + u + b) (b + u + a) (omega arith)
    ∙ sym (more (b' + d) (b + u) a y) ∙ same (b' + d + a) (b' + a + d) (omega arith))

-- where an entry has all that it loses, and 32 bits hold it with all that it gains
pub moved_exact : (a b : List ℕ) (d u : ℕ → ℕ) → Moved a b d u → (p : ℕ) → p < length a → d p ≤ entry a p → entry a p + u p < word → entry b p + d p ≡ entry a p + u p
moved_exact a b d u x p l h k = exactly (entry a p) (entry b p) (d p) (u p) (x.moved p l) (x.fits p (omega arith)) h k

-- the same change of two columns
pub moved_alike : (a a' b b' : List ℕ) (d u : ℕ → ℕ) → Moved a a' d u → Moved b b' d u → (p : ℕ) → p < length a → p < length b → (entry a' p + entry b p) % word ≡ (entry b' p + entry a p) % word
moved_alike a a' b b' d u x y p l k = alike (entry a p) (entry a' p) (entry b p) (entry b' p) (d p) (u p) (x.moved p l) (y.moved p k)

pub moved_join : (a b e : List ℕ) (d u d' u' d'' u'' : ℕ → ℕ) → Moved a b d u → Moved b e d' u' → ((p : ℕ) → d'' p ≡ d p + d' p) → ((p : ℕ) → u'' p ≡ u p + u' p) → Moved a e d'' u''
moved_join a b e d u d' u' d'' u'' x y f g =
    moved_same a e (λ p. d p + d' p) (λ p. u p + u' p) d'' u'' (λ p. sym (f p)) (λ p. sym (g p)) (moved_then a b e d u d' u' x y)
