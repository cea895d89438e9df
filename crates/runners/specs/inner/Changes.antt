-- How changes by flat place go together: no change, one after another, and two that are equal at each place.
use Rattle.std.proofs.Common.{◌≡◌, ℕ, ◌+◌, ◌%◌, List, refl, ap, ◌∙◌, arith}
use Rattle.runners.specs.State.{entry}
use Rattle.runners.specs.Columns.{word, Moved, Claimed, nothing}
use Rattle.runners.specs.declared.claims.Claims.{Claims as Posted}

-- sums that go round
pub same : (a b : ℕ) → a ≡ b → a % word ≡ b % word
same a b e = ap (λ (n : ℕ). n % word) e

pub more : (a b k : ℕ) → a % word ≡ b % word → (a + k) % word ≡ (b + k) % word
more a b k e = omega arith

chain : (a b e d u d' u' : ℕ) → (b + d) % word ≡ (a + u) % word → (e + d') % word ≡ (b + u') % word → (e + (d + d')) % word ≡ (a + (u + u')) % word
chain a b e d u d' u' x y =
    same (e + (d + d')) (e + d' + d) (omega arith) ∙ more (e + d') (b + u') d y ∙ same (b + u' + d) (b + d + u') (omega arith)
    ∙ more (b + d) (a + u) u' x ∙ same (a + u + u') (a + (u + u')) (omega arith)

pub moved_none : (a : List ℕ) → Moved a a nothing nothing
moved_none a = record { long = refl; fits = λ p l. l; moved = λ p l. refl; kept = λ p d u. refl }

-- one change after another
pub moved_then : (a b e : List ℕ) (d u d' u' : ℕ → ℕ) → Moved a b d u → Moved b e d' u' → Moved a e (λ p. d p + d' p) (λ p. u p + u' p)
moved_then a b e d u d' u' x y =
    record {
      long = y.long ∙ x.long;
      fits = λ p l. y.fits p (x.fits p l);
      moved = λ p l. chain (entry a p) (entry b p) (entry e p) (d p) (u p) (d' p) (u' p) (x.moved p l) (y.moved p (omega (arith, x.long)));
      kept = λ p h k. y.kept p (omega arith) (omega arith) ∙ x.kept p (omega arith) (omega arith);
    }

-- changes that are equal at each place
pub moved_same : (a b : List ℕ) (d u d' u' : ℕ → ℕ) → ((p : ℕ) → d p ≡ d' p) → ((p : ℕ) → u p ≡ u' p) → Moved a b d u → Moved a b d' u'
moved_same a b d u d' u' f g x =
    record {
      long = x.long;
      fits = x.fits;
      moved = λ p l. rw (← f p, ← g p) (x.moved p l);
      kept = λ p h k. x.kept p (omega (arith, f p)) (omega (arith, g p));
    }

-- the same of claims
pub claimed_none : (a : Posted) → Claimed a a nothing nothing
claimed_none a = record { owed = moved_none a.owed; due = moved_none a.due }

pub claimed_then : (a b e : Posted) (d u d' u' : ℕ → ℕ) → Claimed a b d u → Claimed b e d' u' → Claimed a e (λ p. d p + d' p) (λ p. u p + u' p)
claimed_then a b e d u d' u' x y =
    record { owed = moved_then a.owed b.owed e.owed nothing d nothing d' x.owed y.owed; due = moved_then a.due b.due e.due nothing u nothing u' x.due y.due }

pub claimed_same : (a b : Posted) (d u d' u' : ℕ → ℕ) → ((p : ℕ) → d p ≡ d' p) → ((p : ℕ) → u p ≡ u' p) → Claimed a b d u → Claimed a b d' u'
claimed_same a b d u d' u' f g x =
    record {
      owed = moved_same a.owed b.owed nothing d nothing d' (λ p. refl) f x.owed;
      due = moved_same a.due b.due nothing u nothing u' (λ p. refl) g x.due;
    }
