-- What a visit does for its transitions, one after another. Assumes nothing.
use Rattle.std.proofs.Common.{◌≡◌, ℕ, suc, ◌+◌, ◌-◌, ◌*◌, ◌<◌, ◌≤◌, min, Bool, cond, ◌⊎◌, List, length, get_or, set, sym, refl, ap, ◌∙◌, subst, subst₂, inl, inr, arith, length-set, get_or-set_other, get_or-set_same}
use Rattle.std.proofs.lemmas.Bool.{cases_lt}
use Rattle.card.specs.Finite.{sum_to}
use Rattle.card.specs.Card.{Card, draws, fills, subnet_at, first_transition}
use Rattle.hierarchy.specs.Conditions.{Meets}
use Rattle.flattening.specs.Flattening.{flatten}
use Rattle.runners.specs.State.{entry, transfer, remaining, incidence}
use Rattle.runners.specs.Step.{candidate_on, asked_on, advanced, arrives_on}
use Rattle.runners.specs.Columns.{Moved, Grown, nothing, noted, posted, state_in, with_standing, with_candidates, with_moved}
use Rattle.runners.specs.declared.work.Work.{Work}
use Rattle.runners.specs.Visits.{Round, posting, finding, moving, Turn, amount, effect, Does, SameElsewhere, turn_in, IsVisit}
use Rattle.runners.specs.inner.Transitions.{part, DoesOne, span_sum, DoesSpan, IsSpan}
use Rattle.runners.specs.declared.Transfer.{Transfer}
use Rattle.runners.specs.declared.Transfer.TheVariants.{Idle, Carrying}
use Rattle.runners.proofs.OwnerLaws.{next_first}
use Rattle.runners.specs.inner.Changes.{moved_none, moved_same}
use Rattle.runners.proofs.MovedLaws.{moved_join}
use Rattle.runners.proofs.VisitLaws.{no_effect, facts}

-- A list of which the entries from first on are set, one after another.
module _ {A : Type 0} (d : A) (good : ℕ → A) (first t : ℕ) (a b : List A) (low : first ≤ t) (long : length b ≡ length a) where
  pub set_own : ((u : ℕ) → first ≤ u → u < t → u < length a → get_or b u d ≡ good u) → (u : ℕ) → first ≤ u → u < t + 1 → u < length a → get_or (set b t (good t)) u d ≡ good u
  set_own h u l k n = go (cases_lt u t)
    where
      go : (u < t) ⊎ (t ≤ u) → get_or (set b t (good t)) u d ≡ good u
      go (inl q) = get_or-set_other b t u (good t) d (λ z. omega arith) ∙ h u l q n
      go (inr q) = let z : u ≡ t = omega arith in rw z (get_or-set_same b t (good t) d (omega (arith, long, n)))

  pub set_others : ((u : ℕ) → ¬ ((first ≤ u) × (u < t)) → get_or b u d ≡ get_or a u d) → (v : A) → (u : ℕ) → ¬ ((first ≤ u) × (u < t + 1)) → get_or (set b t v) u d ≡ get_or a u d
  set_others h v u n = get_or-set_other b t u v d (λ z. n (omega arith, omega arith)) ∙ h u (λ z. n (z.0, omega (arith, z.1)))

-- what the transitions up to t post or move, and one more
module _ (r : Round) (i : Turn) (first : ℕ) where
  span_none : (direction p : ℕ) → 0 ≡ span_sum r i first first direction p
  unfolding sum_to
  span_none direction p = let z : first - first ≡ 0 = omega arith in rw z refl

  span_step : (t direction p : ℕ) → first ≤ t → span_sum r i first (t + 1) direction p ≡ span_sum r i first t direction p + part r i t direction p
  unfolding sum_to
  span_step t direction p l =
      let z : t + 1 - first ≡ suc (t - first) = omega arith in
      let w : first + (t - first) ≡ t = omega arith in
      rw z (ap (λ (u : ℕ). span_sum r i first t direction p + part r i u direction p) w)

  moved_start : (a : List ℕ) → Moved a a (span_sum r i first first draws) (span_sum r i first first fills)
  moved_start a = moved_same a a nothing nothing (span_sum r i first first draws) (span_sum r i first first fills) (span_none draws) (span_none fills) (moved_none a)

  grown_start : (way : ℕ) (a : List ℕ) → Grown a a (span_sum r i first first way)
  grown_start way a = moved_same a a nothing nothing nothing (span_sum r i first first way) (λ p. refl) (span_none way) (moved_none a)

  module _ (t : ℕ) (l : first ≤ t) (a b e : List ℕ) where
    moved_more : Moved a b (span_sum r i first t draws) (span_sum r i first t fills) → Moved b e (part r i t draws) (part r i t fills)
        → Moved a e (span_sum r i first (t + 1) draws) (span_sum r i first (t + 1) fills)
    moved_more g h = moved_join a b e _ _ _ _ _ _ g h (λ p. span_step t draws p l) (λ p. span_step t fills p l)

    grown_more : (way : ℕ) → Grown a b (span_sum r i first t way) → Grown b e (part r i t way) → Grown a e (span_sum r i first (t + 1) way)
    grown_more way g h = moved_join a b e nothing _ nothing _ nothing _ g h (λ p. refl) (λ p. span_step t way p l)

pub span_start : (r : Round) (i : Turn) (first : ℕ) (a : Work) → DoesSpan r first first i a a
span_start posting i first a =
    record { only = refl; owed = grown_start posting i first draws a.standing.owed; due = grown_start posting i first fills a.standing.due }
span_start finding i first a =
    record {
      only = refl;
      owed = grown_start finding i first draws a.claimed.owed;
      due = grown_start finding i first fills a.claimed.due;
      long = refl;
      own = λ t l k n. absurd (omega arith);
      others = λ t n. refl;
    }
span_start moving i first a =
    record { only = refl; markings = moved_start moving i first a.state.markings; long = refl; own = λ t l k n. absurd (omega arith); others = λ t n. refl }

-- What the next transition finds of its own is what stood there before the visit.
module _ (c : Card) (row : List ℕ) (a b e : Work) (first t : ℕ) where
  abbrev i : Turn
  i = turn_in c row a

  abbrev j : Turn
  j = turn_in c row b

  part_same : (r : Round) → amount r j t ≡ amount r i t → (direction p : ℕ) → part r j t direction p ≡ part r i t direction p
  part_same r h direction p = ap (λ (n : ℕ). n * incidence (flatten c) direction t p) h

  grown_same : (r : Round) → amount r j t ≡ amount r i t → (way : ℕ) (xs ys : List ℕ) → Grown xs ys (part r j t way) → Grown xs ys (part r i t way)
  grown_same r h way xs ys g = moved_same xs ys nothing (part r j t way) nothing (part r i t way) (λ p. refl) (part_same r h way) g

  again : (r : Round) → DoesSpan r first t i a b → DoesOne r t j b e → DoesOne r t i b e
  again posting h o =
      let n : amount posting j t ≡ amount posting i t = ap (λ (k : Work). amount posting (turn_in c row k) t) h.only in
      record {
        only = o.only;
        owed = grown_same posting n draws b.standing.owed e.standing.owed o.owed;
        due = grown_same posting n fills b.standing.due e.standing.due o.due;
      }
  again finding h o =
      let q : candidate_on (flatten c) j.standing j.state row t ≡ candidate_on (flatten c) i.standing i.state row t =
      ap (λ (k : Work). candidate_on (flatten c) (posted k.standing) (state_in k) row t) h.only in
      let n : amount finding j t ≡ amount finding i t = ap (λ (k : Work). amount finding (turn_in c row k) t) h.only in
      record {
        only = o.only;
        owed = grown_same finding n draws b.claimed.owed e.claimed.owed o.owed;
        due = grown_same finding n fills b.claimed.due e.claimed.due o.due;
        candidates = o.candidates ∙ ap (set b.candidates t) q;
      }
  again moving h o =
      record {
        only = o.only;
        markings = moved_same b.state.markings e.state.markings _ _ (part moving i t draws) (part moving i t fills) (part_same moving n draws) (part_same moving n fills) o.markings;
        transfers = o.transfers ∙ ap (set b.state.transfers t) w;
      }
    where
      x : transfer b.state.transfers t ≡ transfer a.state.transfers t
      x = h.others t (λ z. omega (arith, z.1))

      y : j ≡ turn_in c row (with_moved a b.state.markings b.state.transfers)
      y = ap (turn_in c row) h.only

      n : amount moving j t ≡ amount moving i t
      n = ap (λ (k : Turn). amount moving k t) y ∙ ap (λ (z : Transfer). min (asked_on (flatten c) (noted a.candidates) a.state.degrees row t) (remaining (flatten c) (cond (noted a.candidates t) (Carrying 0) z))) x

      w : arrives_on (flatten c) j.found j.state row t ≡ arrives_on (flatten c) i.found i.state row t
      w =
          ap (λ (k : Turn). arrives_on (flatten c) k.found k.state row t) y
          ∙ ap (λ (z : Transfer). advanced (flatten c) (cond (noted a.candidates t) (Carrying 0) z) (min (asked_on (flatten c) (noted a.candidates) a.state.degrees row t) (remaining (flatten c) (cond (noted a.candidates t) (Carrying 0) z)))) x

  -- one transition more
  more : (r : Round) → first ≤ t → DoesSpan r first t i a b → DoesOne r t i b e → DoesSpan r first (t + 1) i a e
  more posting l h o =
      record {
        only = o.only ∙ ap (λ (k : Work). with_standing k e.standing) h.only;
        owed = grown_more posting i first t l a.standing.owed b.standing.owed e.standing.owed draws h.owed o.owed;
        due = grown_more posting i first t l a.standing.due b.standing.due e.standing.due fills h.due o.due;
      }
  more finding l h o =
      record {
        only = o.only ∙ ap (λ (k : Work). with_candidates k e.claimed e.candidates) h.only;
        owed = grown_more finding i first t l a.claimed.owed b.claimed.owed e.claimed.owed draws h.owed o.owed;
        due = grown_more finding i first t l a.claimed.due b.claimed.due e.claimed.due fills h.due o.due;
        long = ap length o.candidates ∙ length-set b.candidates t _ ∙ h.long;
        own = λ u p k n. ap (λ (xs : List Bool). noted xs u) o.candidates ∙ set_own _ (λ v. candidate_on (flatten c) i.standing i.state row v) first t a.candidates b.candidates l h.long h.own u p k n;
        others = λ u n. ap (λ (xs : List Bool). noted xs u) o.candidates ∙ set_others _ (λ v. candidate_on (flatten c) i.standing i.state row v) first t a.candidates b.candidates l h.long h.others _ u n;
      }
  more moving l h o =
      record {
        only = o.only ∙ ap (λ (k : Work). with_moved k e.state.markings e.state.transfers) h.only;
        markings = moved_more moving i first t l a.state.markings b.state.markings e.state.markings h.markings o.markings;
        long = ap length o.transfers ∙ length-set b.state.transfers t _ ∙ h.long;
        own = λ u p k n. ap (λ (xs : List Transfer). transfer xs u) o.transfers ∙ set_own Idle (λ v. arrives_on (flatten c) i.found i.state row v) first t a.state.transfers b.state.transfers l h.long h.own u p k n;
        others = λ u n. ap (λ (xs : List Transfer). transfer xs u) o.transfers ∙ set_others Idle (λ v. arrives_on (flatten c) i.found i.state row v) first t a.state.transfers b.state.transfers l h.long h.others _ u n;
      }

pub span_more : (r : Round) (c : Card) (row : List ℕ) (first t u n : ℕ) (a b e : Work) → u ≡ t → n ≡ t + 1 → first ≤ t → DoesSpan r first t (turn_in c row a) a b → DoesOne r u (turn_in c row b) b e
    → DoesSpan r first n (turn_in c row a) a e
span_more r c row first t u n a b e p q l h o =
    subst (λ (k : ℕ). DoesSpan r first k (turn_in c row a) a e) (sym q)
    (more c row a b e first t r l h (again c row a b e first t r h (subst (λ (k : ℕ). DoesOne r k (turn_in c row b) b e) p o)))

-- A subnet's own transitions are all that its visit does.
module _ (r : Round) (s : ℕ) (i : Turn) where
  span_all : (direction p : ℕ) → span_sum r i (first_transition i.card s) (first_transition i.card (suc s)) direction p ≡ effect r s i direction p
  unfolding effect
  span_all direction p =
      let z : first_transition i.card (suc s) - first_transition i.card s ≡ (subnet_at i.card s).transitions = omega (arith, next_first i.card s) in
      rw z refl

  moved_all : (a b : List ℕ) → Moved a b (span_sum r i (first_transition i.card s) (first_transition i.card (suc s)) draws) (span_sum r i (first_transition i.card s) (first_transition i.card (suc s)) fills)
      → Moved a b (effect r s i draws) (effect r s i fills)
  moved_all a b h = moved_same a b _ _ (effect r s i draws) (effect r s i fills) (span_all draws) (span_all fills) h

  grown_all : (way : ℕ) (a b : List ℕ) → Grown a b (span_sum r i (first_transition i.card s) (first_transition i.card (suc s)) way) → Grown a b (effect r s i way)
  grown_all way a b h = moved_same a b nothing _ nothing (effect r s i way) (λ p. refl) (span_all way) h

module _ (c : Card) (row : List ℕ) (s : ℕ) (a a' : Work) where
  abbrev here : Turn
  here = turn_in c row a

  pub span_does : (r : Round) → DoesSpan r (first_transition c s) (first_transition c (suc s)) here a a' → Does r s here a a'
  span_does posting h =
      record {
        only = h.only;
        owed = grown_all posting s here draws a.standing.owed a'.standing.owed h.owed;
        due = grown_all posting s here fills a.standing.due a'.standing.due h.due;
      }
  span_does finding h =
      record {
        only = h.only;
        owed = grown_all finding s here draws a.claimed.owed a'.claimed.owed h.owed;
        due = grown_all finding s here fills a.claimed.due a'.claimed.due h.due;
        long = h.long;
        own = λ t o l. h.own t o.low o.high l;
      }
  span_does moving h =
      record { only = h.only; markings = moved_all moving s here a.state.markings a'.state.markings h.markings; long = h.long; own = λ t o l. h.own t o.low o.high l }

  module _ (m : Meets c) (below : s < length c.subnets) where
    pub span_elsewhere : (r : Round) → DoesSpan r (first_transition c s) (first_transition c (suc s)) here a a' → SameElsewhere c s a a'
    span_elsewhere posting h =
        let d = span_does posting h in
        record {
          markings = λ p u. ap (λ (k : Work). entry k.state.markings p) h.only;
          standing_owed = λ p u. d.owed.kept p refl (no_effect posting s here m below draws p u);
          standing_due = λ p u. d.due.kept p refl (no_effect posting s here m below fills p u);
          claimed_owed = λ p u. ap (λ (k : Work). entry k.claimed.owed p) h.only;
          claimed_due = λ p u. ap (λ (k : Work). entry k.claimed.due p) h.only;
          transfers = λ t n. ap (λ (k : Work). transfer k.state.transfers t) h.only;
          candidates = λ t n. ap (λ (k : Work). noted k.candidates t) h.only;
        }
    span_elsewhere finding h =
        let d = span_does finding h in
        record {
          markings = λ p u. ap (λ (k : Work). entry k.state.markings p) h.only;
          standing_owed = λ p u. ap (λ (k : Work). entry k.standing.owed p) h.only;
          standing_due = λ p u. ap (λ (k : Work). entry k.standing.due p) h.only;
          claimed_owed = λ p u. d.owed.kept p refl (no_effect finding s here m below draws p u);
          claimed_due = λ p u. d.due.kept p refl (no_effect finding s here m below fills p u);
          transfers = λ t n. ap (λ (k : Work). transfer k.state.transfers t) h.only;
          candidates = λ t n. h.others t (λ z. n (record { low = z.0; high = z.1 }));
        }
    span_elsewhere moving h =
        let d = span_does moving h in
        record {
          markings = λ p u. d.markings.kept p (no_effect moving s here m below draws p u) (no_effect moving s here m below fills p u);
          standing_owed = λ p u. ap (λ (k : Work). entry k.standing.owed p) h.only;
          standing_due = λ p u. ap (λ (k : Work). entry k.standing.due p) h.only;
          claimed_owed = λ p u. ap (λ (k : Work). entry k.claimed.owed p) h.only;
          claimed_due = λ p u. ap (λ (k : Work). entry k.claimed.due p) h.only;
          transfers = λ t n. h.others t (λ z. n (record { low = z.0; high = z.1 }));
          candidates = λ t n. ap (λ (k : Work). noted k.candidates t) h.only;
        }

-- WHAT A VISIT IS MADE OF: the transitions from its first up to the next subnet's
pub visit_made : (r : Round) (s first end : ℕ) (c : Card) (row : List ℕ) (a a' : Work) → first ≡ first_transition c s → end ≡ first_transition c (suc s)
    → IsSpan r first end c row a a' → IsVisit r s c row a a'
visit_made r s first end c row a a' f g h m below =
    let d : DoesSpan r (first_transition c s) (first_transition c (suc s)) (turn_in c row a) a a' =
    subst₂ (λ (x y : ℕ). DoesSpan r x y (turn_in c row a) a a') f g (h m (omega (arith, f, g, next_first c s))) in
    facts r s c row a a' m below (span_does c row s a a' r d) (span_elsewhere c row s a a' m below r d)
