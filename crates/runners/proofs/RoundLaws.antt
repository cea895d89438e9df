-- The rounds, visit by visit in the order that was lent: each visit is in its turn, after the first n visits their subnets' part of the step is
-- done and nothing else, and after all of them the whole round's. Assumes nothing.
use Rattle.std.proofs.Common.{◌≡◌, ℕ, ◌+◌, ◌<◌, ◌≤◌, true, false, ◌⊎◌, List, length, get_or, sym, refl, ap, ◌∙◌, subst, inl, inr, add-one, arith}
use Rattle.std.proofs.lemmas.Bool.{cases_lt}
use Rattle.card.specs.Finite.{sum_to}
use Rattle.card.specs.Card.{Card, draws, fills}
use Rattle.card.proofs.Decides.{Some}
use Rattle.hierarchy.specs.Conditions.{Meets}
use Rattle.flattening.specs.Flattening.{flatten}
use Rattle.runners.specs.State.{NetState, transfer, flow}
use Rattle.runners.specs.Step.{candidate_on, arrives_on}
use Rattle.runners.specs.Calls.{each_once}
use Rattle.runners.specs.Columns.{Moved, Grown, nothing, with_standing, with_candidates, with_moved}
use Rattle.runners.specs.declared.work.Work.{Work}
use Rattle.runners.specs.declared.Transfer.TheVariants.{Idle}
use Rattle.runners.specs.Visits.{OwnsTransition, Round, posting, finding, moving, Turn, amount, effect, step_turn, InTurn, Does, SameElsewhere, turn_in, IsVisit}
use Rattle.runners.specs.inner.Rounds.{DoesAll}
use Rattle.runners.proofs.OwnerLaws.{owner_unique, owner, owned_below}
use Rattle.runners.proofs.OnceLaws.{Once, once, sum_once, once_distinct}
use Rattle.runners.specs.inner.Changes.{moved_none, moved_same}
use Rattle.runners.proofs.MovedLaws.{moved_join}
use Rattle.runners.proofs.VisitLaws.{effects_sum}

-- n + 1 visits are n visits and one
up_to : (n j : ℕ) → j < n + 1 → (j < n) ⊎ (j ≡ n)
up_to n j l = go (cases_lt j n)
  where
    go : (j < n) ⊎ (n ≤ j) → (j < n) ⊎ (j ≡ n)
    go (inl m) = inl m
    go (inr m) = inr (omega arith)

-- an entry of the order that is still to be visited is a subnet
pub visited : (S : ℕ) (order : List ℕ) (n : ℕ) → each_once S order ≡ true → n < length order → get_or order n 0 < S
visited S order n e l = let o = once S order e in o.below n (omega (arith, o.size))

-- a transition of a subnet that was visited is none of the next one
module _ (c : Card) (order : List ℕ) (e : each_once (length c.subnets) order ≡ true) where
  not_again : (n k t : ℕ) → k < n → n < length order → OwnsTransition c (get_or order k 0) t → ¬ OwnsTransition c (get_or order n 0) t
  not_again n k t l m a b =
      let o = once (length c.subnets) order e in
      once_distinct (length c.subnets) order o k n l (omega (arith, o.size)) (owner_unique c (get_or order k 0) (get_or order n 0) t a b)

  -- the visit of a transition's owner
  owner_at : (n t : ℕ) → Meets c → n ≡ length order → t < length c.transitions → Some n (λ k. OwnsTransition c (get_or order k 0) t)
  owner_at n t m q l =
      let o = once (length c.subnets) order e in
      let w = owner c m t l in
      let v = o.named w.0 w.1 in
      (v.0, omega (arith, v.1, o.size), subst (λ (s : ℕ). OwnsTransition c s t) (sym v.2) w.2)

-- Entries by transition, which the visits set, each its own: after n visits those of the subnets that were visited are good, and the others as
-- they were.
pub record SetTo {A : Type 0} (d : A) (good : ℕ → A) (c : Card) (order : List ℕ) (n : ℕ) (xs ys : List A) : Type 0 where
  pub long : length ys ≡ length xs
  pub own : (k t : ℕ) → k < n → OwnsTransition c (get_or order k 0) t → t < length xs → get_or ys t d ≡ good t
  pub others : (t : ℕ) → ((k : ℕ) → k < n → ¬ OwnsTransition c (get_or order k 0) t) → get_or ys t d ≡ get_or xs t d

module _ {A : Type 0} (d : A) (good : ℕ → A) (c : Card) (order : List ℕ) where
  set_start : (xs : List A) → SetTo d good c order 0 xs xs
  set_start xs = record { long = refl; own = λ k t l o b. absurd (omega arith); others = λ t h. refl }

  module _ (e : each_once (length c.subnets) order ≡ true) where
    set_more : (n : ℕ) (xs ys zs : List A) → n < length order → SetTo d good c order n xs ys → length zs ≡ length ys
        → ((t : ℕ) → OwnsTransition c (get_or order n 0) t → t < length ys → get_or zs t d ≡ good t)
        → ((t : ℕ) → ¬ OwnsTransition c (get_or order n 0) t → get_or zs t d ≡ get_or ys t d) → SetTo d good c order (n + 1) xs zs
    set_more n xs ys zs l g long own others =
        record {
          long = long ∙ g.long;
          own = λ k t b o q. at k t o q (up_to n k b);
          others = λ t f. others t (f n (omega arith)) ∙ g.others t (λ k q. f k (omega arith));
        }
      where
        at : (k t : ℕ) → OwnsTransition c (get_or order k 0) t → t < length xs → (k < n) ⊎ (k ≡ n) → get_or zs t d ≡ good t
        at k t o q (inl b) = others t (not_again c order e n k t b l o) ∙ g.own k t b o q
        at k t o q (inr b) = own t (subst (λ (z : ℕ). OwnsTransition c (get_or order z 0) t) b o) (omega (arith, g.long))

    set_next : (n : ℕ) (xs ys : List A) → n < length order → SetTo d good c order n xs ys → (t : ℕ) → OwnsTransition c (get_or order n 0) t → get_or ys t d ≡ get_or xs t d
    set_next n xs ys l g t o = g.others t (λ k q w. not_again c order e n k t q l w o)

    set_all : (n : ℕ) (xs ys : List A) → Meets c → n ≡ length order → SetTo d good c order n xs ys → (t : ℕ) → t < length c.transitions → t < length xs → get_or ys t d ≡ good t
    set_all n xs ys m q g t l b = let w = owner_at c order e n t m q l in g.own w.0 t w.1 w.2 b

-- what the first n visits post or move at place p
abbrev partly : Round → Turn → (order : List ℕ) → (n direction p : ℕ) → ℕ
partly r j order n direction p = sum_to n (λ k. effect r (get_or order k 0) j direction p)

module _ (r : Round) (j : Turn) (order : List ℕ) where
  partly_none : (direction p : ℕ) → 0 ≡ partly r j order 0 direction p
  unfolding sum_to
  partly_none direction p = refl

  partly_more : (n direction p : ℕ) → partly r j order (n + 1) direction p ≡ partly r j order n direction p + effect r (get_or order n 0) j direction p
  unfolding sum_to
  partly_more n direction p = rw add-one refl

  partly_all : (n direction p : ℕ) → Meets j.card → Once (length j.card.subnets) order → n ≡ length order → partly r j order n direction p ≡ flow (flatten j.card) (amount r j) direction p
  partly_all n direction p m o e =
      ap (λ (k : ℕ). partly r j order k direction p) (e ∙ o.size)
      ∙ sum_once (length j.card.subnets) order (λ s. effect r s j direction p) o
      ∙ sym (effects_sum r j m direction p)

  grown_start : (way : ℕ) (a : List ℕ) → Grown a a (partly r j order 0 way)
  grown_start way a = moved_same a a nothing nothing nothing (partly r j order 0 way) (λ p. refl) (partly_none way) (moved_none a)

  moved_start : (a : List ℕ) → Moved a a (partly r j order 0 draws) (partly r j order 0 fills)
  moved_start a = moved_same a a nothing nothing (partly r j order 0 draws) (partly r j order 0 fills) (partly_none draws) (partly_none fills) (moved_none a)

  grown_more : (n way : ℕ) (a b e : List ℕ) → Grown a b (partly r j order n way) → Grown b e (effect r (get_or order n 0) j way) → Grown a e (partly r j order (n + 1) way)
  grown_more n way a b e g h = moved_join a b e nothing _ nothing _ nothing _ g h (λ p. refl) (λ p. partly_more n way p)

  moved_more : (n : ℕ) (a b e : List ℕ) → Moved a b (partly r j order n draws) (partly r j order n fills)
      → Moved b e (effect r (get_or order n 0) j draws) (effect r (get_or order n 0) j fills) → Moved a e (partly r j order (n + 1) draws) (partly r j order (n + 1) fills)
  moved_more n a b e g h = moved_join a b e _ _ _ _ _ _ g h (λ p. partly_more n draws p) (λ p. partly_more n fills p)

  module _ (n : ℕ) (m : Meets j.card) (o : each_once (length j.card.subnets) order ≡ true) (q : n ≡ length order) where
    grown_all : (way : ℕ) (a b : List ℕ) → Grown a b (partly r j order n way) → Grown a b (flow (flatten j.card) (amount r j) way)
    grown_all way a b h = moved_same a b nothing _ nothing _ (λ p. refl) (λ p. partly_all n way p m (once (length j.card.subnets) order o) q) h

    moved_all : (a b : List ℕ) → Moved a b (partly r j order n draws) (partly r j order n fills) → Moved a b (flow (flatten j.card) (amount r j) draws) (flow (flatten j.card) (amount r j) fills)
    moved_all a b h =
        moved_same a b _ _ _ _ (λ p. partly_all n draws p m (once (length j.card.subnets) order o) q) (λ p. partly_all n fills p m (once (length j.card.subnets) order o) q) h

-- What the first n visits do.
pub record PostsTo (j : Turn) (order : List ℕ) (n : ℕ) (a a' : Work) : Type 0 where
  pub only : a' ≡ with_standing a a'.standing
  pub owed : Grown a.standing.owed a'.standing.owed (partly posting j order n draws)
  pub due : Grown a.standing.due a'.standing.due (partly posting j order n fills)

pub record FindsTo (j : Turn) (order : List ℕ) (n : ℕ) (a a' : Work) : Type 0 where
  pub only : a' ≡ with_candidates a a'.claimed a'.candidates
  pub owed : Grown a.claimed.owed a'.claimed.owed (partly finding j order n draws)
  pub due : Grown a.claimed.due a'.claimed.due (partly finding j order n fills)
  pub candidates : SetTo false (candidate_on (flatten j.card) j.standing j.state j.row) j.card order n a.candidates a'.candidates

pub record MovesTo (j : Turn) (order : List ℕ) (n : ℕ) (a a' : Work) : Type 0 where
  pub only : a' ≡ with_moved a a'.state.markings a'.state.transfers
  pub markings : Moved a.state.markings a'.state.markings (partly moving j order n draws) (partly moving j order n fills)
  pub transfers : SetTo Idle (arrives_on (flatten j.card) j.found j.state j.row) j.card order n a.state.transfers a'.state.transfers

abbrev pub DoesTo : Round → Turn → (order : List ℕ) → (n : ℕ) → (a a' : Work) → Type 0
DoesTo posting j order n a a' = PostsTo j order n a a'
DoesTo finding j order n a a' = FindsTo j order n a a'
DoesTo moving j order n a a' = MovesTo j order n a a'

pub round_start : (r : Round) (j : Turn) (order : List ℕ) (a : Work) → DoesTo r j order 0 a a
round_start posting j order a =
    record { only = refl; owed = grown_start posting j order draws a.standing.owed; due = grown_start posting j order fills a.standing.due }
round_start finding j order a =
    record {
      only = refl;
      owed = grown_start finding j order draws a.claimed.owed;
      due = grown_start finding j order fills a.claimed.due;
      candidates = set_start false _ j.card order a.candidates;
    }
round_start moving j order a =
    record { only = refl; markings = moved_start moving j order a.state.markings; transfers = set_start Idle _ j.card order a.state.transfers }

pub round_all : (r : Round) (j : Turn) (order : List ℕ) (n : ℕ) (a a' : Work) → Meets j.card → each_once (length j.card.subnets) order ≡ true → n ≡ length order
    → DoesTo r j order n a a' → DoesAll r j a a'
round_all posting j order n a a' m o q h =
    record {
      only = h.only;
      owed = grown_all posting j order n m o q draws a.standing.owed a'.standing.owed h.owed;
      due = grown_all posting j order n m o q fills a.standing.due a'.standing.due h.due;
    }
round_all finding j order n a a' m o q h =
    record {
      only = h.only;
      owed = grown_all finding j order n m o q draws a.claimed.owed a'.claimed.owed h.owed;
      due = grown_all finding j order n m o q fills a.claimed.due a'.claimed.due h.due;
      noted = set_all false _ j.card order o n a.candidates a'.candidates m q h.candidates;
    }
round_all moving j order n a a' m o q h =
    record {
      only = h.only;
      markings = moved_all moving j order n m o q a.state.markings a'.state.markings h.markings;
      transfers = set_all Idle _ j.card order o n a.state.transfers a'.state.transfers m q h.transfers;
      long = h.transfers.long;
      others = λ t l. h.transfers.others t (λ k p w. absurd (omega (arith, owned_below j.card m (get_or order k 0) t (visited (length j.card.subnets) order k o (omega arith)) w)));
    }

-- EACH VISIT OF A ROUND IS IN ITS TURN, if each subnet is as the round begins: what the visits before it have done is none of its own
module _ (c : Card) (row : List ℕ) (before : NetState) (order : List ℕ) (o : each_once (length c.subnets) order ≡ true) (n : ℕ) (l : n < length order) (a b : Work) where
  abbrev s : ℕ
  s = get_or order n 0

  still_in_turn : (r : Round) → InTurn r s (turn_in c row a) before → DoesTo r (step_turn c before row) order n a b → InTurn r s (turn_in c row b) before
  still_in_turn posting h g =
      record {
        transfers = λ t w. ap (λ (k : Work). transfer k.state.transfers t) g.only ∙ h.transfers t w;
        degrees = λ q w. ap (λ (k : Work). get_or k.state.degrees q 0) g.only ∙ h.degrees q w;
        places = λ e q i w. absurd (let z : ◌≡◌ {A = ℕ} 0 1 = cc in omega arith);
        found = λ e t w. absurd (let z : ◌≡◌ {A = ℕ} 0 1 = cc in omega arith);
      }
  still_in_turn finding h g = subst (λ (k : Work). InTurn finding s (turn_in c row k) before) (sym g.only) (record {
    transfers = h.transfers;
    degrees = h.degrees;
    places = λ e q i w. let x = h.places e q i w in record { capacities = x.capacities; markings = x.markings; owed = x.owed; due = x.due };
    found = λ e t w. absurd (let z : ◌≡◌ {A = ℕ} 0 1 = cc in omega arith);
  })
  still_in_turn moving h g = subst (λ (k : Work). InTurn moving s (turn_in c row k) before) (sym g.only) (record {
    transfers = λ t w. set_next Idle _ c order o n a.state.transfers b.state.transfers l g.transfers t w ∙ h.transfers t w;
    degrees = h.degrees;
    places = λ e q i w. absurd (let z : ◌≡◌ {A = ℕ} 0 1 = cc in omega arith);
    found = h.found;
  })

  -- one visit more
  module _ (e : Work) where
    abbrev j : Turn
    j = step_turn c before row

    more : (r : Round) → DoesTo r j order n a b → Does r s j b e → SameElsewhere c s b e → DoesTo r j order (n + 1) a e
    more posting g d u =
        record {
          only = d.only ∙ ap (λ (k : Work). with_standing k e.standing) g.only;
          owed = grown_more posting j order n draws a.standing.owed b.standing.owed e.standing.owed g.owed d.owed;
          due = grown_more posting j order n fills a.standing.due b.standing.due e.standing.due g.due d.due;
        }
    more finding g d u =
        record {
          only = d.only ∙ ap (λ (k : Work). with_candidates k e.claimed e.candidates) g.only;
          owed = grown_more finding j order n draws a.claimed.owed b.claimed.owed e.claimed.owed g.owed d.owed;
          due = grown_more finding j order n fills a.claimed.due b.claimed.due e.claimed.due g.due d.due;
          candidates = set_more false _ c order o n a.candidates b.candidates e.candidates l g.candidates d.long d.own u.candidates;
        }
    more moving g d u =
        record {
          only = d.only ∙ ap (λ (k : Work). with_moved k e.state.markings e.state.transfers) g.only;
          markings = moved_more moving j order n a.state.markings b.state.markings e.state.markings g.markings d.markings;
          transfers = set_more Idle _ c order o n a.state.transfers b.state.transfers e.state.transfers l g.transfers d.long d.own u.transfers;
        }

pub round_more : (r : Round) (c : Card) (row order : List ℕ) (n : ℕ) (a b e : Work) (before : NetState) → Meets c → each_once (length c.subnets) order ≡ true → n < length order
    → ((s : ℕ) → s < length c.subnets → InTurn r s (turn_in c row a) before) → DoesTo r (step_turn c before row) order n a b
    → IsVisit r (get_or order n 0) c row b e → DoesTo r (step_turn c before row) order (n + 1) a e
round_more r c row order n a b e before m o l t g v =
    let below = visited (length c.subnets) order n o l in
    let f = v m below in
    let w = still_in_turn c row before order o n l a b r (t (get_or order n 0) below) g in
    more c row before order o n l a b e r g (f.right before w) f.elsewhere

-- After the first n visits, from where each subnet was in its turn, their part of the step is done.
abbrev pub IsRoundTo : Round → (order : List ℕ) → (n : ℕ) → Card → (row : List ℕ) → (a a' : Work) → Type 0
IsRoundTo r order n c row a a' =
    (before : NetState) → Meets c → each_once (length c.subnets) order ≡ true
    → ((s : ℕ) → s < length c.subnets → InTurn r s (turn_in c row a) before) → DoesTo r (step_turn c before row) order n a a'

pub round_to_more : (r : Round) (c : Card) (row order : List ℕ) (n : ℕ) (a b e : Work) → n < length order
    → IsRoundTo r order n c row a b → IsVisit r (get_or order n 0) c row b e → IsRoundTo r order (n + 1) c row a e
round_to_more r c row order n a b e l g v before m o t = round_more r c row order n a b e before m o l t (g before m o t) v
