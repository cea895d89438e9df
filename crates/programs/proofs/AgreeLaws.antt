-- Two replies and two states compared, the calls of a file, and both runners on them. Assumes nothing.
use Prim.Native.Nat.{ℕ, zero, suc, ◌+◌, ◌-◌, ◌*◌, ◌/◌, ◌≤◌, ◌<◌}
use mathlib.Core.Path.{◌≡◌, refl, sym, ap, ap₂, subst, ◌∙◌}
use mathlib.Core.Logic.{◌↔◌}
use mathlib.Core.Bool.{Bool, true, false, not, ◌&&◌, false≢true}
use mathlib.Core.List.{List, [], ◌∷◌, ◌++◌, map, head-eq_of_cons-eq, tail-eq_of_cons-eq}
use native.Mathlib.Omega.{arith}
use native.Mathlib.Nat.{mul-suc, div-eq_of_lt, add-div_left}
use native.Mathlib.Numerals.{add-one}
use lib.ListN.{length, take, drop, replicate, length-append}
use lib.Seq.{take_at, drop_at, drop-drop}
use Rattle.std.specs.Prelude as Std
use Rattle.std.specs.Prelude.{Some, None, MatchOption, Ok, Err}
use Rattle.std.proofs.Common.{rules}
use Rattle.std.specs.Bool.{Decides}
use Rattle.std.proofs.lemmas.Slice.Eq.{bytes_eq-Decides, slice_eq-Decides}
use lib.Pointwise.{pointwise}
use Rattle.runners.specs.contracts.TransferPartialEq.TheImpl as transfer_eq
use Rattle.runners.specs.declared.Transfer.{Transfer}
use Rattle.runners.specs.declared.Transfer.TheVariants.{Idle, Carrying}
use lib.Dec.{eqb}
use borrow.Author.Tests.{not-true, not-false}
use Rattle.std.proofs.lemmas.Bool.Decides.{Decides-and}
use Rattle.card.specs.Finite.{table}
use Rattle.card.specs.Bits.{bytes_for}
use Rattle.card.specs.Card.{Card}
use Rattle.card.specs.declared.Counts.{Counts}
use Rattle.hierarchy.specs.Judgement.{Judgement, accepted, judge, outcome_of, answer}
use Rattle.hierarchy.specs.Numbers.{CheckOutcome, number, check_outcome}
use Rattle.hierarchy.specs.declared.CardRefusal.{CardRefusal}
use Rattle.hierarchy.proofs.Accepted.{accepted_meets}
use Rattle.flattening.specs.Flattening.{flatten}
use Rattle.runners.proofs.Agreement.{demand_3}
use Rattle.runners.specs.Numbers.{RowOutcome, row_outcome}
use Rattle.runners.specs.State.{NetState}
use Rattle.runners.specs.Rows.{RowRead, degrees, no_row, Ask, row, row_of}
use Rattle.runners.specs.Calls.{view, fresh_lent, fresh_of, fresh_call, in_state, each_once, flat_ask, subnet_ask, flat_call, subnet_call}
use Rattle.runners.specs.Traces.{Call, trace, observed}
use Rattle.runners.specs.Answers.{IsRow, IsFresh}
use Rattle.programs.specs.Files.{file_row}
use Rattle.programs.proofs.TextLaws.{front_taken}
use Rattle.programs.proofs.FileLaws.{row_hollow, row_found, too_many}
use Rattle.programs.specs.Agreeing.{row_size, call_size, call_of, call_at, calls_of, Agrees, Alike, LeavesBoth, IsBoth, IsAgreed}
use Rattle.runners.specs.declared.State.{State as Lent}
use Rattle.programs.specs.declared.agree.Both.{Both}
use Rattle.runners.specs.declared.RowAnswer.{RowAnswer}

-- the answers no and yes
pub told_no : (P : Type 0) → ¬ P → (false ≡ true) ↔ P
told_no P n = (λ e. absurd (false≢true e), λ p. absurd (n p))

pub told_yes : (P : Type 0) → P → (true ≡ true) ↔ P
told_yes P p = (λ e. p, λ q. refl)

-- a test that fails
pub failed : (r : Bool) (P : Type 0) → (r ≡ true) ↔ P → not r ≡ true → ¬ P
failed r P d n p = false≢true (sym (not-true r n) ∙ d.1 p)

pub passed : (r : Bool) (P : Type 0) → (r ≡ true) ↔ P → not r ≡ false → P
passed r P d n = d.0 (not-false r n)

-- two states are equal where all that is seen of them is
transfer_decides : (x y : Transfer) → Decides ((transfer_eq.eq-value).it x y) (x ≡ y)
transfer_decides Idle Idle = search rules
transfer_decides Idle (Carrying d) = search rules
transfer_decides (Carrying c) Idle = search rules
transfer_decides (Carrying c) (Carrying d) = search rules

pub states_same : (a b : Lent) (ms ns : List ℕ) (ts us : List Transfer) (ds es : List ℕ) → ms ≡ (view a).markings → ns ≡ (view b).markings → ts ≡ (view a).transfers
    → us ≡ (view b).transfers → ds ≡ (view a).degrees → es ≡ (view b).degrees
    → (r : Bool) → r ≡ ((pointwise eqb ms ns && pointwise (transfer_eq.eq-value).it ts us) && pointwise eqb ds es) → (r ≡ true) ↔ (view a ≡ view b)
states_same a b ms ns ts us ds es em en et eu ed ee r er =
    let seen = pointwise eqb ms ns && pointwise (transfer_eq.eq-value).it ts us in
    let moved = Decides-and (pointwise eqb ms ns) (pointwise (transfer_eq.eq-value).it ts us) (bytes_eq-Decides ms ns) (slice_eq-Decides transfer_decides ts us _ refl) in
    let all = Decides-and seen (pointwise eqb ds es) moved (bytes_eq-Decides ds es) in (
      λ t.
          let h = all.0 (sym er ∙ t) in
          let m : (view a).markings ≡ (view b).markings = sym em ∙ h.0.0 ∙ en in
          let x : (view a).transfers ≡ (view b).transfers = sym et ∙ h.0.1 ∙ eu in
          let d : (view a).degrees ≡ (view b).degrees = sym ed ∙ h.1 ∙ ee in
          λ i. record { markings = m i; transfers = x i; degrees = d i },
      λ e.
          er
          ∙ all.1 (
            (em ∙ ap (λ (s : NetState). s.markings) e ∙ sym en, et ∙ ap (λ (s : NetState). s.transfers) e ∙ sym eu),
            ed ∙ ap (λ (s : NetState). s.degrees) e ∙ sym ee,
          ),
    )

-- call k of a file is cut out of it
pub call_at_is : (card file : List ℕ) (c : Card) (k size : ℕ) (x : Both) (b : Std.Option Both) → call_size c ≡ size → IsBoth card (call_of c (take (size * k + size - size * k) (drop (size * k) file))) x b → IsBoth card (call_at c file k) x b
call_at_is card file c k size x b e h =
    let i : size * k + size - size * k ≡ size = omega arith in
    rw e (rw i at h)

-- how many bytes a row has, and a call
pub row_size_is : (c : Card) (n g : ℕ) → c.signals ≡ g → n ≡ bytes_for (10 * g) → row_size c ≡ n
row_size_is c n g eg en = rw (eg, en)

pub size_is : (c : Card) (n g s : ℕ) → c.signals ≡ g → length c.subnets ≡ s → n ≡ bytes_for (10 * g) → call_size c ≡ n + s
size_is c n g s eg es en = rw (eg, es, en)

-- both runners answer a call
pub flat_asked : (card r : List ℕ) (x : Lent) (a : RowAnswer) → IsRow (flat_call card x r) a → IsRow (flat_ask in_state card x (row (degrees r))) a
unfolding flat_call
flat_asked card r x a h = h

pub subnet_asked : (card order r : List ℕ) (y : Lent) (b : RowAnswer) → IsRow (subnet_call card order y r) b → IsRow (subnet_ask in_state card order y (row (degrees r))) b
unfolding subnet_call
subnet_asked card order r y b h = h

module _ (card order : List ℕ) (k : Ask) (x : Both) (a b : RowAnswer) (ha : IsRow (flat_ask in_state card x.flat k) a) (hb : IsRow (subnet_ask in_state card order x.subnet k) b) where
  abbrev call : Call
  call = record { ask = k; order = order }

  pub replies_part : (r : Bool) → (r ≡ true) ↔ (row_outcome b.reply ≡ row_outcome a.reply) → not r ≡ true → ¬ Alike card x.flat x.subnet call
  replies_part r d n e = failed r _ d n (hb.reply ∙ ap (λ (p : RowOutcome × NetState). p.0) e ∙ sym ha.reply)

  pub states_part : (r : Bool) → (r ≡ true) ↔ (view b.state ≡ view a.state) → not r ≡ true → ¬ Alike card x.flat x.subnet call
  states_part r d n e = failed r _ d n (ap view hb.state ∙ ap (λ (p : RowOutcome × NetState). p.1) e ∙ ap view (sym ha.state))

  pub both_left : (r s : Bool) → (r ≡ true) ↔ (row_outcome b.reply ≡ row_outcome a.reply) → not r ≡ false → (s ≡ true) ↔ (view b.state ≡ view a.state) → not s ≡ false
      → LeavesBoth card call x (record { flat = a.state; subnet = b.state })
  both_left r s d n f m =
      record {
        alike = ap₂ (λ (p : RowOutcome) (t : NetState). (p, t)) (sym hb.reply ∙ passed r _ d n ∙ ha.reply) (ap view (sym hb.state) ∙ passed s _ f m ∙ ap view ha.state);
        flat = ha.state;
        subnet = hb.state;
      }

-- where there is no row, a row of too many degrees is answered so
few : (card : List ℕ) (c : Card) → judge card ≡ accepted c → c.signals ≤ 63
few card c e = (accepted_meets card c e).wellformed.few_signals

module _ (card order long : List ℕ) (x : Both) (m : 63 < length long) where
  flat_same : flat_ask in_state card x.flat (row (degrees long)) ≡ flat_ask in_state card x.flat (row no_row)
  flat_same = too_many (λ c. true) (judge card) x.flat long m (few card)

  subnet_same : subnet_ask in_state card order x.subnet (row (degrees long)) ≡ subnet_ask in_state card order x.subnet (row no_row)
  subnet_same = too_many (λ c. each_once (length c.subnets) order) (judge card) x.subnet long m (few card)

  alike_same : ◌≡◌ {A = Type 0} (Alike card x.flat x.subnet (record { ask = row (degrees long); order = order })) (Alike card x.flat x.subnet (record { ask = row no_row; order = order }))
  alike_same = ap₂ (λ (p q : RowOutcome × Lent). observed p ≡ observed q) subnet_same flat_same

  pub both_missing : (b : Std.Option Both) → IsBoth card (record { ask = row (degrees long); order = order }) x b → IsBoth card (record { ask = row no_row; order = order }) x b
  both_missing None n = subst (λ (T : Type 0). ¬ T) alike_same n
  both_missing (Some y) h =
      record {
        alike = subst (λ (T : Type 0). T) alike_same h.alike;
        flat = h.flat ∙ ap (λ (z : RowOutcome × Lent). z.1) flat_same;
        subnet = h.subnet ∙ ap (λ (z : RowOutcome × Lent). z.1) subnet_same;
      }

-- a call as the code reads it, and as it is in the file
module _ (card row_bytes order_bytes : List ℕ) (x : Both) (c : Card) (en : row_size c ≡ length row_bytes) (o : List ℕ)
    (eo : o ≡ order_bytes ++ replicate (32 - length order_bytes) 0) (b : Std.Option Both) where
  order_is : take (length order_bytes) o ≡ order_bytes
  order_is = front_taken 32 (length order_bytes) order_bytes o refl eo

  read_call : (q : RowRead) → row_of c row_bytes ≡ q → IsBoth card (record { ask = row q; order = take (length order_bytes) o }) x b → IsBoth card (call_of c (row_bytes ++ order_bytes)) x b
  read_call q e h =
      subst (λ (k : Call). IsBoth card k x b)
      (ap₂ (λ (r : RowRead) (z : List ℕ). record { ask = row r; order = z })
      (sym e ∙ ap (row_of c) (sym (take_at row_bytes order_bytes (row_size c) (sym en)))) (order_is ∙ sym (drop_at row_bytes order_bytes (row_size c) (sym en)))) h

  pub both_called : (r : Std.Option (List ℕ)) → r ≡ file_row (row_of c row_bytes) → (xs : List ℕ) → MatchOption r (63 < length xs) (λ ds. xs ≡ ds)
      → IsBoth card (record { ask = row (degrees xs); order = take (length order_bytes) o }) x b → IsBoth card (call_of c (row_bytes ++ order_bytes)) x b
  both_called None e xs m h = read_call no_row (row_hollow (row_of c row_bytes) (sym e)) (both_missing card (take (length order_bytes) o) xs x m b h)
  both_called (Some ds) e xs m h =
      read_call (degrees ds) (row_found (row_of c row_bytes) ds (sym e))
      (subst (λ (zs : List ℕ). IsBoth card (record { ask = row (degrees zs); order = take (length order_bytes) o }) x b) m h)

-- a table from one further on
table_after : {A : Type 0} (from n : ℕ) (f h : ℕ → A) → ((k : ℕ) → f (suc k) ≡ h k) → table (suc from) n f ≡ table from n h
unfolding table
table_after from zero f h e = refl
table_after from (suc n) f h e = ap₂ (λ a rest. a ∷ rest) (e from) (table_after (suc from) n f h e)

-- call after call
module _ (card : List ℕ) where
  agrees_none : (x y : Lent) → Agrees card x y []
  unfolding trace
  agrees_none x y = refl

  agrees_first : (x y : Lent) (k : Call) (ks : List Call)
      → Agrees card x y (k ∷ ks) ↔ (Alike card x y k × Agrees card (flat_ask in_state card x k.ask).1 (subnet_ask in_state card k.order y k.ask).1 ks)
  unfolding trace
  agrees_first x y k ks = (λ e. (head-eq_of_cons-eq e, tail-eq_of_cons-eq e), λ p. ap₂ (λ z zs. z ∷ zs) p.0 p.1)

  module _ (c : Card) where
    calls_none : (rest : List ℕ) → length rest < call_size c → calls_of c rest ≡ []
    unfolding table
    calls_none rest l = ap (λ (n : ℕ). table 0 n (call_at c rest)) (div-eq_of_lt l)

    calls_more : (u rest : List ℕ) → 0 < call_size c → length u ≡ call_size c → calls_of c (u ++ rest) ≡ call_of c u ∷ calls_of c rest
    unfolding table
    calls_more u rest p e =
        ap (λ (n : ℕ). table 0 n (call_at c (u ++ rest))) count
        ∙ ap₂ (λ (k : Call) (ks : List Call). k ∷ ks) (ap (call_of c) first) (table_after 0 (length rest / call_size c) (call_at c (u ++ rest)) (call_at c rest) (λ k. ap (λ (xs : List ℕ). call_of c (take (call_size c) xs)) (later k)))
      where
        count : length (u ++ rest) / call_size c ≡ suc (length rest / call_size c)
        count = ap (λ (n : ℕ). n / call_size c) (length-append u rest ∙ ap (λ (n : ℕ). n + length rest) e) ∙ add-div_left (length rest) p ∙ add-one (length rest / call_size c)

        first : take (call_size c) (drop (call_size c * 0) (u ++ rest)) ≡ u
        first = ap (λ (i : ℕ). take (call_size c) (drop i (u ++ rest))) (let z : call_size c * 0 ≡ 0 = omega arith in z) ∙ take_at u rest (call_size c) e

        later : (k : ℕ) → drop (call_size c * suc k) (u ++ rest) ≡ drop (call_size c * k) rest
        later k =
            ap (λ (i : ℕ). drop i (u ++ rest)) (let z : call_size c * suc k ≡ call_size c + call_size c * k = simp mul-suc (omega arith) in z)
            ∙ sym (drop-drop (call_size c * k) (call_size c) (u ++ rest)) ∙ ap (drop (call_size c * k)) (drop_at u rest (call_size c) e)

    -- whether all agree is now a question of the calls that are left
    module _ (file : List ℕ) (first : Lent) where
      abbrev pub Going : (rest : List ℕ) (x : Both) → Type 0
      Going rest x = Agrees card x.flat x.subnet (calls_of c rest) ↔ Agrees card first first (calls_of c file)

      module _ (rest : List ℕ) (x : Both) (h : Going rest x) where
        pub going_end : length rest < call_size c → (true ≡ true) ↔ Agrees card first first (calls_of c file)
        going_end l = told_yes _ (h.0 (rw (calls_none rest l) (agrees_none x.flat x.subnet)))

        module _ (u later : List ℕ) (e : rest ≡ u ++ later) (p : 0 < call_size c) (long : length u ≡ call_size c) where
          one : Agrees card x.flat x.subnet (calls_of c rest) ↔ (Alike card x.flat x.subnet (call_of c u) × Agrees card (flat_ask in_state card x.flat (call_of c u).ask).1 (subnet_ask in_state card (call_of c u).order x.subnet (call_of c u).ask).1 (calls_of c later))
          one = rw (e, calls_more u later p long) (agrees_first x.flat x.subnet (call_of c u) (calls_of c later))

          pub going_no : ¬ Alike card x.flat x.subnet (call_of c u) → (false ≡ true) ↔ Agrees card first first (calls_of c file)
          going_no n = told_no _ (λ q. n (one.0 (h.1 q)).0)

          pub going_more : (y : Both) → LeavesBoth card (call_of c u) x y → Going later y
          going_more y b = rw (b.flat, b.subnet) (λ q. h.0 (one.1 (b.alike, q)), λ q. (one.0 (h.1 q)).1)

-- from fresh states
pub agreed_never : (card file : List ℕ) (r : Bool) → ((c : Card) → judge card ≡ accepted c → ⊥) → r ≡ false → IsAgreed card file r
agreed_never card file r never e = record { turned_back = λ n i q. e; exact = λ c q. absurd (never c q); always = λ c q o. absurd (never c q) }

-- a card that the check refuses, or the call for a fresh state
pub check_refused : (card : List ℕ) (e : CardRefusal) → check_outcome (Err e) ≡ answer card → (c : Card) → judge card ≡ accepted c → ⊥
check_refused card e h c q =
    let z : CheckOutcome.refused (number e.fault) e.bit ≡ outcome_of (accepted c) = h ∙ ap outcome_of q in
    let y : ◌≡◌ {A = ℕ} 0 1 = cc in
    omega arith

pub fresh_refused : (card : List ℕ) (e : CardRefusal) → IsFresh (fresh_call card) (Err e) → (c : Card) → judge card ≡ accepted c → ⊥
unfolding fresh_call
fresh_refused card e h c q =
    let z : CheckOutcome.refused (number e.fault) e.bit ≡ outcome_of (accepted c) = sym h.answer ∙ ap (λ (j : Judgement). (fresh_of j).0) q in
    let y : ◌≡◌ {A = ℕ} 0 1 = cc in
    omega arith

-- the call for a fresh state has the check's answer
pub fresh_answer : (card : List ℕ) → (fresh_call card).0 ≡ answer card
unfolding fresh_call
fresh_answer card = go (judge card)
  where
    go : (j : Judgement) → (fresh_of j).0 ≡ outcome_of j
    go (accepted c) = refl
    go (Judgement.refused n at) = refl

module _ (card file : List ℕ) (k : Counts) (l : Lent) (hk : check_outcome (Ok k) ≡ answer card) (hl : IsFresh (fresh_call card) (Ok l)) where
  counts : (c : Card) → judge card ≡ accepted c → k.subnets ≡ length c.subnets
  counts c q =
      let z : check_outcome (Ok k) ≡ outcome_of (accepted c) = hk ∙ ap outcome_of q in
      cc

  accepted_here : (n at : ℕ) → judge card ≡ Judgement.refused n at → ⊥
  accepted_here n at q =
      let z : check_outcome (Ok k) ≡ outcome_of (Judgement.refused n at) = hk ∙ ap outcome_of q in
      let y : ◌≡◌ {A = ℕ} 0 1 = cc in
      omega arith

  state_is : (c : Card) → judge card ≡ accepted c → l ≡ fresh_lent (flatten c)
  unfolding fresh_call
  state_is c q = hl.state ∙ ap (λ (j : Judgement). (fresh_of j).1) q

  signals_are : (c : Card) → judge card ≡ accepted c → l.signals ≡ c.signals
  unfolding flatten
  signals_are c q = ap (λ (x : Lent). x.signals) (state_is c q)

  -- no card has such counts
  pub counts_never : ((1 ≤ k.subnets) → (k.subnets ≤ 32) → (l.signals ≤ 63) → ⊥) → (c : Card) → judge card ≡ accepted c → ⊥
  counts_never n c q =
      let w = (accepted_meets card c q).wellformed in
      n (omega (arith, counts c q, w.some_subnets)) (omega (arith, counts c q, w.few_subnets)) (omega (arith, signals_are c q, w.few_signals))

  pub agreed_is : (r : Bool) → ((c : Card) → c.signals ≡ l.signals → length c.subnets ≡ k.subnets → (r ≡ true) ↔ Agrees card l l (calls_of c file)) → IsAgreed card file r
  agreed_is r d = record { turned_back = λ m i q. absurd (accepted_here m i q); exact = exact; always = λ c q o. (exact c q).1 (ap (λ xs. map observed xs) (demand_3.agree card c (calls_of c file) q o).runners) }
    where
      exact : (c : Card) → judge card ≡ accepted c → (r ≡ true) ↔ Agrees card (fresh_call card).1 (fresh_call card).1 (calls_of c file)
      exact c q = subst (λ (x : Lent). (r ≡ true) ↔ Agrees card x x (calls_of c file)) hl.state (d c (sym (signals_are c q)) (sym (counts c q)))
