-- What the functions over a block of input do with a run and a buffer. Assumes nothing.
use Prim.Native.Nat.{ℕ, ◌+◌, ◌-◌, ◌*◌, ◌/◌, ◌≤◌, ◌<◌}
use mathlib.Core.Path.{◌≡◌, refl, sym, ap, ap₂, subst, ◌∙◌}
use Rattle.std.specs.Prelude.{Result, Ok, Err, IfErr}
use Rattle.std.specs.Result.{IsErrAnd, MatchResult}
use mathlib.Core.Bool.{true, cond}
use mathlib.Core.List.{List, [], ◌∷◌, ◌++◌, append_assoc, append-nil}
use native.Mathlib.Omega.{arith}
use lib.ListN.{length, take, drop, length-append}
use lib.Seq.{take_all, take_at, drop_at, drop-drop}
use lib.Dec.{eqb}
use borrow.Author.Tests.{le-leb, ne_eqb}
use borrow.Rule.Slice.PartMut.{put_mid}
use Rattle.card.specs.Bits.{bytes_for}
use Rattle.card.specs.Spelling.{put_into}
use Rattle.card.specs.Card.{Card}
use Rattle.hierarchy.specs.Numbers.{CheckOutcome, number}
use Rattle.hierarchy.specs.Judgement.{Judgement, accepted, refused, judge}
use Rattle.hierarchy.specs.declared.CardRefusal.{CardRefusal}
use Rattle.runners.specs.Numbers.{RowOutcome, row_outcome}
use Rattle.runners.specs.Calls.{view, fresh_of, fresh_call}
use Rattle.runners.specs.Answers.{IsRow, IsFresh}
use Rattle.runners.specs.Nets.{flat_judged}
use Rattle.runners.specs.declared.State.{State as Lent}
use Rattle.runners.specs.declared.RowAnswer.{RowAnswer}
use Rattle.card.specs.Text.{decimal}
use Rattle.programs.specs.Text.{line}
use Rattle.programs.specs.Programs.{reply_words, card_line, runs, run_program}
use Rattle.programs.specs.Feeds.{file_call}
use Rattle.programs.specs.Lines.{longest}
use Rattle.programs.specs.Runs.{Run, FileCall, following, answered, keeping, feed, fed_block, last_line, row_size_in, first_text, is_accepted, run_in, size_in, call_in, IsTaken, IsTurn, IsTurnedBack}
use Rattle.programs.specs.declared.blocks.CardRun.{CardRun}
use Rattle.programs.proofs.RunLaws.{feed_append, feed_kept, feed_row, block_tight, block_over}

-- a row's line, and the run in front of the next row
pub row_answered : (call : FileCall) (r : Run) (a : RowAnswer) (text : List ℕ) (m : ℕ) → IsRow (call r.state r.left) a
    → text ≡ line (decimal r.number ∷ reply_words (row_outcome a.reply) (view a.state)) → m ≡ following r.number
    → (text ≡ (answered call r).0) × ◌≡◌ {A = Run} (record { number = m; state = a.state; left = [] }) (answered call r).1
row_answered call r a text m w e i = (
  e ∙ ap₂ (λ (o : RowOutcome) (s : Lent). line (decimal r.number ∷ reply_words o (view s))) w.reply w.state,
  ap₂ (λ (k : ℕ) (s : Lent). record { number = k; state = s; left = [] }) i w.state,
)

-- a byte behind those of a row that is not whole
pub byte_kept : (size b : ℕ) (left now : List ℕ) → length left < size → size ≤ 79 → now ≡ take 79 (left ++ b ∷ []) → now ≡ left ++ b ∷ []
byte_kept size b left now l u e = e ∙ take_all 79 (left ++ b ∷ []) (omega (arith, length-append left (b ∷ []), l, u))

-- some bytes of the block on
pub record Going (size : ℕ) (call : FileCall) (first : Run) (bytes before : List ℕ) (n : ℕ) (r : Run) (after : List ℕ) : Type 0 where
  pub lines : after ≡ (feed size call first bytes).0 ++ drop n before
  pub count : n ≡ length (feed size call first bytes).0
  pub run : r ≡ (feed size call first bytes).1

module _ (size : ℕ) (call : FileCall) (first : Run) (before : List ℕ) where
  pub going_start : Going size call first [] before 0 first before
  unfolding feed
  going_start = record { lines = refl; count = refl; run = refl }

  -- MORE BYTES, and the lines that they make behind those that are there
  module _ (bytes : List ℕ) (n : ℕ) (r : Run) (after : List ℕ) (g : Going size call first bytes before n r after) (later : List ℕ) where
    joined : feed size call first (bytes ++ later) ≡ ((feed size call first bytes).0 ++ (feed size call r later).0, (feed size call r later).1)
    joined = feed_append size call first bytes later ∙ ap (λ (z : Run). ((feed size call first bytes).0 ++ (feed size call z later).0, (feed size call z later).1)) (sym g.run)

    pub going_more : (text : List ℕ) (q : Run) (end k : ℕ) → text ≡ (feed size call r later).0 → q ≡ (feed size call r later).1 → end ≡ n + length text → k ≡ end - n
        → Going size call first (bytes ++ later) before end q (put_mid n k after text)
    going_more text q end k e i s here =
        let u = (feed size call first bytes).0 in
        let y : (feed size call first (bytes ++ later)).0 ≡ u ++ text = ap (λ (z : List ℕ × Run). z.0) joined ∙ ap (λ (w : List ℕ). u ++ w) (sym e) in
        let front : take n after ≡ u = ap (take n) g.lines ∙ take_at u (drop n before) n (sym g.count) in
        let behind : drop k (drop n after) ≡ drop end before = ap (λ (w : List ℕ). drop k (drop n w)) g.lines ∙ ap (drop k) (drop_at u (drop n before) n (sym g.count)) ∙ drop-drop k n before ∙ ap (λ (m : ℕ). drop m before) (let z : n + k ≡ end = omega (arith, s, here) in z) in
        record {
          lines = ap₂ (λ (v w : List ℕ). v ++ (text ++ w)) front behind ∙ sym (append_assoc u text (drop end before)) ∙ ap (λ (w : List ℕ). w ++ drop end before) (sym y);
          count = s ∙ ap (λ (m : ℕ). m + length text) g.count ∙ sym (length-append u text) ∙ ap (λ (w : List ℕ). length w) (sym y);
          run = i ∙ sym (ap (λ (z : List ℕ × Run). z.1) joined);
        }

  module _ (bytes : List ℕ) (n : ℕ) (r : Run) (after : List ℕ) (g : Going size call first bytes before n r after) (b : ℕ) where
    pub going_kept : (now : List ℕ) → now ≡ r.left ++ b ∷ [] → length r.left + 1 < size
        → Going size call first (bytes ++ b ∷ []) before n (record { number = r.number; state = r.state; left = now }) after
    going_kept now e l =
        let x : feed size call first (bytes ++ b ∷ []) ≡ ((feed size call first bytes).0 ++ [], keeping r (b ∷ [])) = joined bytes n r after g (b ∷ []) ∙ ap (λ (z : List ℕ × Run). ((feed size call first bytes).0 ++ z.0, z.1)) (feed_kept size call r (b ∷ []) l) in
        let y : (feed size call first (bytes ++ b ∷ [])).0 ≡ (feed size call first bytes).0 = ap (λ (z : List ℕ × Run). z.0) x ∙ append-nil (feed size call first bytes).0 in
        record {
          lines = g.lines ∙ ap (λ (w : List ℕ). w ++ drop n before) (sym y);
          count = g.count ∙ ap (λ (w : List ℕ). length w) (sym y);
          run = ap (λ (xs : List ℕ). record { number = r.number; state = r.state; left = xs }) e ∙ sym (ap (λ (z : List ℕ × Run). z.1) x);
        }

    pub going_row : (now text : List ℕ) (q : Run) (k end : ℕ) → now ≡ r.left ++ b ∷ [] → text ≡ (answered call (record { number = r.number; state = r.state; left = now })).0
        → q ≡ (answered call (record { number = r.number; state = r.state; left = now })).1 → length r.left + 1 ≡ size
        → end ≡ n + length text → k ≡ end - n → Going size call first (bytes ++ b ∷ []) before end q (put_mid n k after text)
    going_row now text q k end kept e i l s here =
        let x = feed_row size call r (b ∷ []) (omega arith) l in
        let f : List ℕ → List ℕ × Run = λ xs. answered call (record { number = r.number; state = r.state; left = xs }) in
        going_more bytes n r after g (b ∷ []) text q end k (e ∙ ap (λ (xs : List ℕ). (f xs).0) kept ∙ sym (ap (λ (z : List ℕ × Run). z.0) x)) (i ∙ ap (λ (xs : List ℕ). (f xs).1) kept ∙ sym (ap (λ (z : List ℕ × Run). z.1) x)) s here

  pub going_end : (block : List ℕ) (n : ℕ) (r : CardRun) (after : List ℕ) → Going size call first block before n (run_in r) after → n ≤ length before
      → IsTurn (feed size call first block) before n r after
  unfolding put_into
  going_end block n r after g l =
      let text = (feed size call first block).0 in
      let fits : length text ≤ length before = omega (arith, l, g.count) in
      record {
        fits = fits;
        length = g.count;
        lines = g.lines ∙ ap (λ (k : ℕ). text ++ drop k before) g.count ∙ sym (rw (le-leb (length text) (length before) fits) refl);
        run = g.run;
      }

-- the tests in front of a block
turn_none : (x : List ℕ × Run) (r : Run) (out : List ℕ) → x ≡ ([], r) → IsTaken x out 0 r out
unfolding put_into
turn_none x r out e =
    subst (λ (z : List ℕ × Run). IsTaken z out 0 r out) (sym e)
    (record { fits = omega arith; length = refl; lines = sym (rw (le-leb 0 (length out) (omega arith)) refl); run = refl })

module _ (r : CardRun) (block out : List ℕ) (n size : ℕ) (e : n ≡ r.net.signals) (i : size ≡ bytes_for (10 * n)) where
  abbrev fed : List ℕ × Run
  fed = fed_block (size_in r) (call_in r) (length out) (run_in r) block

  same_size : size ≡ size_in r
  same_size = i ∙ ap (λ (k : ℕ). bytes_for (10 * k)) e

  pub turn_tight : length out / longest < length block → IsTurn fed out 0 r out
  turn_tight l = turn_none fed (run_in r) out (block_tight (size_in r) (call_in r) (length out) (run_in r) block (omega (arith, l)))

  pub turn_over : size ≤ length r.left → IsTurn fed out 0 r out
  turn_over l = turn_none fed (run_in r) out (block_over (size_in r) (call_in r) (length out) (run_in r) block (omega (arith, sym same_size, l)))

-- a block on what a card was loaded to: on an accepted card's net it is the run's on that net, and of a refused one nothing is taken
pub turn_on : (j : Judgement) (c : Card) (k : CardRun) (r : Run) (block before : List ℕ) (n : ℕ) (q : CardRun) (s : Run) (after : List ℕ) → j ≡ accepted c → k.net ≡ c → run_in k ≡ r → s ≡ run_in q
    → IsTurn (fed_block (size_in k) (call_in k) (length before) (run_in k) block) before n q after
    → IsTaken (fed_block (row_size_in j) (file_call j) (length before) r block) before n s after
turn_on j c k r block before n q s after e i u v t =
    subst (λ (z : Run). IsTaken (fed_block (row_size_in j) (file_call j) (length before) r block) before n z after) (sym v)
    (subst (λ (z : Run). IsTaken (fed_block (row_size_in j) (file_call j) (length before) z block) before n (run_in q) after) u
    (subst (λ (z : Judgement). IsTaken (fed_block (row_size_in z) (file_call z) (length before) (run_in k) block) before n (run_in q) after) (sym (e ∙ ap accepted (sym i))) t))

pub turn_refused : (j : Judgement) (n at : ℕ) (r : Run) (block out : List ℕ) → j ≡ refused n at → IsTaken (fed_block (row_size_in j) (file_call j) (length out) r block) out 0 r out
turn_refused j n at r block out e = turn_none _ r out (block_over (row_size_in j) (file_call j) (length out) r block (omega (arith, ap row_size_in e)))

-- the end of the input
pub last_none : (call : FileCall) (r : Run) (text : List ℕ) → r.left ≡ [] → text ≡ [] → text ≡ last_line call r
unfolding last_line
last_none call r text e h = h ∙ sym (ap (λ (k : ℕ). cond (eqb k 0) [] (answered call r).0) (ap length e))

pub last_row : (call : FileCall) (r : Run) (a : RowAnswer) (text : List ℕ) → (r.left ≡ [] → ⊥) → IsRow (call r.state r.left) a
    → text ≡ line (decimal r.number ∷ reply_words (row_outcome a.reply) (view a.state)) → text ≡ last_line call r
unfolding last_line
last_row call r a text some w h =
    rw (ne_eqb (length r.left) 0 (λ e. some (empty r.left e))) (row_answered call r a text (following r.number) w h refl).0
  where
    empty : (xs : List ℕ) → length xs ≡ 0 → xs ≡ []
    empty [] e = refl
    empty (x ∷ xs) e = absurd (omega (arith, e))

-- a card's refusal, from the call for the fresh state and from that for the flat card's net
pub fresh_refused : (card : List ℕ) (e : CardRefusal) → IsFresh (fresh_call card) (Err e) → judge card ≡ refused (number e.fault) e.bit
unfolding fresh_call
fresh_refused card e h = go (judge card) h.answer
  where
    go : (j : Judgement) → (fresh_of j).0 ≡ CheckOutcome.refused (number e.fault) e.bit → j ≡ refused (number e.fault) e.bit
    go (accepted c) q = cc
    go (refused n k) q = ap₂ refused (let u : n ≡ number e.fault = cc in u) (let v : k ≡ e.bit = cc in v)

pub flat_refused : (j : Judgement) (n k : ℕ) → flat_judged j ≡ refused n k → j ≡ refused n k
flat_refused (accepted c) n k q = cc
flat_refused (refused m i) n k q = q

-- of a refused card its line, and all that is written
pub turned_back : {A : Type 0} (card : List ℕ) (e : CardRefusal) (r : Result A (List ℕ)) → judge card ≡ refused (number e.fault) e.bit
    → IsErrAnd r (λ text. text ≡ card_line (number e.fault) e.bit) → IfErr r (IsTurnedBack card)
unfolding run_program
turned_back card e (Ok a) q h = tt
turned_back card e (Err text) q h =
    record {
      refused = ap is_accepted q;
      text = h ∙ sym (ap first_text q);
      program = λ rows. h ∙ sym (ap (λ (j : Judgement). runs j rows) q);
    }

module _ {A : Type 0} (card : List ℕ) (x : Result A CardRefusal) (y : Result A (List ℕ)) (h : MatchResult x (λ v. y ≡ Ok v) (λ e. IsErrAnd y (λ text. text ≡ card_line (number e.fault) e.bit))) where
  -- an answer whose refusal is turned into its line
  pub turned_ok : (v : A) → y ≡ Ok v → x ≡ Ok v
  turned_ok v e = go x h
    where
      go : (z : Result A CardRefusal) → MatchResult z (λ v. y ≡ Ok v) (λ e. IsErrAnd y (λ text. text ≡ card_line (number e.fault) e.bit)) → z ≡ Ok v
      go (Ok u) q = let w = sym q ∙ e in let k : u ≡ v = cc in ap (λ z. Ok z) k
      go (Err r) q = absurd (subst (λ (z : Result A (List ℕ)). IsErrAnd z (λ text. text ≡ card_line (number r.fault) r.bit)) e q)

  pub turned_err : {B : Type 0} (text : List ℕ) (r : Result B (List ℕ)) → ((e : CardRefusal) → x ≡ Err e → judge card ≡ refused (number e.fault) e.bit)
      → y ≡ Err text → IsErrAnd r (λ t. t ≡ text) → IfErr r (IsTurnedBack card)
  turned_err text r j e g = go x refl h
    where
      line : (e : CardRefusal) → text ≡ card_line (number e.fault) e.bit → IsErrAnd r (λ t. t ≡ card_line (number e.fault) e.bit)
      line e q = subst (λ (u : List ℕ). IsErrAnd r (λ t. t ≡ u)) q g

      go : (z : Result A CardRefusal) → x ≡ z → MatchResult z (λ v. y ≡ Ok v) (λ e. IsErrAnd y (λ text. text ≡ card_line (number e.fault) e.bit)) → IfErr r (IsTurnedBack card)
      go (Ok u) p q = absurd (let w = sym e ∙ q in let z : ◌≡◌ {A = ℕ} 0 1 = cc in omega arith)
      go (Err f) p q = turned_back card f r (j f p) (line f (subst (λ (z : Result A (List ℕ)). IsErrAnd z (λ text. text ≡ card_line (number f.fault) f.bit)) e q))

-- an accepted card is begun on
pub begun : (j : Judgement) (c : Card) → flat_judged j ≡ accepted c → is_accepted j ≡ true
begun (accepted d) c q = refl
begun (refused n k) c q = cc
