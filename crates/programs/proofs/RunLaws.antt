-- A run block by block: what is written over any cutting of the input is what `run_program` says. Assumes nothing.
use Prim.Native.Nat.{ℕ, suc, ◌+◌, ◌*◌, ◌≤◌, ◌<◌}
use mathlib.Core.Path.{◌≡◌, refl, sym, ap, ap₂, ◌∙◌}
use mathlib.Core.Bool.{Bool, true, false, cond, ◌&&◌}
use mathlib.Core.List.{List, [], ◌∷◌, ◌++◌, map, append_assoc, append-nil}
use mathlib.Core.List
use native.Mathlib.Omega.{arith}
use lib.ListN.{length, length-append, drop_of_length-le}
use lib.Arith.{lt_of_le-ne}
use lib.Seq.{take_all, take_at, drop_at}
use lib.Dec.{eqb, leb}
use borrow.Author.Tests.{eq-eqb, ne_eqb, lt-ltb, le-ltb, le-leb, lt-leb, eqb-true, eqb-false}
use Rattle.card.specs.Finite.{All}
use Rattle.card.specs.Card.{Card}
use Rattle.hierarchy.specs.Judgement.{Judgement, accepted, refused, judge}
use Rattle.hierarchy.proofs.Accepted.{accepted_meets}
use Rattle.flattening.specs.Flattening.{flatten}
use Rattle.runners.specs.Rows.{pieces}
use Rattle.runners.specs.Calls.{view}
use Rattle.runners.specs.Nets.{flat_judged}
use Rattle.runners.specs.Traces.{trace, observed}
use Rattle.runners.specs.declared.State.{State as Lent}
use Rattle.runners.proofs.PieceLaws.{pieces_none, pieces_more}
use Rattle.card.specs.Text.{decimal}
use Rattle.programs.specs.Text.{line}
use Rattle.programs.specs.Programs.{lines, reply_words, card_line, runs, run_program}
use Rattle.programs.specs.Feeds.{file_call}
use Rattle.programs.specs.Lines.{longest}
use Rattle.programs.specs.Runs.{Run, last_number, following, FileCall, answered, keeping, taken, feed, fed_block, last_line, over_blocks, row_size_in, first_text, first_run, run_from, Fitting}
use Rattle.programs.proofs.FeedLaws.{fed_lines_is}

keeping_none : (r : Run) → keeping r [] ≡ r
keeping_none r = ap (λ (xs : List ℕ). record { number = r.number; state = r.state; left = xs }) (append-nil r.left)

keeping_more : (r : Run) (a b : List ℕ) → keeping (keeping r a) b ≡ keeping r (a ++ b)
keeping_more r a b = ap (λ (xs : List ℕ). record { number = r.number; state = r.state; left = xs }) (append_assoc r.left a b)

module _ (size : ℕ) (call : FileCall) where
  -- bytes after bytes
  pub feed_append : (r : Run) (a b : List ℕ)
      → feed size call r (a ++ b) ≡ ((feed size call r a).0 ++ (feed size call (feed size call r a).1 b).0, (feed size call (feed size call r a).1 b).1)
  unfolding feed
  feed_append r [] b = refl
  feed_append r (c ∷ a) b =
      let x = taken size call r c in
      let y = feed size call x.1 a in
      let z = feed size call y.1 b in
      ap (λ (w : List ℕ × Run). (x.0 ++ w.0, w.1)) (feed_append x.1 a b) ∙ ap (λ (w : List ℕ). (w, z.1)) (sym (append_assoc x.0 y.0 z.0))

  taken_kept : (r : Run) (b : ℕ) → (length r.left + 1 ≡ size → ⊥) → taken size call r b ≡ ([], keeping r (b ∷ []))
  taken_kept r b n = rw (ne_eqb (length (r.left ++ (b ∷ []))) size (λ e. n (omega (arith, e, length-append r.left (b ∷ []))))) refl

  taken_row : (r : Run) (b : ℕ) → length r.left + 1 ≡ size → taken size call r b ≡ answered call (keeping r (b ∷ []))
  taken_row r b e = rw (eq-eqb (length (r.left ++ (b ∷ []))) size (omega (arith, e, length-append r.left (b ∷ [])))) refl

  -- bytes that make no row whole are kept
  pub feed_kept : (r : Run) (bytes : List ℕ) → length r.left + length bytes < size → feed size call r bytes ≡ ([], keeping r bytes)
  unfolding feed
  feed_kept r [] l = ap (λ (k : Run). ([], k)) (sym (keeping_none r))
  feed_kept r (b ∷ bytes) l =
      let k = keeping r (b ∷ []) in
      ap (λ (x : List ℕ × Run). (x.0 ++ (feed size call x.1 bytes).0, (feed size call x.1 bytes).1)) (taken_kept r b (λ e. omega (arith, e, l)))
      ∙ feed_kept k bytes (omega (arith, l, length-append r.left (b ∷ [])))
      ∙ ap (λ (q : Run). ([], q)) (keeping_more r (b ∷ []) bytes)

  -- bytes of which the last makes the row whole
  pub feed_row : (r : Run) (bytes : List ℕ) → 0 < length bytes → length r.left + length bytes ≡ size → feed size call r bytes ≡ answered call (keeping r bytes)
  unfolding feed
  feed_row r [] p e = absurd (omega (arith, p))
  feed_row r (b ∷ []) p e =
      ap (λ (x : List ℕ × Run). (x.0 ++ [], x.1)) (taken_row r b (omega (arith, e)))
      ∙ ap (λ (w : List ℕ). (w, (answered call (keeping r (b ∷ []))).1)) (append-nil (answered call (keeping r (b ∷ []))).0)
  feed_row r (b ∷ c ∷ bytes) p e =
      let k = keeping r (b ∷ []) in
      ap (λ (x : List ℕ × Run). (x.0 ++ (feed size call x.1 (c ∷ bytes)).0, (feed size call x.1 (c ∷ bytes)).1)) (taken_kept r b (λ i. omega (arith, e, i)))
      ∙ feed_row k (c ∷ bytes) (omega arith) (omega (arith, e, length-append r.left (b ∷ [])))
      ∙ ap (answered call) (keeping_more r (b ∷ []) (c ∷ bytes))

  abbrev lines_of : Run → (bytes : List ℕ) → List ℕ
  lines_of r bytes = lines r.number (map observed (trace call r.state (pieces size (r.left ++ bytes))))

  abbrev written : Run → (bytes : List ℕ) → List ℕ
  written r bytes =
      let x = feed size call r bytes in
      x.0 ++ last_line call x.1

  -- a row that is all there, or the short last one, and the rows behind it
  lines_row : (n : ℕ) (s : Lent) (row rest : List ℕ)
      → lines n (map observed (trace call s (row ∷ pieces size rest)))
      ≡ line (decimal n ∷ reply_words (call s row).0 (view (call s row).1)) ++ lines (suc n) (map observed (trace call (call s row).1 (pieces size rest)))
  unfolding lines trace
  lines_row n s row rest = refl

  lines_none : (n : ℕ) (s : Lent) → 0 < size → lines n (map observed (trace call s (pieces size []))) ≡ []
  unfolding lines trace
  lines_none n s p = rw (pieces_none size p) refl

  -- the end of the input
  last_lines : (n : ℕ) (s : Lent) (left : List ℕ) → length left < size
      → last_line call (record { number = n; state = s; left = left }) ≡ lines n (map observed (trace call s (pieces size left)))
  unfolding last_line
  last_lines n s [] l = sym (lines_none n s (omega (arith, l)))
  last_lines n s (b ∷ left) l =
      let row = b ∷ left in
      let only : pieces size row ≡ row ∷ pieces size [] = pieces_more size row (omega (arith, l)) (omega arith) ∙ ap₂ (λ (x y : List ℕ). x ∷ pieces size y) (take_all size row (omega (arith, l))) (drop_of_length-le row (let few : length row ≤ size = omega (arith, l) in few)) in
      let some : eqb (length row) 0 ≡ false = ne_eqb (length row) 0 (λ e. omega (arith, e)) in
      ap (λ (t : Bool). cond t [] (answered call (record { number = n; state = s; left = row })).0) some
      ∙ sym (ap (λ (ps : List (List ℕ)). lines n (map observed (trace call s ps))) only ∙ lines_row n s row [] ∙ ap (λ (w : List ℕ). (answered call (record { number = n; state = s; left = row })).0 ++ w) (lines_none (suc n) (call s row).1 (omega (arith, l)))
      ∙ append-nil (answered call (record { number = n; state = s; left = row })).0)

  -- THE LINES OF AN INPUT, from a run somewhere in it
  pub written_lines : (r : Run) (bytes : List ℕ) → length r.left < size → r.number + length bytes ≤ last_number → written r bytes ≡ lines_of r bytes
  unfolding feed
  written_lines r [] l f =
      last_lines r.number r.state r.left l ∙ sym (ap (λ (xs : List ℕ). lines r.number (map observed (trace call r.state (pieces size xs)))) (append-nil r.left))
  written_lines r (b ∷ bytes) l f = go (eqb (length r.left + 1) size) refl (λ q m g. written_lines q bytes m g)
    where
      k : Run
      k = keeping r (b ∷ [])

      both : List ℕ × Run → List ℕ
      both x = (x.0 ++ (feed size call x.1 bytes).0) ++ last_line call (feed size call x.1 bytes).1

      joined : (r.left ++ (b ∷ [])) ++ bytes ≡ r.left ++ (b ∷ bytes)
      joined = append_assoc r.left (b ∷ []) bytes

      go : (t : Bool) → eqb (length r.left + 1) size ≡ t
          → ((q : Run) → length q.left < size → q.number + length bytes ≤ last_number → written q bytes ≡ lines_of q bytes)
          → both (taken size call r b) ≡ lines_of r (b ∷ bytes)
      go true e h =
          let whole : length r.left + 1 ≡ size = eqb-true (length r.left + 1) size e in
          let long : length k.left ≡ size = omega (arith, whole, length-append r.left (b ∷ [])) in
          let x = answered call k in
          let some : 0 < length (k.left ++ bytes) = omega (arith, long, l, length-append k.left bytes) in
          let rows : pieces size (k.left ++ bytes) ≡ k.left ∷ pieces size bytes = pieces_more size (k.left ++ bytes) (omega (arith, l)) some ∙ ap₂ (λ (u v : List ℕ). u ∷ pieces size v) (take_at k.left bytes size long) (drop_at k.left bytes size long) in
          let next : following r.number ≡ suc r.number = omega (arith, f) in
          ap both (taken_row r b whole) ∙ append_assoc x.0 (feed size call x.1 bytes).0 (last_line call (feed size call x.1 bytes).1)
          ∙ ap (λ (w : List ℕ). x.0 ++ w) (h x.1 (omega (arith, l)) (omega (arith, f, next)))
          ∙ ap (λ (n : ℕ). x.0 ++ lines n (map observed (trace call (call r.state k.left).1 (pieces size bytes)))) next
          ∙ sym (ap (λ (xs : List ℕ). lines r.number (map observed (trace call r.state (pieces size xs)))) (sym joined)
          ∙ ap (λ (ps : List (List ℕ)). lines r.number (map observed (trace call r.state ps))) rows ∙ lines_row r.number r.state k.left bytes)
      go false e h =
          let part : length r.left + 1 ≡ size → ⊥ = eqb-false (length r.left + 1) size e in
          ap both (taken_kept r b part) ∙ h k (short part) (omega (arith, f))
          ∙ ap (λ (xs : List ℕ). lines r.number (map observed (trace call r.state (pieces size xs)))) joined
        where
          short : (length r.left + 1 ≡ size → ⊥) → length k.left < size
          short n = lt_of_le-ne (omega (arith, l, length-append r.left (b ∷ []))) (λ i. n (omega (arith, i, length-append r.left (b ∷ []))))

  -- behind any bytes a row is still not whole
  pub feed_short : (r : Run) (bytes : List ℕ) → length r.left < size → length (feed size call r bytes).1.left < size
  unfolding feed
  feed_short r [] l = l
  feed_short r (b ∷ bytes) l = feed_short (taken size call r b).1 bytes (go (eqb (length r.left + 1) size) refl)
    where
      go : (t : Bool) → eqb (length r.left + 1) size ≡ t → length (taken size call r b).1.left < size
      go true e = rw (taken_row r b (eqb-true (length r.left + 1) size e)) (omega (arith, l))
      go false e = rw (taken_kept r b (eqb-false (length r.left + 1) size e)) (lt_of_le-ne (omega (arith, l, length-append r.left (b ∷ []))) (λ i. eqb-false (length r.left + 1) size e (omega (arith, i, length-append r.left (b ∷ [])))))

  -- a block that is taken, and one that is not
  pub block_fed : (room : ℕ) (r : Run) (block : List ℕ) → longest * length block ≤ room → length r.left < size → fed_block size call room r block ≡ feed size call r block
  block_fed room r block f l = rw (le-leb (longest * length block) room f, lt-ltb (length r.left) size l) refl

  pub block_tight : (room : ℕ) (r : Run) (block : List ℕ) → room < longest * length block → fed_block size call room r block ≡ ([], r)
  block_tight room r block f = rw (lt-leb (longest * length block) room f) refl

  pub block_over : (room : ℕ) (r : Run) (block : List ℕ) → size ≤ length r.left → fed_block size call room r block ≡ ([], r)
  block_over room r block l = rw (le-ltb (length r.left) size l) (go (leb (longest * length block) room))
    where
      go : (t : Bool) → cond (t && false) (feed size call r block) ([], r) ≡ ([], r)
      go true = refl
      go false = refl

  -- blocks one after another
  over_written : (room : ℕ) (r : Run) (blocks : List (List ℕ)) → All (λ b. longest * length b ≤ room) blocks → length r.left < size
      → over_blocks size call room r blocks ≡ written r (List.flatten blocks)
  unfolding feed over_blocks List.flatten
  over_written room r [] f l = refl
  over_written room r (b ∷ blocks) f l =
      let x = feed size call r b in
      let y = feed size call x.1 (List.flatten blocks) in
      ap (λ (z : List ℕ × Run). z.0 ++ over_blocks size call room z.1 blocks) (block_fed room r b f.0 l)
      ∙ ap (λ (w : List ℕ). x.0 ++ w) (over_written room x.1 blocks f.1 (feed_short r b l))
      ∙ sym (append_assoc x.0 y.0 (last_line call y.1))
      ∙ sym (ap (λ (z : List ℕ × Run). z.0 ++ last_line call z.1) (feed_append r b (List.flatten blocks)))

-- a row of a card has bytes
positive : (c : Card) → 1 ≤ c.signals → 0 < row_size_in (accepted (flatten c))
unfolding flatten
positive c l = omega (arith, l)

-- no block of rows without bytes is taken
over_none : (call : FileCall) (room : ℕ) (r : Run) (blocks : List (List ℕ)) → r.left ≡ [] → over_blocks 0 call room r blocks ≡ []
unfolding over_blocks last_line
over_none call room r [] e = rw e refl
over_none call room r (b ∷ blocks) e =
    ap (λ (z : List ℕ × Run). z.0 ++ over_blocks 0 call room z.1 blocks) (block_over 0 call room r b (omega arith)) ∙ over_none call room r blocks e

-- OVER ANY CUTTING OF THE INPUT INTO BLOCKS that the buffer has room for, the program writes what `run_program` says.
pub any_cutting : (room : ℕ) (card : List ℕ) (r : Run) (blocks : List (List ℕ)) → r ≡ first_run card → Fitting room blocks → run_from room card r blocks ≡ run_program card (List.flatten blocks)
unfolding run_from run_program
any_cutting room card r blocks same fitting = ap (λ (q : Run). run_from room card q blocks) same ∙ go (judge card) refl
  where
    go : (j : Judgement) → judge card ≡ j
        → first_text j ++ over_blocks (row_size_in (flat_judged j)) (file_call (flat_judged j)) room (first_run card) blocks ≡ runs j (List.flatten blocks)
    go (refused k at) e =
        ap (λ (w : List ℕ). card_line k at ++ w) (over_none (file_call (refused k at)) room (first_run card) blocks refl) ∙ append-nil (card_line k at)
    go (accepted c) e =
        let size = row_size_in (accepted (flatten c)) in
        let call = file_call (flat_judged (accepted c)) in
        let some : 0 < size = positive c (accepted_meets card c e).wellformed.some_signals in
        over_written size call room (first_run card) blocks fitting.fit some ∙ written_lines size call (first_run card) (List.flatten blocks) some (omega (arith, fitting.few))
        ∙ fed_lines_is card c e (pieces size (List.flatten blocks))
