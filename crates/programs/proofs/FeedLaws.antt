-- The rows of a file on the net of a card's flat card: what they are answered, and that the lines of a run are those of the definition.
-- Assumes nothing.
use Prim.Native.Nat.{ℕ, ◌≤◌, ◌<◌}
use mathlib.Core.Path.{◌≡◌, sym, ap, ap₂, subst, ◌∙◌}
use mathlib.Core.Bool.{Bool, true}
use mathlib.Core.List.{List, [], ◌∷◌, map}
use lib.ListN.{length}
use Rattle.std.specs.Prelude as Std
use Rattle.std.specs.Prelude.{Some, None, MatchOption}
use Rattle.card.specs.Card.{Card}
use Rattle.hierarchy.specs.Judgement.{Judgement, accepted, judge}
use Rattle.flattening.specs.Flattening.{flatten}
use Rattle.flattening.proofs.FlatLaws.{flatten_again}
use Rattle.runners.specs.Numbers.{RowOutcome}
use Rattle.runners.specs.State.{NetState, fresh}
use Rattle.runners.specs.Rows.{RowRead, degrees, no_row, row, act_of, row_of}
use Rattle.runners.specs.Calls.{fresh_call, fresh_lent, in_state, in_order, lent_call, called}
use Rattle.runners.specs.Answers.{IsRow}
use Rattle.runners.specs.Traces.{trace, observed}
use Rattle.runners.specs.declared.State.{State as Lent}
use Rattle.runners.specs.declared.RowAnswer.{RowAnswer}
use Rattle.runners.proofs.TraceLaws.{net_trace, ask_keeps}
use Rattle.runners.proofs.CallLaws.{one_visited}
use Rattle.runners.proofs.Agreement.{fresh_view, start_sound, fresh_lent_is}
use Rattle.programs.specs.Programs.{lines, file_trace}
use Rattle.programs.specs.Files.{file_row}
use Rattle.programs.specs.Feeds.{read_call, file_call, fed_lines}
use Rattle.programs.proofs.FileLaws.{row_hollow, row_found, too_many}

-- on a net, which is an accepted card and so has at most 63 signals
module _ (c : Card) (few : c.signals ≤ 63) (l : Lent) (x : RowAnswer) where
  few_in : (d : Card) → ◌≡◌ {A = Judgement} (accepted c) (accepted d) → d.signals ≤ 63
  few_in d e = let i : c ≡ d = cc in subst (λ (k : Card). k.signals ≤ 63) i few

  row_missing : (long : List ℕ) → 63 < length long → IsRow (called (in_order (0 ∷ [])) (accepted c) l long) x → IsRow (read_call (accepted c) l (λ d. no_row)) x
  row_missing long m w = subst (λ (z : RowOutcome × Lent). IsRow z x) (too_many (in_order (0 ∷ [])) (accepted c) l long m few_in) w

  pub file_called : (bytes : List ℕ) (r : Std.Option (List ℕ)) → r ≡ file_row (row_of c bytes) → (xs : List ℕ) → MatchOption r (63 < length xs) (λ ds. xs ≡ ds)
      → IsRow (called (in_order (0 ∷ [])) (accepted c) l xs) x → IsRow (file_call (accepted c) l bytes) x
  file_called bytes None e xs m w =
      subst (λ (o : RowRead). IsRow (read_call (accepted c) l (λ d. o)) x) (sym (row_hollow (row_of c bytes) (sym e))) (row_missing xs m w)
  file_called bytes (Some ds) e xs m w =
      subst (λ (o : RowRead). IsRow (read_call (accepted c) l (λ d. o)) x) (ap degrees m ∙ sym (row_found (row_of c bytes) ds (sym e))) w

-- THE LINES THAT A RUN PRINTS ARE THE DEFINITION'S, from the state that the call for a fresh one returns: on the net of a card's flat card the
-- order names its one subnet, so that the calls are the flat runner's, and their trace is that of the net's own run.
pub fed_lines_is : (card : List ℕ) (c : Card) → judge card ≡ accepted c → (rows : List (List ℕ))
    → fed_lines c 1 (fresh_call card).1 rows ≡ lines 1 (file_trace (flatten c) (fresh (flatten c)) rows)
fed_lines_is card c e rows =
    let f = flatten c in
    ap₂ (λ (g : Card) (b : Bool). lines 1 (map observed (trace (λ l bytes. lent_call in_state g b (act_of g (row (row_of f bytes))) l) (fresh_call card).1 rows))) (flatten_again c) (one_visited c)
    ∙ ap (λ (l : Lent). lines 1 (map observed (trace (λ l bytes. lent_call in_state f true (act_of f (row (row_of f bytes))) l) l rows))) (fresh_lent_is card c e)
    ∙ ap (lines 1) (net_trace f (List ℕ) (λ bytes. act_of f (row (row_of f bytes))) (λ bytes. ask_keeps f (row (row_of f bytes))) (fresh_lent f) (start_sound card c e) rows)
    ∙ ap (λ (s : NetState). lines 1 (file_trace f s rows)) (fresh_view f)
