-- The calls of a run, one after another: all the bytes that they hand out are the program's. Assumes nothing.
use Prim.Native.Nat.{ℕ}
use mathlib.Core.Path.{◌≡◌, refl, sym, ap, ap₂, subst, ◌∙◌}
use mathlib.Core.List.{List, [], ◌∷◌, ◌++◌, map, append_assoc}
use mathlib.Core.List
use lib.ListN.{length, take, drop}
use lib.Seq.{take_at}
use mathlib.Core.Bool.{true, false}
use borrow.Author.Tests.{le-leb, clash}
use Rattle.card.specs.Spelling.{put_into}
use Rattle.hierarchy.specs.Judgement.{Judgement, accepted, refused, judge}
use Rattle.runners.specs.Nets.{flat_judged}
use Rattle.programs.specs.Programs.{runs, run_program}
use Rattle.programs.specs.Feeds.{file_call}
use Rattle.programs.specs.Runs.{Run, row_size_in, first_text, first_run, fed_block, last_line, over_blocks, run_from, run_in, is_accepted, Fitting, IsTurn, BlockCall, Follow, behind, handed_out}
use Rattle.programs.specs.declared.blocks.CardRun.{CardRun}
use Rattle.programs.proofs.RunLaws.{any_cutting}

-- the lines of a block stand at the buffer's front
turn_text : (x : List ℕ × Run) (before : List ℕ) (n : ℕ) (r : CardRun) (after : List ℕ) → IsTurn x before n r after → take n after ≡ x.0
unfolding put_into
turn_text x before n r after i = ap (take n) (i.lines ∙ whole) ∙ take_at x.0 (drop (length x.0) before) n (sym i.length)
  where
    whole : put_into x.0 before ≡ x.0 ++ drop (length x.0) before
    whole = rw (le-leb (length x.0) (length before) i.fits) refl

calls_text : (j : Judgement) (room : ℕ) (r : CardRun) (calls : List BlockCall) (last : List ℕ) → Follow j room r calls
    → last ≡ last_line (file_call j) (run_in (behind r calls))
    → handed_out calls ++ last ≡ over_blocks (row_size_in j) (file_call j) room (run_in r) (map (λ k. k.block) calls)
unfolding handed_out behind over_blocks
calls_text j room r [] last h i = i
calls_text j room r (k ∷ calls) last h i =
    let x = fed_block (row_size_in j) (file_call j) room (run_in r) k.block in
    let t : IsTurn x k.before k.length k.run k.after = subst (λ (n : ℕ). IsTurn (fed_block (row_size_in j) (file_call j) n (run_in r) k.block) k.before k.length k.run k.after) h.0 h.1 in
    append_assoc (take k.length k.after) (handed_out calls) last
    ∙ ap₂ (λ (u v : List ℕ). u ++ v) (turn_text x k.before k.length k.run k.after t)
    (calls_text j room k.run calls last h.2 i ∙ ap (λ (q : Run). over_blocks (row_size_in j) (file_call j) room q (map (λ b. b.block) calls)) t.run)

-- ALL THE BYTES THAT A RUN'S CALLS HAND OUT, behind what stands in front of the first row, ARE `run_program`'S, over any cutting of the input into
-- blocks. (Calls on a refused card's net take nothing, and what they hand out is empty.)
pub story : (card first : List ℕ) (r : CardRun) (room : ℕ) (calls : List BlockCall) (last : List ℕ) → first ≡ first_text (judge card) → run_in r ≡ first_run card
    → Follow (flat_judged (judge card)) room r calls → last ≡ last_line (file_call (flat_judged (judge card))) (run_in (behind r calls))
    → Fitting room (map (λ k. k.block) calls)
    → first ++ (handed_out calls ++ last) ≡ run_program card (List.flatten (map (λ k. k.block) calls))
unfolding run_from
story card first r room calls last begins same h e fit =
    ap₂ (λ (u v : List ℕ). u ++ v) begins (calls_text (flat_judged (judge card)) room r calls last h e)
    ∙ any_cutting room card (run_in r) (map (λ k. k.block) calls) same fit

-- nothing stands in front of an accepted card's rows
pub no_first_text : (j : Judgement) → is_accepted j ≡ true → [] ≡ first_text j
no_first_text (accepted c) e = refl
no_first_text (refused n at) e = absurd (clash e)

-- of a refused card its line is, whatever the rows
pub story_refused : (card text : List ℕ) → is_accepted (judge card) ≡ false → text ≡ first_text (judge card) → (rows : List ℕ) → text ≡ run_program card rows
unfolding run_program
story_refused card text a e rows = go (judge card) a e
  where
    go : (j : Judgement) → is_accepted j ≡ false → text ≡ first_text j → text ≡ runs j rows
    go (accepted c) b q = absurd (clash (sym b))
    go (refused n at) b q = q
