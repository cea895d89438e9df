-- Whether one transition is a candidate, and how far it moves. Assumes nothing.
use Rattle.std.proofs.Common.{◌≡◌, ℕ, ◌<◌, ◌≤◌, Bool, true, false, ◌&&◌, ltb, List, sym, refl, ap, ◌∙◌, arith}
use Rattle.card.specs.Finite.{every}
use Rattle.card.specs.Card.{Card, transition_at, arc_at}
use Rattle.flattening.specs.Flattening.{flatten}
use Rattle.runners.specs.State.{NetState, entry, transfer, remaining}
use Rattle.runners.specs.Step.{allows, candidate_on, started_on, rise, start_move, asked, asked_on, moves_on}
use Rattle.runners.specs.Columns.{posted}
use Rattle.runners.specs.declared.Transfer.{Transfer}
use Rattle.runners.specs.declared.Transfer.TheVariants.{Idle}
use Rattle.runners.specs.declared.claims.Claims.{Claims as Posted}
use Rattle.runners.proofs.StartLaws.{start_one, start_two}

pub candidate_idle : (c : Card) (k : Posted) (s : NetState) (row ms : List ℕ) (t : ℕ) (x : Transfer) (b : Bool) → x ≡ Idle → x ≡ transfer s.transfers t → s.markings ≡ ms
    → b ≡ (ltb 0 (entry row (transition_at c t).signal) && every (transition_at c t).arcs (λ j. allows (flatten c) (posted k) ms (arc_at (flatten c) t j)))
    → b ≡ candidate_on (flatten c) (posted k) s row t
unfolding candidate_on flatten
candidate_idle c k s row ms t x b e h m q = rw (← h, e, m) q

-- what a starting transition moves, by the card's version
module _ (c : Card) (v last new : ℕ) (e : v ≡ c.version) where
  pub start_zero : 2 ≤ v → new ≡ start_move (flatten c) last new
  unfolding flatten
  start_zero l = sym (start_two (flatten c) last new (omega (arith, e)))

  pub start_risen : (d : ℕ) → v < 2 → d ≡ rise last new → d ≡ start_move (flatten c) last new
  unfolding flatten
  start_risen d l k = k ∙ sym (start_one (flatten c) last new (omega (arith, e)))

pub asked_starts : (f : Card) (b : Bool) (last new d : ℕ) → b ≡ true → d ≡ start_move f last new → d ≡ asked f b last new
asked_starts f b last new d e k = rw e k

pub asked_later : (f : Card) (b : Bool) (last new d : ℕ) → b ≡ false → d ≡ rise last new → d ≡ asked f b last new
asked_later f b last new d e k = rw e k

-- a transition moves what is asked of it, or what remains
module _ (c : Card) (s : NetState) (found : ℕ → Bool) (row degrees : List ℕ) (t : ℕ) (x : Transfer) (rest : ℕ) (er : rest ≡ remaining (flatten c) x) (ex : x ≡ started_on found s.transfers t)
    (new last d : ℕ) (starts : Bool) (en : new ≡ entry row (transition_at c t).signal) (el : last ≡ entry degrees (transition_at c t).signal) (es : s.degrees ≡ degrees) (eb : starts ≡ found t)
    (ed : d ≡ asked (flatten c) starts last new) where
  left : rest ≡ remaining (flatten c) (started_on found s.transfers t)
  left = er ∙ ap (remaining (flatten c)) ex

  pub whole : d ≡ asked_on (flatten c) found s.degrees row t
  unfolding flatten
  whole = ed ∙ rw (eb, en, el, es) refl

  pub moves_asked : d ≤ rest → d ≡ moves_on (flatten c) found s row t
  moves_asked l = omega (arith, left, whole)

  pub moves_rest : rest < d → rest ≡ moves_on (flatten c) found s row t
  moves_rest l = omega (arith, left, whole)
