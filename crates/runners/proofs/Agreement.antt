-- Demand 3 about the definitions: from fresh states, whatever the list of calls, no call earns 25, and the two runners' traces
-- are one, that of the paper's step. Assumes nothing.
use Rattle.std.proofs.Common.{◌≡◌, ℕ, ◌<◌, ◌≤◌, Bool, true, ◌≢◌, List, length, refl, arith}
use Rattle.std.proofs.lemmas.List.{length-map}
use Rattle.card.specs.Finite.{All}
use Rattle.card.specs.Card.{Card, place_at}
use Rattle.hierarchy.specs.Judgement.{accepted, judge}
use Rattle.hierarchy.proofs.Accepted.{accepted_meets}
use Rattle.flattening.specs.Flattening.{flat_place_row, flatten}
use Rattle.flattening.proofs.FlatLaws.{flat_place_fits}
use Rattle.runners.specs.State.{NetState, fresh}
use Rattle.runners.specs.Rows.{Act, act_of}
use Rattle.runners.specs.Calls.{view, fresh_lent, fresh_call, each_once}
use Rattle.runners.specs.Traces.{Call, flat_trace, subnet_trace, Bounded, Agreement, Demand3}
use Rattle.runners.proofs.AlikeLaws.{visits_alike}
use Rattle.runners.proofs.StateLaws.{Consistent, fresh_sized, fresh_consistent}
use Rattle.runners.proofs.TraceLaws.{view_store, 25·alone, Good, Keeps, Sound, trace_clear, runners_trace, net_trace, trace_good, ask_keeps, ask_mild, consistent_bounded}

-- the fresh state of a flat card, lent or not
pub fresh_view : (f : Card) → view (fresh_lent f) ≡ fresh f
fresh_view f = view_store f _ (fresh f) (record { places = refl; transitions = refl; signals = refl }) (fresh_sized f)

module _ (card : List ℕ) (c : Card) (e : judge card ≡ accepted c) where
  tokens : (p : ℕ) → p < length (flatten c).places → (place_at (flatten c) p).tokens ≤ (place_at (flatten c) p).capacity
  unfolding flatten
  tokens p l = (flat_place_fits c (accepted_meets card c e) p (omega (arith, length-map c.places flat_place_row))).tokens

  start_consistent : Consistent (flatten c) (fresh (flatten c))
  start_consistent = fresh_consistent (flatten c) tokens

  -- what the call for a fresh state returns
  pub fresh_lent_is : (fresh_call card).1 ≡ fresh_lent (flatten c)
  unfolding fresh_call
  fresh_lent_is = rw e refl

  abbrev f : Card
  f = flatten c

  start_good : Good f (fresh f)
  start_good = record { consistent = start_consistent; sized = fresh_sized f }

  pub start_sound : Sound f (fresh_lent f)
  start_sound = record { counts = record { places = refl; transitions = refl; signals = refl }; good = rw (fresh_view f) start_good }

  abbrev asked : Call → Act
  asked k = act_of f k.ask

  asked_keeps : (k : Call) → Keeps f (asked k)
  asked_keeps k = ask_keeps f k.ask

  abbrev ordered : Call → Bool
  ordered k = each_once (length c.subnets) k.order

  -- NO STATE REACHED FROM FRESH EARNS 25, whatever the rows and the visiting orders
  pub never_25_flat : (calls : List Call) → All (λ x. x.0 ≢ 25·alone) (flat_trace card (fresh_call card).1 calls)
  never_25_flat calls = rw (fresh_lent_is, e) (trace_clear f Call asked asked_keeps (λ k. ask_mild f k.ask) (λ k. true) (fresh_lent f) start_sound calls)

  pub never_25_subnet : (calls : List Call) → All (λ x. x.0 ≢ 25·alone) (subnet_trace card (fresh_call card).1 calls)
  never_25_subnet calls = rw (fresh_lent_is, e) (trace_clear f Call asked asked_keeps (λ k. ask_mild f k.ask) ordered (fresh_lent f) start_sound calls)

  bounded : (s : NetState) → Good f s → Bounded f s
  bounded s h = consistent_bounded f s h.consistent

  calls_agree : (calls : List Call) → All (λ k. each_once (length c.subnets) k.order ≡ true) calls → Agreement card c calls
  calls_agree calls o =
      record {
        start = rw fresh_lent_is (fresh_view f);
        runners = rw (fresh_lent_is, e) (runners_trace f Call asked asked_keeps ordered (fresh_lent f) start_sound calls o);
        net = rw (fresh_lent_is, e) (rw (fresh_view f) at (net_trace f Call asked asked_keeps (fresh_lent f) start_sound calls));
        bounded = (bounded (fresh f) start_good, trace_good f Call asked asked_keeps (Bounded f) bounded (fresh f) start_good calls);
      }

-- DEMAND 3: the two runners' traces are one, that of the paper's step; and no visit's outcome hangs on a place that its subnet cannot see
pub demand_3 : Demand3
demand_3 = record { agree = λ card c calls e o. calls_agree card c e calls o; local = visits_alike }
