-- The machine that reads and writes a card field by field: which field comes next, and where its number leads. Widths and faults are the
-- grammar's.
use Rattle.std.specs.Prelude.{ℕ, ◌+◌, ◌-◌, ◌≤◌, ◌≡◌, Bool, true, false, List, [], ◌∷◌, map, sum, ltb, Result, Ok, Err}
use Rattle.std.proofs.Math.Option.{Option, none, some}
use Rattle.card.specs.Format.{Format, done, get}
use Rattle.card.specs.Grammar.{header, subnet, place, transition, arc}
use Rattle.card.specs.declared.FormatFault.{FormatFault}
use Rattle.card.specs.declared.layout.Phase.{Phase}
use Rattle.card.specs.declared.layout.Phase.TheVariants.{Version, SubnetCount, SignalCount, Limit, Scale, Parent, SubnetType, PlaceCount, TransitionCount, Kind, Capacity, Tokens, Signal, ArcCount, Rank, Direction, ArcSubnet, ArcPlace, Weight}
use Rattle.card.specs.declared.layout.Layout.{Layout}
use Rattle.card.specs.declared.layout.Next.{Next}
use Rattle.card.specs.declared.layout.Next.TheVariants.{More, Done}

-- a format behind the fields that hold these numbers
abbrev pub fed : {U A : Type 0} → Format U A → (numbers : List ℕ) → Format U A
fed m [] = m
fed (done a) (v ∷ vs) = done a
fed (get w value fault next) (v ∷ vs) = fed (next v) vs

-- its next field: the width, and what is wrong with a number there
abbrev pub next_width : {U A : Type 0} → Format U A → ℕ
next_width (done a) = 0
next_width (get w value fault next) = w

abbrev pub next_fault : {U A : Type 0} → Format U A → ℕ → Option FormatFault
next_fault (done a) v = none
next_fault (get w value fault next) v = fault v

-- (v is the card's version, by which the widths of later fields go.)
abbrev pub width_at : Phase → (v : ℕ) → ℕ
width_at Version v = next_width header
width_at SubnetCount v = next_width (fed header (v ∷ []))
width_at SignalCount v = next_width (fed header (v ∷ 0 ∷ []))
width_at Limit v = next_width (fed header (v ∷ 0 ∷ 0 ∷ []))
width_at Scale v = next_width (fed header (v ∷ 0 ∷ 0 ∷ 0 ∷ []))
width_at Parent v = next_width (subnet 0 0 0)
width_at SubnetType v = next_width (fed (subnet 0 0 0) (0 ∷ []))
width_at PlaceCount v = next_width (fed (subnet 0 0 0) (0 ∷ 0 ∷ []))
width_at TransitionCount v = next_width (fed (subnet 0 0 0) (0 ∷ 0 ∷ 0 ∷ []))
width_at Kind v = next_width (place 0)
width_at Capacity v = next_width (fed (place 0) (0 ∷ []))
width_at Tokens v = next_width (fed (place 0) (0 ∷ 0 ∷ []))
width_at Signal v = next_width (transition v 0)
width_at ArcCount v = next_width (fed (transition v 0) (0 ∷ []))
width_at Rank v = next_width (fed (transition v 0) (0 ∷ 0 ∷ []))
width_at Direction v = next_width arc
width_at ArcSubnet v = next_width (fed arc (0 ∷ []))
width_at ArcPlace v = next_width (fed arc (0 ∷ 0 ∷ []))
width_at Weight v = next_width (fed arc (0 ∷ 0 ∷ 0 ∷ []))

abbrev pub width_of : Layout → ℕ
width_of l = width_at l.phase l.version

-- the widths of a row's fields, and of the row
abbrev pub widths : List Phase → (version : ℕ) → List ℕ
widths row version = map (λ p. width_at p version) row

abbrev pub row_width : List Phase → (version : ℕ) → ℕ
row_width row version = sum (widths row version)

-- what is wrong with a number, by what came before it
abbrev pub fault_at : Phase → Layout → ℕ → Option FormatFault
fault_at Version l = next_fault header
fault_at SubnetCount l = next_fault (fed header (l.version ∷ []))
fault_at SignalCount l = next_fault (fed header (l.version ∷ 0 ∷ []))
fault_at Limit l = next_fault (fed header (l.version ∷ 0 ∷ 0 ∷ []))
fault_at Scale l = next_fault (fed header (l.version ∷ 0 ∷ 0 ∷ 0 ∷ []))
fault_at Parent l = next_fault (subnet l.subnet l.places l.transitions)
fault_at SubnetType l = next_fault (fed (subnet l.subnet l.places l.transitions) (0 ∷ []))
fault_at PlaceCount l = next_fault (fed (subnet l.subnet l.places l.transitions) (0 ∷ 0 ∷ []))
fault_at TransitionCount l = next_fault (fed (subnet l.subnet l.places l.transitions) (0 ∷ 0 ∷ 0 ∷ []))
fault_at Kind l = next_fault (place l.subnet)
fault_at Capacity l = next_fault (fed (place l.subnet) (0 ∷ []))
fault_at Tokens l = next_fault (fed (place l.subnet) (0 ∷ l.capacity ∷ []))
fault_at Signal l = next_fault (transition l.version l.signals)
fault_at ArcCount l = next_fault (fed (transition l.version l.signals) (0 ∷ []))
fault_at Rank l = next_fault (fed (transition l.version l.signals) (0 ∷ 0 ∷ []))
fault_at Direction l = next_fault arc
fault_at ArcSubnet l = next_fault (fed arc (0 ∷ []))
fault_at ArcPlace l = next_fault (fed arc (0 ∷ 0 ∷ []))
fault_at Weight l = next_fault (fed arc (0 ∷ 0 ∷ 0 ∷ []))

abbrev pub start_of : Layout
start_of =
    record {
      phase = Version;
      version = 0;
      signals = 0;
      subnets = 0;
      subnet = 0;
      places = 0;
      transitions = 0;
      place_rows = 0;
      transition_rows = 0;
      arc_rows = 0;
      capacity = 0;
    }

-- the same layout at another phase, and with other numbers
abbrev pub layout_at : Phase → (version signals subnets subnet places transitions place_rows transition_rows arc_rows capacity : ℕ) → Layout
layout_at p v g n s places transitions rows more arcs k =
    record {
      phase = p;
      version = v;
      signals = g;
      subnets = n;
      subnet = s;
      places = places;
      transitions = transitions;
      place_rows = rows;
      transition_rows = more;
      arc_rows = arcs;
      capacity = k;
    }

abbrev pub to : Layout → Phase → Layout
to l p = layout_at p l.version l.signals l.subnets l.subnet l.places l.transitions l.place_rows l.transition_rows l.arc_rows l.capacity

abbrev pub pick : Bool → Next → Next → Next
pick true a b = a
pick false a b = b

-- where a number leads that is not at fault
abbrev pub move_at : Phase → Layout → (v : ℕ) → Next
move_at Version l v = More (layout_at SubnetCount v l.signals l.subnets l.subnet l.places l.transitions l.place_rows l.transition_rows l.arc_rows l.capacity)
move_at SubnetCount l v = More (layout_at SignalCount l.version l.signals (v - 1) l.subnet l.places l.transitions l.place_rows l.transition_rows l.arc_rows l.capacity)
move_at SignalCount l v = More (layout_at Limit l.version v l.subnets l.subnet l.places l.transitions l.place_rows l.transition_rows l.arc_rows l.capacity)
move_at Limit l v = More (to l Scale)
move_at Scale l v = More (to l Parent)
move_at Parent l v = More (to l SubnetType)
move_at SubnetType l v = More (to l PlaceCount)
move_at PlaceCount l v =
    More (layout_at TransitionCount l.version l.signals l.subnets l.subnet (l.places + v) l.transitions (v - 1) l.transition_rows l.arc_rows l.capacity)
move_at TransitionCount l v = More (layout_at Kind l.version l.signals l.subnets l.subnet l.places (l.transitions + v) l.place_rows (v - 1) l.arc_rows l.capacity)
move_at Kind l v = More (to l Capacity)
move_at Capacity l v = More (layout_at Tokens l.version l.signals l.subnets l.subnet l.places l.transitions l.place_rows l.transition_rows l.arc_rows v)
move_at Tokens l v =
    pick (ltb 0 l.place_rows)
    (More (layout_at Kind l.version l.signals l.subnets l.subnet l.places l.transitions (l.place_rows - 1) l.transition_rows l.arc_rows l.capacity))
    (More (to l Signal))
move_at Signal l v = More (to l ArcCount)
move_at ArcCount l v = More (layout_at Rank l.version l.signals l.subnets l.subnet l.places l.transitions l.place_rows l.transition_rows (v - 1) l.capacity)
move_at Rank l v = More (to l Direction)
move_at Direction l v = More (to l ArcSubnet)
move_at ArcSubnet l v = More (to l ArcPlace)
move_at ArcPlace l v = More (to l Weight)
move_at Weight l v =
    pick (ltb 0 l.arc_rows)
    (More (layout_at Direction l.version l.signals l.subnets l.subnet l.places l.transitions l.place_rows l.transition_rows (l.arc_rows - 1) l.capacity))
    (pick (ltb 0 l.transition_rows)
    (More (layout_at Signal l.version l.signals l.subnets l.subnet l.places l.transitions l.place_rows (l.transition_rows - 1) l.arc_rows l.capacity))
    (pick (ltb 0 l.subnets)
    (More (layout_at Parent l.version l.signals (l.subnets - 1) (l.subnet + 1) l.places l.transitions l.place_rows l.transition_rows l.arc_rows l.capacity))
    (Done (record { subnets = l.subnet + 1; places = l.places; transitions = l.transitions }))))

-- a fault, or what comes next
abbrev pub Move : Type 0
Move = Result Next FormatFault

abbrev pub or_bad : Option FormatFault → Next → Move
or_bad none m = Ok m
or_bad (some f) m = Err f

abbrev pub step_at : Phase → Layout → (v : ℕ) → Move
step_at p l v = or_bad (fault_at p l v) (move_at p l v)

abbrev pub step_of : Layout → (v : ℕ) → Move
step_of l v = step_at l.phase l v

-- while the number of subnets is still to come, none is counted
abbrev pub headed : Phase → (subnet : ℕ) → Type 0
headed Version s = s ≡ 0
headed SubnetCount s = s ≡ 0
headed SignalCount s = Unit {0}
headed Limit s = Unit {0}
headed Scale s = Unit {0}
headed Parent s = Unit {0}
headed SubnetType s = Unit {0}
headed PlaceCount s = Unit {0}
headed TransitionCount s = Unit {0}
headed Kind s = Unit {0}
headed Capacity s = Unit {0}
headed Tokens s = Unit {0}
headed Signal s = Unit {0}
headed ArcCount s = Unit {0}
headed Rank s = Unit {0}
headed Direction s = Unit {0}
headed ArcSubnet s = Unit {0}
headed ArcPlace s = Unit {0}
headed Weight s = Unit {0}

-- the numbers of a layout stay small
pub record Sane (l : Layout) : Type 0 where
  pub head : headed l.phase l.subnet
  pub subnet : l.subnet + l.subnets ≤ 31
  pub places : l.places ≤ 255
  pub transitions : l.transitions ≤ 255
