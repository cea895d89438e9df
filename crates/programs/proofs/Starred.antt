-- The starred cases and those of the requests hold: all of them, by computation on the definitions. Assumes nothing.
use mathlib.Core.Path.{◌≡◌, refl}
use mathlib.Core.List.{map, flat_map}
use mathlib.Core.List
use Rattle.card.specs.Finite.{sum_to, every, any, first_of, table, keep}
use Rattle.card.specs.Bits.{bit, bit_field, pack}
use Rattle.card.specs.Card.{first_place, first_transition, first_arc}
use Rattle.card.specs.Format.{each, grow, size}
use Rattle.card.specs.Grammar.{since, header, subnet, place, transition, arc, whole_transition, whole_subnet, card}
use Rattle.card.specs.Parsing.{read, excess, read_card}
use Rattle.card.specs.Writing.{fields, encode, subnet_bit, transition_bit, arc_bit}
use Rattle.hierarchy.specs.Conditions.{children}
use Rattle.hierarchy.specs.Check.{seen, directed, weighted, single, loops_fit, has_unit, has_interface, alike, like_lower, arc_fault, transition_fault, subnet_fault, check}
use Rattle.hierarchy.specs.Judgement.{judge}
use Rattle.flattening.specs.Flattening.{flatten}
use Rattle.runners.specs.State.{scale, fresh, incidence, flow, owed, due, covered}
use Rattle.runners.specs.Step.{allows, candidate_on, candidate, started, conflict, start_move, moves, next}
use Rattle.runners.specs.Rows.{row_fault, row_refusal, filled, cells, unmarked, pieces}
use Rattle.runners.specs.Calls.{consistent, valid_in, each_once, flat_call, subnet_call}
use Rattle.runners.specs.Traces.{trace}
use Rattle.card.specs.Text.{digits}
use Rattle.programs.specs.Text.{ascii, line}
use Rattle.programs.specs.Programs.{lines, run_program}
use Rattle.programs.specs.Cases.{cases, result}

pub starred : map (λ k. result k.given) cases ≡ map (λ k. k.expected) cases
unfolding ascii digits line filled cells unmarked pieces trace lines run_program consistent valid_in each_once flat_call subnet_call row_fault row_refusal allows candidate_on candidate started conflict start_move moves next scale fresh incidence flow owed due covered flatten
    judge check seen directed weighted single loops_fit has_unit has_interface alike like_lower arc_fault transition_fault subnet_fault children
    read excess read_card fields encode subnet_bit transition_bit arc_bit since header subnet place transition arc whole_transition whole_subnet card each grow size
    first_place first_transition first_arc bit bit_field pack sum_to every any first_of table keep flat_map List.flatten
starred = refl
