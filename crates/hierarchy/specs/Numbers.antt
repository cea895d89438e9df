-- The paper's number and values of each answer of this layer ('Why a card is turned back', 24 of 'Why a call is turned back', 26 of CR 2).
use Rattle.std.specs.Prelude.{ℕ, Result, Ok, Err}
use Rattle.card.specs.Numbers
use Rattle.hierarchy.specs.declared.CardFault.{CardFault}
use Rattle.hierarchy.specs.declared.CardFault.TheVariants.{Format, Unseen, Direction, Weight, Repeated, DeadLoop, NoUnit, NoInterface, Unlike}
use Rattle.card.specs.declared.Counts.{Counts}
use Rattle.card.specs.declared.FormatRefusal.{FormatRefusal}
use Rattle.hierarchy.specs.declared.CardRefusal.{CardRefusal}
use Rattle.hierarchy.specs.declared.WriteRefusal.{WriteRefusal}
use Rattle.hierarchy.specs.declared.WriteRefusal.TheVariants.{Card, Short}

abbrev pub number : CardFault → ℕ
number (Format f) = Numbers.number f
number Unseen = 10
number Direction = 11
number Weight = 12
number Repeated = 13
number DeadLoop = 26
number NoUnit = 14
number NoInterface = 15
number Unlike = 16

-- a refusal of the format, as one of the card
abbrev pub as_refusal : FormatRefusal → CardRefusal
as_refusal e = record { fault = Format e.fault; bit = e.bit }

-- what the check says: the three counts, or a number and a bit
pub data CheckOutcome : Type 0 where
  accepted : (subnets places transitions : ℕ) → CheckOutcome
  refused : (number bit : ℕ) → CheckOutcome

abbrev pub check_outcome : Result Counts CardRefusal → CheckOutcome
check_outcome (Ok k) = accepted k.subnets k.places k.transitions
check_outcome (Err e) = refused (number e.fault) e.bit

-- what comes of writing into a buffer: how many bytes, or a number with a bit, or 24 with the length needed
pub data WriteOutcome : Type 0 where
  wrote : (length : ℕ) → WriteOutcome
  refused : (number value : ℕ) → WriteOutcome

abbrev pub write_number : WriteRefusal → ℕ
write_number (Card e) = number e.fault
write_number (Short n) = 24

abbrev pub write_value : WriteRefusal → ℕ
write_value (Card e) = e.bit
write_value (Short n) = n

abbrev pub write_outcome : Result ℕ WriteRefusal → WriteOutcome
write_outcome (Ok n) = wrote n
write_outcome (Err e) = refused (write_number e) (write_value e)
