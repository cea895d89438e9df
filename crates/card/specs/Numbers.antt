-- The paper's number of each fault of the format ('Why a card is turned back').
use Rattle.std.specs.Prelude.{ℕ}
use Rattle.card.specs.declared.FormatFault.{FormatFault}
use Rattle.card.specs.declared.FormatFault.TheVariants.{Truncated, BadVersion, BadSize, BadParent, BadType, BadCount, BadPlace, BadTransition, BadFill, BadTable}

abbrev pub number : FormatFault → ℕ
number Truncated = 1
number BadVersion = 2
number BadSize = 3
number BadParent = 4
number BadType = 5
number BadCount = 6
number BadPlace = 7
number BadTransition = 8
number BadFill = 9
number BadTable = 17
