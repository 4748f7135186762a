-- What a name finds in a plan, and how the code's answer reads as that.
-- Assumes nothing.
use Rattle.std.specs.Prelude.{List, ℕ, leb, length, if◌then◌else◌, None, Some}
use Rattle.std.proofs.Math.Option.{Option, none, some}
use Rattle.paper.specs.Yard.{Crossing, named}
use Rattle.docket.specs.Reading.{crossing_of}
use Rattle.plans.specs.Named.{Named}

-- "The log must find the crossing that bears a given name, or answer 12": none is the latter.
unfoldable pub found_in : List Crossing → ℕ → Option Crossing
found_in xs name = if leb (length xs) name then none else some (named xs name)

abbrev pub named_of : Named → Option Crossing
named_of (Some x) = some (crossing_of x)
named_of None = none
