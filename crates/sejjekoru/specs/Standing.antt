-- What the placement by plan and marks promises: its two numbers, and what stands in the lent list at the end.
-- Assumes nothing.
use Rattle.std.specs.Prelude.{List, ℕ, length}
use Rattle.paper.specs.Yard.{Bay}
use Rattle.paper.specs.Order.{Order}
use Rattle.placement.specs.Standing.{standing, standing_end}
use Rattle.numbers.specs.Numbers.{verdict_number, verdict_value}
use Rattle.sejjekoru.specs.Statements.{TellsAndLeaves}

abbrev pub PlacementTells : Order → List ℕ → List ℕ → List Bay → ℕ → ℕ → List Bay → Type 0
PlacementTells o plan marks at =
    let answer = standing o plan marks (length at) in
    TellsAndLeaves (verdict_number answer) (verdict_value answer) (standing_end o plan marks at answer)
