-- What is asked: the inputs that planning, check, slots and report share, as one thing. A further input is a further field here.
-- Assumes nothing.
use Rattle.std.specs.Prelude.{List, ℕ}
use Rattle.paper.specs.Yard.{Bay, Placement}

-- What a planner, a check or a report is asked about: a yard by its bays and rail ends, where the carriers start and where they shall go.
pub record Order : Type 0 where
  pub bays : ℕ
  pub ends : List Bay
  pub starts : Placement
  pub goals : Placement

-- an order by its parts, as the lent lists bring them
abbrev pub order : ℕ → List Bay → Placement → Placement → Order
order n ends starts goals = record { bays = n; ends = ends; starts = starts; goals = goals }

-- the order with starts and goals exchanged
abbrev pub backwards : Order → Order
backwards o = order o.bays o.ends o.goals o.starts
