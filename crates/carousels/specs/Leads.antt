-- What it means that a placement can be made of another: some legal list of crossings leads there, any list at all.
-- Assumes nothing.
use Rattle.std.specs.Prelude.{true, List, ◌≡◌}
use Rattle.paper.specs.Yard.{Yard, Placement, Crossing, after, legal_plan}

-- "legal list of crossings leads from start to goal, any list at all"
pub record Leads (Y : Yard) (start goal : Placement) : Type 0 where
  pub list : List Crossing
  pub legal : legal_plan Y start list ≡ true
  pub ends : after start list ≡ goal
