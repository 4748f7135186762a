-- What writing a yard's file leaves in the lent bytes.
-- Assumes nothing.
use Rattle.std.specs.Prelude.{List, ℕ, ◌≤◌}
use Rattle.paper.specs.Limits.{most_crossings}
use Rattle.paper.specs.Yard.{Bay}
use Rattle.stores.specs.Writing.{Wrote}
use Rattle.survey.specs.Survey.{rail_lines, survey_of}

-- the rails' lines from a place on; no file of a yard is longer than 65,536 bytes
pub record Goes (ends : List Bay) (before : List ℕ) (at : ℕ) (after : List ℕ) (next : ℕ) : Type 0 where
  pub wrote : Wrote before at (rail_lines ends) after next
  pub short : next ≤ most_crossings

-- the whole file
pub record Writes (n : ℕ) (ends : List Bay) (before after : List ℕ) (next : ℕ) : Type 0 where
  pub wrote : Wrote before 0 (survey_of n ends) after next
  pub short : next ≤ most_crossings
