-- The parts of the print that the code writes at once.
-- Assumes nothing.
use Rattle.std.specs.Prelude.{List, map, ℕ, leb, length, if◌then◌else◌}
use Rattle.paper.specs.Yard.{crossings, most_crossings}
use Rattle.paper.specs.Docket.{room}
use Rattle.paper.specs.Answers.{Answer, accepted, refused}
use Rattle.paper.specs.Text.{Text}
use Rattle.paper.specs.Print.{action_line, ended}

-- the lines of a lent plan, without the cost
unfoldable pub action_lines : List ℕ → Text
action_lines plan = ended (map action_line (crossings plan))

-- a lent plan as an answer: "a plan is over 65,536" is 8 with its length
unfoldable pub handed : List ℕ → Answer
handed plan = if leb (length plan) most_crossings then accepted (crossings plan) else refused (room (length plan))
