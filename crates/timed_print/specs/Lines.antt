-- The part of the timed print that one loop writes.
-- Assumes nothing.
use Rattle.std.specs.Prelude.{List, ℕ}
use Rattle.paper.specs.Yard.{crossings}
use Rattle.paper.specs.Text.{Text}
use Rattle.paper.specs.Print.{ended}
use Rattle.trains.specs.Print.{timed_lines}

-- the lines of a lent plan, without the cost
unfoldable pub lines_of : List ℕ → List ℕ → Text
lines_of slots plan = ended (timed_lines slots (crossings plan))
