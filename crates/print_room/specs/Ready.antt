-- An answer with its plan in the list, ready to be printed or to be given its slots.
-- Assumes nothing.
use Rattle.std.specs.Prelude.{◌≡◌, List, ℕ, ◌≤◌, length, take, Ok}
use Rattle.paper.specs.Limits.{most_bays}
use Rattle.paper.specs.Answers.{Answer}
use Rattle.paper.specs.OnePass.{Fits}
use Rattle.paper.specs.Program.{program_room}
use Rattle.docket.specs.Verdict.{Verdict}
use Rattle.print_room.specs.Printout.{Within, Handed}

-- a plan lies in the list, and its numbers fit the tables of slots
pub record Slottable (r : Verdict) (list : List ℕ) : Type 0 where
  pub within : Within r list
  pub sized : length list ≤ program_room
  pub fits : (m : ℕ) → r ≡ Ok m → Fits most_bays most_bays (take m list)

pub record Ready (a : Answer) (r : Verdict) (list : List ℕ) : Type 0 where
  pub handed : Handed r list a
  pub slottable : Slottable r list
