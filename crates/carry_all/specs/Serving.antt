-- What serving all carriers asks and says: every bay is reached, and whose goal each bay is; the paper's whole procedure.
-- Assumes nothing.
use Rattle.std.specs.Prelude.{List, [], ℕ, ◌<◌, length}
use Rattle.paper.specs.Basics.{In}
use Rattle.paper.specs.Path.{nearest_first}
use Rattle.paper.specs.Procedure.{Outcome, procedure}
use Rattle.paper.specs.Yard.{Yard, Placement}
use Rattle.acting.specs.Acting.{Tabled, nothing}
use Rattle.carry.specs.FromBelow.{Loopless, BaysBelow}
use Rattle.carry.specs.FromBelow.{Goals}
use Rattle.carry.specs.FromBelow.{Owners, StagesAs}
use Rattle.carry.specs.FromBelow.{Staged}
use Rattle.carry.specs.Carrying.{Settles}

-- every bay is reached from every other, in a yard that the table shows
pub record Reaching (n : ℕ) (table : List ℕ) : Type 0 where
  pub tabled : Tabled n table
  pub reached : (a b : ℕ) → a < n → b < n → In a (nearest_first tabled.yard [] b)

-- (the code's function has the same name)
abbrev pub procedures : Yard → Placement → Placement → Outcome
procedures Y goals p = procedure Y goals p

-- ## What is asked, what is said

-- goals and their owners, in a yard where every bay is reached; nobody is finished
pub record CarryAllAsks (goals owner table p standing settled : List ℕ) : Type 0 where
  pub each : Goals (length standing) goals p
  pub owners : Owners (length standing) goals owner
  pub loopless : Loopless (length standing) table
  pub reaching : Reaching (length standing) table
  pub below : BaysBelow 0 p settled

-- the paper's procedure, counted from nothing
pub record CarryAllSays (goals table p standing out p' standing' empty' settled' out' : List ℕ) (z : Staged) : Type 0 where
  pub stages : StagesAs (λ Y. procedure Y goals) table p standing out nothing p' standing' empty' out' z
  pub settles : Settles (length goals) p' settled' z
