-- What a carrier's turn asks and says: whose goal each bay is; the paper's turn of a carrier.
-- Assumes nothing.
use Rattle.std.specs.Prelude.{◌≡◌, List, ℕ, ◌+◌, length, Ok}
use Rattle.paper.specs.Procedure.{carry}
use Rattle.moving.specs.Bounds.{carrier_most}
use Rattle.acting.specs.Acting.{Tabled, nothing}
use Rattle.acting.specs.declared.Tally.{Tally}
use Rattle.home.specs.FromBelow.{BaysBelow}
use Rattle.along.specs.Along.{GoalAsks}
use Rattle.along.specs.declared.ToGoal.{ToGoal}
use Rattle.home.specs.Homing.{Owners, AtMost, Stages}
use Rattle.home.specs.Staged.{Staged}

-- where it is planned the set has the bays of the carriers below `finished`
pub record Settles (finished : ℕ) (p settled : List ℕ) (z : Staged) : Type 0 where
  pub below : (m : Tally) → z ≡ Ok m → BaysBelow finished p settled

-- ## What is asked, what is said

-- there are goals of which the carrier's own is the one told, and these are their owners
pub record OwnedAsks (to : ToGoal) (owner p standing : List ℕ) : Type 0 where
  pub bound : GoalAsks to p standing
  pub owners : Owners (length standing) bound.goals owner

-- the paper's turn of the carrier, for all such goals whose owners these are; where it is planned, the carrier is finished
pub record CarrySays (to : ToGoal) (owner table p standing out p' standing' empty' settled' out' : List ℕ) (z : Staged) : Type 0 where
  pub at_most : AtMost carrier_most z
  pub stages : (t : Tabled (length standing) table) (b : GoalAsks to p standing) → Owners (length standing) b.goals owner
      → Stages (carry t.yard b.goals to.carrier.0 p) (length standing) p out nothing p' standing' empty' out' z
  pub settles : Settles (to.carrier.0 + 1) p' settled' z
