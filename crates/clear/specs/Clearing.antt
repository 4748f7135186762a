-- What clearing asks and says, once through the neighbours of the junction.
-- Assumes nothing.
use Rattle.std.specs.Prelude.{List, ℕ, ◌<◌, length}
use Rattle.paper.specs.Procedure.{clear_once}
use Rattle.paper.specs.Yard.{Bay}
use Rattle.moving.specs.Bounds.{clear_once_most}
use Rattle.acting.specs.Acting.{Tabled, nothing}
use Rattle.keeping.specs.Keeping.{TwoBy, Clears}
use Rattle.keeping.specs.declared.Two.{Two}

-- both bays are in the yard
pub record ClearAsks (v b : Bay) (standing : List ℕ) : Type 0 where
  pub junction : v < length standing
  pub behind : b < length standing

-- the paper's clearing at v, once through its neighbours other than b
pub record ClearSays (v b : Bay) (table p standing out p' standing' empty' out' : List ℕ) (r : Two) : Type 0 where
  pub few : TwoBy clear_once_most r
  pub clears : (t : Tabled (length standing) table)
      → Clears (clear_once t.yard v b p) (length standing) p out nothing p' standing' empty' out' r
