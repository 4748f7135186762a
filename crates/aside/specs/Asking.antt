-- What emptying two neighbours asks and says: the paper's first way, in the yard that the table shows.
-- Assumes nothing.
use Rattle.std.specs.Prelude.{List, ℕ, ◌<◌, length}
use Rattle.paper.specs.Procedure.{aside}
use Rattle.paper.specs.Yard.{Bay}
use Rattle.moving.specs.Bounds.{clear_once_most}
use Rattle.acting.specs.Acting.{nothing, Within, TriesAs}
use Rattle.acting.specs.Tried.{Tried}
use Rattle.aside.specs.declared.Aside.{Aside}

-- the bays are in the yard
pub record AsideAsks (a : Aside) (x : Bay) (standing : List ℕ) : Type 0 where
  pub junction : a.junction.0 < length standing
  pub held : a.held.0 < length standing
  pub emptied : a.emptied.0 < length standing
  pub inside : x < length standing

-- the first way with x, on a placement that is used up
pub record AsideSays (a : Aside) (x : Bay) (table p standing out p' standing' empty' out' : List ℕ) (r : Tried) : Type 0 where
  pub few : Within nothing clear_once_most r
  pub tries : TriesAs (λ Y. aside Y a.junction.0 a.held.0 a.emptied.0 x) table p standing out nothing p' standing' empty' out' r
