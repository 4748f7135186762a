-- What going a path asks of the table, how the paper's outcome reads as what is made or none, and what is said.
-- Assumes nothing.
use Rattle.std.specs.Prelude.{◌≡◌, true, List, [], ◌∷◌, ℕ, ◌*◌, ◌≤◌, ◌<◌, length, get_or}
use Rattle.std.proofs.Math.Option.{Option, none, some}
use Rattle.paper.specs.Procedure.{Made, Outcome, planned, stuck, go}
use Rattle.paper.specs.Yard.{Bay, Carrier}
use Rattle.words.specs.Sets.{mem_row, span}
use Rattle.moving.specs.Bounds.{swap_most}
use Rattle.acting.specs.Acting.{Tabled, nothing, Within, Tries}
use Rattle.acting.specs.Tried.{Tried}
use Rattle.step.specs.Asking.{Loopless, BaysBelow}

-- from u a rail leads to the first of the bays, and from each to the next; all of them are among the n
abbrev pub Linked : ℕ → List ℕ → Bay → List Bay → Type 0
Linked n table u [] = Unit {0}
Linked n table u (x ∷ xs) = (x < n) × (mem_row table u x ≡ true) × Linked n table x xs

-- what is made by an outcome, if it is planned
abbrev pub plan_of : Outcome → Option Made
plan_of (planned m) = some m
plan_of (stuck c) = none

-- ## What is asked, what is said

-- the bays ahead are linked from the carrier's own on, and the set has the finished carriers' bays
pub record GoAsks (r : Carrier) (ahead : List Bay) (table p standing settled : List ℕ) : Type 0 where
  pub carrier_there : r < length p
  pub linked : Linked (length standing) table (get_or p r 0) ahead
  pub short : length ahead ≤ span
  pub loopless : Loopless (length standing) table
  pub below : BaysBelow r p settled

-- the paper's go, whatever the goals, and the set has the finished carriers' bays after it
pub record GoSays (r : Carrier) (ahead : List Bay) (table p standing out p' standing' empty' settled' out' : List ℕ) (z : Tried) : Type 0 where
  pub few : Within nothing (swap_most * length ahead) z
  pub tries : (t : Tabled (length standing) table) (goals : List ℕ)
      → Tries (plan_of (go t.yard goals r ahead p)) (length standing) p out nothing p' standing' empty' out' z
  pub below : BaysBelow r p' settled'
