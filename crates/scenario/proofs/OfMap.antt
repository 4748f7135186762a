-- With the cells that `gridmap::read` leaves, a scenario reads as it does with the map itself: the bays are the same, cell by cell.
use mathlib.Core.Path.{◌≡◌, ap}
use mathlib.Core.List.{List}
use Prim.Native.Nat.{ℕ, ◌≤◌}
use lib.ListN.{length}
use lib.Seq.{sets}
use Rattle.paper.specs.Text.{Text}
use Rattle.paper.specs.Map.{Grid, cells, bay_in}
use Rattle.paper.specs.Scenario.{read_scenario}
use Rattle.gridmap.specs.Cells.{numbering, bay_found}
use Rattle.gridmap.proofs.Good.{Sized}
use Rattle.gridmap.proofs.OfMap.{bay-of-map}

pub reads-of-map : (G : Grid) → Sized G → (before : List ℕ) → length (cells G) ≤ length before → (file : Text)
    → read_scenario G.width G.height (bay_found (sets before 0 (numbering 0 (cells G))) G.height G.width) file
    ≡ read_scenario G.width G.height (bay_in G) file
reads-of-map G s before room file =
    ap (λ bay. read_scenario G.width G.height bay file) (λ i x y. bay-of-map G s before room x y i)
