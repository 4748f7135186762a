-- The two files as an order, what each file gives first, and what an order leaves in the lent lists.
-- Assumes nothing.
use Rattle.std.specs.Prelude.{Bool, true, false, List, ◌≡◌, ℕ, length, take, Err, Ok}
use Rattle.std.proofs.Math.Option.{Option, none, some}
use Rattle.std.proofs.lemmas.List.Edits.{sets}
use Rattle.paper.specs.Yard.{Bay}
use Rattle.paper.specs.Order.{Order, order as order_of}
use Rattle.paper.specs.Docket.{Refusal, no_14, no_15}
use Rattle.paper.specs.Answers.{Answer, refused, plan}
use Rattle.paper.specs.Text.{Text, Read, good, bad_line}
use Rattle.paper.specs.Map.{Grid, read_map, bay_count, bay_in, rail_ends}
use Rattle.paper.specs.Scenario.{read_scenario}
use Rattle.paper.specs.Program.{read_file, program_room}
use Rattle.docket.specs.Reading.{refusal_of}
use Rattle.gridmap.specs.declared.Grid.{Grid as Held}
use Rattle.gridmap.specs.MapRead.{MapRead}
use Rattle.gridmap.specs.Cells.{map_of, shape_of, cells_after}
use Rattle.scenario.specs.ScenarioRead.{ScenarioRead}
use Rattle.scenario.specs.Under.{bay_by, answer_of, count_read, starts_after, goals_after, starts_of, goals_of}
use Rattle.filing.specs.declared.Order.{Order as Counts}
use Rattle.filing.specs.Ordered.{Ordered}

-- a file's bytes, if it can be read
abbrev pub file_of : Bool → Text → Option Text
file_of true bytes = some bytes
file_of false bytes = none

-- ## Each file

pub record MapFiled (file : Option Text) (before : List ℕ) (r : MapRead) (after : List ℕ) : Type 0 where
  pub answer : map_of r ≡ shape_of (read_file read_map file)
  pub numbers : after ≡ cells_after before (read_file read_map file)

abbrev pub scenario_in : Held → List ℕ → Option Text → Read (List (Bay × Bay))
scenario_in G table file = read_file (read_scenario G.width G.height (bay_by table G)) file

pub record ScenarioFiled (file : Option Text) (G : Held) (table : List ℕ) (r : ScenarioRead) (starts₀ starts goals₀ goals : List ℕ) : Type 0 where
  pub answer : answer_of r ≡ count_read (scenario_in G table file)
  pub starts_left : starts ≡ starts_after starts₀ (scenario_in G table file)
  pub goals_left : goals ≡ goals_after goals₀ (scenario_in G table file)

-- ## Both

-- the bays, the rails' ends and the carriers' starts and goals; or 14 or 15
pub data Filed : Type 0 where
  order : ℕ → List Bay → List (Bay × Bay) → Filed
  refusal : Refusal → Filed

abbrev pub carriers_filed : Grid → Read (List (Bay × Bay)) → Filed
carriers_filed G (bad_line l) = refusal (no_15 l)
carriers_filed G (good cs) = order (bay_count G) (rail_ends G) cs

abbrev pub map_filed : Read Grid → Option Text → Filed
map_filed (bad_line l) file = refusal (no_14 l)
map_filed (good G) file = carriers_filed G (read_file (read_scenario G.width G.height (bay_in G)) file)

unfoldable pub filed : Option Text → Option Text → Filed
filed map_file scenario_file = map_filed (read_file read_map map_file) scenario_file

-- the program's answer to it
abbrev pub answered : Filed → Answer
answered (order n ends cs) = plan (order_of n ends (starts_of cs) (goals_of cs)) program_room
answered (refusal r) = refused r

-- ## What is told of it, and what stands in the lent lists

-- the order that lists begin with, by how many of each there are
abbrev pub order_in : Counts → List Bay → List Bay → List Bay → Order
order_in o ends starts goals = order_of o.bays (take o.ends ends) (take o.carriers starts) (take o.carriers goals)

pub data OrderTold : Type 0 where
  counts : ℕ → ℕ → ℕ → OrderTold
  refuses : Refusal → OrderTold

abbrev pub told_of : Ordered → OrderTold
told_of (Ok o) = counts o.bays o.ends o.carriers
told_of (Err r) = refuses (refusal_of r)

abbrev pub told_by : Filed → OrderTold
told_by (order n ends cs) = counts n (length ends) (length cs)
told_by (refusal r) = refuses r

abbrev pub ends_filed : List ℕ → Filed → List ℕ
ends_filed before (order n ends cs) = sets before 0 ends
ends_filed before (refusal r) = before

abbrev pub starts_filed : List ℕ → Filed → List ℕ
starts_filed before (order n ends cs) = sets before 0 (starts_of cs)
starts_filed before (refusal r) = before

abbrev pub goals_filed : List ℕ → Filed → List ℕ
goals_filed before (order n ends cs) = sets before 0 (goals_of cs)
goals_filed before (refusal r) = before

pub record Files (map_file scenario_file : Option Text) (r : Ordered) (ends₀ ends starts₀ starts goals₀ goals : List ℕ) : Type 0 where
  pub answer : told_of r ≡ told_by (filed map_file scenario_file)
  pub ends_left : ends ≡ ends_filed ends₀ (filed map_file scenario_file)
  pub starts_left : starts ≡ starts_filed starts₀ (filed map_file scenario_file)
  pub goals_left : goals ≡ goals_filed goals₀ (filed map_file scenario_file)
