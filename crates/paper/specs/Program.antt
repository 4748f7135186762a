-- The program: two files in, a plan or a refusal out.
-- Assumes nothing.
use Rattle.std.specs.Prelude.{List, map, ℕ}
use Rattle.std.proofs.Math.Option.{Option}
use Rattle.paper.specs.Basics.{if_some◌then◌else◌}
use Rattle.paper.specs.Yard.{Bay}
use Rattle.paper.specs.Order.{order}
use Rattle.paper.specs.Docket.{no_14, no_15}
use Rattle.paper.specs.Answers.{Answer, refused, plan}
use Rattle.paper.specs.Text.{Text, Read, good, bad_line}
use Rattle.paper.specs.Map.{Grid, read_map, bay_count, bay_in, rail_ends}
use Rattle.paper.specs.Scenario.{read_scenario}
use Rattle.paper.specs.Print.{printed}

-- "The program lends room for 8,192 crossings."
abbrev pub program_room : ℕ
program_room = 8192

-- a file's bytes; "A file that can't be read is 14 or 15 with line 0."
unfoldable pub read_file : {A : Type 0} → (Text → Read A) → Option Text → Read A
read_file read file = if_some file then read else bad_line 0

-- once the map is read and the scenario too: plan
unfoldable pub plan_read : Grid → Read (List (Bay × Bay)) → Answer
plan_read G (bad_line l) = refused (no_15 l)
plan_read G (good cs) = plan (order (bay_count G) (rail_ends G) (map (λ c. c.0) cs) (map (λ c. c.1) cs)) program_room

unfoldable pub scenario_read : Read Grid → Option Text → Answer
scenario_read (bad_line l) file = refused (no_14 l)
scenario_read (good G) file = plan_read G (read_file (read_scenario G.width G.height (bay_in G)) file)

-- "The file program tests 14, 15, then plans."
unfoldable pub program_answer : Option Text → Option Text → Answer
program_answer map_file scenario_file = scenario_read (read_file read_map map_file) scenario_file

-- all that the program prints
unfoldable pub program : Option Text → Option Text → Text
program map_file scenario_file = printed (program_answer map_file scenario_file)
