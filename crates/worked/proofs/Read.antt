-- The two files and the print, computed: the document's own map, scenario and print; line ends, missing and extra lines; each
-- field bad in its turn; and the limits of the layouts. Assumes nothing.
use mathlib.Core.Path.{◌≡◌, refl}
use mathlib.Core.List.{List, [], ◌∷◌, ◌++◌, map}
use mathlib.Core.Option.{none, some}
use Prim.Native.Nat.{ℕ}
use Prim.Native.String.{String}
use lib.ListN.{replicate}
use Rattle.paper.specs.Basics.{concat}
use Rattle.paper.specs.Yard.{Bay}
use Rattle.paper.specs.Text.{Text, text, Read, good, bad_line}
use Rattle.paper.specs.Map.{Grid, read_map, bay_count, bay_in, rail_ends}
use Rattle.paper.specs.Scenario.{read_scenario}
use Rattle.paper.specs.Docket.{crowd, room}
use Rattle.paper.specs.Answers.{refused}
use Rattle.paper.specs.Print.{printed}
use Rattle.paper.specs.Program.{program}
use Rattle.worked.proofs.Worked.{computing}
use Rattle.paper.specs.Text
use Rattle.paper.specs.Map
use Rattle.paper.specs.Scenario
use Rattle.paper.specs.Print
use Rattle.paper.specs.Program

-- every definition of files and print, opened
unfoldable pub reading : Unit {0}
unfolding computing Text.join Text.begins_with_lf Text.lines Text.split Text.same Text.all Text.count Text.is_digit Text.is_point Text.value_from Text.sized Text.is_number Text.read_lines Map.side_after Map.bay_letter Map.wall_letter Map.is_row Map.map_line Map.map_end Map.read_map Map.cells Map.bay_at Map.number_at Map.bay_count Map.bay_in Map.rails_at Map.rail_ends Scenario.is_length Scenario.nine_fields Scenario.start_and_goal Scenario.carrier_line Scenario.scenario_line Scenario.scenario_end Scenario.read_scenario Print.spell Print.decimal Print.action_line Print.cost_line Print.refused_line Print.ended Print.plan_lines Print.print_plan Print.printed Print.number_after Print.read_action Print.read_plan Program.read_file Program.plan_read Program.scenario_read Program.program_answer Program.program
reading = tt

abbrev T-map : Grid
T-map = record { height = 2; width = 3; rows = text "..." ∷ text "@.@" ∷ [] }

abbrev maps_of : List String → List (Read Grid)
maps_of ls = map (λ l. read_map (text l)) ls

-- LF, CR LF, and no end at the last line; leading zeros are digits
pub good-maps : maps_of (
    "type octile\nheight 2\nwidth 3\nmap\n...\n@.@\n"
    ∷ "type octile\r\nheight 2\r\nwidth 3\r\nmap\r\n...\r\n@.@\r\n"
    ∷ "type octile\nheight 2\nwidth 3\nmap\n...\n@.@"
    ∷ "type octile\nheight 02\nwidth 03\nmap\n...\n@.@\n"
    ∷ [])
    ≡ good T-map ∷ good T-map ∷ good T-map ∷ good T-map ∷ []
unfolding reading
good-maps = refl

-- a CR at the end of the file; a missing row; a line too many; another letter; an empty file; 65; 0; three digits; two spaces;
-- a row too long
pub bad-maps : maps_of (
    "type octile\nheight 2\nwidth 3\nmap\n...\n@.@\r"
    ∷ "type octile\nheight 2\nwidth 3\nmap\n...\n"
    ∷ "type octile\nheight 2\nwidth 3\nmap\n...\n@.@\n\n"
    ∷ "type octile\nheight 2\nwidth 3\nmap\n...\n@.x\n"
    ∷ ""
    ∷ "type octile\nheight 65\nwidth 3\nmap\n...\n@.@\n"
    ∷ "type octile\nheight 2\nwidth 0\nmap\n\n\n"
    ∷ "type octile\nheight 2\nwidth 003\nmap\n...\n@.@\n"
    ∷ "type octile\nheight  2\nwidth 3\nmap\n...\n@.@\n"
    ∷ "type octile\nheight 2\nwidth 3\nmap\n....\n@.@\n"
    ∷ [])
    ≡ bad_line 6 ∷ bad_line 6 ∷ bad_line 7 ∷ bad_line 6 ∷ bad_line 1 ∷ bad_line 2 ∷ bad_line 3 ∷ bad_line 3 ∷ bad_line 2 ∷ bad_line 5 ∷ []
unfolding reading
bad-maps = refl

-- rails 0-1, 1-2, 1-3 of four bays
pub T-yard : ◌≡◌ {A = ℕ × List Bay} (bay_count T-map, rail_ends T-map) (4, 0 ∷ 1 ∷ 1 ∷ 2 ∷ 1 ∷ 3 ∷ [])
unfolding reading
T-yard = refl

abbrev scenarios_of : List String → List (Read (List (Bay × Bay)))
scenarios_of ls = map (λ l. read_scenario 3 2 (bay_in T-map) (text l)) ls

abbrev both : Read (List (Bay × Bay))
both = good ((1, 0) ∷ (0, 1) ∷ [])

-- LF, CR LF, and no end at the last line; both versions; a CR within a name
pub good-scenarios : scenarios_of (
    "version 1\n0\tm\t3\t2\t1\t0\t0\t0\t1.5\n0\tm\t3\t2\t0\t0\t1\t0\t1.5\n"
    ∷ "version 1\r\n0\tm\t3\t2\t1\t0\t0\t0\t1.5\r\n0\tm\t3\t2\t0\t0\t1\t0\t1.5\r\n"
    ∷ "version 1.0\n0\tm\t3\t2\t1\t0\t0\t0\t1.5\n0\tm\t3\t2\t0\t0\t1\t0\t1.5"
    ∷ "version 1.0"
    ∷ "version 1\n"
    ∷ "version 1\n00012\ta\rb\t03\t2\t1\t0\t0\t0\t123456789012345678.9\n"
    ∷ [])
    ≡ both ∷ both ∷ both ∷ good [] ∷ good [] ∷ good ((1, 0) ∷ []) ∷ []
unfolding reading
good-scenarios = refl

-- a CR at the end of the file; an empty file; an empty line; a wall; another width; another height; six digits; two points;
-- 21 bytes; a point alone; a tab too many; a tab too few; an empty name; another version
pub bad-scenarios : scenarios_of (
    "version 1\n0\tm\t3\t2\t1\t0\t0\t0\t1.5\r"
    ∷ ""
    ∷ "version 1\n\n"
    ∷ "version 1\n0\tm\t3\t2\t1\t0\t0\t1\t1.5\n"
    ∷ "version 1\n0\tm\t4\t2\t1\t0\t0\t0\t1.5\n"
    ∷ "version 1\n0\tm\t3\t3\t1\t0\t0\t0\t1.5\n"
    ∷ "version 1\n123456\tm\t3\t2\t1\t0\t0\t0\t1.5\n"
    ∷ "version 1\n0\tm\t3\t2\t1\t0\t0\t0\t1.5.2\n"
    ∷ "version 1\n0\tm\t3\t2\t1\t0\t0\t0\t1234567890123456789.0\n"
    ∷ "version 1\n0\tm\t3\t2\t1\t0\t0\t0\t.\n"
    ∷ "version 1\n0\tm\t3\t2\t1\t0\t0\t0\t1.5\t\n"
    ∷ "version 1\n0\tm\t3\t2\t1\t0\t0\t01.5\n"
    ∷ "version 1\n0\tm\t3\t2\t1\t0\t0\t0\t1.5\n0\t\t3\t2\t0\t0\t1\t0\t1.5\n"
    ∷ "version 2\n"
    ∷ [])
    ≡ bad_line 2 ∷ bad_line 1 ∷ bad_line 2 ∷ bad_line 2 ∷ bad_line 2 ∷ bad_line 2 ∷ bad_line 2 ∷ bad_line 2 ∷ bad_line 2 ∷ bad_line 2 ∷ bad_line 2 ∷ bad_line 2 ∷ bad_line 3 ∷ bad_line 1 ∷ []
unfolding reading
bad-scenarios = refl

-- "A 255th carrier line is 15", whose line is the 256th
pub crowded : read_scenario 3 2 (bay_in T-map) (text "version 1\n" ++ concat (replicate 255 (text "0\tm\t3\t2\t1\t0\t0\t0\t1.5\n"))) ≡ bad_line 256
unfolding reading
crowded = refl

-- the whole print that the document shows
pub T-printed : program (some (text "type octile\nheight 2\nwidth 3\nmap\n...\n@.@\n"))
    (some (text "version 1\n0\tm\t3\t2\t1\t0\t0\t0\t1\n0\tm\t3\t2\t0\t0\t1\t0\t1\n"))
    ≡ text "(move c0 b1 b2)\n(move c1 b0 b1)\n(move c1 b1 b3)\n(move c0 b2 b1)\n(move c0 b1 b0)\n(move c1 b3 b1)\n; cost = 6 (unit cost)\n"
unfolding reading
T-printed = refl

-- refusals with a carried number and without; files that can't be read; 14 before the scenario is looked at
pub refusals-printed : (printed (refused crowd)
    ∷ printed (refused (room 10206))
    ∷ program none none
    ∷ program (some (text "type octile\nheight 2\nwidth 3\nmap\n...\n@.@\n")) none
    ∷ program (some (text "type")) (some (text "version 2\n"))
    ∷ [])
    ≡ text "; refused 4\n" ∷ text "; refused 8 10206\n" ∷ text "; refused 14 0\n" ∷ text "; refused 15 0\n" ∷ text "; refused 14 1\n" ∷ []
unfolding reading
refusals-printed = refl
