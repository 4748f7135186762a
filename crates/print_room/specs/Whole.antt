-- The program whole: all that it prints for two files, the plan shortened or not.
-- Assumes nothing.
use Rattle.std.specs.Prelude.{Bool, true, false}
use Rattle.std.proofs.Math.Option.{Option}
use Rattle.paper.specs.Text.{Text}
use Rattle.paper.specs.Program.{program}
use Rattle.print_room.specs.Short.{short_program}

-- with the flag the plan is printed without its there-and-back trips
abbrev pub print_for : Bool → Option Text → Option Text → Text
print_for false map_file scenario_file = program map_file scenario_file
print_for true map_file scenario_file = short_program map_file scenario_file
