-- The two ways to say what the flag does are one: the print of the plan, shortened or not, and the plan, shortened or not, printed.
use mathlib.Core.Path.{◌≡◌, refl}
use mathlib.Core.Bool.{Bool, true, false}
use mathlib.Core.Option.{Option}
use Rattle.paper.specs.Text.{Text}
use Rattle.paper.specs.Print.{printed}
use Rattle.paper.specs.Program.{program, program_answer}
use Rattle.print_room.specs.Short.{short_or, short_program}
use Rattle.print_room.specs.Whole.{print_for}

pub print-asked : (short : Bool) (map_file scenario_file : Option Text) → print_for short map_file scenario_file ≡ printed (short_or short (program_answer map_file scenario_file))
unfolding program short_program
print-asked true map_file scenario_file = refl
print-asked false map_file scenario_file = refl
