-- The program with `--shorten`: the plan that the two files ask for, without its there-and-back trips.
-- Assumes nothing.
use Rattle.std.specs.Prelude.{Bool, true, false}
use Rattle.std.proofs.Math.Option.{Option}
use Rattle.paper.specs.Answers.{Answer, accepted, refused}
use Rattle.paper.specs.Text.{Text}
use Rattle.paper.specs.Print.{printed}
use Rattle.paper.specs.Program.{program_answer}
use Rattle.trips.specs.Trips.{shorten}

-- an accepted plan is shortened; nothing of it is done yet, and it is no longer, so nothing is refused by it
abbrev pub short_answer : Answer → Answer
short_answer (accepted xs) = accepted (shorten xs)
short_answer (refused r) = refused r

-- shortened where that is asked for
abbrev pub short_or : Bool → Answer → Answer
short_or true a = short_answer a
short_or false a = a

-- all that the program prints
unfoldable pub short_program : Option Text → Option Text → Text
short_program map_file scenario_file = printed (short_answer (program_answer map_file scenario_file))
