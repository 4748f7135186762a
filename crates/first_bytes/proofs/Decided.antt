-- The first bytes of the two files decide all that the program prints: the plan as it is, shortened, or with its times by either edition.
use Rattle.std.specs.Prelude.{if◌then◌else◌}
use mathlib.Core.Path.{◌≡◌, ap}
use mathlib.Core.Bool.{Bool}
use mathlib.Core.Option.{Option}
use Prim.Native.Nat.{ℕ}
use Rattle.paper.specs.Docket.{edition}
use Rattle.paper.specs.Answers.{refused}
use Rattle.paper.specs.Text.{Text}
use Rattle.paper.specs.Print.{printed}
use Rattle.file_room.specs.Room.{map_bytes, scenario_bytes}
use Rattle.file_room.proofs.Prefix.{shortened, answer-decided}
use Rattle.print_room.specs.Short.{short_answer, short_or, short_program}
use Rattle.editions.specs.Editions.{is_known}
use Rattle.timed_handing.specs.Timed.{printed_timed, program_timed}

module _ (map_file scenario_file : Option Text) where
  abbrev first_map : Option Text
  first_map = shortened map_bytes map_file

  abbrev first_scenario : Option Text
  first_scenario = shortened scenario_bytes scenario_file

  -- the print with the plan shortened
  pub short-decided : short_program first_map first_scenario ≡ short_program map_file scenario_file
  unfolding short_program
  short-decided = ap (λ a. printed (short_answer a)) (answer-decided map_file scenario_file)

  -- the timed print, by either edition, shortened or not
  pub timed-decided : (e : ℕ) (short : Bool) → program_timed e short first_map first_scenario ≡ program_timed e short map_file scenario_file
  unfolding program_timed
  timed-decided e short =
      ap (λ a. if is_known e then printed_timed e (short_or short a) else printed (refused edition)) (answer-decided map_file scenario_file)
