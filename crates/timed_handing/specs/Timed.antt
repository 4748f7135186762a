-- The program with `--timed`: the plan that the two files ask for, each crossing with its time.
-- Assumes nothing.
use Rattle.std.specs.Prelude.{Bool, ℕ, if◌then◌else◌}
use Rattle.std.proofs.Math.Option.{Option}
use Rattle.paper.specs.Docket.{edition}
use Rattle.paper.specs.Answers.{Answer, accepted, refused}
use Rattle.paper.specs.Text.{Text}
use Rattle.paper.specs.Print.{printed}
use Rattle.paper.specs.Program.{program_answer}
use Rattle.print_room.specs.Short.{short_or}
use Rattle.trains.specs.Print.{print_timed}
use Rattle.editions.specs.Editions.{is_known, slots_by}

-- "Print either edition as a timed plan"; a refusal prints as in 01
unfoldable pub printed_timed : ℕ → Answer → Text
printed_timed e (accepted xs) = print_timed (slots_by e xs) xs
printed_timed e (refused r) = printed (refused r)

-- all that the program prints; 20 is tested before any file is looked at
unfoldable pub program_timed : ℕ → Bool → Option Text → Option Text → Text
program_timed e short map_file scenario_file =
    let known = printed_timed e (short_or short (program_answer map_file scenario_file)) in
    if is_known e then known else printed (refused edition)
