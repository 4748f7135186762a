-- `program::program_short` meets its contract: it is one of the two prints.
use Rattle.std.proofs.Common.{rules}
use Rattle.print_room.specs.Short.{short_program}
use Rattle.program.proofs.program_short.Goals as goal

pub returns : goal.returns
unfolding short_program
returns c = c.print_for.ensures
