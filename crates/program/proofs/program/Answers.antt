-- `program::program` meets its contract: it is one of the two prints.
use Rattle.std.proofs.Common.{rules}
use Rattle.paper.specs.Program.{program}
use Rattle.program.proofs.program.Goals as goal

pub returns : goal.returns
unfolding program
returns c = c.print_for.ensures
