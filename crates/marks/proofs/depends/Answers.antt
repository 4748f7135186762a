use Rattle.std.proofs.Common.{rules}
use Rattle.paper.specs.Basics.{◌or◌}
use Rattle.paper.specs.Dependence.{depend}
use Rattle.marks.proofs.depends.Goals as goal

pub returns-then-x-y-4 : goal.returns-then-x-y-4
unfolding depend ◌or◌
returns-then-x-y-4 c = search rules

pub returns-else-x-y-4 : goal.returns-else-x-y-4
unfolding depend ◌or◌
returns-else-x-y-4 c = search rules
