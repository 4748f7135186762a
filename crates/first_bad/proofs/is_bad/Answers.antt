use Rattle.std.proofs.Common.{rules}
use Rattle.paper.specs.Basics.{◌or◌}
use Rattle.first_bad.proofs.is_bad.Goals as goal

pub returns-then-a-b : goal.returns-then-a-b
unfolding ◌or◌
returns-then-a-b c = search rules

pub returns-else-a-b : goal.returns-else-a-b
unfolding ◌or◌
returns-else-a-b c = search rules
