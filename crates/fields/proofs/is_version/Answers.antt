use Rattle.std.proofs.Common.{arith}
use Rattle.std.proofs.lemmas.Grind.{common_steps}
use Rattle.paper.specs.Basics.{◌and◌, ◌or◌}
use Rattle.paper.specs.Bytes.{matched}
use Rattle.fields.proofs.is_version.Goals as goal

pub returns-then-t-eq9 : goal.returns-then-t-eq9
unfolding matched ◌and◌ ◌or◌
returns-then-t-eq9 c = grind (arith, common_steps)

pub returns-else-t-eq9 : goal.returns-else-t-eq9
unfolding matched ◌and◌ ◌or◌
returns-else-t-eq9 c = grind (arith, common_steps)

pub returns-else-t : goal.returns-else-t
unfolding matched ◌and◌ ◌or◌
returns-else-t c = grind (arith, common_steps)
