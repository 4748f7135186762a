use Rattle.std.proofs.Common.{arith}
use Rattle.std.proofs.lemmas.Grind.{common_steps}
use Rattle.paper.specs.Basics.{◌and◌, ◌or◌}
use Rattle.paper.specs.Bytes.{see}
use Rattle.fields.proofs.seen.Goals as goal

pub returns-then-m-4 : goal.returns-then-m-4
unfolding see ◌and◌ ◌or◌
returns-then-m-4 c = grind (arith, common_steps)

pub returns-else-m-4 : goal.returns-else-m-4
unfolding see ◌and◌ ◌or◌
returns-else-m-4 c = grind (arith, common_steps)
