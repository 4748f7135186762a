use Rattle.std.proofs.Common.{arith}
use Rattle.std.proofs.lemmas.Grind.{common_steps}
use Rattle.paper.specs.Basics.{◌and◌}
use Rattle.paper.specs.Bytes.{sized_field}
use Rattle.fields.proofs.sized_field.Goals as goal

pub returns-then-m-ge1 : goal.returns-then-m-ge1
unfolding sized_field ◌and◌
returns-then-m-ge1 c = grind (arith, common_steps)

pub returns-else-m-ge1 : goal.returns-else-m-ge1
unfolding sized_field ◌and◌
returns-else-m-ge1 c = grind (arith, common_steps)
