use Rattle.std.proofs.Common.{arith}
use Rattle.std.proofs.lemmas.Grind.{common_steps}
use Rattle.paper.specs.Basics.{◌and◌}
use Rattle.paper.specs.Bytes.{number_field}
use Rattle.fields.proofs.number_field.Goals as goal

pub returns-then-sized_field : goal.returns-then-sized_field
unfolding number_field ◌and◌
returns-then-sized_field c = grind (arith, common_steps)

pub returns-else-sized_field : goal.returns-else-sized_field
unfolding number_field ◌and◌
returns-else-sized_field c = grind (arith, common_steps)
