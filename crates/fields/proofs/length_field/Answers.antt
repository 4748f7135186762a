use Rattle.std.proofs.Common.{arith}
use Rattle.std.proofs.lemmas.Grind.{common_steps}
use Rattle.paper.specs.Bytes.{length_field}
use Rattle.paper.specs.Basics.{◌and◌}
use Rattle.fields.proofs.length_field.Goals as goal

pub returns-then-m : goal.returns-then-m
unfolding length_field ◌and◌
returns-then-m c = grind (arith, common_steps)

pub returns-else-m : goal.returns-else-m
unfolding length_field ◌and◌
returns-else-m c = grind (arith, common_steps)
