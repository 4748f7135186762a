use Rattle.std.proofs.Common.{arith}
use Rattle.std.proofs.lemmas.Grind.{common_steps}
use Rattle.paper.specs.Bytes.{grow}
use Rattle.fields.proofs.grown.Goals as goal

pub returns-then-p-lt129 : goal.returns-then-p-lt129
unfolding grow
returns-then-p-lt129 c = grind (arith, common_steps)

pub returns-else-p-lt129 : goal.returns-else-p-lt129
unfolding grow
returns-else-p-lt129 c = grind (arith, common_steps)
