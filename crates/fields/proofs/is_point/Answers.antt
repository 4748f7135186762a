use Rattle.std.proofs.Common.{arith}
use Rattle.std.proofs.lemmas.Grind.{common_steps}
use Rattle.paper.specs.Text.{is_point}
use Rattle.fields.proofs.is_point.Goals as goal

pub returns : goal.returns
unfolding is_point
returns c = grind (arith, common_steps)
