use Rattle.std.proofs.Common.{arith}
use Rattle.std.proofs.lemmas.Grind.{common_steps}
use Rattle.paper.specs.Text.{is_digit}
use Rattle.paper.specs.Basics.{◌and◌}
use Rattle.fields.proofs.is_digit.Goals as goal

pub returns : goal.returns
unfolding is_digit ◌and◌
returns c = grind (arith, common_steps)
