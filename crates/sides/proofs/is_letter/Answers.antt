use Rattle.std.proofs.Common.{arith}
use Rattle.std.proofs.lemmas.Grind.{common_steps}
use Rattle.paper.specs.Basics.{◌or◌}
use Rattle.paper.specs.Map.{wall_letter}
use Rattle.sides.proofs.is_letter.Goals as goal

pub returns-then-b-eq84 : goal.returns-then-b-eq84
unfolding wall_letter ◌or◌
returns-then-b-eq84 c = grind (arith, common_steps)

pub returns-else-b-eq84 : goal.returns-else-b-eq84
unfolding wall_letter ◌or◌
returns-else-b-eq84 c = grind (arith, common_steps)
