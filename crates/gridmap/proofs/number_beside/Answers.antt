use Rattle.std.proofs.Common.{arith}
use Rattle.std.proofs.lemmas.Grind.{common_steps}
use Rattle.gridmap.specs.Cells.{beside_in}
use Rattle.gridmap.proofs.number_beside.Goals as goal

pub returns-then-i-width : goal.returns-then-i-width
unfolding beside_in
returns-then-i-width c = grind (arith, common_steps)

pub returns-else-i-width : goal.returns-else-i-width
unfolding beside_in
returns-else-i-width c = grind (arith, common_steps)
