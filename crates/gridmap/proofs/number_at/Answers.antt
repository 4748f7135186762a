use Rattle.std.proofs.Common.{arith}
use Rattle.std.proofs.lemmas.Grind.{common_steps}
use Rattle.gridmap.specs.Cells.{number_in}
use Rattle.gridmap.proofs.number_at.Goals as goal

pub returns-then-i-cells : goal.returns-then-i-cells
unfolding number_in
returns-then-i-cells c = grind (arith, common_steps)

pub returns-else-i-size : goal.returns-else-i-size
unfolding number_in
returns-else-i-size c = grind (arith, common_steps)
