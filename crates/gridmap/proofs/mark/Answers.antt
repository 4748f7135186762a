use Rattle.std.proofs.Common.{arith}
use Rattle.std.proofs.lemmas.Grind.{common_steps}
use Rattle.gridmap.specs.Cells.{mark_of}
use Rattle.gridmap.proofs.mark.Goals as goal

pub returns-then-is_bay : goal.returns-then-is_bay
unfolding mark_of
returns-then-is_bay c = grind (arith, common_steps)

pub returns-else-is_bay : goal.returns-else-is_bay
unfolding mark_of
returns-else-is_bay c = grind (arith, common_steps)
