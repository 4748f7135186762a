use Rattle.std.proofs.Common.{arith}
use Rattle.std.proofs.lemmas.Grind.{common_steps}
use Rattle.gridmap.specs.Cells.{rail_of}
use Rattle.gridmap.proofs.put_rail.Goals as goal

pub returns-then-a-eq0 : goal.returns-then-a-eq0
unfolding rail_of
returns-then-a-eq0 c = grind (arith, common_steps)

pub returns : goal.returns
unfolding rail_of
returns c = grind (arith, common_steps)
