use Rattle.std.proofs.Common.{arith}
use Rattle.std.proofs.lemmas.Grind.{common_steps}
use Rattle.gridmap.proofs.RailEnds.{product_small}
use Rattle.gridmap.specs.Cells.{bay_found, numbered}
use Rattle.gridmap.proofs.bay_in.Goals as goal

pub returns-then-n-eq0 : goal.returns-then-n-eq0
unfolding bay_found numbered
returns-then-n-eq0 c = grind (arith, common_steps, product_small)

pub returns-then-row-height : goal.returns-then-row-height
unfolding bay_found numbered
returns-then-row-height c = grind (arith, common_steps, product_small)

pub returns : goal.returns
unfolding bay_found numbered
returns c = grind (arith, common_steps, product_small)
