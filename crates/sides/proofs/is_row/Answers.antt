-- W letters, and nothing else.
use Rattle.std.proofs.Common.{arith}
use Rattle.std.proofs.lemmas.Grind.{common_steps}
use Rattle.paper.specs.Basics.{◌and◌}
use Rattle.paper.specs.Map.{is_row}
use Rattle.sides.proofs.is_row.Goals as goal

pub returns-then-text-width : goal.returns-then-text-width
unfolding is_row ◌and◌
returns-then-text-width c = grind (arith, common_steps)

pub returns-else-text-width : goal.returns-else-text-width
unfolding is_row ◌and◌
returns-else-text-width c = grind (arith, common_steps)
