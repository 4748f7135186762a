use Rattle.std.proofs.Common.{arith}
use Rattle.std.proofs.lemmas.Grind.{common_steps}
use Rattle.paper.specs.Basics.{◌and◌}
use Rattle.sides.specs.Layout.{line_taken}
use Rattle.sides.proofs.row.Goals as goal

pub returns-then-is_row : goal.returns-then-is_row
unfolding line_taken ◌and◌
returns-then-is_row c = grind (arith, common_steps)

pub returns-then-rows-h : goal.returns-then-rows-h
unfolding line_taken ◌and◌
returns-then-rows-h c = grind (arith, common_steps)

pub returns : goal.returns
unfolding line_taken ◌and◌
returns c = grind (arith, common_steps)
