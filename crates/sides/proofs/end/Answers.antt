use Rattle.std.proofs.Common.{arith}
use Rattle.std.proofs.lemmas.Grind.{common_steps}
use Rattle.sides.specs.Layout.{due_end, end_taken}
use Rattle.paper.specs.Text.{read_lines}
use Rattle.sides.proofs.end.Goals as goal

pub returns-then-rows-h : goal.returns-then-rows-h
unfolding end_taken due_end read_lines
returns-then-rows-h c = grind (arith, common_steps)

pub returns-in-Octile : goal.returns-in-Octile
unfolding end_taken due_end read_lines
returns-in-Octile c = grind (arith, common_steps)

pub returns-in-Height : goal.returns-in-Height
unfolding end_taken due_end read_lines
returns-in-Height c = grind (arith, common_steps)

pub returns-in-Width : goal.returns-in-Width
unfolding end_taken due_end read_lines
returns-in-Width c = grind (arith, common_steps)

pub returns-in-Map : goal.returns-in-Map
unfolding end_taken due_end read_lines
returns-in-Map c = grind (arith, common_steps)

pub returns-else-rows-h : goal.returns-else-rows-h
unfolding end_taken due_end read_lines
returns-else-rows-h c = grind (arith, common_steps)
