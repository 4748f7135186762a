use Rattle.std.proofs.Common.{arith}
use Rattle.std.proofs.lemmas.Grind.{common_steps}
use Rattle.sides.specs.Layout.{line_taken}
use Rattle.sides.specs.Letters.{side_of}
use Rattle.sides.proofs.take.Goals as goal

pub returns-then-is_word : goal.returns-then-is_word
unfolding line_taken side_of
returns-then-is_word c = grind (arith, common_steps)

pub returns-then-h-eq0 : goal.returns-then-h-eq0
unfolding line_taken side_of
returns-then-h-eq0 c = grind (arith, common_steps)

pub returns-then-w-eq0 : goal.returns-then-w-eq0
unfolding line_taken side_of
returns-then-w-eq0 c = grind (arith, common_steps)

pub returns-then-is_word-2 : goal.returns-then-is_word-2
unfolding line_taken side_of
returns-then-is_word-2 c = grind (arith, common_steps)

pub returns-else-is_word : goal.returns-else-is_word
unfolding line_taken side_of
returns-else-is_word c = grind (arith, common_steps)

pub returns-else-h-eq0 : goal.returns-else-h-eq0
unfolding line_taken side_of
returns-else-h-eq0 c = grind (arith, common_steps)

pub returns-else-w-eq0 : goal.returns-else-w-eq0
unfolding line_taken side_of
returns-else-w-eq0 c = grind (arith, common_steps)

pub returns-else-is_word-2 : goal.returns-else-is_word-2
unfolding line_taken side_of
returns-else-is_word-2 c = grind (arith, common_steps)
