use Rattle.std.proofs.Common.{arith}
use Rattle.std.proofs.lemmas.Grind.{common_steps}
use Rattle.paper.specs.Basics.{◌and◌}
use Rattle.paper.specs.Text.{is_digit}
use Rattle.sides.specs.Letters.{digit_of}
use Rattle.sides.proofs.digit.Goals as goal

pub returns-then-b-le57 : goal.returns-then-b-le57
unfolding digit_of is_digit ◌and◌
returns-then-b-le57 c = grind (arith, common_steps)

pub returns-then-b-ge48 : goal.returns-then-b-ge48
unfolding digit_of is_digit ◌and◌
returns-then-b-ge48 c = grind (arith, common_steps)

pub returns : goal.returns
unfolding digit_of is_digit ◌and◌
returns c = grind (arith, common_steps)
