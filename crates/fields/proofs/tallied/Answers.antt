use Rattle.std.proofs.Common.{arith}
use Rattle.std.proofs.lemmas.Grind.{common_steps}
use Rattle.paper.specs.Text.{is_digit}
use Rattle.paper.specs.Basics.{◌and◌}
use Rattle.paper.specs.Bytes.{tally}
use Rattle.fields.proofs.tallied.Goals as goal

pub returns-then-n-lt10000 : goal.returns-then-n-lt10000
unfolding tally is_digit ◌and◌
returns-then-n-lt10000 c = grind (arith, common_steps)

pub returns-else-is_ascii_digit : goal.returns-else-is_ascii_digit
unfolding tally is_digit ◌and◌
returns-else-is_ascii_digit c = grind (arith, common_steps)
