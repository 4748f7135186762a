use Rattle.std.proofs.Common.{arith}
use Rattle.std.proofs.lemmas.Grind.{common_steps}
use Rattle.paper.specs.Basics.{◌and◌}
use Rattle.paper.specs.Bytes.{match_byte}
use Rattle.fields.proofs.text_seen.Goals as goal

pub returns-then-t : goal.returns-then-t
unfolding match_byte ◌and◌
returns-then-t c = grind (arith, common_steps)

pub returns-else-t : goal.returns-else-t
unfolding match_byte ◌and◌
returns-else-t c = grind (arith, common_steps)

pub returns-then-t-2 : goal.returns-then-t-2
unfolding match_byte ◌and◌
returns-then-t-2 c = grind (arith, common_steps)

pub returns-else-t-2 : goal.returns-else-t-2
unfolding match_byte ◌and◌
returns-else-t-2 c = grind (arith, common_steps)
