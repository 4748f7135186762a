use Rattle.std.proofs.Common.{arith}
use Rattle.std.proofs.lemmas.Grind.{common_steps}
use Rattle.paper.specs.Bytes.{keep_at}
use Rattle.fields.proofs.kept.Goals as goal

pub returns-then-i-j : goal.returns-then-i-j
unfolding keep_at
returns-then-i-j c = grind (arith, common_steps)

pub returns-else-i-j : goal.returns-else-i-j
unfolding keep_at
returns-else-i-j c = grind (arith, common_steps)
