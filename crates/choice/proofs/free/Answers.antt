-- What is wanted and not held is chosen from, as far as it is in the row.
use Rattle.std.proofs.Common.{arith}
use Rattle.paper.proofs.Tests.{and_left}
use Rattle.choice.proofs.free.Goals as goal

pub common-requires : goal.common-requires
common-requires c = let p = c.requires in (p.row, omega arith, λ b h i. p.rowed b h (and_left _ _ i))
