use Rattle.std.proofs.Common.{arith}
use Rattle.survey.specs.Narrow.{narrow}
use Rattle.edges.proofs.narrow.Goals as goal

pub returns : goal.returns
unfolding narrow
returns c = grind arith
