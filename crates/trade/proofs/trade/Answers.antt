-- `trade::trade` meets its contract. Both entries are written from the old ones.
use Rattle.std.proofs.Common.{refl, rules}
use Rattle.paper.specs.Procedure.{traded}
use Rattle.trade.proofs.trade.Goals as goal

pub returns : goal.returns
unfolding traded
returns c = record { moved = refl; stands = refl }
