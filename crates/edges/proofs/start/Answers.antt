-- `edges::start` meets its contract.
use Rattle.std.proofs.Common.{refl, [], arith}
use Rattle.stores.proofs.Stores.{wrote_none}
use Rattle.edges.proofs.start.Goals as goal

pub returns : goal.returns
returns c = λ room. record { ends = []; count = refl; wrote = wrote_none room 0; state = refl; line = omega arith }
