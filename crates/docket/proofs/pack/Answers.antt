-- `docket::pack` meets its contract. The three products and sums fit in 64 bits, since a carrier is below 2^32 and a bay below 2^16; the rest is the paper's definition.
use Rattle.std.proofs.Common.{rules}
use Rattle.paper.specs.Yard.{pack}
use Rattle.docket.proofs.pack.Goals as goal

pub returns : goal.returns
unfolding pack
returns c = search rules
