-- `docket::unpack` meets its contract. Quotient and remainder by 2^32 and 2^16 are the paper's own.
use Rattle.std.proofs.Common.{rules}
use Rattle.paper.specs.Yard.{unpack}
use Rattle.docket.proofs.unpack.Goals as goal

pub returns : goal.returns
unfolding unpack
returns c = search rules
