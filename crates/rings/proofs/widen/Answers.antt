-- `rings::widen` meets its contract. What is beside the ring and was not seen is the next ring.
use Rattle.std.proofs.Common.{rules}
use Rattle.rings.proofs.Searching.{ring-settled}
use Rattle.rings.proofs.widen.Goals as goal

pub returns : goal.returns
returns c =
    let beside = c.beside in
    ring-settled beside.ensures c.settle.ensures
