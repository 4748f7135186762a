-- `edges::released` meets its contract.
use Rattle.std.proofs.Common.{rules}
use Rattle.edges.proofs.released.Goals as goal

pub returns-then-held : goal.returns-then-held
returns-then-held c = rw c.if-held.true c.on_byte.ensures

pub returns-else-held : goal.returns-else-held
returns-else-held c = rw c.if-held.false
