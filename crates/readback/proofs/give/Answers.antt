-- `readback::give` meets its contract: what fits is read into the list.
use Rattle.std.proofs.Common.{rules}
use Rattle.readback.proofs.Giving.{gives, gives-short}
use Rattle.readback.proofs.give.Goals as goal

pub returns-then-count-out : goal.returns-then-count-out
returns-then-count-out c = gives _ _ _ _ c.if-count-out.true c.fold.ensures

pub returns : goal.returns
returns c = gives-short _ _ _ _ c.if-count-out.false
