-- `link_calls::end` meets its contract.
use Rattle.std.proofs.Common.{rules}
use Rattle.link.proofs.Calling.{end-open, end-ended}
use Rattle.link_calls.proofs.end.Goals as goal

pub returns-then-link-eq1 : goal.returns-then-link-eq1
returns-then-link-eq1 c = end-open c.args.link c.if-link-eq1.true _ c.over.ensures

pub returns : goal.returns
returns c = end-ended c.args.link c.if-link-eq1.false
