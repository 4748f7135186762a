-- `handing::plan` meets its contract: what the first print counted is what the second one writes.
use Rattle.std.proofs.Common.{arith, ◌∙◌, rules}
use Rattle.handing.proofs.Fitting.{wrote-hands, short-hands}
use Rattle.handing.proofs.plan.Goals as goal

pub returns-then-n-out : goal.returns-then-n-out
returns-then-n-out c = wrote-hands c.plan.ensures (omega (arith, c.plan.ensures.counted, c.plan-n.ensures.counted, c.if-n-out.true))

pub returns : goal.returns
returns c = short-hands (c.plan-n.ensures.counted ∙ omega arith) c.if-n-out.false
