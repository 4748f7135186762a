use Rattle.std.proofs.Common.{arith}
use Rattle.scenario.proofs.Ending.{feeds-next}
use Rattle.scenario.proofs.feed_on.Goals as goal

pub loop-b-preserved : goal.loop-b-preserved
loop-b-preserved c =
    let at = c.loop-b in
    feeds-next _ _ _ c.args.bytes.now at.b-index _ _ (omega arith) at.invariant c.step-r.ensures c.keep.ensures.0 c.keep.ensures.1
